-- What is answered for the items: all are listed, one is too many, or a star has no columns.
use Rattle.std.specs.Prelude as std
use Rattle.std.specs.Prelude.{ℕ, zero, suc, ◌≤◌, ◌≡◌, refl, Bool, ◌&&◌, List, [], ◌∷◌, map, eqb, take}
use Rattle.std.proofs.Common.{arith, ◌∙◌, length-take-le, eq-eqb, ne_eqb}
use Rattle.std.proofs.Math.Path.{sym, ap}
use Rattle.std.proofs.Math.Bool.{false, not}
use Rattle.std.proofs.Math.Option.{none, some}
use Rattle.std.proofs.Math.ListN.{length, get_or}
use Rattle.std.proofs.lemmas.List.{length-map}
use Rattle.rules.specs.Refusals.{Answer, ok, refuse, limit_passed, star_without_from}
use Rattle.rules.specs.Limits.{most_columns}
use Rattle.rules.specs.Lists.{Bytes, is_empty, is_some}
use Rattle.rules.specs.Ast.{Item, Select}
use Rattle.rules.specs.Plan.{Built, Node, Label, column_count, labels, labels_from}
use Rattle.rules.specs.Items.{plain_star, is_lone, stars_expand, expanded_items, stars_have_columns, build_items}
use Rattle.numbers.specs.Reasons.{named}
use Rattle.numbers.specs.declared.refusals.Reason.TheVariants.{StarWithoutFrom}
use Rattle.numbers.specs.declared.refusals.Refusal.{Refusal}
use Rattle.appends.specs.Answers.{bind_ok, ok_same, ok-not-refused, at_most-passed, at_most-refused}
use Rattle.appends.specs.Select.Items.{stars-none, stars-some, stars-refused, items-star}
use Rattle.scope.specs.Labels.{columns_of, columns-length}
use Rattle.sections.specs.Layout.{start_of, section_at}
use Rattle.sections.specs.Access.{item_kind, group_kind, section-count}
use Rattle.statement.specs.Layout.{to_group}
use Rattle.statement.specs.EntryAccess.{map-length}
use Rattle.numbers.specs.Options.{option_of}
use Rattle.build_projection.specs.Items.{items_at, item_of, items-length, single}
use Rattle.build_projection.specs.Terms.{Ready, chosen, counted, outcome_of, Answers, ItemsExpanded, ItemsBuilt}
use Rattle.build_projection.specs.Listing.{Listing, listing-end, Wide}
use Rattle.build_projection.specs.declared.items.Item as listed

-- COUNTED
counted-ok : (is' : List Item) → length is' ≤ most_columns → counted is' ≡ ok is'
unfolding counted
counted-ok is' h = at_most-passed most_columns (λ (i : Item). i.line) is' _ h

counted-wide : (is' : List Item) (l : ℕ) → Wide most_columns l is' → counted is' ≡ refuse limit_passed l
unfolding counted
counted-wide is' l w =
    rw w.parts (at_most-refused most_columns (λ (i : Item). i.line) w.first w.item w.rest _ w.size)
    ∙ ap (refuse limit_passed) w.line

-- EXPANDED
refused-answers : (c q : Bytes) (cells cells' parts : List ℕ) (items' : List listed.Item) (a : Answer (List Item)) (r : std.Result ℕ Refusal)
    → (e : Answer (List Item)) → a ≡ e → r ≡ outcome_of e → ((is' : List Item) → e ≡ ok is' → ⊥)
    → Answers c q cells cells' parts items' a r
refused-answers c q cells cells' parts items' a r e h g n = record {
  answer = g ∙ ap outcome_of (sym h);
  kept = λ is' z. absurd (n is' (sym h ∙ z));
  items = λ is' z. absurd (n is' (sym h ∙ z));
}

not-ok : (l : ℕ) (is' : List Item) → refuse limit_passed l ≡ ok is' → ⊥
unfolding refuse
not-ok l is' e = ok-not-refused is' _ (sym e)

not-star : (l : ℕ) (is' : List Item) → refuse star_without_from l ≡ ok is' → ⊥
unfolding refuse
not-star l is' e = ok-not-refused is' _ (sym e)

pub expand-done : {cells₀ parts ts labels : List ℕ} {b : Bool} {k n s : ℕ} {cells : List ℕ} {items items' : List listed.Item} (total : ℕ)
    → Listing cells₀ parts ts labels b k n s cells items
    → ((c q : Bytes) (x : List ℕ) → total ≡ length (section_at c q x parts item_kind)) → total ≤ k
    → items' ≡ items → ItemsExpanded cells₀ cells parts ts labels items' b (std.Ok n)
unfolding outcome_of
expand-done {cells₀} {parts} {ts} {labels = labels'} {b} {n = n} {cells = cells} {items} total h m j u = rw u (record {
  is = λ c q r.
      let all = chosen b (columns_of c q ts labels') (items_at c q cells₀ parts) in
      let e : map (item_of c q cells parts) (take n items) ≡ all = listing-end h m j c q r in
      let z : length all ≡ n = sym (ap length e) ∙ length-map (take n items) (item_of c q cells parts)
      ∙ length-take-le n items (omega (arith, h.most, h.space)) in
      let a : counted all ≡ ok all = counted-ok all (omega (arith, h.most)) in
      record {
        answer = rw (a, z);
        kept = λ is' g. h.kept;
        items = λ is' g.
            let y : all ≡ is' = ok_same (sym a ∙ g) in
            rw (← y, z) e;
      };
})

pub expand-refused : {cells₀ parts ts labels : List ℕ} {b : Bool} {cells : List ℕ} {items : List listed.Item} (l : ℕ) {x : Refusal}
    → x ≡ record { reason = named limit_passed; line = l } → ((c q : Bytes) → Ready c q cells₀ parts ts labels
    → Wide most_columns l (chosen b (columns_of c q ts labels) (items_at c q cells₀ parts)))
    → ItemsExpanded cells₀ cells parts ts labels items b (std.Err x)
expand-refused {cells₀} {parts} {ts} {labels = labels'} {b} {cells} {items} l e w = record {
  is = λ c q r. refused-answers c q cells₀ cells parts items _ _ (refuse limit_passed l)
      (counted-wide _ l (w c q r)) (unfold outcome_of refuse in rw e) (not-ok l);
}

-- BUILT
labels_length : (m : Node Built) (i n : ℕ) → length (labels_from m i n) ≡ n
unfolding labels_from
labels_length m i zero = refl
labels_length m i (suc n) = ap suc (labels_length m (suc i) n)

count-labels : (c q : Bytes) (ts ls : List ℕ) (m : Node Built) → labels m ≡ columns_of c q ts ls
    → column_count m ≡ length ls
unfolding labels
count-labels c q ts ls m e = sym (labels_length m 0 (column_count m)) ∙ ap length e ∙ columns-length c q ts ls

build-counted : (d : Select) (m : Node Built) → stars_have_columns (plain_star d.items) (column_count m) ≡ ok tt
    → build_items d m ≡ counted (expanded_items d (labels m))
unfolding build_items counted
build-counted d m e = bind_ok _ _ tt e

lone-length : (is' : List Item) (l : ℕ) → plain_star is' ≡ some l → is_lone is' ≡ eqb (length is') 1
unfolding is_lone is_some
lone-length [] l e = refl
lone-length (i ∷ []) l e = rw e
lone-length (i ∷ (j ∷ r)) l e = sym (ne_eqb (length (i ∷ (j ∷ r))) 1 (λ z. omega arith))

empty-length : {A : Type 0} (xs : List A) → is_empty xs ≡ eqb (length xs) 0
unfolding is_empty
empty-length [] = refl
empty-length (x ∷ xs) = sym (ne_eqb (length (x ∷ xs)) 0 (λ z. omega arith))

expand-none : (d : Select) (ls : List Label) → plain_star d.items ≡ none → expanded_items d ls ≡ chosen false ls d.items
unfolding expanded_items stars_expand chosen is_some
expand-none d ls e = rw (expanded_items, stars_expand, e)

expand-some : (d : Select) (ls : List Label) (l : ℕ) (b : Bool) → plain_star d.items ≡ some l
    → b ≡ not (eqb (length d.items) 1 && eqb (length d.group) 0)
    → expanded_items d ls ≡ chosen b ls d.items
unfolding expanded_items stars_expand chosen is_some
expand-some d ls l b e g = rw (expanded_items, stars_expand, e, lone-length d.items l e, empty-length d.group, g)

module _ {cells cells' parts ts ls : List ℕ} {items' : List listed.Item} {r : std.Result ℕ Refusal} where
  pub built-none : ((c q : Bytes) → option_of std.None ≡ plain_star (items_at c q cells parts))
      → ItemsExpanded cells cells' parts ts ls items' false r → ItemsBuilt cells cells' parts ts ls items' r
  built-none p x = record {
    is = λ c q y d m e g h.
        let n : plain_star d.items ≡ none = ap plain_star e ∙ sym (p c q) in
        let a : build_items d m ≡ counted (chosen false (columns_of c q ts ls) (items_at c q cells parts)) =
        build-counted d m (rw n (stars-none (column_count m))) ∙ ap counted (expand-none d (labels m) n ∙ rw (h, e)) in
        rw a (x.is c q y);
  }

  pub built-star : (l : ℕ) (b t : Bool) → ((c q : Bytes) → option_of (std.Some l) ≡ plain_star (items_at c q cells parts))
      → (length ls ≡ 0 → ⊥) → t ≡ single parts → b ≡ not t
      → ItemsExpanded cells cells' parts ts ls items' b r → ItemsBuilt cells cells' parts ts ls items' r
  unfolding single
  built-star l b t p w u v x = record {
    is = λ c q y d m e g h.
        let n : plain_star d.items ≡ some l = ap plain_star e ∙ sym (p c q) in
        let k : column_count m ≡ length ls = count-labels c q ts ls m h in
        let z : length d.items ≡ get_or parts (start_of item_kind) 0 =
        ap length e ∙ items-length c q cells parts ∙ section-count c q cells parts item_kind in
        let o : length d.group ≡ get_or parts (start_of group_kind) 0 =
        ap length g ∙ map-length to_group (section_at c q cells parts group_kind) ∙ section-count c q cells parts group_kind in
        let s = stars-some l (column_count m) (ne_eqb (column_count m) 0 (λ q. w (sym k ∙ q))) in
        let a : build_items d m ≡ counted (chosen b (columns_of c q ts ls) (items_at c q cells parts)) =
        build-counted d m (rw n s)
        ∙ ap counted (expand-some d (labels m) l b n (v ∙ ap not u ∙ rw (z, o)) ∙ rw (h, e)) in
        rw a (x.is c q y);
  }

  -- 16
  pub built-refused : (l : ℕ) → ((c q : Bytes) → option_of (std.Some l) ≡ plain_star (items_at c q cells parts)) → length ls ≡ 0
      → r ≡ std.Err (record { reason = StarWithoutFrom; line = l }) → ItemsBuilt cells cells' parts ts ls items' r
  built-refused l p w f = record {
    is = λ c q y d m e g h.
        let n : plain_star d.items ≡ some l = ap plain_star e ∙ sym (p c q) in
        let k : column_count m ≡ length ls = count-labels c q ts ls m h in
        let s = stars-refused l (column_count m) (eq-eqb (column_count m) 0 (k ∙ w)) in
        refused-answers c q cells cells' parts items' _ _ (refuse star_without_from l)
        (items-star d m l (rw n s)) (f ∙ unfold outcome_of refuse named in refl) (not-star l);
  }
