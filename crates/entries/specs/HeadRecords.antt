-- The records of clauses, items, order keys, names and rows, by the number of their fields.
use Rattle.std.specs.Prelude.{ℕ, suc, ◌+◌, ◌≤◌, ◌<◌, ◌≡◌, Bool, List, [], ◌∷◌, length, take, drop, None, Some}
use Rattle.std.specs.Prelude as std
use Rattle.std.proofs.Common.{arith, ◌∙◌}
use Rattle.std.proofs.Math.Path.{refl, sym}
use Rattle.std.proofs.Math.Option.{Option, none, some}
use Rattle.rules.specs.Limits.{most_bytes}
use Rattle.numbers.specs.Options.{option_of}
use Rattle.rules.specs.Refusals.{statement}
use Rattle.rules.specs.Lists.{Bytes, map_option}
use Rattle.rules.specs.Lines.{Word}
use Rattle.rules.specs.Reader.{base_address, name, word, count_field, no_field, one_field, optional_name}
use Rattle.rules.specs.ReadStatement.{directions}
use Rattle.text.specs.Lines.{nth_field, field, kept_fields}
use Rattle.text.specs.Numbers.{count_small}
use Rattle.text.specs.Reading.{field_of, rest-none, rest-one, rest-two, rest-other}
use Rattle.text.specs.Records.{no-field, one_field_lem, optional-name}
use Rattle.text.specs.declared.Line.{Line}
use Rattle.text.specs.Fields.{Inside, inside-field}
use Rattle.entries.specs.Entries.{EntryHead, plain_head, named_head, order_head, fields_of}
use Rattle.entries.specs.Heads.{words_numbers, saying}
use Rattle.read_expression.specs.Reading.{LineAt}
use Rattle.entries.specs.HeadFields.{HeadIs, HeadIsHere, clause_fields, name_head, head-is-as, head-none, head_plain}
use Rattle.entries.specs.declared.Head.{Head}
use Rattle.entries.specs.declared.Words.TheVariants.{Descends}

-- WHAT THE FIELDS SAY
item-fields : (w : Word) → fields_of 0 none (w ∷ []) ≡ name_head 1 w
unfolding fields_of optional_name name_head
item-fields w = twice (name w)
  where
    twice : (o : Option Word) → map_option (named_head 1) (map_option some o) ≡ map_option (λ v. named_head 1 (some v)) o
    twice none = unfold map_option in refl
    twice (some v) = unfold map_option in refl

order-fields : (w : Word) → fields_of 4 none (w ∷ []) ≡ map_option order_head (word directions w)
unfolding fields_of one_field
order-fields w = refl

name-fields : (w : Word) → fields_of 8 none (w ∷ []) ≡ name_head 0 w
unfolding fields_of one_field name_head
name-fields w = refl

row-fields : (w : Word) → fields_of 9 none (w ∷ []) ≡ map_option plain_head (count_field w)
unfolding fields_of one_field
row-fields w = refl

-- RECORDS BY THE NUMBER OF THEIR FIELDS
module _ (t : Bytes) (p : ℕ) (f : Line) (g : LineAt t p f) where
  pub field_at : (i : ℕ) → i < f.count → Inside t (nth_field f.fields i).start (nth_field f.fields i).length
  field_at i h = inside-field t p f g.fields i g.short g.within h

  abbrev first : Word
  first = field most_bytes t (nth_field f.fields 1).start (nth_field f.fields 1).length

  abbrev second : Word
  second = field most_bytes t (nth_field f.fields 2).start (nth_field f.fields 2).length

  module _ (r : std.Option Head) (m : List Word → Option EntryHead) where
    pub with_none : f.count ≡ 1 → HeadIs t (m []) r → HeadIsHere t p m r
    unfolding HeadIsHere
    with_none e s l c k = rw (rest-none statement t p l c k f g.fields e) s

    pub with-one : f.count ≡ 2 → HeadIs t (m (first ∷ [])) r → HeadIsHere t p m r
    unfolding HeadIsHere field_of base_address
    with-one e s l c k = rw (rest-one statement t p l c k f g.fields e) s

    pub with_two : f.count ≡ 3 → HeadIs t (m (first ∷ second ∷ [])) r → HeadIsHere t p m r
    unfolding HeadIsHere field_of base_address
    with_two e s l c k = rw (rest-two statement t p l c k f g.fields e) s

    -- neither i fields nor j
    pub without : (i j : ℕ) → suc i < kept_fields → suc j < kept_fields → (f.count ≡ suc i → ⊥) → (f.count ≡ suc j → ⊥) → ((ws : List Word) → (length ws ≡ i → ⊥) → (length ws ≡ j → ⊥) → m ws ≡ none) → r ≡ None → HeadIsHere t p m r
    unfolding HeadIsHere
    without i j h n e d w s l c k = head-none t _ r (w _ (rest-other statement t p l c k f g.fields i h e) (rest-other statement t p l c k f g.fields j n d)) s

  module _ (r : std.Option Head) where
    -- clauses
    pub clause-yes : (e : ℕ) → f.count ≡ 1 → e ≤ 1 → r ≡ Some (saying e None None) → HeadIsHere t p (clause_fields e) r
    clause-yes e n l s = with_none r (clause_fields e) n (unfold clause_fields no_field map_option plain_head words_numbers in head_plain t (plain_head e) r None refl refl s refl (omega (arith, l)))

    pub clause-no : (e : ℕ) → (f.count ≡ 1 → ⊥) → r ≡ None → HeadIsHere t p (clause_fields e) r
    clause-no e n s = without r (clause_fields e) 0 0 (omega arith) (omega arith) n n (λ ws x y. unfold clause_fields map_option in rw (no-field ws x)) s

    -- items
    pub item-plain : f.count ≡ 1 → r ≡ Some (saying 1 None None) → HeadIsHere t p (fields_of 0 none) r
    item-plain n s = with_none r (fields_of 0 none) n (unfold fields_of optional_name map_option named_head words_numbers in head_plain t (named_head 1 none) r None refl refl s refl (omega arith))

    pub item-named : f.count ≡ 2 → HeadIs t (name_head 1 first) r → HeadIsHere t p (fields_of 0 none) r
    item-named n s = with-one r (fields_of 0 none) n (head-is-as t _ _ r (item-fields first) s)

    pub item-no : (f.count ≡ 1 → ⊥) → (f.count ≡ 2 → ⊥) → r ≡ None → HeadIsHere t p (fields_of 0 none) r
    item-no n m s = without r (fields_of 0 none) 0 1 (omega arith) (omega arith) n m (λ ws x y. unfold fields_of map_option in rw (optional-name ws x y)) s

    -- order keys
    pub order-no : (f.count ≡ 2 → ⊥) → r ≡ None → HeadIsHere t p (fields_of 4 none) r
    order-no n s = without r (fields_of 4 none) 1 1 (omega arith) (omega arith) n n (λ ws x y. unfold fields_of map_option in rw (one_field_lem (word directions) ws x)) s

    module _ (n : f.count ≡ 2) (v : std.Option Bool) (e : option_of v ≡ word directions first) where
      pub order-word : v ≡ None → r ≡ None → HeadIsHere t p (fields_of 4 none) r
      order-word q s = with-one r (fields_of 4 none) n (head-none t _ r (order-fields first ∙ rw (← e, q) (unfold map_option in refl)) s)

      pub order-yes : (d : Bool) → v ≡ Some d → r ≡ Some (saying 1 None (Some (Descends d))) → HeadIsHere t p (fields_of 4 none) r
      order-yes d q s = with-one r (fields_of 4 none) n (head-is-as t _ (some (order_head d)) r (order-fields first ∙ rw (← e, q) (unfold map_option in refl)) (unfold order_head words_numbers in head_plain t (order_head d) r (Some (Descends d)) refl refl s refl (omega arith)))

    -- names
    pub name-no : (f.count ≡ 2 → ⊥) → r ≡ None → HeadIsHere t p (fields_of 8 none) r
    name-no n s = without r (fields_of 8 none) 1 1 (omega arith) (omega arith) n n (λ ws x y. unfold fields_of map_option in rw (one_field_lem name ws x)) s

    pub name-yes : f.count ≡ 2 → HeadIs t (name_head 0 first) r → HeadIsHere t p (fields_of 8 none) r
    name-yes n s = with-one r (fields_of 8 none) n (head-is-as t _ _ r (name-fields first) s)

    -- rows
    pub row-no : (f.count ≡ 2 → ⊥) → r ≡ None → HeadIsHere t p (fields_of 9 none) r
    row-no n s = without r (fields_of 9 none) 1 1 (omega arith) (omega arith) n n (λ ws x y. unfold fields_of map_option in rw (one_field_lem count_field ws x)) s

    module _ (n : f.count ≡ 2) where
      counted : (v : Option ℕ) → ((o : ℕ) → v ≡ count_field (record { bytes = take (nth_field f.fields 1).length (drop (nth_field f.fields 1).start t); start = o })) → count_field first ≡ v
      unfolding field
      counted v e = sym (e (most_bytes + (nth_field f.fields 1).start))

      pub row-wrong : ((o : ℕ) → none ≡ count_field (record { bytes = take (nth_field f.fields 1).length (drop (nth_field f.fields 1).start t); start = o })) → r ≡ None → HeadIsHere t p (fields_of 9 none) r
      row-wrong e s = with-one r (fields_of 9 none) n (head-none t _ r (row-fields first ∙ rw (counted none e) (unfold map_option in refl)) s)

      pub row-yes : (k : ℕ) → ((o : ℕ) → some k ≡ count_field (record { bytes = take (nth_field f.fields 1).length (drop (nth_field f.fields 1).start t); start = o })) → r ≡ Some (saying k None None) → HeadIsHere t p (fields_of 9 none) r
      row-yes k e s = with-one r (fields_of 9 none) n (head-is-as t _ (some (plain_head k)) r (row-fields first ∙ rw (counted (some k) e) (unfold map_option in refl)) (unfold plain_head words_numbers in head_plain t (plain_head k) r None refl refl s refl (count_small _ k (e 0))))
