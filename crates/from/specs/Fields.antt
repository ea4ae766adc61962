-- What a FROM record says, by its keyword and its fields.
use Rattle.std.specs.Prelude.{ℕ, zero, suc, ◌+◌, ◌-◌, ◌≤◌, ◌<◌, ◌≡◌, refl, Bool, true, false, List, [], ◌∷◌, map, get_or, take, drop, Some, None}
use Rattle.std.specs.Prelude as std
use Rattle.std.proofs.Common.{arith, Bor, sym, ap, ◌∙◌}
use Rattle.std.proofs.Math.Option.{Option, none, some}
use Rattle.std.proofs.Math.ListN.{length}
use Rattle.rules.specs.Limits.{most_bytes}
use Rattle.rules.specs.Refusals.{statement}
use Rattle.rules.specs.Lists.{Bytes, same, named, any, map_option}
use Rattle.rules.specs.Lines.{Word, bytes}
use Rattle.rules.specs.Ast.{Join}
use Rattle.rules.specs.Reader.{key, rest, line_here, apply, one_of, word, both, two_fields, optional_name, name_alias}
use Rattle.rules.specs.ReadStatement.{FromHead, joins, predicates, from_heads}
use Rattle.rules.specs.Area.{span, option_span}
use Rattle.text.specs.Words.{words_of, push, keys}
use Rattle.text.specs.Lines.{nth_field, field, kept_fields, Fields}
use Rattle.text.specs.Order.{same-swap}
use Rattle.text.specs.Beside.{beside, beside-named}
use Rattle.numbers.specs.Options.{option_of}
use Rattle.std.specs.Option.{option_map}
use Rattle.text.specs.Numbers.{is_name}
use Rattle.text.specs.Reading.{key-is, rest-other, with-one, with-two}
use Rattle.text.specs.Records.{two_fields_lem, name-alias}
use Rattle.text.specs.declared.Line.{Line}
use Rattle.text.specs.Fields.{Inside, field-length, field-named, field-unnamed}
use Rattle.read_expression.specs.Heads.{field_fits}
use Rattle.read_expression.specs.Reading.{here}
use Rattle.ast.specs.Names.{NameFits}
use Rattle.text.specs.declared.places.Place.{Place}
use Rattle.from.specs.Records.{join_number, table_fields, join_fields, Says, FromFits, RowSays, IsFromRow}
use Rattle.from.specs.Numbers.{number_of}
use Rattle.from.specs.declared.row.Kind.{Kind}
use Rattle.from.specs.declared.record.FromRecord.{FromRecord}
use Rattle.from.specs.declared.record.Said.TheVariants as S

pub row_as : {t : Bytes} {e : ℕ} {h : Option FromHead} {r : std.Option FromRecord} (g : Option FromHead) → g ≡ h → IsFromRow t e h r → IsFromRow t e g r
row_as g e s = rw e s

pub no_row : {t : Bytes} {e : ℕ} {h : Option FromHead} → h ≡ none → IsFromRow t e h None
unfolding RowSays
no_row e = record { says = rw e tt }

pub row_next : {t : Bytes} {e e' : ℕ} {h : Option FromHead} {r : std.Option FromRecord} → e ≡ e' → IsFromRow t e h r → IsFromRow t e' h r
row_next z s = rw (← z) s

-- NAMES
module _ (t : Bytes) (a n : ℕ) (i : Inside t a n) where
  field_fit : (c : Bytes) → is_name n ≡ true → NameFits c t (some (field most_bytes t a n))
  unfolding NameFits is_name
  field_fit c h = (field_fits t a n i c, rw (size) (some_byte n h))
    where
      size : length (field most_bytes t a n).bytes ≡ n
      size = unfold field in field-length t a n i

      some_byte : (n : ℕ) → is_name n ≡ true → 1 ≤ n
      some_byte zero h = grind arith
      some_byte (suc n) h = omega arith

  pub table_none : is_name n ≡ false → table_fields (field most_bytes t a n ∷ []) ≡ none
  unfolding table_fields map_option name_alias both
  table_none h = rw (field-unnamed t a n i h)

  pub table-some : (e : ℕ) (p : Place) → is_name n ≡ true → p ≡ record { address = most_bytes + a; length = n }
      → IsFromRow t e (table_fields (field most_bytes t a n ∷ [])) (Some (record { said = S.Table p None; next = e }))
  unfolding RowSays Says table_fields map_option name_alias both optional_name
  table-some e p h x = record {
    says = rw (field-named t a n i h) (record {
      is = unfold option_span span field in rw (field-length t a n i, x) (refl, refl);
      fits = λ c. unfold FromFits NameFits in (field_fits t a n i c, tt);
      next = refl;
    });
  }

module _ (t : Bytes) (a n b m : ℕ) (i : Inside t a n) (j : Inside t b m) where
  pub alias-first : is_name n ≡ false → table_fields (field most_bytes t a n ∷ field most_bytes t b m ∷ []) ≡ none
  unfolding table_fields map_option name_alias both
  alias-first h = rw (field-unnamed t a n i h)

  pub alias-second : is_name m ≡ false → table_fields (field most_bytes t a n ∷ field most_bytes t b m ∷ []) ≡ none
  unfolding table_fields map_option name_alias both optional_name
  alias-second g = go (is_name n) refl
    where
      go : (x : Bool) → is_name n ≡ x → table_fields (field most_bytes t a n ∷ field most_bytes t b m ∷ []) ≡ none
      go true h = rw (field-named t a n i h, field-unnamed t b m j g)
      go false h = rw (field-unnamed t a n i h)

  pub alias-some : (e : ℕ) (p o : Place) → is_name n ≡ true → is_name m ≡ true → p ≡ record { address = most_bytes + a; length = n } → o ≡ record { address = most_bytes + b; length = m }
      → IsFromRow t e (table_fields (field most_bytes t a n ∷ field most_bytes t b m ∷ [])) (Some (record { said = S.Table p (Some o); next = e }))
  unfolding RowSays Says table_fields map_option name_alias both optional_name
  alias-some e p o h g x y = record {
    says = rw (field-named t a n i h, field-named t b m j g) (record {
      is = unfold option_span span field in rw (field-length t a n i, field-length t b m j, x, y) (refl, refl);
      fits = λ c. unfold FromFits in (field_fits t a n i c, field_fit t b m j c g);
      next = refl;
    });
  }

-- JOINS
named-map : {A B : Type 0} (g : A → B) (w : Bytes) (ws : List (Bytes × A)) → named (map {B = Bytes × B} (λ x. (x.0, g x.1)) ws) w ≡ map_option g (named ws w)
unfolding named map_option
named-map g w [] = refl
named-map {A} {B} g w (x ∷ ws) = go (same x.0 w) (named-map g w ws)
  where
    go : (b : Bool) → named (map (λ x. (x.0, g x.1)) ws) w ≡ map_option g (named ws w)
        → ◌≡◌ {A = Option B} (elim b [ true ↦ some (g x.1) | false ↦ named (map (λ x. (x.0, g x.1)) ws) w ])
        (map_option g (elim b [ true ↦ some x.1 | false ↦ named ws w ]))
    go true h = refl
    go false h = h

-- a table of the rules with the same words, and values with the same numbers
beside-numbers : {T A : Type 0} (f : T → ℕ) (g : A → ℕ) (w : Bytes) (es : List (Bor (List ℕ) × T)) (ws : List (Bytes × A))
    → map {B = Bytes × ℕ} (λ x. (x.0.now, f x.1)) es ≡ map (λ x. (x.0, g x.1)) ws
    → option_of (option_map f (beside es w)) ≡ map_option g (named ws w)
beside-numbers f g w es ws e = beside-named f w es ∙ ap (λ x. named x w) e ∙ named-map g w ws

-- a join of a kind's number
record JoinOf (k : Kind) (o : Option Join) : Type 0 where
  join : Join
  is : o ≡ some join
  number : number_of k ≡ join_number join

join-of : (k : Kind) (o : Option Join) → some (number_of k) ≡ map_option join_number o → JoinOf k o
unfolding map_option
join-of k none e = absurd (cc e)
join-of k (some j) e = record { join = j; is = refl; number = cc e }

no-join : (o : Option Join) → none ≡ map_option join_number o → o ≡ none
unfolding map_option
no-join none e = refl
no-join (some j) e = absurd (cc e)

neither : {A B : Type 0} (a : Option A) → both {A = A} {B = B} a none ≡ none
unfolding both
neither none = refl
neither (some a) = refl

module _ (w v : Word) (es : List (Bor (List ℕ) × Kind))
    (e : map {B = Bytes × ℕ} (λ x. (x.0.now, number_of x.1)) es ≡ map (λ x. (x.0, join_number x.1)) joins) {r : std.Option Kind}
    (h : r ≡ beside es w.bytes) where
  joins-is : option_of (option_map number_of r) ≡ map_option join_number (word joins w)
  unfolding word
  joins-is = rw h (beside-numbers number_of join_number w.bytes es joins e)

  pub join-none : r ≡ None → join_fields (w ∷ v ∷ []) ≡ none
  unfolding join_fields map_option two_fields both
  join-none z = rw (no-join _ (rw z at joins-is))

  module _ (fs : List (Bor (List ℕ) × Bool)) (f : map (λ x. (x.0.now, x.1)) fs ≡ predicates) {o : std.Option Bool}
      (g : o ≡ beside fs v.bytes) where
    predicates-is : word predicates v ≡ option_of o
    unfolding word
    predicates-is = sym (rw g (whole (beside fs v.bytes) ∙ beside-named (λ x. x) v.bytes fs
        ∙ ap (λ x. named x v.bytes) f))
      where
        whole : (o : std.Option Bool) → option_of o ≡ option_of (option_map (λ x. x) o)
        whole (Some x) = refl
        whole None = refl

    pub predicate-none : o ≡ None → join_fields (w ∷ v ∷ []) ≡ none
    unfolding join_fields map_option two_fields
    predicate-none z = rw (predicates-is, z, neither (word joins w))

    pub join-some : (t : Bytes) (l : ℕ) (k : Kind) (on : Bool) → r ≡ Some k → o ≡ Some on
        → IsFromRow t l (join_fields (w ∷ v ∷ [])) (Some (record { said = S.Join k on; next = l }))
    unfolding RowSays Says join_fields map_option two_fields both
    join-some t l k on z y =
        let u = join-of k _ (rw z at joins-is) in
        record {
          says = rw (u.is, predicates-is, y) (record {
            is = (u.number, refl);
            fits = λ c. unfold FromFits in tt;
            next = refl;
          });
        }

-- RECORDS BY THEIR KEYWORD
module _ {A : Type 0} (k w : Bytes) (a : A) (ws : List (Bytes × A)) where
  named-here : same k w ≡ true → named ((w, a) ∷ ws) k ≡ some a
  unfolding named
  named-here e = rw (named, same-swap w k, e)

  named-behind : same k w ≡ false → named ((w, a) ∷ ws) k ≡ named ws k
  unfolding named
  named-behind e = rw (named, same-swap w k, e)

named-neither : {A : Type 0} (k v w : Bytes) (a b : A) → same k v ≡ false → same k w ≡ false → named ((v, a) ∷ (w, b) ∷ []) k ≡ none
unfolding named
named-neither k v w a b e h = named-behind k v a ((w, b) ∷ []) e ∙ named-behind k w b [] h

-- one of two words
first-of : (x a b : Bytes) → same x a ≡ true → any (same x) (a ∷ b ∷ []) ≡ true
unfolding any
first-of x a b e = rw (any, e)

second-of : (x a b : Bytes) → same x a ≡ false → any (same x) (a ∷ b ∷ []) ≡ same x b
unfolding any
second-of x a b e = go (same x b) refl
  where
    go : (y : Bool) → same x b ≡ y → any (same x) (a ∷ b ∷ []) ≡ same x b
    go true h = rw (any, e, h)
    go false h = rw (any, e, h)

-- r is the line at p
module _ (t : Bytes) (p l c n : ℕ) (r : Line) (f : Fields t p r) where
  without : (i : ℕ) → suc i < kept_fields → (r.count ≡ suc i → ⊥) → length (rest (here t p l c n)) ≡ i → ⊥
  without = rest-other statement t p l c n r f

  pub fields-one : r.count ≡ 2 → table_fields (rest (here t p l c n)) ≡ table_fields (field most_bytes t (nth_field r.fields 1).start (nth_field r.fields 1).length ∷ [])
  fields-one m = ap table_fields (with-one t p l c n r f m)

  pub fields-two : r.count ≡ 3
      → table_fields (rest (here t p l c n)) ≡ table_fields (field most_bytes t (nth_field r.fields 1).start (nth_field r.fields 1).length ∷ field most_bytes t (nth_field r.fields 2).start (nth_field r.fields 2).length ∷ [])
  fields-two m = ap table_fields (with-two t p l c n r f m)

  pub fields-other : (r.count ≡ 2 → ⊥) → (r.count ≡ 3 → ⊥) → table_fields (rest (here t p l c n)) ≡ none
  unfolding table_fields map_option
  fields-other m o = rw (name-alias _ (without 1 (omega arith) m) (without 2 (omega arith) o))

  abbrev first_word : Bytes
  first_word = take (nth_field r.fields 0).length (drop (nth_field r.fields 0).start t)

  from_is : one_of from_heads (line_here (here t p l c n)) ≡ apply (named from_heads first_word) (rest (here t p l c n))
  unfolding one_of key rest
  from_is = ap (λ x. apply (named from_heads x) (rest (here t p l c n))) (key-is statement t p l c n r f)

  pub at_from : same first_word (bytes "from") ≡ true → one_of from_heads (line_here (here t p l c n)) ≡ table_fields (rest (here t p l c n))
  unfolding from_heads apply table_fields
  at_from z = from_is ∙ ap (λ o. apply o (rest (here t p l c n))) (named-here first_word _ _ _ z)

  module _ (z : same first_word (bytes "from") ≡ false) where
    at_join : same first_word (bytes "join") ≡ true → one_of from_heads (line_here (here t p l c n)) ≡ join_fields (rest (here t p l c n))
    unfolding from_heads apply join_fields
    at_join o = from_is ∙ ap (λ x. apply x (rest (here t p l c n))) (named-behind first_word _ _ _ z ∙ named-here first_word _ _ _ o)

    pub join-two : same first_word (bytes "join") ≡ true → r.count ≡ 3
        → one_of from_heads (line_here (here t p l c n)) ≡ join_fields (field most_bytes t (nth_field r.fields 1).start (nth_field r.fields 1).length ∷ field most_bytes t (nth_field r.fields 2).start (nth_field r.fields 2).length ∷ [])
    join-two o m = at_join o ∙ ap join_fields (with-two t p l c n r f m)

    pub join-not : same first_word (bytes "join") ≡ true → (r.count ≡ 3 → ⊥) → one_of from_heads (line_here (here t p l c n)) ≡ none
    unfolding join_fields map_option
    join-not o m = at_join o ∙ rw (two_fields_lem (word joins) (word predicates) _ (without 2 (omega arith) m))

    pub no-from : same first_word (bytes "join") ≡ false → one_of from_heads (line_here (here t p l c n)) ≡ none
    unfolding from_heads apply
    no-from o = from_is ∙ ap (λ x. apply x (rest (here t p l c n))) (named-neither first_word _ _ _ _ z o)

  -- whether the record is meant to be one of these
  pub is-first : (a b : Bytes) → same (take (nth_field r.fields 0).length (drop (nth_field r.fields 0).start t)) a ≡ true → true ≡ any (same (key (here t p l c n))) (a ∷ b ∷ [])
  is-first a b x = sym (rw (key-is statement t p l c n r f) (first-of _ a b x))

  pub is-second : (a b : Bytes) → same (take (nth_field r.fields 0).length (drop (nth_field r.fields 0).start t)) a ≡ false
      → same (take (nth_field r.fields 0).length (drop (nth_field r.fields 0).start t)) b ≡ any (same (key (here t p l c n))) (a ∷ b ∷ [])
  is-second a b x = sym (rw (key-is statement t p l c n r f) (second-of _ a b x))

-- THE WORDS of the tables
pub join-words : keys joins ≡ words_of (bytes "cross inner left right ")
unfolding joins keys words_of push bytes
join-words = refl

pub predicate-words : keys predicates ≡ words_of (bytes "on bare ")
unfolding predicates keys words_of push bytes
predicate-words = refl

pub from-words : keys from_heads ≡ words_of (bytes "from join ")
unfolding from_heads keys words_of push bytes
from-words = refl
