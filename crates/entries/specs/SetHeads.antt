-- The records of sets: names that rise, each with a value or its default.
use Prim.Native.Nat.{ℕ, zero, suc, ◌-◌, ◌≤◌}
use Rattle.std.proofs.Common.{arith, sym, ◌∙◌}
use Rattle.std.specs.Prelude.{◌≡◌, Bool, List, [], ◌∷◌, length, get_or, take, drop, None, Some}
use Rattle.std.specs.Prelude as std
use Rattle.std.proofs.Math.Path.{refl}
use Rattle.std.proofs.Math.Bool.{true, false}
use Rattle.std.proofs.Math.Option.{Option, none, some}
use Rattle.rules.specs.Limits.{most_bytes}
use Rattle.rules.specs.Lists.{Bytes, same, named, map_option}
use Rattle.rules.specs.Lines.{Word, bytes}
use Rattle.rules.specs.Reader.{word, both}
use Rattle.rules.specs.ReadStatement.{defaults, set_fields, rises, rising_set}
use Rattle.text.specs.Lines.{nth_field, field}
use Rattle.text.specs.Numbers.{is_name, name_in, name_out}
use Rattle.std.specs.Ordering.{is_lt}
use Rattle.text.specs.Order.{order_of, ordered}
use Rattle.text.specs.declared.Line.{Line}
use Rattle.text.specs.declared.places.Place as places
use Rattle.entries.specs.Entries.{set_head, fields_of}
use Rattle.entries.specs.Heads.{last_name}
use Rattle.read_expression.specs.Reading.{LineAt}
use Rattle.entries.specs.HeadFields.{HeadIs, HeadIsHere, name_head, head-is-as, head-none}
use Rattle.entries.specs.HeadRecords.{with-one, with_two, without}
use Rattle.entries.specs.declared.Head.{Head}

-- THE NAME BEFORE
module _ (t : Bytes) (w : Word) where
  pub rises-first : true ≡ rises (last_name t None) w
  unfolding last_name rises
  rises-first = refl

  pub rises-by : (p : places.Place) {i : ℕ} {x y : Bytes} {b : Bool} → i ≡ p.address - most_bytes → x ≡ take p.length (drop i t) → y ≡ w.bytes → b ≡ is_lt (order_of x y)
      → b ≡ rises (last_name t (Some p)) w
  unfolding last_name rises
  rises-by p e ex ey q = rw (q, ey, ex, e) (sym (ordered _ _).less)

-- WHAT THE FIELDS SAY
set-fields : (b : Option Bytes) (ws : List Word) → fields_of 10 b ws ≡ map_option set_head (rising_set b ws)
unfolding fields_of
set-fields b ws = refl

module _ (w : Word) where
  default-yes : same (bytes "default") w.bytes ≡ true → word defaults w ≡ some tt
  unfolding word defaults named
  default-yes h = rw (named, h)

  default-no : same (bytes "default") w.bytes ≡ false → word defaults w ≡ none
  unfolding word defaults named
  default-no h = rw (named, h)

module _ (b : Option Bytes) (w : Word) where
  set_value_lem : rises b w ≡ true → map_option set_head (rising_set b (w ∷ [])) ≡ name_head 1 w
  unfolding set_fields map_option name_head rising_set set_head
  set_value_lem h = go (is_name (length w.bytes)) refl
    where
      go : (x : Bool) → is_name (length w.bytes) ≡ x → map_option set_head (rising_set b (w ∷ [])) ≡ name_head 1 w
      go true e = rw (rising_set, name_in w e, h)
      go false e = rw (rising_set, name_out w e)

  set-default : (v : Word) → rises b w ≡ true → word defaults v ≡ some tt → map_option set_head (rising_set b (w ∷ v ∷ [])) ≡ name_head 0 w
  unfolding set_fields map_option both name_head rising_set set_head
  set-default v h d = go (is_name (length w.bytes)) refl
    where
      go : (x : Bool) → is_name (length w.bytes) ≡ x → map_option set_head (rising_set b (w ∷ v ∷ [])) ≡ name_head 0 w
      go true e = rw (rising_set, name_in w e, d, h)
      go false e = rw (rising_set, name_out w e)

  set_word : (v : Word) → word defaults v ≡ none → map_option set_head (rising_set b (w ∷ v ∷ [])) ≡ none
  unfolding set_fields map_option both rising_set
  set_word v d = go (is_name (length w.bytes)) refl
    where
      go : (x : Bool) → is_name (length w.bytes) ≡ x → map_option set_head (rising_set b (w ∷ v ∷ [])) ≡ none
      go true e = rw (rising_set, name_in w e, d)
      go false e = rw (rising_set, name_out w e)

  set-falls : rises b w ≡ false → map_option set_head (rising_set b (w ∷ [])) ≡ none
  unfolding set_fields map_option rising_set
  set-falls h = go (is_name (length w.bytes)) refl
    where
      go : (x : Bool) → is_name (length w.bytes) ≡ x → map_option set_head (rising_set b (w ∷ [])) ≡ none
      go true e = rw (rising_set, name_in w e, h)
      go false e = rw (rising_set, name_out w e)

  set-falls-two : (v : Word) → rises b w ≡ false → map_option set_head (rising_set b (w ∷ v ∷ [])) ≡ none
  unfolding set_fields map_option both rising_set
  set-falls-two v h = go (is_name (length w.bytes)) refl (word defaults v) refl
    where
      go : (x : Bool) → is_name (length w.bytes) ≡ x → (o : Option (Unit {0})) → word defaults v ≡ o → map_option set_head (rising_set b (w ∷ v ∷ [])) ≡ none
      go true e none d = rw (rising_set, name_in w e, d)
      go true e (some u) d = rw (rising_set, name_in w e, d, h)
      go false e o d = rw (rising_set, name_out w e)

set-not : (b : Option Bytes) (ws : List Word) → (length ws ≡ 1 → ⊥) → (length ws ≡ 2 → ⊥) → map_option set_head (rising_set b ws) ≡ none
unfolding set_fields rising_set map_option
set-not b [] h g = refl
set-not b (w ∷ []) h g = absurd (h refl)
set-not b (w ∷ (v ∷ [])) h g = absurd (g refl)
set-not b (w ∷ (v ∷ (u ∷ ws))) h g = refl

-- RECORDS BY THE NUMBER OF THEIR FIELDS
module _ (t : Bytes) (p : ℕ) (f : Line) (g : LineAt t p f) (r : std.Option Head) (b : Option Bytes) where
  abbrev first : Word
  first = field most_bytes t (nth_field f.fields 1).start (nth_field f.fields 1).length

  abbrev second : Word
  second = field most_bytes t (nth_field f.fields 2).start (nth_field f.fields 2).length

  pub set-count : (f.count ≡ 2 → ⊥) → (f.count ≡ 3 → ⊥) → r ≡ None → HeadIsHere t p (fields_of 10 b) r
  set-count n m s = without t p f g r (fields_of 10 b) 1 2 (omega arith) (omega arith) n m (λ ws x y. set-fields b _ ∙ set-not b ws x y) s

  pub set_below : 2 ≤ f.count → f.count ≤ 3 → rises b first ≡ false → r ≡ None → HeadIsHere t p (fields_of 10 b) r
  set_below n m h s = go f.count refl n m
    where
      go : (k : ℕ) → f.count ≡ k → 2 ≤ k → k ≤ 3 → HeadIsHere t p (fields_of 10 b) r
      go zero e n m = absurd (omega arith)
      go (suc zero) e n m = absurd (omega arith)
      go (suc (suc zero)) e n m = with-one t p f g r (fields_of 10 b) e (head-none t _ r (set-fields b _ ∙ set-falls b first h) s)
      go (suc (suc (suc zero))) e n m = with_two t p f g r (fields_of 10 b) e (head-none t _ r (set-fields b _ ∙ set-falls-two b first second h) s)
      go (suc (suc (suc (suc k)))) e n m = absurd (omega arith)

  pub set-one : f.count ≡ 2 → rises b first ≡ true → HeadIs t (name_head 1 first) r → HeadIsHere t p (fields_of 10 b) r
  set-one n h s = with-one t p f g r (fields_of 10 b) n (head-is-as t _ _ r (set-fields b _ ∙ set_value_lem b first h) s)

  module _ (n : f.count ≡ 3) where
    pub set_other : same (bytes "default") second.bytes ≡ false → r ≡ None → HeadIsHere t p (fields_of 10 b) r
    set_other h s = with_two t p f g r (fields_of 10 b) n (head-none t _ r (set-fields b _ ∙ set_word b first second (default-no second h)) s)

    pub set-two : same (bytes "default") second.bytes ≡ true → rises b first ≡ true → HeadIs t (name_head 0 first) r → HeadIsHere t p (fields_of 10 b) r
    set-two z h s = with_two t p f g r (fields_of 10 b) n (head-is-as t _ _ r (set-fields b _ ∙ set-default b first second h (default-yes second z)) s)
