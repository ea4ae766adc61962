-- The default's record: `nodefault`, or the record of a literal.
use Rattle.std.specs.Prelude.{ℕ, ◌≡◌, Bool, true, false, List, [], ◌∷◌, get_or, take, drop, Some, None}
use Rattle.std.proofs.Common.{arith, ◌∙◌}
use Rattle.std.proofs.Math.Path.{refl, sym, ap}
use Rattle.std.proofs.lemmas.Bool.{false≢true}
use Rattle.std.specs.Prelude as std
use Rattle.std.proofs.Math.Option.{Option, none, some}
use Rattle.rules.specs.Refusals.{Text, catalog}
use Rattle.rules.specs.Lists.{Bytes, same, named, map_option}
use Rattle.rules.specs.Lines.{Word, bytes}
use Rattle.rules.specs.Schema.{Value}
use Rattle.rules.specs.Reader.{base_address, key, rest, key_of, line_here, apply, one_of, no_field, literals}
use Rattle.rules.specs.ReadCatalog.{default_records}
use Rattle.numbers.specs.Literals.{kind_number, given_value, literal-back}
use Rattle.numbers.specs.Values.{value-back}
use Rattle.text.specs.declared.Line.{Line}
use Rattle.text.specs.Lines.{nth_field, Fields}
use Rattle.text.specs.Order.{same_true, same_self}
use Rattle.text.specs.Reading.{place, text_of, key-is, rest-none, rest-other}
use Rattle.text.specs.Records.{no-field}
use Rattle.literal.specs.Records.{IsLiteral, literal-none, literal-some}
use Rattle.numbers.specs.declared.literals.Literal.{Literal}
use Rattle.schema.specs.Records.{here, default_said}

same-no : (x y : Bytes) → same x y ≡ false → same y x ≡ false
same-no x y h = go (same y x) refl
  where
    go : (b : Bool) → same y x ≡ b → b ≡ false
    go true e = absurd (false≢true (sym h ∙ ap (same x) (same_true y x e) ∙ same_self x))
    go false e = refl

-- another keyword's record is a literal's
literal-named : (es : List (Bytes × (List Word → Option Value))) (k : Bytes) (r : List Word) → same (bytes "nodefault") k ≡ false
    → apply (named (default_records es) k) r ≡ map_option some (apply (named es k) r)
unfolding default_records named apply map_option
literal-named [] k r h = rw (named, h)
literal-named (e ∷ es) k r h = go (same e.0 k) refl (literal-named es k r h)
  where
    go : (b : Bool) → same e.0 k ≡ b → apply (named (default_records es) k) r ≡ map_option some (apply (named es k) r)
        → apply (named (default_records (e ∷ es)) k) r ≡ map_option some (apply (named (e ∷ es) k) r)
    go true g ih = rw (named, g)
    go false g ih = rw (named, g) ih

module _ (t : Bytes) (p : ℕ) (f : Line) (g : Fields t p f) {b : Bool} (e : b ≡ same (take (nth_field f.fields 0).length (drop (nth_field f.fields 0).start t)) (bytes "nodefault")) (q : Bytes) (l : ℕ) where
  module _ (h : b ≡ true) where
    none_here : one_of (default_records literals) (line_here (here t p l)) ≡ map_option (λ u. none) (no_field (rest (here t p l)))
    unfolding one_of key rest apply named default_records literals same bytes
    none_here =
        let w : key_of (line_here (here t p l)) ≡ bytes "nodefault" = key-is catalog t p l 0 0 f g ∙ same_true _ _ (sym e ∙ h) in
        rw w

    pub default_none : f.count ≡ 1 → default_said t q (Some std.None) ≡ one_of (default_records literals) (line_here (here t p l))
    unfolding default_said given_value no_field map_option
    default_none n = sym (none_here ∙ rw (rest-none catalog t p l 0 0 f g n))

    pub default-crowded : (f.count ≡ 1 → ⊥) → default_said t q None ≡ one_of (default_records literals) (line_here (here t p l))
    unfolding default_said map_option
    default-crowded n = sym (none_here ∙ rw (no-field _ (rest-other catalog t p l 0 0 f g 0 (omega arith) n)))

  module _ (h : b ≡ false) {r : std.Option Literal} (s : (k : Text) (l c n : ℕ) → base_address k ≡ 0 → IsLiteral 0 t (one_of literals (line_here (place k t p l c n))) r) where
    literal-here : one_of (default_records literals) (line_here (here t p l)) ≡ map_option some (one_of literals (line_here (here t p l)))
    unfolding one_of key
    literal-here = literal-named literals _ _ (same-no _ _ (ap (λ x. same x (bytes "nodefault")) (key-is catalog t p l 0 0 f g) ∙ sym e ∙ h))

    spoken : IsLiteral 0 t (one_of literals (line_here (here t p l))) r
    unfolding base_address
    spoken = s catalog l 0 0 refl

    pub default-wrong : r ≡ std.None → default_said t q None ≡ one_of (default_records literals) (line_here (here t p l))
    unfolding default_said map_option
    default-wrong z = sym (literal-here ∙ rw (literal-none spoken z))

    pub default-value : {v : Literal} → r ≡ std.Some v → default_said t q (Some (std.Some v)) ≡ one_of (default_records literals) (line_here (here t p l))
    unfolding default_said given_value map_option base_address text_of
    default-value {v} z =
        let x = literal-some v spoken z in
        let d = value-back t q x.0 (kind_number v.kind) v.first v.second (x.3 catalog refl t q refl) x.2 in
        ap (λ (u : Value). some (some u)) (sym (literal-back t q v) ∙ d) ∙ sym (literal-here ∙ ap (map_option some) x.1)
