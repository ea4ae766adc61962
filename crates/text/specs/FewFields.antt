-- Lines of at most four fields, each closed by a tab but the last, which a LF closes.
use Rattle.std.specs.Prelude.{ℕ, ◌+◌, ◌-◌, ◌<◌, ◌≡◌, refl, List, [], ◌∷◌, length, get_or}
use Rattle.std.proofs.Common.{arith}
use Rattle.rules.specs.Lists.{Bytes}
use Rattle.text.specs.Bytes.{stop_at}
use Rattle.text.specs.Lines.{span, Fields, Reading, few_fields, begin, go_on, ends}
use Rattle.text.specs.declared.Field.{Field}
use Rattle.text.specs.declared.Line.{Line}

-- the field at q ends at e, which a tab closes
pub record Tab (t : Bytes) (q e : ℕ) : Type 0 where
  pub stop : e ≡ stop_at 10 9 t q
  pub within : e < length t
  pub other : get_or t e 0 ≡ 10 → ⊥

-- the same, and a LF closes it
pub record Lf (t : Bytes) (q e : ℕ) : Type 0 where
  pub stop : e ≡ stop_at 10 9 t q
  pub within : e < length t
  pub lf : get_or t e 0 ≡ 10

abbrev filled : Field → Field → Field → Field → List Field
filled a b c d = a ∷ b ∷ c ∷ d ∷ span 0 0 ∷ span 0 0 ∷ span 0 0 ∷ span 0 0 ∷ span 0 0 ∷ span 0 0 ∷ span 0 0 ∷ span 0 0 ∷ []

-- no field yet
abbrev none : Field
none = span 0 0

-- the field from a up to b
abbrev pub between : ℕ → ℕ → Field
between a b = span a (b - a)

module _ (t : Bytes) (p : ℕ) (r : Line) where
  one-read : (e : ℕ) → Tab t p e → Reading t p (filled (between p e) none none none) 1 (e + 1)
  one-read e x = go_on t p (filled none none none none) 0 p e (omega arith) refl (begin t p _) x.stop x.within x.other

  two-read : (e f : ℕ) → Tab t p e → Tab t (e + 1) f → Reading t p (filled (between p e) (between (e + 1) f) none none) 2 (f + 1)
  two-read e f x y = go_on t p (filled (between p e) none none none) 1 (e + 1) f (omega arith) refl (one-read e x) y.stop y.within y.other

  three-read : (e f g : ℕ) → Tab t p e → Tab t (e + 1) f → Tab t (f + 1) g
      → Reading t p (filled (between p e) (between (e + 1) f) (between (f + 1) g) none) 3 (g + 1)
  three-read e f g x y z =
      go_on t p (filled (between p e) (between (e + 1) f) none none) 2 (f + 1) g (omega arith) refl (two-read e f x y) z.stop z.within z.other

  pub one_field_lem : (e : ℕ) → Lf t p e → r ≡ few_fields (between p e ∷ none ∷ none ∷ none ∷ []) 1 (e + 1) → Fields t p r
  one_field_lem e x h = rw h (ends t p (filled none none none none) 0 p e (omega arith) refl (begin t p _) x.stop x.within x.lf)

  pub two_fields_lem : (e f : ℕ) → Tab t p e → Lf t (e + 1) f
      → r ≡ few_fields (between p e ∷ between (e + 1) f ∷ none ∷ none ∷ []) 2 (f + 1) → Fields t p r
  two_fields_lem e f x y h = rw h (ends t p (filled (between p e) none none none) 1 (e + 1) f (omega arith) refl (one-read e x) y.stop y.within y.lf)

  pub three-fields : (e f g : ℕ) → Tab t p e → Tab t (e + 1) f → Lf t (f + 1) g
      → r ≡ few_fields (between p e ∷ between (e + 1) f ∷ between (f + 1) g ∷ none ∷ []) 3 (g + 1) → Fields t p r
  three-fields e f g x y z h =
      rw h (ends t p (filled (between p e) (between (e + 1) f) none none) 2 (f + 1) g (omega arith) refl (two-read e f x y) z.stop z.within z.lf)

  pub four-fields : (e f g k : ℕ) → Tab t p e → Tab t (e + 1) f → Tab t (f + 1) g → Lf t (g + 1) k
      → r ≡ few_fields (between p e ∷ between (e + 1) f ∷ between (f + 1) g ∷ between (g + 1) k ∷ []) 4 (k + 1) → Fields t p r
  four-fields e f g k x y z w h =
      rw h (ends t p (filled (between p e) (between (e + 1) f) (between (f + 1) g) none) 3 (g + 1) k (omega arith) refl (three-read e f g x y z) w.stop w.within w.lf)
