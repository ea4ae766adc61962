-- Byte strings that the rules' test finds the same are the same.
use Rattle.std.specs.Prelude.{◌≡◌, refl, Bool, true, false, [], ◌∷◌, eqb}
use Rattle.std.proofs.Math.Path.{ap₂}
use Rattle.std.proofs.lemmas.Bool.{false≢true, eqb-true}
use Rattle.rules.specs.Lists.{Bytes, same}

pub same_true : (xs ys : Bytes) → same xs ys ≡ true → xs ≡ ys
unfolding same
same_true [] [] e = refl
same_true [] (y ∷ ys) e = absurd (false≢true e)
same_true (x ∷ xs) [] e = absurd (false≢true e)
same_true (x ∷ xs) (y ∷ ys) e = go (eqb x y) refl e (same_true xs ys)
  where
    go : (b : Bool) → eqb x y ≡ b → elim b [ true ↦ same xs ys | false ↦ false ] ≡ true → (same xs ys ≡ true → xs ≡ ys) → x ∷ xs ≡ y ∷ ys
    go true h s ih = ap₂ ◌∷◌ (eqb-true x y h) (ih s)
    go false h s ih = absurd (false≢true s)
