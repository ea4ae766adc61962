-- A choice by a number.
use Rattle.std.specs.Prelude.{ℕ, ◌≡◌, refl, true, false, List, [], ◌∷◌, eqb}
use Rattle.std.proofs.Common.{ne_eqb}

-- what a table has under k: the first, or d
unfoldable pub choose : {A : Type 0} → List (ℕ × A) → ℕ → A → A
choose [] k d = d
choose (e ∷ es) k d = elim (eqb k e.0) [ true ↦ e.1 | false ↦ choose es k d ]

-- k is none of its numbers
unfoldable pub Misses : {A : Type 0} → List (ℕ × A) → ℕ → Type 0
Misses [] k = Unit {0}
Misses (e ∷ es) k = (k ≡ e.0 → ⊥) × Misses es k

pub choose-none : {A : Type 0} (es : List (ℕ × A)) (k : ℕ) (d : A) → Misses es k → d ≡ choose es k d
unfolding choose Misses
choose-none [] k d h = refl
choose-none (e ∷ es) k d h = rw (choose, ne_eqb k e.0 h.0) (choose-none es k d h.1)
