-- The cells of an expression are as many as `built_count` says, and at least one.
use Rattle.std.specs.Prelude.{ℕ, ◌+◌, ◌<◌, ◌≡◌, refl, List, [], ◌∷◌, length}
use Rattle.std.proofs.Common.{arith, length-append}
use Rattle.rules.specs.Ast.{Binary, plain, ge, le, ne}
use Rattle.rules.specs.Plan.{Built}
use Rattle.rules.specs.Plan as P
use Rattle.rules.specs.Cells.{added, built_count, operator, cells, count_all, cells_all}

added-positive : (o : Binary) → 0 < added o
unfolding added
added-positive (plain o) = omega arith
added-positive ge = omega arith
added-positive le = omega arith
added-positive ne = omega arith

pub count-positive : (a : Built) → 0 < built_count a
unfolding built_count
count-positive (P.constant v) = omega arith
count-positive (P.column i) = omega arith
count-positive (P.unary o a) = omega arith
count-positive (P.binary o a b) = omega (arith, added-positive o)
count-positive (P.is a v) = omega arith

pub operator-length : (o : Binary) (n x y : ℕ) → length (operator o n x y) ≡ added o
unfolding operator added
operator-length (plain o) n x y = refl
operator-length ge n x y = refl
operator-length le n x y = refl
operator-length ne n x y = refl

-- one expression
pub cells-length : (a : Built) (n : ℕ) → length (cells n a) ≡ built_count a
unfolding cells built_count
cells-length (P.constant v) n = refl
cells-length (P.column i) n = refl
cells-length (P.unary o a) n = simp (length-append, cells-length a n)
cells-length (P.binary o a b) n =
    simp (length-append, cells-length a n, cells-length b (n + built_count a), operator-length) (omega arith)
cells-length (P.is a v) n = simp (length-append, cells-length a n)

-- several
pub cells_all-length : (as' : List Built) (n : ℕ) → length (cells_all n as') ≡ count_all as'
unfolding cells_all count_all
cells_all-length [] n = refl
cells_all-length (a ∷ as') n = simp (length-append, cells-length a n, cells_all-length as' (n + built_count a))
