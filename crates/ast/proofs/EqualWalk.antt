-- The walk over two trees: roots first, then the operands pair by pair; what is left of both says what the whole trees say.
use Prim.Native.Nat.{ℕ, suc, ◌+◌, ◌-◌, ◌≤◌, ◌<◌}
use native.Mathlib.Numerals.{add-one}
use mathlib.Core.Path.{◌≡◌, sym, ap, ◌∙◌}
use mathlib.Core.Bool.{Bool, true, false, ◌&&◌}
use mathlib.Core.List.{List}
use borrow.Author.Tests.{eqb-true}
use Rattle.rules.specs.Lists.{Bytes}
use Rattle.rules.specs.Ast.{Expr}
use Rattle.rules.specs.Equality.{equal, equal_all}
use Rattle.ast.specs.Table.{rows_at, arguments_at, tree_by, star_at, root_at, tree_at}
use Rattle.ast.specs.Operands.{operands_at, tree-at, arguments-none, arguments-more}
use Rattle.ast.proofs.Equal.{equal-at}
use Rattle.ast.proofs.Roots.{stars-count}

-- equal roots have as many operands
pub same_operands : (c q : Bytes) (t : List ℕ) (i j : ℕ) → equal (root_at c q t i) (root_at c q t j) ≡ true
    → operands_at t i ≡ operands_at t j
unfolding root_at
same_operands c q t i j h = eqb-true _ _
    (sym (stars-count c q t i j (operands_at t i) (operands_at t j) (suc i) (suc j))
    ∙ other _ _ (equal-at star_at c q t i j) h)
  where
    other : (x y : Bool) → x ≡ (x && y) → x ≡ true → y ≡ true
    other true y e h = sym e
    other false y e h = cc

module _ (c q : Bytes) (t : List ℕ) (i j : ℕ) where
  by-roots : equal (tree_at c q t i) (tree_at c q t j)
      ≡ (equal (root_at c q t i) (root_at c q t j)
      && equal_all (arguments_at (tree_at c q t) t (operands_at t i) (suc i))
      (arguments_at (tree_at c q t) t (operands_at t j) (suc j)))
  by-roots = ap {B = Bool} (λ a. equal a (tree_at c q t j)) (tree-at c q t i)
      ∙ ap {B = Bool} (equal (tree_by (tree_at c q t) c q t i)) (tree-at c q t j) ∙ equal-at (tree_at c q t) c q t i j

  pub roots-differ : equal (root_at c q t i) (root_at c q t j) ≡ false → equal (tree_at c q t i) (tree_at c q t j) ≡ false
  roots-differ h = by-roots ∙ rw h

  pub roots-same : (n : ℕ) → equal (root_at c q t i) (root_at c q t j) ≡ true → n ≡ operands_at t i
      → equal_all (arguments_at (tree_at c q t) t n (i + 1)) (arguments_at (tree_at c q t) t n (j + 1))
      ≡ equal (tree_at c q t i) (tree_at c q t j)
  roots-same n h e = rw (by-roots, h, ← same_operands c q t i j h, e, add-one i, add-one j)

module _ (f : ℕ → Expr) (t : List ℕ) (n p r : ℕ) where
  pub equal-end : n ≤ 0 → equal_all (arguments_at f t n p) (arguments_at f t n r) ≡ true
  unfolding equal
  equal-end h = rw (arguments-none f t n p h, arguments-none f t n r h)

  pub equal-more : 0 < n → equal (f p) (f r) ≡ true → equal_all (arguments_at f t (n - 1) (p + rows_at t p)) (arguments_at f t (n - 1) (r + rows_at t r)) ≡ equal_all (arguments_at f t n p) (arguments_at f t n r)
  unfolding equal
  equal-more h e = rw (arguments-more f t n p h, arguments-more f t n r h, e)

  pub equal-stop : 0 < n → equal (f p) (f r) ≡ false → equal_all (arguments_at f t n p) (arguments_at f t n r) ≡ false
  unfolding equal
  equal-stop h e = rw (arguments-more f t n p h, arguments-more f t n r h, e)
