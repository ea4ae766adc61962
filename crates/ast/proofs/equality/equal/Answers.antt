-- `equality::equal`: trees of two kinds differ, and a tree is equal to itself.
use Prim.Native.Nat.{ℕ}
use mathlib.Core.Path.{◌≡◌, refl, sym, ◌∙◌}
use mathlib.Core.Bool.{Bool, true, false, not, ◌&&◌}
use mathlib.Core.List.{List}
use lib.Dec.{eqb}
use borrow.Author.Tests.{eqb-false}
use Rattle.rules.specs.Lists.{Bytes}
use Rattle.rules.specs.Equality.{equal}
use Rattle.ast.specs.Table.{tree_at}
use Rattle.ast.proofs.Roots.{roots-apart}
use Rattle.ast.proofs.EqualWalk.{roots-differ}
use Rattle.ast.proofs.Same.{equal-self}
use Rattle.ast.proofs.equality.equal.Goals as goal

second-not : (a b : Bool) → (a && not b) ≡ true → b ≡ false
second-not true false e = refl
second-not true true e = sym e
second-not false b e = cc

apart-kinds : (x y : ℕ) {b : Bool} → b ≡ (not (eqb y 1) && not (eqb x y)) → b ≡ true → x ≡ y → ⊥
apart-kinds x y e h = eqb-false x y (second-not (not (eqb y 1)) (eqb x y) (sym e ∙ h))

one-row : (c q : Bytes) (t : List ℕ) (i j : ℕ) → i ≡ j → true ≡ equal (tree_at c q t i) (tree_at c q t j)
one-row c q t i j h = rw h (sym (equal-self (tree_at c q t j)))

pub returns-then-are_apart : goal.returns-then-are_apart
returns-then-are_apart c = sym (roots-differ _ _ _ _ _ (roots-apart _ _ _ _ _ (apart-kinds _ _ c.are_apart.ensures c.if-are_apart.true)))

pub returns-then-i-j : goal.returns-then-i-j
returns-then-i-j c = one-row _ _ _ _ _ c.if-i-j.true
