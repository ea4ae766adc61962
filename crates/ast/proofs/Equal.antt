-- Equal expressions are of one kind, and their roots are equal and their operands, pair by pair.
use Prim.Native.Nat.{ℕ, suc}
use mathlib.Core.Path.{◌≡◌, refl, sym, ◌∙◌}
use mathlib.Core.Bool.{Bool, true, false, ◌&&◌, and-true, and_assoc}
use mathlib.Core.List.{List}
use mathlib.Core.Option.{none, some}
use lib.Dec.{eqb}
use borrow.Author.Tests.{eqb-false, ne_eqb}
use Rattle.rules.specs.Lists.{Bytes, is_some}
use Rattle.rules.specs.Lines.{Word}
use Rattle.rules.specs.Schema.{Value}
use Rattle.rules.specs.Ast.{Unary, Binary, Expr, star, column, literal, call, unary, binary, is, Exprs, nil, cons}
use Rattle.rules.specs.Views.{as_star, as_column, as_literal, as_call, as_unary, as_binary, as_is}
use Rattle.rules.specs.Equality.{same_name, same_optional_name, equal, equal_all}
use Rattle.ast.specs.Table.{arguments_at, tree_by, star_at, root_at}
use Rattle.ast.specs.Operands.{operands_of, kind_of, cut, cut_all, kind_at, operands_at, kind-at, operands-at, cut_at}

pub stars : equal (star 0) (star 0) ≡ true
unfolding equal as_star is_some
stars = refl

-- equal lists are equally long
cut_all_lem : (as' bs : Exprs) → equal_all as' bs ≡ (equal_all (cut_all as') (cut_all bs) && equal_all as' bs)
unfolding equal as_star is_some cut_all
cut_all_lem nil nil = refl
cut_all_lem nil (cons b bs) = refl
cut_all_lem (cons a as') nil = refl
cut_all_lem (cons a as') (cons b bs) =
    pick (equal a b) (equal_all as' bs) (equal_all (cut_all as') (cut_all bs)) (cut_all_lem as' bs)
  where
    pick : (x y z : Bool) → y ≡ (z && y) → (x && y) ≡ (z && (x && y))
    pick true y z e = e
    pick false y true e = refl
    pick false y false e = refl

cut-call : (n k : Word) (as' bs : Exprs)
    → (same_name n k && equal_all as' bs) ≡ (same_name n k && equal_all (cut_all as') (cut_all bs) && equal_all as' bs)
cut-call n k as' bs = rw (and_assoc, ← cut_all_lem as' bs)

ruleset and-laws = (and-true, and_assoc)

-- a property of the expressions of each kind, at a line
abbrev Each : ℕ → (Expr → Type 0) → Type 0
Each l P =
    P (star l) × ((n : Word) → P (column l none n)) × ((t n : Word) → P (column l (some t) n))
    × ((v : Value) → P (literal l v)) × ((n : Word) (as' : Exprs) → P (call l n as'))
    × ((o : Unary) (a : Expr) → P (unary l o a)) × ((o : Binary) (a b : Expr) → P (binary l o a b))
    × ((a : Expr) (v : Value) → P (is l a v))

unfoldable ByRoot : Expr → Expr → Type 0
ByRoot a b =
    equal a b ≡ (eqb (kind_of a) (kind_of b) && (equal (cut a) (cut b) && equal_all (operands_of a) (operands_of b)))

each : (l : ℕ) (b : Expr) → Each l (λ a. ByRoot a b)
unfolding ByRoot kind_of cut operands_of equal same_optional_name is_some
    as_star as_column as_literal as_call as_unary as_binary as_is
each l (star m) = (refl, λ n. refl, λ t n. refl, λ v. refl, λ n as'. refl, λ o a. refl, λ o a b. refl, λ a v. refl)
each l (column m none k) =
    (refl, λ n. sym (and-true _), λ t n. refl, λ v. refl, λ n as'. refl, λ o a. refl, λ o a b. refl, λ a v. refl)
each l (column m (some u) k) =
    (refl, λ n. refl, λ t n. sym (and-true _), λ v. refl, λ n as'. refl, λ o a. refl, λ o a b. refl, λ a v. refl)
each l (literal m w) =
    (refl, λ n. refl, λ t n. refl, λ v. sym (and-true _), λ n as'. refl, λ o a. refl, λ o a b. refl, λ a v. refl)
each l (call m k bs) =
    (refl, λ n. refl, λ t n. refl, λ v. refl, λ n as'. cut-call n k as' bs, λ o a. refl, λ o a b. refl, λ a v. refl)
each l (unary m p x) =
    (refl, λ n. refl, λ t n. refl, λ v. refl, λ n as'. refl, λ o a. simp and-true, λ o a b. refl, λ a v. refl)
each l (binary m p x y) =
    (refl, λ n. refl, λ t n. refl, λ v. refl, λ n as'. refl, λ o a. refl, λ o a b. simp and-laws, λ a v. refl)
each l (is m x w) =
    (refl, λ n. refl, λ t n. refl, λ v. refl, λ n as'. refl, λ o a. refl, λ o a b. refl, λ a v. simp and-true)

by-root : (a b : Expr) → ByRoot a b
by-root (star l) b = (each l b).0
by-root (column l none n) b = (each l b).1 n
by-root (column l (some t) n) b = (each l b).2 t n
by-root (literal l v) b = (each l b).3 v
by-root (call l n as') b = (each l b).4 n as'
by-root (unary l o a) b = (each l b).5 o a
by-root (binary l o a b) e = (each l e).6 o a b
by-root (is l a v) b = (each l b).7 a v

-- IN THE TABLE
pub kinds-apart : (f : ℕ → Expr) (c q : Bytes) (t : List ℕ) (i j : ℕ)
    → (kind_at t i ≡ kind_at t j → ⊥) → equal (tree_by f c q t i) (tree_by f c q t j) ≡ false
unfolding ByRoot
kinds-apart f c q t i j h = by-root _ _ ∙ rw (kind-at f c q t i, kind-at f c q t j, ne_eqb _ _ h)

-- the trees cut below their roots decide whether the roots are equal
pub equal-at : (f : ℕ → Expr) (c q : Bytes) (t : List ℕ) (i j : ℕ) → equal (tree_by f c q t i) (tree_by f c q t j)
    ≡ (equal (root_at c q t i) (root_at c q t j)
    && equal_all (arguments_at f t (operands_at t i) (suc i)) (arguments_at f t (operands_at t j) (suc j)))
unfolding ByRoot root_at
equal-at f c q t i j = pick (eqb (kind_at t i) (kind_at t j)) refl
  where
    pick : (b : Bool) → eqb (kind_at t i) (kind_at t j) ≡ b → equal (tree_by f c q t i) (tree_by f c q t j)
        ≡ (equal (root_at c q t i) (root_at c q t j)
        && equal_all (arguments_at f t (operands_at t i) (suc i)) (arguments_at f t (operands_at t j) (suc j)))
    pick true e =
        by-root _ _
        ∙ rw (kind-at f c q t i, kind-at f c q t j, e, cut_at f c q t i, cut_at f c q t j)
        (rw (operands-at f c q t i, operands-at f c q t j))
    pick false e =
        rw (kinds-apart f c q t i j (eqb-false _ _ e), kinds-apart star_at c q t i j (eqb-false _ _ e))
