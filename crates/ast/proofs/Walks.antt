-- The walk that stops at an aggregate, by the root and the operands of a tree of the table.
use Prim.Native.Nat.{ℕ, ◌+◌, ◌-◌, ◌≤◌, ◌<◌}
use native.Mathlib.Numerals.{add-one}
use mathlib.Core.Path.{◌≡◌, refl, sym, ap, ◌∙◌}
use mathlib.Core.Bool.{Bool, true, false, ◌&&◌, ◌||◌, not, and-true, beq}
use mathlib.Core.List.{List}
use mathlib.Core.Option.{none, some}
use lib.Dec.{eqb}
use Rattle.rules.specs.Lists.{Bytes}
use Rattle.rules.specs.Ast.{Expr, star, column, literal, call, unary, binary, is, Exprs, nil, cons}
use Rattle.rules.specs.BuildAggregate.{is_aggregate, walk_free, any_free}
use Rattle.ast.specs.Table.{rows_at, arguments_at, root_at, tree_at}
use Rattle.ast.specs.Operands.{operands_of, kind_of, kind_at, operands_at, kind-at, operands-at, tree-at}
use Rattle.ast.specs.Operands.{arguments-none, arguments-more}
use Rattle.ast.specs.Walk.{is_aggregate_call, call-root}

-- the operands' walks: any of them, or all
unfoldable pub walked : Bool → Exprs → Bool
walked true as' = any_free as'
walked false nil = true
walked false (cons a as') = walk_free a && walked false as'

passed : (b x : Bool) → b ≡ false → elim b [ true ↦ false | false ↦ x ] ≡ x
passed true x h = cc
passed false x h = refl

by-root : (e : Expr) → is_aggregate_call e ≡ false → walk_free e ≡ walked (eqb (kind_of e) 4) (operands_of e)
unfolding walk_free walked kind_of operands_of is_aggregate_call
by-root (star l) h = refl
by-root (column l none n) h = refl
by-root (column l (some t) n) h = refl
by-root (literal l v) h = refl
by-root (call l n as') h = passed (is_aggregate n.bytes) (any_free as') h
by-root (unary l o a) h = sym (and-true _)
by-root (binary l o a b) h = rw and-true
by-root (is l a v) h = sym (and-true _)

stopped : (b x : Bool) → b ≡ true → elim b [ true ↦ false | false ↦ x ] ≡ false
stopped true x h = refl
stopped false x h = cc

at-aggregate : (e : Expr) → is_aggregate_call e ≡ true → walk_free e ≡ false
unfolding walk_free is_aggregate_call
at-aggregate (star l) h = sym h
at-aggregate (column l t n) h = sym h
at-aggregate (literal l v) h = sym h
at-aggregate (call l n as') h = stopped (is_aggregate n.bytes) (any_free as') h
at-aggregate (unary l o a) h = cc
at-aggregate (binary l o a b) h = cc
at-aggregate (is l a v) h = cc

module _ (c q : Bytes) (t : List ℕ) (r : ℕ) where
  pub walk-stops : is_aggregate_call (root_at c q t r) ≡ true → walk_free (tree_at c q t r) ≡ false
  walk-stops h = at-aggregate (tree_at c q t r) (call-root c q t r ∙ h)

  pub walk-on : (n : ℕ) (any : Bool) → is_aggregate_call (root_at c q t r) ≡ false → n ≡ operands_at t r
      → any ≡ eqb (kind_at t r) 4 → walked any (arguments_at (tree_at c q t) t n (r + 1)) ≡ walk_free (tree_at c q t r)
  walk-on n any h e g = rw (
    by-root (tree_at c q t r) (call-root c q t r ∙ h),
    ap kind_of (tree-at c q t r) ∙ kind-at (tree_at c q t) c q t r,
    ap operands_of (tree-at c q t r) ∙ operands-at (tree_at c q t) c q t r,
    e,
    g,
    add-one r,
  )

next-walk : (any : Bool) (a : Expr) (as' : Exprs) → beq (walk_free a) any ≡ false → walked any as' ≡ walked any (cons a as')
unfolding walked any_free
next-walk true a as' = pick (walk_free a)
  where
    pick : (w : Bool) → beq w true ≡ false → any_free as' ≡ (w || any_free as')
    pick true e = cc
    pick false e = refl
next-walk false a as' = pick (walk_free a)
  where
    pick : (w : Bool) → beq w false ≡ false → walked false as' ≡ (w && walked false as')
    pick true e = refl
    pick false e = cc

last-walk : (any : Bool) (a : Expr) (as' : Exprs) → beq (walk_free a) any ≡ true → walked any (cons a as') ≡ any
unfolding walked any_free
last-walk true a as' = pick (walk_free a)
  where
    pick : (w : Bool) → beq w true ≡ true → (w || any_free as') ≡ true
    pick true e = refl
    pick false e = cc
last-walk false a as' = pick (walk_free a)
  where
    pick : (w : Bool) → beq w false ≡ true → (w && walked false as') ≡ false
    pick true e = cc
    pick false e = refl

module _ (f : ℕ → Expr) (t : List ℕ) (any : Bool) (n p : ℕ) where
  pub walk_end : n ≤ 0 → walked any (arguments_at f t n p) ≡ not any
  unfolding walked any_free
  walk_end h = rw (arguments-none f t n p h) (elim any as (λ k. walked k nil ≡ not k) [ true ↦ refl | false ↦ refl ])

  pub walk_more : (w : Bool) → 0 < n → w ≡ walk_free (f p) → beq w any ≡ false → walked any (arguments_at f t (n - 1) (p + rows_at t p)) ≡ walked any (arguments_at f t n p)
  walk_more w h e b = rw (arguments-more f t n p h) (next-walk any (f p) _ (rw (← e) b))

  pub walk-stop : (w : Bool) → 0 < n → w ≡ walk_free (f p) → beq w any ≡ true → walked any (arguments_at f t n p) ≡ any
  walk-stop w h e b = rw (arguments-more f t n p h) (last-walk any (f p) _ (rw (← e) b))
