-- The rows that `collect` writes: read as trees they are what the rules' `collect` gives.
use Prim.Native.Nat.{ℕ, zero, suc, ◌+◌, ◌≤◌}
use Rattle.std.proofs.Common.{arith, ◌∙◌}
use Rattle.std.specs.Prelude.{◌≡◌, Bool, length}
use Rattle.std.proofs.Math.Path.{refl, sym, ap}
use Rattle.std.proofs.Math.Bool.{true, false}
use mathlib.Core.List.{List, [], ◌∷◌, map, append-nil, map-append}
use Rattle.rules.specs.Lists.{Bytes}
use Rattle.rules.specs.Ast.{Expr, star, column, literal, call, unary, binary, is}
use Rattle.rules.specs.BuildAggregate.{is_aggregate, collect, collect_all}
use Rattle.ast.specs.Behind.{behind-step}
use Rattle.ast.specs.Table.{rows_at, arguments_at, star_at, root_at, tree_at}
use Rattle.ast.specs.Operands.{operands_of, operands_at, operands-at, tree-outside}
use Rattle.ast.specs.Operands.{operands-outside, tree-at}
use Rattle.ast.specs.Walk.{is_aggregate_call, call-root}
use Rattle.ast.specs.Collect.{rows_of, collect_by, collect_rows}

pick-call : (b : Bool) (x y : List Expr) → b ≡ true → elim b [ true ↦ x | false ↦ y ] ≡ x
pick-call true x y h = refl
pick-call false x y h = cc

collect-call : (e : Expr) → is_aggregate_call e ≡ true → collect e ≡ e ∷ []
unfolding collect is_aggregate_call
collect-call (star l) h = cc
collect-call (column l t n) h = cc
collect-call (literal l v) h = cc
collect-call (call l n as') h = pick-call (is_aggregate n.bytes) _ _ h
collect-call (unary l o a) h = cc
collect-call (binary l o a b) h = cc
collect-call (is l a v) h = cc

pick_other : (b : Bool) (x y : List Expr) → b ≡ false → elim b [ true ↦ x | false ↦ y ] ≡ y
pick_other true x y h = cc
pick_other false x y h = refl

collect-other : (e : Expr) → is_aggregate_call e ≡ false → collect e ≡ collect_all (operands_of e)
unfolding collect is_aggregate_call operands_of
collect-other (star l) h = refl
collect-other (column l t n) h = refl
collect-other (literal l v) h = refl
collect-other (call l n as') h = pick_other (is_aggregate n.bytes) _ _ h
collect-other (unary l o a) h = sym (append-nil _)
collect-other (binary l o a b) h = rw (append-nil (collect b))
collect-other (is l a v) h = sym (append-nil _)

-- of the rows that operands give from row r on, only what is given from r on matters
rows_behind : (f g : ℕ → List ℕ) (t : List ℕ) (n r : ℕ) → ((p : ℕ) → r ≤ p → f p ≡ g p)
    → rows_of f t n r ≡ rows_of g t n r
unfolding rows_of
rows_behind f g t zero r same = refl
rows_behind f g t (suc n) r same =
    rw (same r (omega arith), rows_behind f g t n (r + rows_at t r) (λ p l. same p (omega arith)))

module _ (c q : Bytes) (t : List ℕ) where
  -- outside the table stands no call
  call-outside : (r : ℕ) → length t ≤ r → is_aggregate_call (root_at c q t r) ≡ false
  unfolding root_at is_aggregate_call
  call-outside r h = ap is_aggregate_call (tree-outside star_at c q t r h)

  rows-outside : (g : ℕ → List ℕ) (r : ℕ) → length t ≤ r → collect_by g c q t r ≡ []
  unfolding collect_by rows_of
  rows-outside g r h = rw (call-outside r h, collect_by, operands-outside t r h)

  -- the rows of the tree at a row, by those of its operands: in every table and at every row
  pub rows-at : (r : ℕ) → collect_rows c q t r ≡ collect_by (collect_rows c q t) c q t r
  unfolding collect_rows collect_by
  rows-at r = behind-step (λ g. collect_by g c q t) [] (length t)
      (λ f g r same. same-by f g r (is_aggregate_call (root_at c q t r)) refl
      (rows_behind f g t (operands_at t r) (suc r) (λ p l. same p (omega arith))))
      (λ g r h. rows-outside g r h)
      r
    where
      same-by : (f g : ℕ → List ℕ) (r : ℕ) (b : Bool) → is_aggregate_call (root_at c q t r) ≡ b
          → rows_of f t (operands_at t r) (suc r) ≡ rows_of g t (operands_at t r) (suc r)
          → collect_by f c q t r ≡ collect_by g c q t r
      same-by f g r true e h = rw (e, collect_by) (cc)
      same-by f g r false e h = rw (e, collect_by) (cc)

  collect-all : (f h : ℕ → Expr) (g : ℕ → List ℕ) (n r : ℕ) → ((p : ℕ) → r ≤ p → map f (g p) ≡ collect (h p))
      → map f (rows_of g t n r) ≡ collect_all (arguments_at h t n r)
  unfolding rows_of arguments_at collect
  collect-all f h g zero r each = refl
  collect-all f h g (suc n) r each = map-append f (g r) _
      ∙ rw (each r (omega arith), collect-all f h g n (r + rows_at t r) (λ p l. each p (omega arith)))

  trees-by : (n r : ℕ) → length t ≤ n + r → map (tree_at c q t) (collect_rows c q t r) ≡ collect (tree_at c q t r)
  unfolding collect collect_by
  trees-by zero r h = ap (map (tree_at c q t)) (rows-at r ∙ rows-outside (collect_rows c q t) r (omega arith))
      ∙ sym (ap collect (tree-at c q t r ∙ tree-outside (tree_at c q t) c q t r (omega arith)))
  trees-by (suc n) r h = ap (map (tree_at c q t)) (rows-at r)
      ∙ pick (is_aggregate_call (root_at c q t r)) refl
      (collect-all (tree_at c q t) (tree_at c q t) (collect_rows c q t) (operands_at t r) (suc r)
      (λ p l. trees-by n p (omega arith)))
    where
      pick : (b : Bool) → is_aggregate_call (root_at c q t r) ≡ b
          → map (tree_at c q t) (rows_of (collect_rows c q t) t (operands_at t r) (suc r))
          ≡ collect_all (arguments_at (tree_at c q t) t (operands_at t r) (suc r))
          → map (tree_at c q t)
          (elim b [ true ↦ r ∷ [] | false ↦ rows_of (collect_rows c q t) t (operands_at t r) (suc r) ])
          ≡ collect (tree_at c q t r)
      pick true x m = sym (collect-call (tree_at c q t r) (call-root c q t r ∙ x))
      pick false x m = m ∙ ap collect_all (sym (ap operands_of (tree-at c q t r) ∙ operands-at (tree_at c q t) c q t r))
          ∙ sym (collect-other (tree_at c q t r) (call-root c q t r ∙ x))

  -- the trees at the rows are what the rules collect
  pub collect-trees : (r : ℕ) → map (tree_at c q t) (collect_rows c q t r) ≡ collect (tree_at c q t r)
  collect-trees r = trees-by (length t) r (omega arith)
