-- Whether an expression is a call of an aggregate function (planner.rs, is_aggregate_function): its root says so.
use Rattle.std.specs.Prelude.{ℕ, ◌≡◌, refl, Bool, false, List}
use Rattle.std.proofs.Common.{sym, ap, ◌∙◌}
use Rattle.rules.specs.Lists.{Bytes}
use Rattle.rules.specs.Ast.{Expr, star, column, literal, call, unary, binary, is}
use Rattle.rules.specs.BuildAggregate.{is_aggregate}
use Rattle.ast.specs.Table.{tree_by, root_at, tree_at}
use Rattle.ast.specs.Operands.{cut, cut_at, tree-at}

unfoldable pub is_aggregate_call : Expr → Bool
is_aggregate_call (star l) = false
is_aggregate_call (column l t n) = false
is_aggregate_call (literal l v) = false
is_aggregate_call (call l n as') = is_aggregate n.bytes
is_aggregate_call (unary l o a) = false
is_aggregate_call (binary l o a b) = false
is_aggregate_call (is l a v) = false

cut-call : (e : Expr) → is_aggregate_call (cut e) ≡ is_aggregate_call e
unfolding is_aggregate_call cut
cut-call (star l) = refl
cut-call (column l t n) = refl
cut-call (literal l v) = refl
cut-call (call l n as') = refl
cut-call (unary l o a) = refl
cut-call (binary l o a b) = refl
cut-call (is l a v) = refl

-- in the table
module _ (c q : Bytes) (t : List ℕ) (r : ℕ) where
  pub call_at : (f : ℕ → Expr) → is_aggregate_call (tree_by f c q t r) ≡ is_aggregate_call (root_at c q t r)
  call_at f = sym (cut-call _) ∙ ap is_aggregate_call (cut_at f c q t r)

  pub call-root : is_aggregate_call (tree_at c q t r) ≡ is_aggregate_call (root_at c q t r)
  call-root = ap is_aggregate_call (tree-at c q t r) ∙ call_at (tree_at c q t)
