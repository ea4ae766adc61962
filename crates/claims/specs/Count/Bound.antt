-- The count of a SELECT is within its bound.
use Rattle.std.specs.Prelude.{◌+◌, ◌*◌, ◌≤◌, ◌≡◌, List, length}
use Rattle.std.proofs.Common.{arith, ap, ◌∙◌}
use Rattle.rules.specs.Refusals.{Answer, ok, ◌>>=◌}
use Rattle.rules.specs.Limits.{most_columns}
use Rattle.rules.specs.Schema.{Catalog}
use Rattle.rules.specs.Ast.{Expr, size, Select}
use Rattle.rules.specs.Scope.{Scope, empty, width}
use Rattle.rules.specs.BuildExpression.{build, each}
use Rattle.rules.specs.BuildFrom.{build_from_clause}
use Rattle.rules.specs.Plan.{labels}
use Rattle.rules.specs.Plan as P
use Rattle.rules.specs.Items.{build_items}
use Rattle.rules.specs.BuildSelect.{build_select}
use Rattle.rules.specs.Order.{Use, over, from_scope, reads_of, build_use, uses_of}
use Rattle.rules.specs.Count.{cost, count_select, starred, bound_select}
use Rattle.claims.specs.Answers.{Ensures, then, anything, both, weaken, ensured, ensures, All}
use Rattle.claims.specs.Count.Totals.{each-accepted}
use Rattle.claims.specs.Count.Costs.{cost-most}
use Rattle.claims.specs.Count.Stars.{starred_over, starred-most, expanded-items}
use Rattle.claims.specs.Count.Arguments.{arguments_cost, argument-bound}
use Rattle.claims.specs.Count.Uses.{cost-total}
use Rattle.claims.specs.Count.Items.{starred-cost}
use Rattle.claims.specs.Count.Clauses.{uses-bound}
use Rattle.claims.specs.Order.Builds.{Builds}
use Rattle.claims.specs.Order.From.{from_clause-laid}
use Rattle.claims.specs.Order.Select.{InOrder, in_order}
use Rattle.claims.specs.Widths.Labels.{from-labels}

-- a use that is built
abbrev Built : Use → Type 0
Built u = (x : P.Built) × (build_use u ≡ ok x)

-- with its aggregates' arguments, an expression that is built has at most three cells for each of its expression cells
built-bound : (g s : Scope) (e : Expr) → Built (over g e) → cost g e + arguments_cost s e ≤ 3 * size e
unfolding build_use
built-bound g s e h =
    ensured (build g e) (λ b. cost g e + arguments_cost s e ≤ 3 * size e) (argument-bound g s e) h.0 h.1

-- what one step settles holds whatever the later ones answer
settled : {A B : Type 0} (m : Answer A) (f : A → Answer B) (P : A → Type 0) (X : Type 0) → Ensures m P → ((a : A) → P a → X)
    → Ensures (m >>= f) (λ b. X)
settled m f P X h k = then m f P _ h λ a p. weaken (f a) _ _ (λ b u. k a p) (anything (f a))

each-built : (us : List Use) (xs : _) → Builds us xs → All Built us
unfolding Builds
each-built us xs h = ensured (each build_use us) (λ ys. All Built us)
    (each-accepted build_use Built (λ u. ensures (build_use u) (λ y. Built u) λ y e. (y, e)) us) xs h

-- demand 3's bound: at most four cells for each expression cell of the statement, and one for each starred column
pub select-bound : (c : Catalog) (q : Select) → Ensures (build_select c q) (λ p. count_select c q ≤ bound_select c q)
unfolding InOrder count_select
select-bound c q = weaken (build_select c q) _ _ (λ p h. omega (
  arith,
  cost-total (uses_of c q),
  uses-bound cost cost-most (λ g l a. omega (arith, starred-cost g l a)) Built built-bound c q
      (each-built (uses_of c q) _ h),
)) (in_order c q)

-- the starred columns are among the items after star expansion, at most 256
pub expanded-most : (c : Catalog) (q : Select) → Ensures (build_select c q) (λ p. starred c q ≤ most_columns)
unfolding build_select starred starred_over width reads_of
expanded-most c q =
    then (build_from_clause c q.from) _ _ _ (both (build_from_clause c q.from) _ _ (from_clause-laid c q.from) (from-labels c q.from)) λ f hf.
    settled (build_items q f.node) _ _ _ (expanded-items q f.node) λ is' hi.
    let e : labels f.node ≡ (from_scope c q.from empty).columns = hf.1 ∙ ap (λ (t : Scope). t.columns) hf.0.scoped in
    omega (arith, rw e at (starred-most q (labels f.node)), rw e at (ap length hi.0), hi.1)
