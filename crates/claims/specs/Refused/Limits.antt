-- 3 while a SELECT is planned: each of its tests refuses only where its number is passed.
use Rattle.std.specs.Prelude.{◌+◌, ◌-◌, ◌<◌, ◌≡◌, Bool, true, false, List, ◌++◌}
use Rattle.std.proofs.Common.{arith, ◌∙◌}
use Rattle.std.proofs.Math.Path.{refl}
use Rattle.std.proofs.Math.Option.{Option}
use Rattle.std.proofs.Math.ListN.{length, length-append}
use Rattle.rules.specs.Refusals.{limit_passed, Refusal, ok, refused, at_most}
use Rattle.rules.specs.Limits.{most_columns}
use Rattle.rules.specs.Lists.{any}
use Rattle.rules.specs.Schema.{Catalog}
use Rattle.rules.specs.Ast.{Expr, line_of, Item, Clause, Select}
use Rattle.rules.specs.Plan.{Built, Node, column_count, labels}
use Rattle.rules.specs.Scope.{empty, width}
use Rattle.rules.specs.BuildExpression.{build, each, build_option, clause_expr}
use Rattle.rules.specs.Stage.{Stage}
use Rattle.rules.specs.BuildFrom.{build_from_clause}
use Rattle.rules.specs.BuildAggregate.{build_function, retain_groups, retain_functions, build_aggregate, aggregated}
use Rattle.rules.specs.BuildAggregate.{build_groups}
use Rattle.rules.specs.Items.{plain_star, is_lone, expanded_items, build_items}
use Rattle.rules.specs.Hidden.{HiddenColumn, projected}
use Rattle.rules.specs.BuildSelect.{build_where, later_of, functions_of, item_built, project_items, build_projection}
use Rattle.rules.specs.BuildSelect.{build_select}
use Rattle.rules.specs.Order.{from_scope, group_scope, reads_of}
use Rattle.claims.specs.Answers.{Ensures, ensured, past}
use Rattle.claims.specs.Widths.Labels.{from-labels}
use Rattle.claims.specs.Order.From.{from_clause-laid}
use Rattle.claims.specs.Order.Select.{items-known}
use Rattle.claims.specs.Refused.Refuses.{Refuses, accepted, first, each-refuses, if-refuses}
use Rattle.claims.specs.Refused.Expressions.{build-any}
use Rattle.claims.specs.Refused.Select.{where-among, stars-among, function-among, having-among, order-among}
use Rattle.claims.specs.Refused.Select.{offset-among, limit-among}
use Rattle.claims.specs.Refused.FromLimits.{OnePast, from_widths, LimitOnly, no-limit, limit-most, only-weaken}
use Rattle.claims.specs.Refused.FromLimits.{clause-limit, from-wide}

-- the number that is passed: FROM's columns at a merge, the items after star expansion, the groups and aggregates, or
-- the items and hidden columns
pub data Passed (c : Catalog) (q : Select) : Type 0 where
  columns : OnePast (from_widths c q.from empty) → Passed c q
  items : most_columns < length (reads_of c q).items → Passed c q
  groups : most_columns < length (retain_groups (reads_of c q).from q.group).exprs
      + length (retain_functions (reads_of c q).from q.group (functions_of (reads_of c q).items (later_of q))).exprs
      → Passed c q
  hidden : most_columns < length (reads_of c q).items
      + length (projected (reads_of c q).groups (reads_of c q).items (later_of q)).columns
      → Passed c q

-- SELECT
-- what each stage gives
where-scope : (f : Stage) (c : Option Clause) → Ensures (build_where f c) (λ w. w.scope ≡ f.scope)
unfolding build_where
where-scope f c = past (build_option f.scope (clause_expr c)) _ _ λ x. refl

group-scope : (f : Stage) (gs fs : List Expr)
    → Ensures (build_groups f gs fs) (λ a. a.scope ≡ group_scope f.scope gs fs)
unfolding build_groups build_aggregate group_scope
group-scope f gs fs = go (aggregated gs fs)
  where
    go : (b : Bool) → Ensures {A = Stage} (elim b [ true ↦ build_aggregate f.node gs fs f.scope | false ↦ ok f ])
        (λ a. a.scope ≡ elim b [ true ↦ (retain_functions f.scope gs fs).scope | false ↦ f.scope ])
    go true = past (each (build f.scope) (retain_groups f.scope gs).exprs) _ _ λ xs.
        past (each (build_function f.scope) (retain_functions f.scope gs fs).exprs) _ _ λ ys.
        past (at_most most_columns line_of ((retain_groups f.scope gs).exprs ++ (retain_functions f.scope gs fs).exprs))
        _ _ λ u. refl
    go false = refl

module _ (c : Catalog) (q : Select) where
  items-limit : (n : Node Built) → expanded_items q (labels n) ≡ (reads_of c q).items
      → Refuses (build_items q n) (LimitOnly (Passed c q))
  unfolding build_items any
  items-limit n e =
      first (no-limit refl (stars-among (plain_star q.items) (column_count n))) λ u e₁.
      first (limit-most most_columns (λ (i : Item). i.line) (expanded_items q (labels n)) λ w. items (rw e at w)) λ v e₂.
      accepted

  groups-limit : (f : Stage) (is' : List Item) → f.scope ≡ (reads_of c q).from → is' ≡ (reads_of c q).items
      → Refuses (build_groups f q.group (functions_of is' (later_of q))) (LimitOnly (Passed c q))
  unfolding build_groups build_aggregate any
  groups-limit f is' e i =
      let fs = functions_of is' (later_of q) in
      let gs = (retain_groups f.scope q.group).exprs in
      let hs = (retain_functions f.scope q.group fs).exprs in
      if-refuses (aggregated q.group fs)
      (first (no-limit refl (each-refuses (build-any f.scope) gs)) λ xs e₁.
      first (no-limit refl (each-refuses (function-among f.scope) hs)) λ ys e₂.
      first (limit-most most_columns line_of (gs ++ hs) λ w.
      groups (rw (← e, ← i) (omega (arith, length-append gs hs)))) λ u e₃.
      accepted)
      accepted

  projection-limit : (f : Stage) (is' : List Item) → f.scope ≡ (reads_of c q).groups → is' ≡ (reads_of c q).items
      → Refuses (build_projection f is' (later_of q)) (LimitOnly (Passed c q))
  unfolding build_projection project_items item_built any
  projection-limit f is' e i =
      let hs = (projected f.scope is' (later_of q)).columns in
      if-refuses (is_lone is') accepted
      (first (no-limit refl (each-refuses (λ j. first (build-any f.scope j.expr) λ x e₁. accepted) is')) λ xs e₁.
      first (limit-most (most_columns - length is') (λ (h : HiddenColumn). h.line) hs λ w.
      hidden (rw (← e, ← i) (omega arith))) λ u e₂.
      accepted)

  select-limits : Refuses (build_select c q) (LimitOnly (Passed c q))
  unfolding build_select reads_of any
  select-limits =
      first (only-weaken columns (clause-limit c q.from)) λ f e.
      let s : f.scope ≡ from_scope c q.from empty =
      (ensured (build_from_clause c q.from) _ (from_clause-laid c q.from) f e).scoped in
      let l : labels f.node ≡ f.scope.columns =
      ensured (build_from_clause c q.from) _ (from-labels c q.from) f e in
      let m : expanded_items q (labels f.node) ≡ (reads_of c q).items = rw (l, s) refl in
      first (items-limit f.node m) λ is' e₁.
      let i : is' ≡ (reads_of c q).items = ensured (build_items q f.node) _ (items-known q f.node) is' e₁ ∙ m in
      first (no-limit refl (where-among f q.filter)) λ w e₂.
      let t : w.scope ≡ (reads_of c q).from =
      ensured (build_where f q.filter) _ (where-scope f q.filter) w e₂ ∙ s in
      first (groups-limit w is' t i) λ a e₃.
      let fs = functions_of is' (later_of q) in
      let g : a.scope ≡ (reads_of c q).groups =
      ensured (build_groups w q.group fs) _ (group-scope w q.group fs) a e₃ ∙ rw (t, i) refl in
      first (projection-limit a is' g i) λ p e₄.
      first (no-limit refl (having-among p.node q.having p.scope)) λ h e₅.
      first (no-limit refl (order-among h q.order p.scope)) λ o e₆.
      first (no-limit refl (offset-among o q.offset)) λ n e₇.
      first (no-limit refl (limit-among n q.limit)) λ x e₈.
      accepted

  -- A SELECT is refused with 3 while it is planned only where one of the numbers is passed.
  pub limit-passed : (r : Refusal) → build_select c q ≡ refused r → r.reason ≡ limit_passed → Passed c q
  limit-passed = select-limits.refusal

  -- FROM's test is passed only where the whole FROM has more columns than a scope may
  pub from-passed : OnePast (from_widths c q.from empty) → most_columns < width (reads_of c q).from
  unfolding reads_of
  from-passed h = from-wide c q.from h
