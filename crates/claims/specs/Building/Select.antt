-- The plan of a SELECT has what its literals and names have.
use Rattle.std.specs.Prelude.{ℕ, zero, suc, ◌+◌, ◌-◌, ◌≤◌, eqb, pos, negsuc}
use Rattle.std.proofs.Common.{arith}
use mathlib.Core.List.{List, [], ◌∷◌, ◌++◌, map}
use Rattle.std.proofs.Math.Option.{Option, none, some}
use Rattle.std.proofs.Math.ListN.{length}
use Rattle.rules.specs.Refusals.{Reason, refuse_if, at_most, having_without_aggregate, invalid_offset, invalid_limit}
use Rattle.rules.specs.Lists.{any, is_empty, map_option, given}
use Rattle.rules.specs.Lines.{Word}
use Rattle.rules.specs.Schema.{Value, null, bool, int, float, text, Catalog}
use Rattle.rules.specs.Ast.{Expr, Item, Key, Clause, Select}
use Rattle.rules.specs.Plan.{Built, Node, target_count, Label, nameless, unqualified, qualified, labels, column_count}
use Rattle.rules.specs.Plan as P
use Rattle.rules.specs.Scope.{Scope, width, targets_from}
use Rattle.rules.specs.BuildExpression.{build, each, build_option, clause_expr, constant}
use Rattle.rules.specs.BuildAggregate.{build_groups}
use Rattle.rules.specs.BuildFrom.{build_from_clause}
use Rattle.rules.specs.Views.{as_star}
use Rattle.rules.specs.Items.{plain_star, is_lone, starred_column, expand_stars, stars_expand, expanded_items, stars_have_columns, build_items}
use Rattle.rules.specs.Hidden.{HiddenColumn, projected}
use Rattle.rules.specs.Stage.{Stage}
use Rattle.rules.specs.Limits.{most_columns}
use Rattle.rules.specs.BuildSelect.{filtered, build_where, later_of, functions_of, item_built, hidden_built, project_items, build_projection}
use Rattle.rules.specs.BuildSelect.{build_having, key_built, build_order, natural, build_rows, build_remap, build_select}
use Rattle.claims.specs.Answers.{Ensures, then, refusing, past, All, Given, all_append, all_map, each_from}
use Rattle.claims.specs.Cases.{either_way, tested}
use Rattle.claims.specs.Lists.{all-mapped, given-all}
use Rattle.claims.specs.Widths.SelectStages.{targets-length, remapped}
use Rattle.claims.specs.Values.Outcomes.{Kept}
use Rattle.claims.specs.Form.Targets.{hidden-once}
use Rattle.claims.specs.Reading.Has.{ExprHas, SelectHas, Literals}
use Rattle.claims.specs.Building.Has.{TreeHas, NodeHas, PlanHas}
use Rattle.claims.specs.Building.Expressions.{build-has, option-has, constant-has}
use Rattle.claims.specs.Building.From.{from_clause-has}
use Rattle.claims.specs.Building.Groups.{collect_each-has, groups-have}

-- no more targets than columns
targets-most : (hs : List ℕ) (n i t : ℕ) → target_count (targets_from hs n i t) ≤ t + n
unfolding targets_from target_count
targets-most hs zero i t = omega arith
targets-most hs (suc n) i t = either_way (λ ts. target_count ts ≤ t + suc n) (any (eqb i) hs) _ _ (omega (arith, targets-most hs n (suc i) t)) (omega (arith, targets-most hs n (suc i) (suc t)))

module _ {Q : Value → Type 0} (k : Kept Q) (N : Word → Type 0) (c : Catalog) where
  -- of a node
  abbrev Holds : Node Built → Type 0
  Holds n = NodeHas Q N c n

  -- ITEMS
  abbrev ItemHas : Item → Type 0
  ItemHas i = Literals Q i.expr × Given N i.alias

  starred-has : (l : ℕ) (x : Label) → ItemHas (starred_column l x)
  unfolding starred_column ExprHas Given
  starred-has l nameless = ((tt, tt), tt)
  starred-has l (unqualified n) = ((tt, tt), tt)
  starred-has l (qualified q n) = ((tt, tt), tt)

  expand-has : (ls : List Label) (is' : List Item) → All ItemHas is' → All ItemHas (expand_stars ls is')
  unfolding expand_stars All
  expand-has ls [] h = tt
  expand-has ls (i ∷ is') h = go (as_star i.expr) (expand-has ls is' h.1)
    where
      go : (o : Option ℕ) → All ItemHas (expand_stars ls is') → All ItemHas (elim o [ some l ↦ map (starred_column l) ls ++ expand_stars ls is' | none ↦ i ∷ expand_stars ls is' ])
      go none g = (h.0, g)
      go (some l) g = all_append ItemHas (map (starred_column l) ls) _ (all-mapped ItemHas (starred_column l) (starred-has l) ls) g

  items-have : (q : Select) (n : Node Built) → All ItemHas q.items → Ensures (build_items q n) (All ItemHas)
  unfolding build_items expanded_items
  items-have q n h =
      past (stars_have_columns (plain_star q.items) (column_count n)) _ _ λ u.
      past (at_most most_columns (λ (i : Item). i.line) (expanded_items q (labels n))) _ _ λ w.
      either_way (All ItemHas) (stars_expand q) _ _ (expand-has (labels n) q.items h) h

  -- STAGES
  filtered-has : (n : Node Built) (x : Option Built) → Holds n → Given (TreeHas Q) x → Holds (filtered n x)
  unfolding filtered NodeHas Given
  filtered-has n none h g = h
  filtered-has n (some x) h g = (h, g)

  where-has : (f : Stage) (d : Option Clause) → Holds f.node → Given (Literals Q) (clause_expr d)
      → Ensures (build_where f d) (λ r. Holds r.node)
  unfolding build_where
  where-has f d h g = then (build_option f.scope (clause_expr d)) _ _ _ (option-has Q f.scope (clause_expr d) g) λ x m.
      filtered-has f.node x h m

  item-has : (s : Scope) (i : Item) → ItemHas i → Ensures (item_built s i) (λ x. TreeHas Q x.0 × Given N x.1)
  unfolding item_built
  item-has s i h = then (build s i.expr) _ _ _ (build-has Q s i.expr h.0) λ x g. (g, h.1)

  hidden-has : (x : HiddenColumn) → TreeHas Q (hidden_built x).0 × Given N (hidden_built x).1
  unfolding hidden_built TreeHas Given
  hidden-has x = (tt, tt)

  projection-has : (f : Stage) (is' : List Item) (later : List Expr) → Holds f.node → All ItemHas is'
      → Ensures (build_projection f is' later) (λ r. Holds r.node)
  unfolding build_projection project_items NodeHas
  projection-has f is' later h g =
      let s = f.scope in
      let cs = (projected s is' later).columns in
      tested (is_lone is') _ _ _ h
      (then (each (item_built s) is') _ _ _ (each_from (item_built s) ItemHas _ (item-has s) is' g) λ xs m.
      past (at_most (most_columns - length is') (λ (c : HiddenColumn). c.line) cs) _ _ λ u.
      (h, all_append _ xs (map hidden_built cs) m.0 (all-mapped _ hidden_built hidden-has cs)))

  having-has : (n : Node Built) (d : Option Clause) (s : Scope) → Holds n → Given (Literals Q) (clause_expr d)
      → Ensures (build_having n d s) Holds
  unfolding build_having NodeHas clause_expr map_option Given
  having-has n none s h g = h
  having-has n (some d) s h g = past (refuse_if (is_empty s.aggregates) having_without_aggregate d.line) _ _ λ u.
      then (build s d.expr) _ _ Holds (build-has Q s d.expr g) λ x m. (h, m)

  key_has : (s : Scope) (j : Key) → Literals Q j.expr → Ensures (key_built s j) (λ x. TreeHas Q x.0)
  unfolding key_built
  key_has s j h = then (build s j.expr) _ _ _ (build-has Q s j.expr h) λ x g. g

  order-has : (n : Node Built) (ks : List Key) (s : Scope) → Holds n → All (λ j. Literals Q j.expr) ks → Ensures (build_order n ks s) Holds
  unfolding build_order NodeHas
  order-has n [] s h g = h
  order-has n (x ∷ xs) s h g = then (each (key_built s) (x ∷ xs)) _ _ Holds (each_from (key_built s) _ _ (key_has s) (x ∷ xs) g) λ ys m. (h, m.0)

  natural-has : (r : Reason) (l : ℕ) (v : Value) → Q v → Ensures (natural r l v) (λ n. Q (int (pos n)))
  unfolding natural
  natural-has r l null h = refusing r l _
  natural-has r l (bool b) h = refusing r l _
  natural-has r l (int (pos n)) h = h
  natural-has r l (int (negsuc n)) h = refusing r l _
  natural-has r l (float b) h = refusing r l _
  natural-has r l (text w) h = refusing r l _

  rows-have : (r : Reason) (f : ℕ → Node Built → Node Built) → ((m : ℕ) (n : Node Built) → Holds n → Q (int (pos m)) → Holds (f m n))
      → (n : Node Built) (d : Option Clause) → Holds n → Given (Literals Q) (clause_expr d) → Ensures (build_rows r f n d) Holds
  unfolding build_rows clause_expr map_option Given
  rows-have r f g n none h e = h
  rows-have r f g n (some d) h e =
      then (constant d.expr) _ _ _ (constant-has k d.expr e) λ v q.
      then (natural r d.line v) _ _ _ (natural-has r d.line v q) λ m q. g m n h q

  remap-has : (n : Node Built) (s : Scope) → Holds n → Holds (build_remap n s)
  unfolding NodeHas
  remap-has n s h = remapped Holds n s h
      (h, omega (arith, targets-most s.hidden (width s) 0 0, targets-length s.hidden (width s) 0 0), hidden-once s.hidden (width s))

  -- the plan of a SELECT
  pub select_has : (q : Select) → SelectHas (Literals Q) N q → Ensures (build_select c q) (PlanHas Q N c)
  unfolding build_select functions_of later_of PlanHas NodeHas
  select_has q h =
      let later = all_append (Literals Q) (given (clause_expr q.having)) (map (λ (j : Key). j.expr) q.order) (given-all (Literals Q) _ h.having) (all_map (Literals Q) (λ (j : Key). j.expr) _ (λ j g. g) q.order h.order) in
      then (build_from_clause c q.from) _ _ _ (from_clause-has Q N c q.from h.from) λ f a₀.
      then (build_items q f.node) _ _ _ (items-have q f.node h.items) λ is' a₁.
      then (build_where f q.filter) _ _ _ (where-has f q.filter a₀ h.filter) λ w a₂.
      then (build_groups w q.group (functions_of is' (later_of q))) _ _ _
      (groups-have k N c w q.group (functions_of is' (later_of q)) a₂ h.group
      (collect_each-has Q _ (all_append (Literals Q) (map (λ (i : Item). i.expr) is') (later_of q)
      (all_map (Literals Q) (λ (i : Item). i.expr) ItemHas (λ i g. g.0) is' a₁) later))) λ a a₃.
      then (build_projection a is' (later_of q)) _ _ _ (projection-has a is' (later_of q) a₃ a₁) λ p a₄.
      then (build_having p.node q.having p.scope) _ _ _ (having-has p.node q.having p.scope a₄ h.having) λ n a₅.
      then (build_order n q.order p.scope) _ _ _ (order-has n q.order p.scope a₅ h.order) λ o a₆.
      then (build_rows invalid_offset (λ k m. P.offset m k) o q.offset) _ _ _
      (rows-have invalid_offset (λ k m. P.offset m k) (λ k m g l. (g, l)) o q.offset a₆ h.offset) λ n a₇.
      then (build_rows invalid_limit (λ k m. P.limit m k) n q.limit) _ _ _
      (rows-have invalid_limit (λ k m. P.limit m k) (λ k m g l. (g, l)) n q.limit a₇ h.limit) λ m a₈.
      remap-has m p.scope a₈
