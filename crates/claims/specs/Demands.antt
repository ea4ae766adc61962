-- The three demands, sentence by sentence, as theorems about the rules: for all texts, catalogs, statements and areas.
-- docs/DEMANDS.md is the page for people.
use Rattle.std.specs.Prelude.{ℕ, ◌+◌, ◌*◌, ◌-◌, ◌^◌, ◌≤◌, ◌<◌, ◌≡◌, refl, true, ◌↔◌, ◌⊎◌, List, [], length, drop, replicate}
use Rattle.std.proofs.Common.{sym, ◌∙◌, inl}
use Rattle.std.proofs.Math.Logic.{inr}
use Rattle.std.proofs.Math.Option.{some}
use Rattle.rules.specs.Refusals.{statement, limit_passed, refusal_number, Refusal, Answer, ok, refused}
use Rattle.rules.specs.Limits.{most_bytes, most_cells, least_area}
use Rattle.rules.specs.Lists.{Bytes}
use Rattle.rules.specs.Schema.{Catalog}
use Rattle.rules.specs.Ast.{Expr, From, Item, Select, Statement}
use Rattle.rules.specs.Ast as Ast
use Rattle.rules.specs.Equality.{equal}
use Rattle.rules.specs.ReadCatalog.{read_catalog}
use Rattle.rules.specs.ReadStatement.{read_statement}
use Rattle.rules.specs.Evaluate.{evaluate}
use Rattle.rules.specs.Plan.{Built, Expression, Plan, map_plan, desugar, desugar_plan, labels}
use Rattle.rules.specs.Scope.{Scope, empty}
use Rattle.rules.specs.BuildExpression.{build}
use Rattle.rules.specs.BuildAggregate.{retain_functions}
use Rattle.rules.specs.BuildFrom.{build_from_clause}
use Rattle.rules.specs.BuildSelect.{functions_of, build_select}
use Rattle.rules.specs.BuildStatement.{build_statement}
use Rattle.rules.specs.Cells.{Cell, cells_all, roots, plan_expressions, plan_cells, number_plan}
use Rattle.rules.specs.Sizes.{select_size, statement_size}
use Rattle.rules.specs.Count.{count_select, starred, bound_select}
use Rattle.rules.specs.Area.{plan_numbers}
use Rattle.rules.specs.Entry.{plan_of, entry, outcome, text_number, plan}
use Rattle.claims.specs.Answers.{Ensures, ensured, weaken, All}
use Rattle.claims.specs.Widths.Bounded.{PlanBounded}
use Rattle.claims.specs.Widths.Desugared.{plan-desugared}
use Rattle.claims.specs.Widths.Statements.{plan-bounded}
use Rattle.claims.specs.Widths.Positions.{PositionsInside}
use Rattle.claims.specs.Widths.Positions as Positions
use Rattle.claims.specs.Widths.ColumnOrder.{from_labels}
use Rattle.claims.specs.Widths.ColumnOrder as ColumnOrder
use Rattle.claims.specs.Cells.Unfold.{tree, unfolded}
use Rattle.claims.specs.Cells.UnfoldPlan.{unfolds}
use Rattle.claims.specs.Cells.Numbers.{NumberOf}
use Rattle.claims.specs.Cells.Reach.{Reached, reached-all, reach-count}
use Rattle.claims.specs.Cells.Roots.{roots-plan}
use Rattle.claims.specs.Cells.Sharing.{SharedOnly, shared-only}
use Rattle.claims.specs.Order.Select.{InOrder, in_order}
use Rattle.claims.specs.Count.Select.{select-count}
use Rattle.claims.specs.Count.Bound.{select-bound}
use Rattle.claims.specs.Reading.Limits.{statement-limited, expression_cells, expression-cells}
use Rattle.claims.specs.Room.Statements.{room}
use Rattle.claims.specs.Numbers32.Plan.{numbers_fit}
use Rattle.claims.specs.Area.ReadPlan.{read_plan}
use Rattle.claims.specs.Area.AreaDemand.{ReadsBack, area-demand, area-length}
use Rattle.claims.specs.Area.AreaExit as Exit
use Rattle.claims.specs.Area.Accepted.{accepted, entry-built}
use Rattle.claims.specs.Form.Kept.{Form, plan-form}
use Rattle.claims.specs.Refused.Refuses.{Refuses, Has, Among}
use Rattle.claims.specs.Refused.Entry.{Cause, entry-refusals, possible, statement-refusals}
use Rattle.claims.specs.Refused.Select.{select-refusals}
use Rattle.claims.specs.Refused.Limits.{Passed, limit-passed}
use Rattle.claims.specs.Refused.Qualified.{IsQualified}
use Rattle.claims.specs.Refused.Qualified as Qualified
use Rattle.claims.specs.Values.Constant.{evaluate_built, lineless}
use Rattle.claims.specs.Values.Constant as Constant
use Rattle.claims.specs.Values.Impossible.{IsAggregateCall, function-calls}
use Rattle.claims.specs.Values.Equality.{bare, equal-bare}

-- The plan that cells and the numbers in its nodes stand for.
abbrev pub unfolded_plan : List Cell → Plan ℕ → Plan Expression
unfolded_plan cs p = map_plan (tree (unfolded [] cs)) p

-- DEMAND 1: SAFE
-- "No plan holds a column number at or past the width of the rows its expression reads."
pub column-numbers : (c q : Bytes) → Ensures (plan_of c q) (λ p. PlanBounded (unfolded_plan (plan_cells p) (number_plan p)))
column-numbers c q = weaken (plan_of c q) PlanBounded _ (λ p h. rw (unfolds p) (plan-desugared p h)) (plan-bounded c q)

-- Nor a position past its table: INSERT's map, UPDATE's sets and every key lie inside.
pub positions-inside : (c q : Bytes) → Ensures (plan_of c q) PositionsInside
positions-inside c q = Positions.positions-inside c q

-- "A faulty line, a passed limit or a short area is refused by number and line": every refusal has one of these causes.
pub causes : (n : ℕ) (c q : Bytes) → Refuses (entry n c q) (Cause n c q)
causes n c q = entry-refusals n c q

-- "The area is then all zero ..
pub zero-after-refusal : (c q : Bytes) (a : List ℕ) (r : Refusal) → entry (length a) c q ≡ refused r → least_area ≤ length a
    → (plan c q a).area ≡ replicate (length a) 0
zero-after-refusal c q a r e h = Exit.zero-after-refusal c q a r e h

-- .. or for a short area untouched" (1, statement, line 0).
pub untouched-when-short : (c q : Bytes) (a : List ℕ) → length a < least_area
    → plan c q a ≡ record { number = 1; text = 2; line = 0; count = 0; area = a }
untouched-when-short c q a h = Exit.untouched-when-short c q a h

-- Behind a plan it is zero ..
pub zero-behind-plan : (c q : Bytes) (a : List ℕ) (p : Plan Built) → entry (length a) c q ≡ ok p
    → drop (length (plan_numbers p)) (plan c q a).area ≡ replicate (length a - length (plan_numbers p)) 0
zero-behind-plan c q a p e = Exit.zero-behind-plan c q a p e

-- .. and what it held before changes nothing.
pub same_outcome : (c q : Bytes) (a b : List ℕ) → length a ≡ length b → least_area ≤ length a → plan c q a ≡ plan c q b
same_outcome c q a b e h = Exit.same_outcome c q a b e h

-- It keeps its length; every plan's numbers fit in the least one, and in 32 bits each.
pub same_length : (c q : Bytes) (a : List ℕ) → length (plan c q a).area ≡ length a
same_length c q a = area-length c q a

pub enough-room : (c q : Bytes) → Ensures (plan_of c q) (λ p. length (plan_numbers p) ≤ least_area)
enough-room c q = room c q

pub narrow : (c q : Bytes) → length c ≤ most_bytes → length q ≤ most_bytes
    → Ensures (plan_of c q) (λ p. All (λ n. n < 2 ^ 32) (plan_numbers p))
narrow c q hc hq = numbers_fit c q hc hq

-- DEMAND 2: EQUAL
-- The cells, unfolded, are the Rust's tree, for every statement.
pub rust-tree : (p : Plan Built) → unfolded_plan (plan_cells p) (number_plan p) ≡ desugar_plan p
rust-tree p = unfolds p

-- A constant worked out from the statement's expression is what working out the built expression gives.
pub constant-built : (e : Expr) (x : Built) → build empty e ≡ ok x → lineless (evaluate e) ≡ evaluate_built (desugar x)
constant-built e x h = Constant.constant-built e x h

-- FROM's labels are all qualified, so a star never meets a nameless column.
pub from-qualified : (c : Catalog) (fs : List From)
    → Ensures (build_from_clause c fs) (λ f. All IsQualified f.scope.columns)
from-qualified c fs = Qualified.from-qualified c fs

-- Its columns stand in the statement's order, whatever the order in which a join's sides are built.
pub from-in-order : (c : Catalog) (fs : List From) → Ensures (build_from_clause c fs) (λ f. labels f.node ≡ from_labels c fs)
from-in-order c fs = ColumnOrder.from-in-order c fs

-- build_aggregate_function is asked for calls of aggregates only: its panic does not arise.
pub only-aggregates : (s : Scope) (gs : List Expr) (is' : List Item) (later : List Expr)
    → All IsAggregateCall (retain_functions s gs (functions_of is' later)).exprs
only-aggregates s gs is' later = function-calls s gs is' later

-- Expressions match by equality of the trees without lines and places, floats by bits.
pub matching : (a b : Expr) → (equal a b ≡ true) ↔ (bare a ≡ bare b)
matching a b = equal-bare a b

-- REFUSED ONLY WHERE DOCUMENT 01 REFUSES
-- Planning refuses each statement with the numbers of its own list only, in the statement (Refused/Arises has an example of
-- each) ..
pub reasons : (c : Catalog) (s : Statement) → Refuses (build_statement c s) (Among statement (possible s))
reasons c s = statement-refusals c s

-- .. and with 3 only where a number is really passed.
pub limits-passed : (c : Catalog) (q : Select) (r : Refusal) → build_select c q ≡ refused r → r.reason ≡ limit_passed → Passed c q
limits-passed c q r e h = limit-passed c q r e h

-- THE AREA READ BACK
-- Where the entry accepts, the whole area, read back by numbers of docs/PLAN.md, gives exactly the plan and its cells, of all
-- six statements, and the entry reports as many ..
pub area-reads-back : (c q : Bytes) (a : List ℕ) (p : Plan Built) → entry (length a) c q ≡ ok p → ReadsBack c q a p
area-reads-back c q a p h = area-demand c q a p h

-- .. and what is read back has the form that docs/PLAN.md promises its readers.
pub form-kept : (c q : Bytes) (p : Plan Built) → plan_of c q ≡ ok p → Form (plan_cells p) (number_plan p)
form-kept c q p h = plan-form c q p h

-- DEMAND 3: EXACT AND BOUNDED
-- A SELECT that is planned
pub record Planned (c q : Bytes) (a : List ℕ) (ts : Catalog) (s : Select) : Type 0 where
  pub resolved : Plan Built
  pub planned : build_select ts s ≡ ok resolved
  pub number : (plan c q a).number ≡ 0
  -- what the area holds, read back whole
  pub cells : List Cell
  pub read : Plan ℕ
  pub contents : read_plan c q ts (plan c q a).area ≡ some (cells, read)
  -- "its reported cell count equals document 01's count for statement and catalog,
  pub count : (plan c q a).count ≡ count_select ts s
  -- equals the number of cells its nodes reach (each counted once), the area holds no others,
  pub reached : NumberOf (Reached cells (plan_expressions read)) (count_select ts s)
  pub no_other : length cells ≡ count_select ts s
  pub each-reached : (i : ℕ) → i < length cells → Reached cells (plan_expressions read) i
  -- and it is at most 4 × the statement's expression cells + one for each column that each star expands to;
  pub expressions : expression_cells q ≡ ok (select_size s)
  pub limited : select_size s ≤ most_cells
  pub bounded : count_select ts s ≤ 4 * select_size s + starred ts s
  -- cells stand in document 01's order,
  pub in_order : InOrder ts s resolved
  pub laid : cells ≡ cells_all 0 (plan_expressions resolved)
  pub rooted : plan_expressions read ≡ roots 0 (plan_expressions resolved)
  pub form : Form cells read
  -- shared only where it says;
  pub shared : SharedOnly resolved
  -- unfolded, the plan is the rules' tree."
  pub unfolds : unfolded_plan cells read ≡ desugar_plan resolved

-- and one that is refused, with a number of its list, its area zero
pub record NotPlanned (c q : Bytes) (a : List ℕ) (ts : Catalog) (s : Select) : Type 0 where
  pub refusal : Refusal
  pub refuses : build_select ts s ≡ refused refusal
  pub number : (plan c q a).number ≡ refusal_number refusal.reason
  pub listed : Has (possible (Ast.select s)) (refusal_number refusal.reason)
  pub passed : refusal.reason ≡ limit_passed → Passed ts s
  pub line : ((plan c q a).text ≡ text_number statement) × ((plan c q a).line ≡ refusal.line)
  pub count : (plan c q a).count ≡ 0
  pub zero : (plan c q a).area ≡ replicate (length a) 0

-- "For every statement and catalog, whatever the area held before: each SELECT that document 01 refuses nowhere is planned."
pub demand-3 : (c q : Bytes) (a : List ℕ) (ts : Catalog) (s : Select) → least_area ≤ length a → length c ≤ most_bytes
    → length q ≤ most_bytes → read_catalog c ≡ ok ts → read_statement q ≡ ok (Ast.select s)
    → Planned c q a ts s ⊎ NotPlanned c q a ts s
unfolding plan outcome possible statement_size build_statement bound_select
demand-3 c q a ts s ha hc hq ht hs = go (build_select ts s) refl
  where
    same_answer : (x y : Catalog) → ◌≡◌ {A = Answer Catalog} (ok x) (ok y) → x ≡ y
    same_answer x y e = cc

    entered : (m : Answer (Plan Built)) → build_select ts s ≡ m → entry (length a) c q ≡ m
    entered m e = entry-built (length a) c q ts (Ast.select s) ha hc hq ht hs ∙ e

    go : (m : Answer (Plan Built)) → build_select ts s ≡ m → Planned c q a ts s ⊎ NotPlanned c q a ts s
    go (ok p) e =
        let h = area-reads-back c q a p (entered (ok p) e) in
        let k = ensured (build_select ts s) _ (select-count ts s) p e in
        inl (record {
          resolved = p;
          planned = e;
          number = rw (entered (ok p) e);
          cells = plan_cells p;
          read = number_plan p;
          contents = let t : h.tables ≡ ts = same_answer _ _ (sym h.catalog ∙ ht) in rw t at h.contents;
          count = h.count ∙ k;
          reached = rw k at (reach-count p);
          no_other = k;
          each-reached = reached-all p;
          expressions = expression-cells q (Ast.select s) hs;
          limited = (ensured (read_statement q) _ (statement-limited q) (Ast.select s) hs).0;
          bounded = ensured (build_select ts s) _ (select-bound ts s) p e;
          in_order = ensured (build_select ts s) (InOrder ts s) (in_order ts s) p e;
          laid = unfold plan_cells in refl;
          rooted = roots-plan p;
          form = form-kept c q p (accepted (length a) c q p (entered (ok p) e)).planned;
          shared = shared-only p;
          unfolds = rust-tree p;
        })
    go (refused r) e =
        let h = (select-refusals ts s).refusal r e in
        inr (record {
          refusal = r;
          refuses = e;
          number = rw (entered (refused r) e);
          listed = h.number;
          passed = limits-passed ts s r e;
          line = (rw (entered (refused r) e, h.text), rw (entered (refused r) e));
          count = rw (entered (refused r) e);
          zero = zero-after-refusal c q a r (entered (refused r) e) ha;
        })
