-- WHERE and HAVING as steps: the cells of an expression, then a filter.
use Rattle.std.specs.Prelude.{ℕ, pred, ◌+◌, ◌-◌, ◌*◌, ◌≤◌, ◌<◌, ◌≡◌, Bool, true, false, List, [], ◌∷◌, ◌++◌, length, Ok, Err, Option, None, Some}
use Rattle.std.proofs.Math.Numerals.{sub-one}
use Rattle.std.proofs.Math.Path.{refl, ap}
use Rattle.std.proofs.Common.{◌∙◌}
use Rattle.std.proofs.Math.Bool.{not}
use Rattle.rules.specs.Refusals.{Refusal, Answer, ok, refused, ◌>>=◌}
use Rattle.rules.specs.Refusals.{having_without_aggregate}
use Rattle.rules.specs.Lists.{Bytes, is_empty, map_option}
use Rattle.rules.specs.Ast.{Expr, size}
use Rattle.rules.specs.Plan.{Built, Node}
use Rattle.rules.specs.Cells.{Cell}
use Rattle.rules.specs.Nodes.{NodeRecord, filter}
use Rattle.rules.specs.Area.{record_numbers}
use Rattle.rules.specs.BuildExpression.{build_option, clause_expr}
use Rattle.rules.specs.BuildSelect.{filtered, build_where, build_having}
use Rattle.rules.specs.Sizes.{option_size, clause_size}
use Rattle.appends.specs.Expressions.Emit.{emit}
use Rattle.appends.specs.Nodes.Lays.{Lays}
use Rattle.appends.specs.From.Laid.{stage_of}
use Rattle.appends.specs.Select.Filters.{where-step, where-refused, having-without, having-step, having-refused}
use Rattle.ast.specs.Table.{tree_at}
use Rattle.scope.specs.Scopes.{matches_of, scope_from}
use Rattle.statement.specs.EntryAccess.{clause_of}
use Rattle.statement.specs.declared.access.Clause.{Clause}
use Rattle.plan.specs.Cells.{Room}
use Rattle.plan.specs.Pushed.{Pushed, Kept, kept-all}
use Rattle.plan.specs.declared.nodes.Nodes.{Nodes}
use Rattle.plan.specs.Emits.{Emitting, Written, accepted}
use Rattle.plan.specs.Steps.{RefusedWith, refused-at, refused-on, emits-refused, Stands, stands_one, Lies, stage-lies, Stepped}
use Rattle.plan.specs.Steps.{node-lies, Steps, step-none, step-done, step-refused}
use Rattle.numbers.specs.Reasons.{named}
use Rattle.numbers.specs.declared.refusals.Reason.TheVariants as Re
use Rattle.numbers.specs.declared.refusals.Refusal as code
use Rattle.build_expression.specs.Rows.{emit-within}
use Rattle.build_expression.specs.Builds.{scope_at, Builds}

-- A FILTER by an expression whose cells are a
pub record Accepted (a : Emitting) (n m : ℕ) (area : List ℕ) (nodes : Nodes) (n' m' : ℕ) (area' : List ℕ) (nodes' : Nodes)
    : Type 0 where
  pub cells : List Cell
  pub is : a ≡ ok (cells, n')
  pub next : m' ≡ m + 1
  pub stands : Stands n area nodes cells (filter (pred m) (pred n') ∷ []) n' area' nodes'

unfoldable pub FilterAs : Emitting → ℕ → ℕ → List ℕ → Nodes → List ℕ → Nodes → Stepped → Type 0
FilterAs a n m area nodes area' nodes' (Ok s) = Accepted a n m area nodes s.cell s.node area' nodes'
FilterAs a n m area nodes area' nodes' (Err w) = RefusedWith a w

-- by the tree at row r, over the scope of labels xs, matches ms and tables ts, whatever is hidden
pub record Filtered (c q : Bytes) (t xs ms ts : List ℕ) (r n m : ℕ) (area : List ℕ) (nodes : Nodes) (area' : List ℕ)
    (nodes' : Nodes) (x : Stepped) : Type 0 where
  pub kept : length area' ≡ length area
  pub kept-nodes : Kept nodes nodes'
  pub is : (h : ℕ) → FilterAs (emit (scope_at c q t xs ms ts h) n (tree_at c q t r)) n m area nodes area' nodes' x

module _ {c q : Bytes} {t xs ms ts : List ℕ} {r n : ℕ} {area area' : List ℕ} {w : Written}
    (b : Builds c q t xs ms ts r n area area' w) where
  -- the next cell is behind the n-th
  pub built-some : (p : ℕ) → w ≡ Ok p → n < p
  built-some p e =
      let o = accepted p (b.is 0) e in
      (emit-within (scope_at c q t xs ms ts 0) n (tree_at c q t r) o.cells p o.is).some'

  pub filter-done : {m : ℕ} {nodes nodes' : Nodes} (p : ℕ) → w ≡ Ok p
      → Pushed (record_numbers (filter (m - 1) (p - 1))) nodes nodes'
      → Filtered c q t xs ms ts r n m area nodes area' nodes'
      (Ok (record { cell = p; node = m + 1 }))
  unfolding FilterAs
  filter-done {m} p e a = record {
    kept = (b.is 0).kept;
    kept-nodes = a.kept;
    is = λ h.
        let o = accepted p (b.is h) e in
        record {
          cells = o.cells;
          is = o.is;
          next = refl;
          stands = stands_one (filter (pred m) (pred p)) ((b.is h).cells o.cells p o.is)
              (rw (← sub-one m, ← sub-one p) a);
        };
  }

  pub filter-refused : {m : ℕ} {nodes : Nodes} (v : code.Refusal) → w ≡ Err v
      → Filtered c q t xs ms ts r n m area nodes area' nodes (Err v)
  unfolding FilterAs
  filter-refused v e = record {
    kept = (b.is 0).kept;
    kept-nodes = kept-all _;
    is = λ h. emits-refused v (b.is h) e;
  }

-- it is a step where its expression's cells and a filter are what the rule appends
module _ {B : Type 0} (view : Node Built → B) (a : Node Built → Answer B) (e : Emitting) {n m : ℕ}
    {area : List ℕ} {nodes : Nodes} {area' : List ℕ} {nodes' : Nodes} where
  filter_steps : ((d : Node Built) (cs : List Cell) (rs : List NodeRecord) → Lays 0 0 d cs rs n m
      → (ys : List Cell) (p : ℕ) → e ≡ ok (ys, p)
      → Lies view (a d) (cs ++ ys) (rs ++ (filter (pred m) (pred p) ∷ [])) p (m + 1))
      → ((d : Node Built) (cs : List Cell) (rs : List NodeRecord) → Lays 0 0 d cs rs n m
      → (w : Refusal) → e ≡ refused w → a d ≡ refused w)
      → length area' ≡ length area → Kept nodes nodes'
      → (x : Stepped) → FilterAs e n m area nodes area' nodes' x → Steps view a n m area nodes area' nodes' x
  unfolding FilterAs
  filter_steps f g u v (Ok s) y = step-done u v (record {
    cells = y.cells;
    records = filter (pred m) (pred s.cell) ∷ [];
    lies = λ d cs rs l. rw y.next (f d cs rs l y.cells s.cell y.is);
    stands = y.stands;
  })
  filter_steps f g u v (Err w) y = step-refused u v (λ d cs rs z. refused-on y (g d cs rs z))

-- the room of a clause's expression
pub clause-room : (c q : Bytes) (t : List ℕ) {w : Option Clause} {n : ℕ} {area : List ℕ} (clause : Clause) → w ≡ Some clause
    → Room n (3 * clause_size (clause_of c q t w)) area → Room n (3 * size (tree_at c q t clause.row)) area
unfolding clause_of clause_expr map_option clause_size option_size
clause-room c q t clause e h = rw e at h

-- WHERE
pub record WhereBuilt (c q : Bytes) (t : List ℕ) (w : Option Clause) (xs ms ts : List ℕ) (n m : ℕ)
    (area : List ℕ) (nodes : Nodes) (area' : List ℕ) (nodes' : Nodes) (x : Stepped) : Type 0 where
  pub is : (h : ℕ) → Steps (λ d. stage_of d (scope_at c q t xs ms ts h))
      (λ d. build_where (stage_of d (scope_at c q t xs ms ts h)) (clause_of c q t w)) n m area nodes area' nodes' x

module _ {c q : Bytes} {t : List ℕ} {w : Option Clause} {xs ms ts : List ℕ} {n m : ℕ} {area : List ℕ} {nodes : Nodes} where
  pub where-missing : w ≡ None → nodes.used ≤ length nodes.numbers.now
      → WhereBuilt c q t w xs ms ts n m area nodes area nodes (Ok (record { cell = n; node = m }))
  unfolding clause_of build_where clause_expr map_option build_option filtered ◌>>=◌
  where-missing e l = rw e (record { is = λ h. step-none l (λ d. refl) })

  pub where-stands : (clause : Clause) → w ≡ Some clause → {area' : List ℕ} {nodes' : Nodes} {x : Stepped}
      → Filtered c q t xs ms ts clause.row n m area nodes area' nodes' x
      → WhereBuilt c q t w xs ms ts n m area nodes area' nodes' x
  unfolding clause_of
  where-stands clause e {x = x} f = rw e (record {
    is = λ h.
        let s = scope_at c q t xs ms ts h in
        filter_steps (λ d. stage_of d s) _ (emit s n (tree_at c q t clause.row))
        (λ d cs rs y zs p g. stage-lies (where-step 0 0 d cs rs n m y _ s zs p g))
        (λ d cs rs y v g. where-refused 0 0 d cs rs n m y _ s v g)
        f.kept f.kept-nodes x (f.is h);
  })

-- HAVING
pub record HavingBuilt (c q : Bytes) (t : List ℕ) (w : Option Clause) (xs ms ts : List ℕ) (n m : ℕ)
    (area : List ℕ) (nodes : Nodes) (area' : List ℕ) (nodes' : Nodes) (x : Stepped) : Type 0 where
  pub is : (h : ℕ) → Steps (λ d. d) (λ d. build_having d (clause_of c q t w) (scope_at c q t xs ms ts h))
      n m area nodes area' nodes' x

not_back : (b d : Bool) → b ≡ not d → d ≡ not b
not_back true true e = e
not_back true false e = refl
not_back false true e = refl
not_back false false e = e

module _ {c q : Bytes} {t : List ℕ} {w : Option Clause} {xs ms ts : List ℕ} {n m : ℕ} {area : List ℕ} {nodes : Nodes} where
  pub having-missing : w ≡ None → nodes.used ≤ length nodes.numbers.now
      → HavingBuilt c q t w xs ms ts n m area nodes area nodes (Ok (record { cell = n; node = m }))
  unfolding clause_of build_having
  having-missing e l = rw e (record { is = λ h. step-none l (λ d. refl) })

  module _ (clause : Clause) (e : w ≡ Some clause) {b : Bool} (g : (f : ℕ → Expr) → b ≡ not (is_empty (matches_of f 0 ms))) where
    pub having-unmatched : b ≡ false → HavingBuilt c q t w xs ms ts n m area nodes area nodes
        (Err (record { reason = Re.HavingWithoutAggregate; line = clause.line }))
    unfolding clause_of scope_from named
    having-unmatched f =
        let u = not_back b (is_empty (matches_of (tree_at c q t) 0 ms)) (g (tree_at c q t)) in
        rw e (record {
          is = λ h. step-refused refl (kept-all _) (λ d cs rs z. refused-at having_without_aggregate clause.line Re.HavingWithoutAggregate clause.line
              (having-without 0 0 d cs rs n m z _ (scope_at c q t xs ms ts h) (u ∙ ap not f)) refl refl);
        })

    pub having-matched : b ≡ true → {area' : List ℕ} {nodes' : Nodes} {x : Stepped}
        → Filtered c q t xs ms ts clause.row n m area nodes area' nodes' x
        → HavingBuilt c q t w xs ms ts n m area nodes area' nodes' x
    unfolding clause_of scope_from
    having-matched y {x = x} f =
        let u = not_back b (is_empty (matches_of (tree_at c q t) 0 ms)) (g (tree_at c q t)) ∙ ap not y in
        rw e (record {
          is = λ h.
              let s = scope_at c q t xs ms ts h in
              filter_steps (λ d. d) _ (emit s n (tree_at c q t clause.row))
              (λ d cs rs z zs p v. node-lies (having-step 0 0 d cs rs n m z _ s zs p u v))
              (λ d cs rs z v j. having-refused 0 0 d cs rs n m z _ s v u j)
              f.kept f.kept-nodes x (f.is h);
        })
