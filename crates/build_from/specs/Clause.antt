-- The FROM clause: the room it takes and its contract, and the clause without items.
use Rattle.std.specs.Prelude.{ℕ, ◌*◌, ◌≤◌, ◌<◌, ◌≡◌, refl, length, Result, MatchResult, Ok}
use Rattle.std.proofs.Common.{arith}
use mathlib.Core.List.{List, [], ◌∷◌, append-nil}
use Rattle.rules.specs.Refusals.{ok}
use Rattle.rules.specs.Limits.{most_from_tables, least_area}
use Rattle.rules.specs.Lists.{Bytes, concat}
use Rattle.rules.specs.Ast.{From, Select, Statement}
use Rattle.rules.specs.Ast as Ast
use Rattle.rules.specs.Plan.{Built, Node, labels}
use Rattle.rules.specs.Nodes.{values}
use Rattle.rules.specs.Area.{sized, record_numbers}
use Rattle.rules.specs.BuildFrom.{build_from_clause}
use Rattle.rules.specs.Sizes.{total, from_size}
use Rattle.claims.specs.Answers.{All, ensured}
use Rattle.claims.specs.Reading.Limits.{from_tables}
use Rattle.claims.specs.Reading.Has.{FromHas}
use Rattle.claims.specs.Words.Within.{StatementName}
use Rattle.claims.specs.Within.{ExprWithin, TextsWithin, select-few, select-counts, select-parts}
use Rattle.claims.specs.Widths.Labels.{from-labels}
use Rattle.claims.specs.Refused.Qualified.{IsQualified, from-qualified}
use Rattle.claims.specs.Room.From.{FromFits}
use Rattle.appends.specs.Area.{cells_numbers}
use Rattle.appends.specs.From.Laid.{stage_of}
use Rattle.appends.specs.From.Clause.{from-none}
use Rattle.appends.specs.Room.Clauses.{room-from}
use Rattle.numbers.specs.declared.refusals.Refusal.{Refusal}
use Rattle.ast.specs.Table.{tree_at}
use Rattle.schema.specs.Layout.{catalog_at}
use Rattle.scope.specs.Labels.{columns_of}
use Rattle.scope.specs.Scopes.{scope_of, scope_from, labels_of, table_numbers, Valid, Plain}
use Rattle.scope.specs.New.{New}
use Rattle.scope.specs.declared.Scope.{Scope}
use Rattle.plan.specs.Layout.{nodes_size}
use Rattle.plan.specs.Pushed.{Kept, Pushed}
use Rattle.plan.specs.declared.nodes.Nodes.{Nodes}
use Rattle.plan.specs.Cells.{Room}
use Rattle.plan.specs.Steps.{RefusedWith, stands_one, Standing}
use Rattle.stage.specs.declared.Stage.{Stage}

-- ROOM
-- the catalog's numbers ts stand for tables that were read, the items fs are of the statement that was, and there is room
-- for them
pub record ClauseRoom (c q : Bytes) (ts : List ℕ) (fs : List From) (area : List ℕ) (nodes : Nodes) : Type 0 where
  pub statement : Statement
  pub within : TextsWithin c q (catalog_at c q ts) statement
  pub parts : All (FromHas (ExprWithin c q) (StatementName c q)) fs
  pub tables : total from_tables fs ≤ most_from_tables
  pub cells : Room 0 (3 * total from_size fs) area
  pub numbers : FromFits fs (length nodes.numbers.now)
  pub most : length nodes.numbers.now ≤ nodes_size
  pub none : nodes.used ≡ 0

-- a SELECT that was read has room for its FROM
pub clause-room : {c q : Bytes} {ts : List ℕ} {fs : List From} {area : List ℕ} {nodes : Nodes} (d : Select)
    → TextsWithin c q (catalog_at c q ts) (Ast.select d) → d.from ≡ fs → least_area ≤ length area
    → FromFits d.from (length nodes.numbers.now) → length nodes.numbers.now ≤ nodes_size → nodes.used ≡ 0
    → ClauseRoom c q ts fs area nodes
clause-room {c} {q} {ts} {fs} d h e a n l z =
    let m : 3 * total from_size fs ≤ _ = rw e at (room-from (catalog_at c q ts) d (select-few h)) in
    record {
      statement = Ast.select d;
      within = h;
      parts = rw e at (select-parts h).from;
      tables = rw e at (select-counts h).from;
      cells = record { counted = omega (arith, m); held = omega (arith, m, a) };
      numbers = rw e at n;
      most = l;
      none = z;
    }

-- THE CONTRACT
-- accepted: the clause's scope, and its node from the first cell on, whose labels are the scope's
pub record ClauseAccepted (c q : Bytes) (ts cells : List ℕ) (fs : List From) (area : List ℕ) (nodes : Nodes)
    (area' : List ℕ) (nodes' : Nodes) (x : Stage) : Type 0 where
  pub valid : Valid x.scope
  pub plain : Plain x.scope
  pub count : x.scope.count ≤ most_from_tables
  pub some : 0 < x.at.node
  pub few : x.at.node ≤ nodes'.used
  pub node : Node Built
  pub is : build_from_clause (catalog_at c q ts) fs ≡ ok (stage_of node (scope_of (tree_at c q cells) c q x.scope))
  pub standing : Standing node x.at.cell x.at.node area nodes area' nodes'
  pub labelled : labels node ≡ columns_of c q (table_numbers x.scope) (labels_of x.scope)
  pub qualified : All IsQualified (columns_of c q (table_numbers x.scope) (labels_of x.scope))

pub record ClauseBuilds (c q : Bytes) (ts cells : List ℕ) (fs : List From) (area : List ℕ) (nodes : Nodes)
    (area' : List ℕ) (nodes' : Nodes) (r : Result Stage Refusal) : Type 0 where
  pub kept : length area' ≡ length area
  pub kept-nodes : Kept nodes nodes'
  pub is : MatchResult r (ClauseAccepted c q ts cells fs area nodes area' nodes')
      (RefusedWith (build_from_clause (catalog_at c q ts) fs))

-- the labels of the node of an accepted clause
module _ (c q : Bytes) (ts cells : List ℕ) (fs : List From) (s : Scope) (d : Node Built)
    (h : build_from_clause (catalog_at c q ts) fs ≡ ok (stage_of d (scope_of (tree_at c q cells) c q s))) where
  pub clause-labels : labels d ≡ columns_of c q (table_numbers s) (labels_of s)
  unfolding scope_of scope_from
  clause-labels = ensured (build_from_clause (catalog_at c q ts) fs) _ (from-labels (catalog_at c q ts) fs) _ h

  pub clause-qualified : All IsQualified (columns_of c q (table_numbers s) (labels_of s))
  unfolding scope_of scope_from
  clause-qualified = ensured (build_from_clause (catalog_at c q ts) fs) _ (from-qualified (catalog_at c q ts) fs) _ h

-- NO ITEMS
pub clause-none : (c q : Bytes) (ts cells area : List ℕ) {nodes nodes' : Nodes} {s : Scope} → New s → nodes.used ≡ 0
    → Pushed (record_numbers (values ([] ∷ []))) nodes nodes'
    → ClauseBuilds c q ts cells [] area nodes area nodes'
    (Ok (record { scope = s; at = record { cell = 0; node = 1 } }))
unfolding cells_numbers concat
clause-none c q ts cells area {s = x} s z a =
    let o = from-none (catalog_at c q ts) 0 0 in
    let is : build_from_clause (catalog_at c q ts) [] ≡ ok (stage_of o.node (scope_of (tree_at c q cells) c q x)) =
    rw (s.is (tree_at c q cells) c q) o.answer in
    let n : 1 ≤ length (record_numbers (values ([] ∷ []))) = unfold record_numbers sized in (omega arith) in
    record {
      kept = refl;
      kept-nodes = a.kept;
      is = record {
        valid = s.valid;
        plain = s.plain;
        count = s.valid.tables;
        some = omega arith;
        few = omega (arith, n, a.appended.next);
        node = o.node;
        is = is;
        standing = record {
          cells = [];
          records = values ([] ∷ []) ∷ [];
          lays = o.lays;
          none = z;
          stands = stands_one _ (rw append-nil) a;
          kept = refl;
        };
        labelled = clause-labels c q ts cells [] x o.node is;
        qualified = clause-qualified c q ts cells [] x o.node is;
      };
    }
