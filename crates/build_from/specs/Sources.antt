-- The contract of building a FROM item: what it refuses, or the scope, cells and node records that it is; and the room
-- that it takes.
use Rattle.std.specs.Prelude.{ℕ, ◌+◌, ◌*◌, ◌≤◌, ◌<◌, ◌≡◌, List, length, Result, MatchResult}
use Rattle.rules.specs.Refusals.{Answer}
use Rattle.rules.specs.Limits.{most_from_tables}
use Rattle.rules.specs.Lists.{Bytes}
use Rattle.rules.specs.Ast.{From, Statement}
use Rattle.rules.specs.Cells.{Cell}
use Rattle.rules.specs.Nodes.{NodeRecord}
use Rattle.rules.specs.Scope as rules
use Rattle.rules.specs.BuildFrom as building
use Rattle.rules.specs.Sizes.{from_size}
use Rattle.claims.specs.Reading.Limits.{from_tables}
use Rattle.claims.specs.Reading.Has.{FromHas}
use Rattle.claims.specs.Words.Within.{StatementName}
use Rattle.claims.specs.Within.{ExprWithin, TextsWithin}
use Rattle.claims.specs.Room.Nodes.{table_room, join_room}
use Rattle.appends.specs.From.Laid.{SourceLaid}
use Rattle.numbers.specs.declared.refusals.Refusal.{Refusal}
use Rattle.ast.specs.Table.{tree_at}
use Rattle.schema.specs.Layout.{catalog_at}
use Rattle.scope.specs.Scopes.{scope_of, Valid, Plain}
use Rattle.plan.specs.Layout.{nodes_size}
use Rattle.plan.specs.Cells.{Room}
use Rattle.plan.specs.Pushed.{Kept}
use Rattle.plan.specs.declared.nodes.Nodes.{Nodes}
use Rattle.plan.specs.declared.steps.Step.{Step}
use Rattle.plan.specs.Steps.{RefusedWith, Stands}
use Rattle.build_from.specs.declared.Source.{Source}

-- an item with scope s and line l: its cells and its records from step i to j stand there
pub record Laid (a : Answer building.Source) (s : rules.Scope) (l : ℕ) (i : Step) (area : List ℕ) (nodes : Nodes)
    (j : Step) (area' : List ℕ) (nodes' : Nodes) : Type 0 where
  pub cells : List Cell
  pub records : List NodeRecord
  pub is : SourceLaid a s l i.cell i.node cells records j.cell j.node
  pub stands : Stands i.cell area nodes cells records j.cell area' nodes'

-- ROOM
-- the catalog's numbers ts stand for tables that were read, f is of the statement that was, and there is room for it
-- from step i on
pub record ItemRoom (c q : Bytes) (ts : List ℕ) (f : From) (i : Step) (area : List ℕ) (nodes : Nodes) : Type 0 where
  pub statement : Statement
  pub within : TextsWithin c q (catalog_at c q ts) statement
  pub parts : FromHas (ExprWithin c q) (StatementName c q) f
  pub tables : from_tables f ≤ most_from_tables
  pub cells : Room i.cell (3 * from_size f) area
  pub numbers : nodes.used + table_room * from_tables f ≤ length nodes.numbers.now + join_room
  pub most : length nodes.numbers.now ≤ nodes_size
  pub few : i.node ≤ nodes.used

-- THE CONTRACT
pub record Accepted (c q : Bytes) (ts cells : List ℕ) (f : From) (i : Step) (area : List ℕ) (nodes : Nodes)
    (area' : List ℕ) (nodes' : Nodes) (x : Source) : Type 0 where
  pub valid : Valid x.scope
  pub plain : Plain x.scope
  pub count : x.scope.count ≡ from_tables f
  pub more : i.node < x.at.node
  pub few : x.at.node ≤ nodes'.used
  pub laid : Laid (building.build_from (catalog_at c q ts) f) (scope_of (tree_at c q cells) c q x.scope) x.line
      i area nodes x.at area' nodes'

pub record Builds (c q : Bytes) (ts cells : List ℕ) (f : From) (i : Step) (area : List ℕ) (nodes : Nodes)
    (area' : List ℕ) (nodes' : Nodes) (r : Result Source Refusal) : Type 0 where
  pub kept : length area' ≡ length area
  pub kept-nodes : Kept nodes nodes'
  pub is : MatchResult r (Accepted c q ts cells f i area nodes area' nodes')
      (RefusedWith (building.build_from (catalog_at c q ts) f))
