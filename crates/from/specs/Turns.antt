-- One turn of the loop over the open joins: the contract.
use Rattle.std.specs.Prelude.{ℕ, ◌<◌, ◌≡◌, List, Option, Result, Ok, Err, Some, None}
use Rattle.rules.specs.Refusals.{statement, refused}
use Rattle.rules.specs.Lists.{Bytes}
use Rattle.rules.specs.Reader.{turns}
use Rattle.rules.specs.ReadStatement.{from_tree}
use Rattle.numbers.specs.declared.refusals.Refusal as code
use Rattle.numbers.specs.Reasons.{told}
use Rattle.read_expression.specs.Reading.{here}
use Rattle.from.specs.Trees.{TreeTook, TreeRead}
use Rattle.from.specs.Loop.{TreeLoop, turns_left}
use Rattle.from.specs.declared.OpenJoins.{OpenJoins}
use Rattle.from.specs.declared.Stand.{Stand}

-- where a tree starts, and the numbers that stood there
pub record Start : Type 0 where
  pub p : ℕ
  pub l : ℕ
  pub c : ℕ
  pub k : ℕ
  pub n : ℕ
  pub cells : List ℕ
  pub rows : List ℕ

-- reading a tree from its start on has come to s
abbrev pub Reads : Bytes → Start → Stand → OpenJoins → List ℕ → List ℕ → Type 0
Reads t g s o cells rows = TreeLoop t g.p g.l g.c g.k g.n g.cells g.rows s.done s.froms.at.position s.froms.at.line s.froms.at.rows s.froms.tables s.froms.rows o.count o.joins.now cells rows

-- a tree was begun somewhere, and reading it has come to s
pub record TreeBegun (t : Bytes) (s : Stand) (o : OpenJoins) (cells rows : List ℕ) : Type 0 where
  pub start : Start
  pub reads : Reads t start s o cells rows

-- the same, whatever the expression rows are
pub record RowsBegun (t : Bytes) (s : Stand) (o : OpenJoins) (rows : List ℕ) : Type 0 where
  pub cells : List ℕ
  pub reading : TreeBegun t s o cells rows

pub record Turned (t : Bytes) (g : Start) (s s' : Stand) (o o' : OpenJoins) (cells' rows' : List ℕ) : Type 0 where
  pub reads : Reads t g s' o' cells' rows'
  pub falls : turns_left t s'.froms.at.position o'.count s'.done < turns_left t s.froms.at.position o.count s.done
  pub same : o'.joins.ghost_name ≡ o.joins.ghost_name

-- what a turn says of a tree that was read from g on to s
unfoldable pub TurnRead : Bytes → Start → Stand → (o o' : OpenJoins) (cells' rows' : List ℕ) → Result (Option Stand) code.Refusal → Type 0
TurnRead t g s o o' cells' rows' (Ok (Some s')) = Turned t g s s' o o' cells' rows'
TurnRead t g s o o' cells' rows' (Ok None) = TreeTook t g.p g.l g.c g.k g.n g.cells cells' g.rows rows' s.froms.at.position s.froms.at.line s.froms.at.rows s.froms.tables s.froms.rows
TurnRead t g s o o' cells' rows' (Err w) = turns from_tree (here t g.p g.l g.c g.k) ≡ refused (told statement w)

-- a turn from s on, whatever tree is being read
abbrev pub TurnFrom : Bytes → Stand → (o o' : OpenJoins) (cells cells' rows rows' : List ℕ) → Result (Option Stand) code.Refusal → Type 0
TurnFrom t s o o' cells cells' rows rows' r = (g : Start) → Reads t g s o cells rows → TurnRead t g s o o' cells' rows' r

-- what a turn was
module _ (t : Bytes) (g : Start) (s : Stand) (o o' : OpenJoins) (cells' rows' : List ℕ) where
  pub turn_on : {s' : Stand} → TurnRead t g s o o' cells' rows' (Ok (Some s')) → Turned t g s s' o o' cells' rows'
  unfolding TurnRead
  turn_on h = h

  pub turn_end : TurnRead t g s o o' cells' rows' (Ok None) → TreeRead t g.p g.l g.c g.k g.n g.cells cells' g.rows rows' (Ok s.froms)
  unfolding TurnRead TreeRead
  turn_end h = h

  pub turn-refused : (w : code.Refusal) → TurnRead t g s o o' cells' rows' (Err w) → TreeRead t g.p g.l g.c g.k g.n g.cells cells' g.rows rows' (Err w)
  unfolding TurnRead TreeRead
  turn-refused w h = h
