-- As many cells and records are laid as the numbers of the next ones move.
use Rattle.std.specs.Prelude.{ℕ, ◌+◌, ◌≡◌, List, length}
use Rattle.rules.specs.Plan.{Built, Node}
use Rattle.rules.specs.Cells.{Cell, expressions, cell_count}
use Rattle.rules.specs.Cells.{number_node}
use Rattle.rules.specs.Nodes.{NodeRecord}
use Rattle.claims.specs.Area.NodeTree.{records-length}
use Rattle.claims.specs.Cells.Length.{cells_all-length}
use Rattle.appends.specs.Nodes.Lays.{Lays, nodes-numbered}

pub lays-cells : (i k : ℕ) (n : Node Built) (cs : List Cell) (rs : List NodeRecord) (j m : ℕ) → Lays i k n cs rs j m
    → i + length cs ≡ j
unfolding cell_count
lays-cells i k n cs rs j m h = rw (← h.cells, cells_all-length (expressions n) i) h.next

pub lays-nodes : (i k : ℕ) (n : Node Built) (cs : List Cell) (rs : List NodeRecord) (j m : ℕ) → Lays i k n cs rs j m
    → k + length rs ≡ m
lays-nodes i k n cs rs j m h = rw (← h.records, records-length (number_node i n) k, nodes-numbered n i) h.node
