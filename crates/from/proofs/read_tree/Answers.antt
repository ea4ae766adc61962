-- `read_tree`: one table, or the joins.
use native.Mathlib.Omega.{arith}
use Rattle.from.specs.Runs.{tree-wrong, table-added}
use Rattle.from.proofs.read_tree.Goals as goal

pub returns-in_default : goal.returns-in_default
returns-in_default c = rw c.at.ensures (tree-wrong _ _ c.requires c.in_default.ensures)

pub returns : goal.returns
returns c = table-added _ _ c.requires c.in-Some.ensures c.in-Table.is _ _ c.add_table.ensures (omega arith)
