-- `rows::at`: inside the table the number there, outside 0.
use native.Mathlib.Omega.{arith}
use mathlib.Core.Path.{refl, sym}
use Rattle.ast.specs.Table.{at}
use Rattle.ast.specs.Operands.{outside}
use Rattle.ast.proofs.rows.at.Goals as goal

pub returns-then-k-lt8 : goal.returns-then-k-lt8
unfolding at
returns-then-k-lt8 c = refl

pub returns-then-table-r : goal.returns-then-table-r
returns-then-table-r c = sym (outside _ _ _ (omega arith))

pub returns : goal.returns
unfolding at
returns c = c.number.ensures
