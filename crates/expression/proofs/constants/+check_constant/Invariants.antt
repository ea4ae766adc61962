-- `expression::constants::check_constant` meets its contract: what is left of the table falls with each call.
use mathlib.Core.Path.{◌≡◌}
use Prim.Native.Nat.{suc, ◌*◌, ◌-◌, ◌<◌}
use lib.ListN.{length}
use Rattle.ast.specs.Table.{row_size, arguments_at, tree_at}
use Rattle.ast.specs.Operands.{operands_at}
use Rattle.expression.specs.Constants.{check_all}
use Rattle.expression.proofs.constants.+check_constant.Given as goal

abbrev pub decreases-check_constant : goal.decreases-check_constant
decreases-check_constant l = length l.exprs.now.table.now - l.r

abbrev pub invariant-loop : goal.invariant-loop
invariant-loop l =
    (l.r < l.p) × (row_size * l.r < length l.exprs.table.now)
    × (check_all (arguments_at (tree_at l.exprs.texts.catalog.now l.exprs.texts.statement.now l.exprs.table.now) l.exprs.table.now (operands_at l.exprs.table.now l.r - l.counter) l.p)
    ≡ check_all (arguments_at (tree_at l.exprs.texts.catalog.now l.exprs.texts.statement.now l.exprs.table.now) l.exprs.table.now (operands_at l.exprs.table.now l.r) (suc l.r)))
