-- `Scope::from_table`: the labels so far are those of the table's first columns.
use native.Mathlib.Omega.{arith}
use mathlib.Core.Path.{refl}
use Rattle.scope.specs.FromTable.{storing-begin, storing-more, storing-end}
use Rattle.scope.proofs.Scope.from_table.Goals as goal

pub loop-j-init : goal.loop-j-init
loop-j-init c = storing-begin _ _ _ refl

pub loop-j-preserved : goal.loop-j-preserved
loop-j-preserved c = storing-more _ _ _ c.loop-j.invariant (omega (arith, c.min-width.ensures)) c.column_count-count.ensures
    (omega (arith, c.min-width.ensures)) c.column_name.ensures c.label-in-loop-j.ensures

pub returns : goal.returns
returns c = storing-end _ refl c.loop-j.invariant c.column_count-count.ensures c.min-width.ensures (omega arith) c.loop-j-test.false
    c.label.ensures
