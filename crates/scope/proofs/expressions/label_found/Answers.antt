-- `expressions::label_found`: the label at the position that was found, or none.
use Rattle.scope.specs.LabelOf.{found_at, found_none}
use Rattle.scope.proofs.expressions.label_found.Goals as goal

pub returns-in-Ok : goal.returns-in-Ok
returns-in-Ok c = found_at c.lookup.ensures c.in-Ok.is c.number.ensures

pub returns-in-Err : goal.returns-in-Err
returns-in-Err c = found_none c.lookup.ensures c.in-Err.is
