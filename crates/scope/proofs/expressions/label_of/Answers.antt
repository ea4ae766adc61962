-- `expressions::label_of`: a column name's label, and none for every other record.
use Rattle.scope.specs.LabelOf.{passed-column, passed-qualified, passed-other}
use Rattle.scope.proofs.expressions.label_of.Goals as goal
use Rattle.scope.proofs.expressions.label_of.Goals.{in-Column, in-Qualified}

pub returns-in_default : goal.returns-in_default
returns-in_default c = passed-other _ _ _ c.kind_of.ensures c.in_default.not-Column c.in_default.not-Qualified

pub returns : goal.returns
returns c = elim c.match-kind_of.branch [
  | in-Column w ↦ passed-column _ _ _ c.kind_of.ensures c.name.ensures.address c.name.ensures.length w.in-Column.is
      (rw w.place-is at c.label_found.ensures)
  | in-Qualified w ↦ passed-qualified _ _ _ c.kind_of.ensures c.name.ensures.address c.name.ensures.length
      w.qualifier.ensures.address w.qualifier.ensures.length w.in-Qualified.is (rw w.place-is at c.label_found.ensures)
]
