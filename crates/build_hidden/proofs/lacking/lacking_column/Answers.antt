-- `lacking::lacking_column`: by the kind of the record.
use Rattle.build_hidden.specs.Lacking.{column-plain, column-qualified, column-none}
use Rattle.build_hidden.proofs.lacking.lacking_column.Goals as goal
use Rattle.build_hidden.proofs.lacking.lacking_column.Goals.{in-Column, in-Qualified}

pub returns-in-Star : goal.returns-in-Star
returns-in-Star c = column-none _ _ _ c.kind_of.ensures c.in-Star.is

pub returns : goal.returns
returns c = elim c.match-kind_of.branch [
  | in-Column w ↦ column-plain _ _ _ c.kind_of.ensures c.name-sought.ensures.address c.name-sought.ensures.length
      w.in-Column.is (rw w.place-is at c.lacking_name.ensures)
  | in-Qualified w ↦ column-qualified _ _ _ c.kind_of.ensures c.name-sought.ensures.address c.name-sought.ensures.length
      w.qualifier.ensures.address w.qualifier.ensures.length
      w.in-Qualified.is (rw w.place-is at c.lacking_name.ensures)
]
