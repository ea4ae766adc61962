-- `row::kind_of`: the first row, or by the kind's number.
use Rattle.from.specs.Access.{kind-first, kind-by}
use Rattle.from.proofs.row.kind_of.Goals as goal

pub returns-then-r-eq0 : goal.returns-then-r-eq0
returns-then-r-eq0 c = kind-first _ _ c.if-r-eq0.true

pub returns : goal.returns
returns c = kind-by _ _ _ _ c.if-r-eq0.false c.at.ensures c.kind_by.ensures
