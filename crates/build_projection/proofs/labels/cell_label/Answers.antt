-- `labels::cell_label`: by the kind of the row.
use borrow.Author.Rules.{rules}
use Rattle.build_projection.specs.Labels.{cell-named, cell-none}
use Rattle.build_projection.proofs.labels.cell_label.Goals as goal

pub returns-in-Column : goal.returns-in-Column
returns-in-Column c = cell-named _ _ _ _ _ _ c.kind_of.ensures c.in-Column.is c.position.ensures c.number.ensures

pub returns-in_default : goal.returns-in_default
returns-in_default c = cell-none _ _ _ _ _ _ c.kind_of.ensures (search rules) (search rules)
