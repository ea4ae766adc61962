-- `rows::is_outer`, by the row's kind.
use Rattle.build_from.specs.Rows.{outer-row, plain-kind, outer-joins}
use Rattle.build_from.proofs.rows.is_outer.Goals as goal

pub returns-in-Left : goal.returns-in-Left
returns-in-Left c = outer-row _ _ c.kind_of.ensures (outer-joins c.in-Left.is)

pub returns-in_default : goal.returns-in_default
returns-in_default c = outer-row _ _ c.kind_of.ensures (plain-kind _ c.in_default.not-Left c.in_default.not-Right)
