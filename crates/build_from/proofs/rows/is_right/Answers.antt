-- `rows::is_right`, by the row's kind.
use Rattle.std.proofs.Common.{◌∙◌}
use Rattle.build_from.specs.Rows.{is-right, one-right}
use Rattle.build_from.proofs.rows.is_right.Goals as goal

pub returns : goal.returns
returns c = is-right _ _ c.kind_of.ensures (c.eq.ensures ∙ one-right _)
