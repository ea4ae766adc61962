-- `build_select_hidden`: the rows of HAVING and ORDER BY, and what they hide.
use mathlib.Core.Path.{ap}
use Rattle.std.specs.Prelude.{length}
use Rattle.ast.specs.Listed.{listed-first}
use Rattle.build_hidden.specs.Whole.{later-fits}
use Rattle.build_hidden.proofs.build_select_hidden.Goals as goal

pub later_rows-requires : goal.later_rows-requires
later_rows-requires c = later-fits _ c.requires c.new-rows.ensures.used (ap length c.new-rows.ensures.rows)

pub returns : goal.returns
returns c =
    let z = rw (c.listed.ensures, listed-first c.new-rows.ensures.used c.later_rows.ensures.listed) at c.hide_rows.ensures in
    record { is = λ froms h. rw (c.later_rows.ensures.is _ _ froms _ _) (z.is h) }
