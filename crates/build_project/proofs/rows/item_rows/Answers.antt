-- `rows::item_rows`: the rows stored so far.
use native.Mathlib.Omega.{arith}
use Rattle.build_projection.specs.Pushes.{copying-items}
use Rattle.build_projection.specs.Aliases.{row_of}
use Rattle.build_project.proofs.rows.item_rows.Goals as goal

pub loop-i-preserved : goal.loop-i-preserved
loop-i-preserved c = copying-items (row_of c.args.parts.now) c.args.items.now _ c.loop-i.invariant (omega (arith, c.requires.0, c.loop-i-test.true)) c.loop-i-test.true c.item_row.ensures
