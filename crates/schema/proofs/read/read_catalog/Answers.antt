-- `read_catalog`: a text that is too long first.
use Rattle.schema.specs.TableRuns.{too_long, not-too-long}
use Rattle.schema.proofs.read.read_catalog.Goals as goal

pub returns-then-catalog : goal.returns-then-catalog
returns-then-catalog c q = rw c.at.ensures (too_long _ q _ c.if-catalog.true)

pub returns : goal.returns
returns c q = not-too-long _ q _ _ c.if-catalog.false (c.read_tables.ensures q)
