-- `show_record`: nothing of a plan, and of a refusal the line in its text.
use Rattle.std.proofs.KnownBytes.{Appends-nil}
use Rattle.query_plan.specs.Written.{planned-record, refused-record}
use Rattle.query_plan.proofs.show_record.Goals as goal

pub returns-in-Ok : goal.returns-in-Ok
returns-in-Ok g c = rw (planned-record c.args.texts.now.catalog.now c.args.texts.now.statement.now c.in-Ok.is) (Appends-nil _)

pub returns-in-Err : goal.returns-in-Err
returns-in-Err g c = rw (refused-record c.args.texts.now.catalog.now c.args.texts.now.statement.now c.in-Err.is) (rw c.text_of.ensures at c.show_line.ensures)
