-- `create::is_nullable`, by what is given.
use mathlib.Core.Path.{◌∙◌}
use Rattle.build_statement.specs.Create.{nullable-is}
use Rattle.build_statement.proofs.create.is_nullable.Goals as goal

pub returns : goal.returns
returns c = c.unwrap_or.ensures ∙ nullable-is c.args.column
