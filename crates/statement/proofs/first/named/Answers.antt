-- `named`: a name, or none.
use mathlib.Core.Path.{sym}
use Rattle.statement.specs.FirstRecord.{first_said, named_none, named_some}
use Rattle.statement.proofs.first.named.Goals as goal

pub returns-in_err-name : goal.returns-in_err-name
unfolding first_said
returns-in_err-name c b t i = rw c.from_residual.ensures (sym (named_none _ _ _ i _ c.requires.one_name c.in_err-name.ensures))

pub returns : goal.returns
returns c b t i = named_some _ _ _ i b _ c.in_ok-name.ensures.1 _ c.requires.one_name c.in_ok-name.ensures.0
