-- `dropped`: a name and an answer, or none.
use mathlib.Core.Path.{refl, sym}
use Rattle.rules.specs.Lines.{bytes}
use Rattle.rules.specs.ReadStatement.{answers}
use Rattle.rules.specs.Reader.{word}
use Rattle.text.specs.Lines.{field}
use Rattle.entries.specs.Tables.{named-same}
use Rattle.statement.specs.FirstRecord.{first_said, drop-unnamed, drop-unanswered, drop-some}
use Rattle.statement.proofs.first.dropped.Goals as goal

pub returns-in_err-name : goal.returns-in_err-name
unfolding first_said
returns-in_err-name c b t o i = rw c.from_residual.ensures (sym (drop-unnamed _ _ _ i _ c.in_err-name.ensures))

pub returns-in_err-if_exists : goal.returns-in_err-if_exists
unfolding answers word field bytes first_said
returns-in_err-if_exists c b t o i = rw c.from_residual-in_err-if_exists.ensures (sym (drop-unanswered _ _ _ i _ c.beside.result (rw c.beside.ensures (named-same _ _ _ refl)) c.in_ok-name.ensures.0 c.in_err-if_exists.was))

pub returns : goal.returns
unfolding answers word field bytes
returns c b t o i = drop-some _ _ _ i _ c.beside.result (rw c.beside.ensures (named-same _ _ _ refl)) c.in_ok-name.ensures.0 b _ _ c.in_ok-if_exists.was c.in_ok-name.ensures.1
