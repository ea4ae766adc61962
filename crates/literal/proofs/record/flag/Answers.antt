-- `flag`: `t` or `f`.
use Rattle.std.proofs.Common.{refl, ◌∙◌}
use Rattle.rules.specs.Lines.{bytes}
use Rattle.rules.specs.Reader.{flags}
use Rattle.numbers.specs.Flags.{byte_flag}
use Rattle.literal.specs.Records.{no-literal-as, flag-none, flag-some}
use Rattle.literal.proofs.record.flag.Goals as goal

pub returns-in_err-set : goal.returns-in_err-set
unfolding flags bytes
returns-in_err-set c = λ base t. rw c.from_residual.ensures (no-literal-as _ _ (flag-none _ _ refl c.beside.ensures c.in_err-set.was))

pub returns : goal.returns
unfolding flags bytes
returns c = λ base t. flag-some _ _ refl c.beside.ensures base t _ _ c.in_ok-set.was (refl, c.from.ensures ∙ byte_flag _, refl)
