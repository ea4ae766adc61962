-- `expression::constants::check_call` meets its contract.
use mathlib.Core.Path.{sym, ◌∙◌}
use Rattle.numbers.specs.declared.refusals.Reason.TheVariants.{UnknownFunction}
use Rattle.numbers.specs.Reasons.{reason_of}
use Rattle.expression.proofs.Checks.{guard_passed, guard-refused}
use Rattle.expression.proofs.constants.check_call.Goals as goal

pub returns-then-is_root_call : goal.returns-then-is_root_call
returns-then-is_root_call c = guard_passed _ _ _ (sym c.is_root_call.ensures ∙ c.if-is_root_call.true)

pub returns : goal.returns
unfolding reason_of
returns c = rw c.at.ensures (guard-refused _ UnknownFunction _ _ (sym c.is_root_call.ensures ∙ c.if-is_root_call.false) c.line.ensures)
