-- `whole`: by how many bytes there are.
use Rattle.std.proofs.Common.{arith, ◌∙◌}
use Rattle.answer_list.specs.Records.{fits, too_long}
use Rattle.answer_list.proofs.whole.Goals as goal

pub returns-in_err-behind : goal.returns-in_err-behind
returns-in_err-behind c = c.from_residual.ensures ∙ too_long _ _ _ _ _ (omega (arith, c.in_err-behind.ensures))

pub returns-in_err-left : goal.returns-in_err-left
returns-in_err-left c = c.from_residual-in_err-left.ensures ∙ too_long _ _ _ _ _ (omega (arith, c.in_ok-behind.ensures, c.in_err-left.ensures))

pub returns-in_err-checked_sub : goal.returns-in_err-checked_sub
returns-in_err-checked_sub c = c.from_residual-in_err-checked_sub.ensures
    ∙ too_long _ _ _ _ _ (omega (arith, c.in_ok-behind.ensures, c.in_ok-left.ensures, c.in_err-checked_sub.ensures))

pub returns : goal.returns
returns c = fits _ _ _ _ _ (omega (arith, c.in_ok-behind.ensures, c.in_ok-left.ensures, c.in_ok-checked_sub.ensures))
