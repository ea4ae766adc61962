-- `constants::build_constant_value`: the check passed, or its refusal.
use Rattle.std.proofs.Common.{sym, ◌∙◌}
use Rattle.std.proofs.lemmas.Result.{err_from_is_err_and}
use Rattle.expression.specs.Answers.{answered}
use Rattle.expression.proofs.Checks.{constant-passed, constant-refused}
use Rattle.expression.proofs.constants.build_constant_value.Goals as goal

pub returns-in_err-check_constant : goal.returns-in_err-check_constant
unfolding answered
returns-in_err-check_constant c = let p = err_from_is_err_and c.from_residual.result c.from_residual.ensures.1 in
    rw (p.1, p.2) (constant-refused _ _ _ c.in_err-check_constant.was c.check_constant.ensures)

pub returns : goal.returns
returns c = c.evaluate_constant.ensures ∙ sym (constant-passed _ _ c.in_ok-check_constant.was c.check_constant.ensures)
