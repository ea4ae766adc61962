-- `option::build_option`: nothing, or the tree at its row.
use Rattle.plan.specs.Emits.{exit}
use Rattle.build_expression.specs.Options.{root-behind, option-room, option-missing, option-accepted, option-refused}
use Rattle.build_expression.proofs.option.build_option.Goals as goal

pub build_expression-requires : goal.build_expression-requires
build_expression-requires c = option-room _ _ _ c.in-Some.is c.requires

pub overflow_sub-result : goal.overflow_sub-result
overflow_sub-result c = root-behind _ _ _ (c.in_ok-cell.ensures.is 0)

pub returns-in_default : goal.returns-in_default
returns-in_default c = λ h. option-missing _ _ _ _ _ _ c.in_default.is

pub returns : goal.returns
returns c = λ h. option-accepted _ _ _ c.in-Some.is (c.in_ok-cell.ensures.is h)

pub returns-in_err-cell : goal.returns-in_err-cell
returns-in_err-cell c = rw (exit c.from_residual.result c.from_residual.ensures.1)
    (λ h. option-refused _ _ _ c.in-Some.is (c.in_err-cell.ensures.is h))
