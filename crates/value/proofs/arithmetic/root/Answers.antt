-- `value::arithmetic::root` meets its contract.
use Rattle.std.proofs.Common.{◌≡◌, Err, refl, ap}
use Rattle.numbers.specs.Reasons.{reason_of}
use Rattle.numbers.specs.declared.refusals.Reason.TheVariants as Re
use Rattle.rules.specs.Operators.{root_of}
use Rattle.rules.specs.Schema.{int}
use Rattle.ints.proofs.Signed.{below, from}
use Rattle.ints.specs.Checked.{checked}
use Rattle.value.proofs.arithmetic.root.Goals as goal

pub returns-then-x-lt0 : goal.returns-then-x-lt0
unfolding checked reason_of root_of
returns-then-x-lt0 c = below c.args.x c.ranges.x c.if-x-lt0.true (λ z. checked (Err Re.WrongOperand) ≡ root_of (int z)) (λ n. refl)

pub returns : goal.returns
unfolding checked reason_of root_of
returns c = ap (λ z. root_of (int z)) (from c.args.x c.ranges.x c.if-x-lt0.false)
