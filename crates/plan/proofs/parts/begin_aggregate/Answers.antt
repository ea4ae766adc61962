-- `begin_aggregate`: a record of an aggregate with no group and no function.
use Rattle.rules.specs.Area.{record_numbers, sized, function_numbers}
use Rattle.plan.specs.Pushed.{pushed-on}
use Rattle.plan.specs.Records.{unsized, opened}
use Rattle.plan.proofs.parts.begin_aggregate.Goals as goal

pub returns : goal.returns
unfolding opened unsized record_numbers sized function_numbers
returns c = pushed-on c.head.ensures c.extend.ensures
