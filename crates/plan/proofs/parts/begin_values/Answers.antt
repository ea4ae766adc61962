-- `begin_values`: a record of values with no row.
use Rattle.rules.specs.Area.{record_numbers, sized, row_numbers}
use Rattle.plan.specs.Records.{unsized, opened}
use Rattle.plan.proofs.parts.begin_values.Goals as goal

pub returns : goal.returns
unfolding opened unsized record_numbers sized row_numbers
returns c = c.head.ensures
