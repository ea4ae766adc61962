-- The aggregates of the code are the rules'.
use Rattle.rules.specs.Plan as rules
use Rattle.numbers.specs.declared.aggregates.Aggregate.{Aggregate}
use Rattle.numbers.specs.declared.aggregates.Aggregate.TheVariants.{Avg, Count, Max, Min, Sum}

unfoldable pub aggregate_of : Aggregate → rules.Aggregate
aggregate_of Avg = rules.avg
aggregate_of Count = rules.count
aggregate_of Max = rules.max
aggregate_of Min = rules.min
aggregate_of Sum = rules.sum
