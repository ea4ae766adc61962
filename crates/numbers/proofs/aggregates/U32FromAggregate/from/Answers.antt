-- `From<Aggregate> for u32`: an aggregate's place in the order, from 1, is its code.
use Rattle.std.specs.Prelude.{◌≡◌, ◌+◌}
use Rattle.std.proofs.Math.Path.{refl}
use denote.Enum.Declared.{tag_of}
use Rattle.rules.specs.Area.{aggregate_code}
use Rattle.numbers.specs.Aggregates.{aggregate_of}
use Rattle.numbers.specs.contracts.aggregates.Aggregate.{the_type}
use Rattle.numbers.specs.declared.aggregates.Aggregate.{Aggregate}
use Rattle.numbers.specs.declared.aggregates.Aggregate.TheVariants.{Avg, Count, Max, Min, Sum}
use Rattle.numbers.proofs.aggregates.U32FromAggregate.from.Goals as goal

code-is : (a : Aggregate) → tag_of the_type a + 1 ≡ aggregate_code (aggregate_of a)
unfolding aggregate_code aggregate_of
code-is Avg = refl
code-is Count = refl
code-is Max = refl
code-is Min = refl
code-is Sum = refl

pub returns : goal.returns
returns c = code-is c.args.aggregate
