-- `aggregates::aggregate_named`: the table is the rules'.
use Rattle.std.proofs.Common.{refl}
use Rattle.rules.specs.Lines.{bytes}
use Rattle.rules.specs.BuildAggregate.{aggregates}
use Rattle.numbers.specs.Aggregates.{aggregate_of}
use Rattle.ast.specs.Aggregates.{named-beside}
use Rattle.ast.proofs.aggregates.aggregate_named.Goals as goal

pub returns : goal.returns
unfolding aggregates aggregate_of bytes
returns c = rw (c.beside.ensures, c.bytes_at.ensures) (named-beside _ _ refl)
