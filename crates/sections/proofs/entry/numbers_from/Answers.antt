-- `entry::numbers_from`: its numbers.
use Rattle.sections.specs.Access.{numbers_from}
use Rattle.sections.proofs.entry.numbers_from.Goals as goal

pub returns : goal.returns
unfolding numbers_from
returns c = rw (
  c.number.ensures,
  c.number-2.ensures,
  c.number-3.ensures,
  c.of_numbers.ensures,
  c.number-4.ensures,
  c.number-5.ensures,
)
