-- `entry::column_from`: its numbers.
use Rattle.numbers.specs.Values.{is_one}
use Rattle.sections.specs.Access.{column_from}
use Rattle.sections.proofs.entry.column_from.Goals as goal

pub returns : goal.returns
unfolding column_from is_one
returns c = rw (
  c.of_number.ensures,
  c.number.ensures,
  c.number-2.ensures,
  c.null_of.ensures,
  c.number-3.ensures,
  c.number-4.ensures,
  c.number-5.ensures,
  c.of_numbers.ensures,
  c.number-6.ensures,
  c.number-7.ensures,
)
