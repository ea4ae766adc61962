-- `entry::descends`: the sixth number of the key.
use Rattle.numbers.specs.Values.{is_one}
use Rattle.sections.proofs.entry.descends.Goals as goal

pub returns : goal.returns
unfolding is_one
returns c = rw (c.number.ensures, c.entry_start.ensures.0)
