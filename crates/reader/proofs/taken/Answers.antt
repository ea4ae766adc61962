-- `taken`: any statement but `other` is read.
use Rattle.reader.specs.Reading.{texts_by}
use Rattle.reader.specs.Cases.{texts-one}
use Rattle.reader.proofs.taken.Goals as goal

pub returns-in-Other : goal.returns-in-Other
unfolding texts_by
returns-in-Other c = rw (c.in-Other.is, c.refuses.ensures, c.at.ensures)

pub returns-in_default : goal.returns-in_default
returns-in_default c = texts-one _ _ _ _ c.in_default.not-Other
