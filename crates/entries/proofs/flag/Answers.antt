-- `flag`: the table is the rules'.
use Rattle.std.proofs.Common.{refl}
use Rattle.rules.specs.Lines.{bytes}
use Rattle.entries.specs.Tables.{named-same}
use Rattle.entries.proofs.flag.Goals as goal

pub returns : goal.returns
unfolding bytes
returns c = rw c.beside.ensures (named-same _ _ _ refl)
