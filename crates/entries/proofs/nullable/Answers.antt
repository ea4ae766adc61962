-- `nullable`: the table is the rules'.
use Rattle.std.proofs.Common.{refl}
use Rattle.rules.specs.Lines.{bytes}
use Rattle.rules.specs.ReadColumn.{nullness}
use Rattle.numbers.specs.Options.{option_of}
use Rattle.entries.specs.Tables.{named-by}
use Rattle.entries.proofs.nullable.Goals as goal

pub returns : goal.returns
unfolding nullness bytes
returns c = rw c.beside.ensures (named-by option_of _ _ _ refl)
