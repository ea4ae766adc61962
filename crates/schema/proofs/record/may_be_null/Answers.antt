-- `may_be_null`: by the number that the word is packed into.
use native.Mathlib.Omega.{arith}
use Rattle.rules.specs.ReadColumn.{nullables}
use Rattle.text.specs.Words.{nth}
use Rattle.text.specs.Packed.{find_number, Apart, find_none}
use Rattle.schema.specs.ColumnRecords.{null-packed}
use Rattle.schema.proofs.record.may_be_null.Goals as goal

pub returns-in-6114014574 : goal.returns-in-6114014574
unfolding find_number nth nullables
returns-in-6114014574 c = null-packed c.packed.ensures 0 (rw c.in-6114014574.is)

pub returns-in-102576143142776686 : goal.returns-in-102576143142776686
unfolding find_number nth nullables
returns-in-102576143142776686 c = null-packed c.packed.ensures 1 (rw c.in-102576143142776686.is)

pub returns-in_default : goal.returns-in_default
unfolding Apart nth nullables
returns-in_default c = null-packed c.packed.ensures 2 (find_none _ _ (λ e. omega (arith, e), (λ e. omega (arith, e), tt)))
