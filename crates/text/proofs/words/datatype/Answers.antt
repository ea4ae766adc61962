-- `words::datatype`: by the number that the word is packed into.
use native.Mathlib.Omega.{arith}
use Rattle.rules.specs.ReadColumn.{datatypes}
use Rattle.text.specs.Words.{nth}
use Rattle.text.specs.Packed.{find_number, Apart, find_none}
use Rattle.numbers.specs.Datatypes.{type_of}
use Rattle.text.specs.Tables.{type-packed}
use Rattle.text.proofs.words.datatype.Goals as goal

pub returns-in-6114209634 : goal.returns-in-6114209634
unfolding find_number nth datatypes type_of
returns-in-6114209634 c = type-packed c.packed.ensures 0 (rw c.in-6114209634.is)

pub returns-in-24407657 : goal.returns-in-24407657
unfolding find_number nth datatypes type_of
returns-in-24407657 c = type-packed c.packed.ensures 1 (rw c.in-24407657.is)

pub returns-in-1599362526310 : goal.returns-in-1599362526310
unfolding find_number nth datatypes type_of
returns-in-1599362526310 c = type-packed c.packed.ensures 2 (rw c.in-1599362526310.is)

pub returns-in-6249014644 : goal.returns-in-6249014644
unfolding find_number nth datatypes type_of
returns-in-6249014644 c = type-packed c.packed.ensures 3 (rw c.in-6249014644.is)

pub returns-in_default : goal.returns-in_default
unfolding Apart nth datatypes type_of
returns-in_default c = type-packed c.packed.ensures 4 (find_none _ _ (λ e. omega (arith, e), (λ e. omega (arith, e), (λ e. omega (arith, e), (λ e. omega (arith, e), tt)))))
