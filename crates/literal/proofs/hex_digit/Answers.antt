-- `hex_digit`: by the ranges of the bytes.
use Rattle.std.proofs.Common.{arith, inl, inr}
use Rattle.literal.specs.Floats.{hex-digit, hex-letter, hex-other}
use Rattle.literal.proofs.hex_digit.Goals as goal

pub returns-in-48-to-57 : goal.returns-in-48-to-57
returns-in-48-to-57 c = hex-digit _ (omega arith) (omega arith)

pub returns-in-97-to-102 : goal.returns-in-97-to-102
returns-in-97-to-102 c = hex-letter _ (omega arith) (omega arith)

pub returns-in_default : goal.returns-in_default
returns-in_default c = hex-other _ (inl (omega arith)) (inl (omega arith))

pub returns-in_default-2 : goal.returns-in_default-2
returns-in_default-2 c = hex-other _ (inr (omega arith)) (inl (omega arith))

pub returns-in_default-3 : goal.returns-in_default-3
returns-in_default-3 c = hex-other _ (inr (omega arith)) (inr (omega arith))
