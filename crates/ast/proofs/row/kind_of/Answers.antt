-- `row::kind_of`, by the number at place 0.
use native.Mathlib.Omega.{arith}
use Rattle.ast.specs.Row.{number_of, kind-other}
use Rattle.ast.proofs.row.kind_of.Goals as goal

pub returns-in_default : goal.returns-in_default
unfolding number_of
returns-in_default c = kind-other _ _ _ c.at.ensures (λ h. omega (arith, h))
