-- `endings::ending_of`: the last byte of a name that is not empty.
use native.Mathlib.Omega.{arith}
use mathlib.Core.Path.{sym}
use Rattle.scope.specs.Endings.{ending-none, ending-some}
use Rattle.scope.proofs.endings.ending_of.Goals as goal

pub returns-in-None : goal.returns-in-None
returns-in-None c = let h = c.in-None.ensures.item in sym (ending-none _ _ (omega (arith, h.3)))

pub returns-in-Some : goal.returns-in-Some
returns-in-Some c = let h = c.in-Some.ensures.item in
    rw (c.catalog_end.ensures, h.3.1 0) (sym (ending-some _ _ (λ z. omega (arith, z, h.3.0))))
