-- `Entry::first_row`: none, or the first of some.
use native.Mathlib.Omega.{arith}
use mathlib.Core.Path.{sym}
use Rattle.sections.specs.Expressions.{row-none, row-some}
use Rattle.sections.proofs.entry.Entry.first_row.Goals as goal

pub returns-in-0 : goal.returns-in-0
returns-in-0 c = sym (row-none _ c.in-0.is)

pub returns-in_default : goal.returns-in_default
returns-in_default c = sym (row-some _ (λ e. omega (arith, e)))
