-- `lookup_qualified`: 7 where no table has the name, else the last column.
use mathlib.Core.Path.{sym, ◌∙◌}
use native.Mathlib.Omega.{arith}
use Rattle.scope.specs.Search.{looked-no-table, looked-last}
use Rattle.scope.proofs.view.View.lookup_qualified.Goals as goal

pub returns-then-not-has_table : goal.returns-then-not-has_table
returns-then-not-has_table c = λ v w ev ew. looked-no-table _ _ _ _ _ _ (λ z. omega (arith, z, c.requires))
    (sym (c.has_table.ensures v ev) ∙ c.if-not-has_table.true)

pub returns : goal.returns
returns c = λ v w ev ew. looked-last _ _ _ _ _ _ (λ z. omega (arith, z, c.requires))
    (sym (c.has_table.ensures v ev) ∙ c.if-not-has_table.false) (c.last_qualified.ensures v w ev ew)
