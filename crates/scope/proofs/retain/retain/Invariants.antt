-- `retain::retain`: the rows so far are kept, each expression once.
use Rattle.ast.specs.Table.{tree_at}
use Rattle.scope.specs.Retain.{Retaining}
use Rattle.scope.proofs.retain.retain.Given as goal

abbrev pub invariant-loop-r : goal.invariant-loop-r
invariant-loop-r l =
    Retaining (tree_at l.exprs.texts.catalog.now l.exprs.texts.statement.now l.exprs.table.now) l.rows l.fn.kept l.r-index l.kept
