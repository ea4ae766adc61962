-- `create::columns`: the columns so far.
use Rattle.build_statement.specs.Columns.{SoFar}
use Rattle.build_statement.proofs.create.columns.Given as goal

abbrev pub invariant-loop-i : goal.invariant-loop-i
invariant-loop-i l = SoFar l.exprs.texts.catalog.now l.exprs.texts.statement.now l.exprs.table.now l.parts l.i l.initial.nodes l.nodes
