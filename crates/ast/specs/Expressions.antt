-- The trees of the expressions that are lent.
use Rattle.std.specs.Prelude.{ℕ}
use Rattle.rules.specs.Ast.{Expr}
use Rattle.ast.specs.Table.{tree_at}
use Rattle.ast.specs.declared.Expressions.{Expressions}

abbrev pub tree_in : Expressions → ℕ → Expr
tree_in e = tree_at e.texts.catalog.now e.texts.statement.now e.table.now
