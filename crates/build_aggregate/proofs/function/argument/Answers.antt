-- `function::argument`: one constant, or an expression.
use native.Mathlib.Omega.{arith}
use mathlib.Core.Path.{sym, ◌∙◌}
use Rattle.ast.specs.Table.{tree_at}
use Rattle.build_expression.specs.Operands.{leaf_room}
use Rattle.build_aggregate.specs.Functions.{operand-constant, operand-built}
use Rattle.build_aggregate.proofs.function.argument.Goals as goal

pub constant-requires : goal.constant-requires
constant-requires c = leaf_room (tree_at c.args.exprs.now.texts.catalog.now c.args.exprs.now.texts.statement.now c.args.exprs.now.table.now c.args.r) _ _ c.requires

pub overflow_add-result : goal.overflow_add-result
overflow_add-result c = let room = leaf_room (tree_at c.args.exprs.now.texts.catalog.now c.args.exprs.now.texts.statement.now c.args.exprs.now.table.now c.args.r) _ _ c.requires in record
    { fits = omega (arith, room.counted) }

pub returns-then-takes_star : goal.returns-then-takes_star
returns-then-takes_star c = operand-constant _ _ _ _ _ _ _ _ _ _ _ (sym (c.takes_star.ensures _ _)
    ∙ c.if-takes_star.true) c.constant.ensures

pub returns : goal.returns
returns c = operand-built _ _ _ _ _ _ _ _ _ _ _ _ (sym (c.takes_star.ensures _ _)
    ∙ c.if-takes_star.false) c.build_expression.ensures
