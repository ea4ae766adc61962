-- `build_tree` meets its contract: what is left of the table falls with each call.
use native.Mathlib.Omega.{arith}
use Rattle.std.specs.Prelude.{Ok}
use mathlib.Core.Path.{ap, ◌∙◌}
use Rattle.ast.specs.Table.{tree_at}
use Rattle.plan.specs.Emits.{exit}
use Rattle.build_expression.specs.Operands.{leaf_room, whole-built, begun-refused, operands-inside, first-room, first-refused}
use Rattle.build_expression.specs.Operands.{first_some, one-room, unary-built, is-built, second-room, second-refused}
use Rattle.build_expression.specs.Operands.{second-some, both-room, binary-built}
use Rattle.build_expression.proofs.+build_tree.Goals as goal

pub begin-requires : goal.begin-requires
begin-requires t c = leaf_room (tree_at c.args.exprs.now.texts.catalog.now c.args.exprs.now.texts.statement.now c.args.exprs.now.table.now
    c.args.r) _ _ c.requires

pub overflow_add-left : goal.overflow_add-left
overflow_add-left t c = omega (
  arith,
  operands-inside c.begin.ensures _ (c.in_ok-begun.was ∙ ap Ok c.in-Operands.is),
)

pub build_tree-requires : goal.build_tree-requires
build_tree-requires t c = (
  omega (arith, operands-inside c.begin.ensures _ (c.in_ok-begun.was ∙ ap Ok c.in-Operands.is)),
  first-room
      c.begin.ensures _ (c.in_ok-begun.was ∙ ap Ok c.in-Operands.is) c.requires,
)

pub returns-in_err-m-in-Operands : goal.returns-in_err-m-in-Operands
returns-in_err-m-in-Operands t c = rw (exit c.from_residual-in_err-m-in-Operands.result c.from_residual-in_err-m-in-Operands.ensures.1)
    (first-refused c.begin.ensures _ (c.in_ok-begun.was ∙ ap Ok c.in-Operands.is) c.build_tree.ensures _ c.in_err-m-in-Operands.was)

pub unary-requires : goal.unary-requires
unary-requires t c = record {
  room = one-room c.begin.ensures _ (c.in_ok-begun.was ∙ ap Ok c.in-Operands.is)
      c.build_tree.ensures _ c.in_ok-m-in-Operands.was c.requires;
  operand_built = first_some
      c.begin.ensures _ (c.in_ok-begun.was ∙ ap Ok c.in-Operands.is)
      c.build_tree.ensures _ c.in_ok-m-in-Operands.was;
}

pub is-requires : goal.is-requires
is-requires t c = record {
  room = one-room c.begin.ensures _ (c.in_ok-begun.was ∙ ap Ok c.in-Operands.is)
      c.build_tree.ensures _ c.in_ok-m-in-Operands.was c.requires;
  operand_built = first_some
      c.begin.ensures _ (c.in_ok-begun.was ∙ ap Ok c.in-Operands.is)
      c.build_tree.ensures _ c.in_ok-m-in-Operands.was;
}

pub build_tree-requires-in-Binary : goal.build_tree-requires-in-Binary
build_tree-requires-in-Binary t c = (
  omega (
    arith,
    c.next-right.ensures,
    operands-inside c.begin.ensures _
        (c.in_ok-begun.was ∙ ap Ok c.in-Operands.is),
  ),
  second-room c.begin.ensures _ (c.in_ok-begun.was ∙ ap Ok c.in-Operands.is)
      c.build_tree.ensures _ c.in_ok-m-in-Operands.was
      c.in-Binary.is _ c.next-right.ensures c.requires,
)

pub returns-in_err-k-in-Binary : goal.returns-in_err-k-in-Binary
returns-in_err-k-in-Binary t c = rw (exit c.from_residual-in_err-k-in-Binary.result c.from_residual-in_err-k-in-Binary.ensures.1) (second-refused c.begin.ensures _ (c.in_ok-begun.was ∙ ap Ok c.in-Operands.is)
    c.build_tree.ensures _ c.in_ok-m-in-Operands.was
    c.in-Binary.is _ c.next-right.ensures
    c.build_tree-in-Binary.ensures _ c.in_err-k-in-Binary.was)

pub binary-requires : goal.binary-requires
binary-requires t c = record {
  room = both-room c.begin.ensures _ (c.in_ok-begun.was ∙ ap Ok c.in-Operands.is)
      c.build_tree.ensures _ c.in_ok-m-in-Operands.was
      c.in-Binary.is _ c.next-right.ensures
      c.build_tree-in-Binary.ensures _ c.in_ok-k-in-Binary.was c.requires;
  left_built = first_some c.begin.ensures _ (c.in_ok-begun.was ∙ ap Ok c.in-Operands.is)
      c.build_tree.ensures _ c.in_ok-m-in-Operands.was;
  right_built = second-some
      c.begin.ensures _ (c.in_ok-begun.was ∙ ap Ok c.in-Operands.is)
      c.build_tree.ensures _ c.in_ok-m-in-Operands.was
      c.in-Binary.is _ c.next-right.ensures
      c.build_tree-in-Binary.ensures _ c.in_ok-k-in-Binary.was;
}

pub returns-in-Whole : goal.returns-in-Whole
returns-in-Whole t c = whole-built c.begin.ensures _ (c.in_ok-begun.was ∙ ap Ok c.in-Whole.is)

pub returns-in_err-begun : goal.returns-in_err-begun
returns-in_err-begun t c = rw (exit c.from_residual.result c.from_residual.ensures.1)
    (begun-refused c.begin.ensures _ c.in_err-begun.was)

pub returns-in-Unary : goal.returns-in-Unary
returns-in-Unary t c = unary-built c.begin.ensures _ (c.in_ok-begun.was ∙ ap Ok c.in-Operands.is)
    c.build_tree.ensures _ c.in_ok-m-in-Operands.was _
    c.in-Unary.is c.unary.ensures

pub returns-in-Is : goal.returns-in-Is
returns-in-Is t c = is-built c.begin.ensures _ (c.in_ok-begun.was ∙ ap Ok c.in-Operands.is)
    c.build_tree.ensures _ c.in_ok-m-in-Operands.was
    c.in-Is.is (c.is.ensures _ _)

pub returns-in_ok-k-in-Binary : goal.returns-in_ok-k-in-Binary
returns-in_ok-k-in-Binary t c = binary-built c.begin.ensures _ (c.in_ok-begun.was ∙ ap Ok c.in-Operands.is)
    c.build_tree.ensures _ c.in_ok-m-in-Operands.was
    c.in-Binary.is _ c.next-right.ensures
    c.build_tree-in-Binary.ensures _ c.in_ok-k-in-Binary.was
    c.binary.ensures
