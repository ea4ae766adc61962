-- `function::build_function`: 14, 15, or its argument.
use native.Mathlib.Omega.{arith}
use mathlib.Core.Path.{refl, sym, ◌∙◌}
use Rattle.build_aggregate.specs.Functions.{function-count, call-inside, operand-room, function-inner, function-built}
use Rattle.build_aggregate.proofs.function.build_function.Goals as goal

pub returns-then-arguments-ne1 : goal.returns-then-arguments-ne1
returns-then-arguments-ne1 c = rw c.at.ensures (function-count c.requires.calls _
    (λ e. c.if-arguments-ne1.true (c.arguments.ensures ∙ e)) c.line.ensures refl)

pub overflow_add-a : goal.overflow_add-a
overflow_add-a c = omega (
  arith,
  call-inside c.requires.calls
      (sym c.arguments.ensures ∙ c.if-arguments-ne1.false),
)

pub returns-then-contains : goal.returns-then-contains
returns-then-contains c = rw c.at-then-contains.ensures (function-inner c.requires.calls
    (sym c.arguments.ensures ∙ c.if-arguments-ne1.false) _ (sym c.contains.ensures ∙ c.if-contains.true)
    c.line-then-contains.ensures refl)

pub argument-requires : goal.argument-requires
argument-requires c = operand-room c.requires.calls (sym c.arguments.ensures ∙ c.if-arguments-ne1.false) c.requires.room

pub returns : goal.returns
returns c = function-built c.requires.calls (sym c.arguments.ensures ∙ c.if-arguments-ne1.false) (sym c.contains.ensures ∙ c.if-contains.false) c.argument.ensures
