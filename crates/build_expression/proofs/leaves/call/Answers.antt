-- `leaves::call`: `sqrt` of one argument, or refused.
use mathlib.Core.Path.{refl, sym, ◌∙◌}
use Rattle.build_expression.specs.Leaves.{begins-root, begins-unknown}
use Rattle.build_expression.proofs.leaves.call.Goals as goal

pub returns-then-is_root_call : goal.returns-then-is_root_call
returns-then-is_root_call c = λ xs ms ts a n u. begins-root _ _ _ xs ms ts _ n a a u c.requires (sym
    c.is_root_call.ensures ∙ c.if-is_root_call.true) refl

pub returns : goal.returns
returns c = λ xs ms ts a n u. rw c.at.ensures (begins-unknown _ _ _ xs ms ts _ n a a u c.requires _ (sym
    c.is_root_call.ensures ∙ c.if-is_root_call.false) c.line.ensures refl)
