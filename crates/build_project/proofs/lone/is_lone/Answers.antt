-- `lone::is_lone`: the only item is a star.
use native.Mathlib.Omega.{arith}
use mathlib.Core.Path.{◌∙◌}
use Rattle.build_project.specs.Lone.{lone-not, lone-only}
use Rattle.build_project.proofs.lone.is_lone.Goals as goal

pub returns-in-len1 : goal.returns-in-len1
returns-in-len1 c = λ d q. c.is_some.ensures ∙ lone-only c.args.cells.now c.args.parts.now _ c.args.items.now (omega (arith, c.in-len1.len_at_least, c.in-len1.len_below)) c.plain_item.ensures d q

pub returns-in_default : goal.returns-in_default
returns-in_default c = lone-not c.args.cells.now c.args.parts.now c.args.items.now (λ e. omega (arith, e, c.in_default.len_below))

pub returns-in_default-2 : goal.returns-in_default-2
returns-in_default-2 c = lone-not c.args.cells.now c.args.parts.now c.args.items.now (λ e. omega (arith, e, c.in_default.len_at_least))
