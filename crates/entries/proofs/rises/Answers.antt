-- `rises`: by the order of both names.
use mathlib.Core.Path.{ap, ◌∙◌}
use Rattle.std.specs.Ordering.{is_lt}
use Rattle.entries.specs.SetHeads.{rises-first, rises-by}
use Rattle.entries.proofs.rises.Goals as goal

pub returns-in_default : goal.returns-in_default
returns-in_default c w e = rw c.in_default.is (rises-first _ _)

pub returns : goal.returns
returns c w e = rw c.in-Some.is (rises-by _ _ _ c.position.ensures c.part-last_name.ensures e (c.is_lt.ensures ∙ ap is_lt c.compare.ensures))
