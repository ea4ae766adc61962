-- `labels::behind`: a label with a table has a slot further on.
use mathlib.Core.Path.{sym}
use Rattle.scope.specs.Slots.{shifted-free, shifted-slot}
use Rattle.scope.proofs.labels.behind.Goals as goal

pub returns-then-x-lt-SLOT : goal.returns-then-x-lt-SLOT
returns-then-x-lt-SLOT c = sym (shifted-free _ _ c.if-x-lt-SLOT.true)

pub returns : goal.returns
returns c = sym (shifted-slot _ _ c.if-x-lt-SLOT.false)
