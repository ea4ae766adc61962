-- `line_end`: behind the first LF, or the end of the text.
use Rattle.text.specs.Bytes.{stop-found}
use mathlib.Core.Path.{sym, ◌∙◌}
use Rattle.text.specs.Lines.{line-hit, line-none, line-stop}
use Rattle.text.proofs.line_end.Goals as goal

pub returns-then-e-t : goal.returns-then-e-t
returns-then-e-t c = sym (line-hit _ _ c.if-e-t.true (stop-found 10 _ _ _ c.stop_at-e.ensures c.if-e-t.true)) ∙ line-stop 10 _ _ _ c.stop_at-e.ensures

pub returns : goal.returns
returns c = sym (line-none _ _ c.if-e-t.false) ∙ line-stop 10 _ _ _ c.stop_at-e.ensures
