-- `line_at`: the bytes where the n-th line stands.
use mathlib.Core.Path.{◌∙◌}
use Rattle.lines.specs.Spans.{line-bytes}
use Rattle.lines.proofs.line_at.Goals as goal

pub returns : goal.returns
returns c = c.part.ensures ∙ line-bytes _ _ _ c.line_span-s.ensures
