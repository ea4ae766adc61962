-- `span_at`: the line's bytes are those before the first LF.
use Rattle.lines.specs.Spans.{span-stop}
use Rattle.lines.proofs.span_at.Goals as goal

pub returns : goal.returns
returns c = span-stop _ _ _ c.stop_at-e.ensures
