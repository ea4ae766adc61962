-- `line_span`: no line 0, and before the n-th stand n - 1.
use Rattle.lines.specs.Spans.{span_none, span-nth}
use Rattle.lines.proofs.line_span.Goals as goal

pub returns-then-n-eq0 : goal.returns-then-n-eq0
returns-then-n-eq0 c = span_none _ _ c.if-n-eq0.true

pub returns : goal.returns
returns c = span-nth _ _ _ c.if-n-eq0.false c.span_behind.ensures
