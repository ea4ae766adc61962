-- `answer_with`: the line of what `read_texts` says is the one that the rules' answer has.
use mathlib.Core.Path.{ap, ◌∙◌}
use Rattle.read_texts.specs.Line.{line_of, line-told}
use Rattle.read_texts.proofs.answer_with.Goals as goal

pub returns : goal.returns
returns c = (c.put_texts.ensures.0, c.put_texts.ensures.1 ∙ ap line_of c.read_texts-t.ensures.is ∙ line-told _)
