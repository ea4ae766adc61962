-- `put_texts`: the line is put from the start on, and fits.
use Rattle.std.proofs.Common.{rules, refl}
use Rattle.rules.specs.Print.{show_lines}
use Rattle.read_texts.specs.Line.{line_of}
use Rattle.read_texts.specs.Short.{all_put}
use Rattle.read_texts.proofs.line.put_texts.Goals as goal

pub returns : goal.returns
unfolding show_lines line_of
returns c = all_put _ _ (search rules) c.put_line.ensures.line.puts.put refl c.put_line.ensures.short
