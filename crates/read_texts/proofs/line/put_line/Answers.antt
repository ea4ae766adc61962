-- `put_line`: what was read, or the refusal as the planning program prints it; either is short.
use Rattle.std.proofs.Common.{arith, rules}
use Rattle.rules.specs.Lines.{bytes}
use Rattle.rules.specs.Refusals.{refusal_number}
use Rattle.numbers.specs.Reasons.{reason_of, reason-numbers}
use Rattle.listing.specs.Lines.{lines_same}
use Rattle.read_texts.specs.Line.{refused-fields, fields_of, line_of}
use Rattle.read_texts.specs.Short.{decimal_few, text_few, four_few}
use Rattle.read_texts.proofs.line.put_line.Goals as goal

pub returns-in-Err-clause-line : goal.returns-in-Err-clause-line
returns-in-Err-clause-line c = rw c.in-Err.is (lines_same c.refusal.ensures (λ d q. refused-fields _))

pub returns-in-Err-clause-short : goal.returns-in-Err-clause-short
unfolding line_of fields_of bytes
returns-in-Err-clause-short c = rw c.in-Err.is (four_few _ _ _ _ (omega (
  arith,
  text_few c.in-Err.w.text,
  decimal_few (refusal_number (reason_of c.in-Err.w.reason)) (omega (arith, (reason-numbers (reason_of c.in-Err.w.reason)).1)),
  decimal_few c.in-Err.w.line (search rules),
)))
