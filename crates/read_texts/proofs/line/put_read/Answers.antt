-- `put_read`: four fields, one behind the other.
use Rattle.std.proofs.Common.{arith, rules}
use Rattle.rules.specs.Lines.{bytes}
use Rattle.listing.specs.Fields.{fields-then}
use Rattle.listing.specs.Lines.{line, lines_same}
use Rattle.read_texts.specs.Line.{fields_of, line_of}
use Rattle.read_texts.specs.Short.{decimal_few, kind_few, four_few}
use Rattle.read_texts.proofs.line.put_read.Goals as goal

pub returns-clause-line : goal.returns-clause-line
unfolding fields_of bytes
returns-clause-line c = lines_same (line c.bytes.ensures (fields-then c.field.ensures (fields-then c.number.ensures c.number-2.ensures)) c.byte.ensures)
    (λ d q. cc)

pub returns-clause-short : goal.returns-clause-short
unfolding line_of fields_of bytes
returns-clause-short c = four_few _ _ _ _ (omega (arith, kind_few c.args.t.kind, decimal_few c.args.t.cells (search rules), decimal_few c.args.t.tables (search rules)))
