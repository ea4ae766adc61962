-- `header`: the first line.
use Rattle.std.proofs.Common.{refl}
use Rattle.rules.specs.Lines.{bytes}
use Rattle.listing.specs.Fields.{fields-then}
use Rattle.listing.specs.Lines.{line, lines_same}
use Rattle.listing.specs.Own.{header_of, kind-mapped}
use Rattle.listing.proofs.put.Writer.header.Goals as goal

pub returns : goal.returns
unfolding header_of bytes
returns c = lines_same (line c.bytes.ensures (fields-then c.field.ensures (fields-then c.number-2.ensures c.number-4.ensures)) c.byte.ensures)
    (λ d q. rw (kind-mapped c.args.kind c.map.result _ c.map.ensures.cases c.unwrap_or.ensures refl) cc)
