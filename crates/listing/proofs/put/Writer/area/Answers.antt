-- `area`: the header, the cells, the nodes and, where there is a kind, the statement's own lines.
use Rattle.std.proofs.Common.{append-nil}
use Rattle.listing.specs.Lines.{lines_then, lines_same}
use Rattle.listing.specs.Own.{KindOf, area_lines, kind-of, header-is, own-none}
use Rattle.listing.proofs.put.Writer.area.Goals as goal

pub returns-in-Some : goal.returns-in-Some
unfolding area_lines KindOf
returns-in-Some c =
    let k = rw c.number.ensures at (kind-of _ _ c.try_from.ensures c.ok-kind.ensures.value) in
    let n = rw c.in-Some.is at k in
    lines_same (lines_then c.header.ensures (lines_then c.cells.ensures (lines_then c.nodes.ensures c.own.ensures)))
    (λ d q. cc (header-is _ _ k, n))

pub returns-in_default : goal.returns-in_default
unfolding area_lines KindOf
returns-in_default c =
    let k = rw c.number.ensures at (kind-of _ _ c.try_from.ensures c.ok-kind.ensures.value) in
    let n = rw c.in_default.is at k in
    lines_same (lines_then c.header.ensures (lines_then c.cells.ensures c.nodes.ensures))
    (λ d q. rw (header-is _ _ k, ← own-none d q _ _ _ n, append-nil) cc)
