-- `clause::join_item`: refused by the item or the merge, or joined.
use Rattle.build_from.specs.Later.{later-unbuilt, later-unmerged, later-join-room, later-joined}
use Rattle.plan.specs.Emits.{exit}
use Rattle.build_from.proofs.clause.join_item.Goals as goal

pub returns-in_err-b : goal.returns-in_err-b
returns-in_err-b c = rw (exit c.from_residual.result c.from_residual.ensures.1)
    (later-unbuilt c.requires c.in_err-b.ensures)

pub returns-in_err-s : goal.returns-in_err-s
returns-in_err-s c = rw (exit c.from_residual-in_err-s.result c.from_residual-in_err-s.ensures.1)
    (later-unmerged c.requires c.in_ok-b.ensures c.in_err-s.ensures)

pub join-requires-clause-room : goal.join-requires-clause-room
join-requires-clause-room c = (later-join-room c.requires c.in_ok-b.ensures).0

pub returns : goal.returns
returns c = rw c.next.ensures (later-joined c.requires c.in_ok-b.ensures c.in_ok-s.ensures c.join.ensures)
