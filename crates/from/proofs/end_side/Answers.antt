-- `end_side`: by the number of the innermost open join.
use native.Mathlib.Omega.{arith}
use mathlib.Core.Bool.{true}
use mathlib.Core.Path.{◌≡◌, ap, ◌∙◌}
use Prim.Native.Nat.{◌+◌, ◌-◌}
use lib.ListN.{length}
use Rattle.from.specs.Stack.{popped-none, popped_some}
use Rattle.std.proofs.lemmas.Result.{err_from_is_err_and}
use Rattle.from.specs.Closed.{loop-end, loop-right, close-room, loop-closed-refused, closed-moves, loop-closed}
use Rattle.from.specs.Loop.{loop-as, right-falls, close-falls}
use Rattle.from.specs.Turns.{TurnRead}
use Rattle.from.proofs.end_side.Goals as goal

pub pop-requires : goal.pop-requires
pop-requires c = omega (arith, c.requires.begun.reads.deep, c.requires.begun.reads.stack-room, c.requires.begun.reads.position.within)

pub returns-in_default : goal.returns-in_default
unfolding TurnRead
returns-in_default c = λ g u. loop-end (loop-as true c.requires.side_read u) (popped-none _ _ c.pop.ensures c.in_default.is)

pub close_join-requires-clause-row_room : goal.close_join-requires-clause-row_room
close_join-requires-clause-row_room c = let x = popped_some _ _ c.pop.ensures c.in-Some.is in close-room (loop-as true c.requires.side_read c.requires.begun.reads) x.some _ x.value c.if-join.true

pub returns-in_err-at : goal.returns-in_err-at
unfolding TurnRead
returns-in_err-at c = λ g u. let p = err_from_is_err_and c.from_residual.result c.from_residual.ensures.1 in let x = popped_some _ _ c.pop.ensures c.in-Some.is in rw (p.1, p.2) (loop-closed-refused (loop-as true c.requires.side_read u) x.some _ x.value c.if-join.true _ _ _ c.in_err-at.ensures)

pub returns-then-join : goal.returns-then-join
unfolding TurnRead
returns-then-join c = λ g u. let x = popped_some _ _ c.pop.ensures c.in-Some.is in rw x.count (record { reads = rw x.joins (loop-closed (loop-as true c.requires.side_read u) x.some _ x.value c.if-join.true _ _ _ c.in_ok-at.ensures (omega arith)); falls = close-falls _ _ _ _ _ c.requires.side_read x.some (closed-moves (loop-as true c.requires.side_read u) x.some _ x.value c.if-join.true _ _ _ c.in_ok-at.ensures); same = x.same })

pub push-requires : goal.push-requires
push-requires c = let x = popped_some _ _ c.pop.ensures c.in-Some.is in omega (arith, x.count, x.some, ap length x.joins, c.requires.begun.reads.deep, c.requires.begun.reads.stack-room, c.requires.begun.reads.position.within)

pub returns : goal.returns
unfolding TurnRead
returns c = λ g u.
    let x = popped_some _ _ c.pop.ensures c.in-Some.is in
    let e : c.args.stack.now.count - 1 + 1 ≡ c.args.stack.now.count = omega (arith, x.some) in
    rw (c.push.ensures.count, x.count, e) (record { reads = rw (c.push.ensures.joins, x.count, x.joins) (loop-right (loop-as true c.requires.side_read u) x.some _ x.value c.if-join.false); falls = right-falls _ _ _ _ c.requires.side_read; same = c.push.ensures.same ∙ x.same })
