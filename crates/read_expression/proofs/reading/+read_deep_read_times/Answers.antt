-- `reading::read_deep` and `reading::read_times`: the depth falls with each expression inside another; what is read so far, put before
-- what the rest reads, is what the whole reads.
use native.Mathlib.Omega.{arith}
use mathlib.Core.Path.{◌≡◌}
use Prim.Native.Nat.{◌+◌, ◌-◌}
use Rattle.std.proofs.lemmas.Result.{err_from_is_err_and}
use Rattle.read_expression.specs.Given.{given-done}
use Rattle.read_expression.specs.RecordHere.{row-of-some}
use Rattle.read_expression.proofs.ExpressionRuns.{loop-start, loop-end, loop-refused, loop-on, no_record, no_room, too-deep, operands-position, operands-no-more, deep-done, deep_is, leaf-done}
use Rattle.read_expression.proofs.reading.+read_deep_read_times.Goals as goal

pub read_deep-head-requires : goal.read_deep-head-requires
read_deep-head-requires t c = record { short = c.requires.0.short; within = c.requires.0.within; fields = c.fields-f.ensures }

pub read_deep-returns-in_default : goal.read_deep-returns-in_default
read_deep-returns-in_default t c = λ k. rw c.at.ensures (no_record _ _ _ k _ _ c.in_default.ensures)

pub read_deep-returns-then-at-ge-STATEMENT_ROWS : goal.read_deep-returns-then-at-ge-STATEMENT_ROWS
read_deep-returns-then-at-ge-STATEMENT_ROWS t c = λ k. rw c.at-then-at-ge-STATEMENT_ROWS.ensures (no_room _ _ _ k _ _ c.in-Some.ensures (omega arith))

pub read_deep-returns-then-depth-eq0 : goal.read_deep-returns-then-depth-eq0
read_deep-returns-then-depth-eq0 t c = λ k. rw c.at-then-depth-eq0.ensures (too-deep _ _ _ k _ _ c.in-Some.ensures (omega arith) c.if-depth-eq0.true)

pub read_deep-returns-then-h-eq0 : goal.read_deep-returns-then-h-eq0
read_deep-returns-then-h-eq0 t c = λ k. rw c.behind.ensures (leaf-done _ _ _ k c.in-Some.ensures _ c.if-h-eq0.true c.requires.0 (omega arith) c.if-depth-eq0.false c.fields-f.ensures.next _ _ c.put_row.ensures)

pub read_deep-read_times-requires : goal.read_deep-read_times-requires
read_deep-read_times-requires t c = (omega (arith, c.if-depth-eq0.false), (rw c.behind.ensures (operands-position c.requires.0 c.in-Some.ensures (omega arith) c.fields-f.ensures.next), omega (arith, c.requires.1), (row-of-some (c.in-Some.ensures 0 0 0)).2.small))

pub read_deep-returns-in_err-behind : goal.read_deep-returns-in_err-behind
read_deep-returns-in_err-behind t c = λ k. let p = err_from_is_err_and c.from_residual.result c.from_residual.ensures.1 in rw (p.1, p.2) (operands-no-more _ _ _ k _ _ c.in-Some.ensures (omega arith) c.if-depth-eq0.false c.fields-f.ensures.next _ _ (rw c.behind.ensures at (c.in_err-behind.ensures k)))

pub read_deep-read_is-requires : goal.read_deep-read_is-requires
read_deep-read_is-requires t c = let w = given-done _ _ _ _ _ _ 0 _ (rw c.behind.ensures at (c.in_ok-behind.ensures 0)) in record { position = w.position; room = omega (arith, w.more) }

pub read_deep-returns-in-Is : goal.read_deep-returns-in-Is
read_deep-returns-in-Is t c = λ k. deep_is _ _ _ k c.in-Some.ensures _ (omega arith) c.if-depth-eq0.false c.fields-f.ensures.next _ _ _ _ _ (rw c.behind.ensures at (c.in_ok-behind.ensures k)) c.in-Is.is _ _ (c.read_is.ensures k)

pub read_deep-overflow_sub-behind : goal.read_deep-overflow_sub-behind
read_deep-overflow_sub-behind t c = omega (arith, (given-done _ _ _ _ _ _ 0 _ (rw c.behind.ensures at (c.in_ok-behind.ensures 0))).more)

pub read_deep-returns-in_default-kind : goal.read_deep-returns-in_default-kind
read_deep-returns-in_default-kind t c = λ k. deep-done _ _ _ k c.in-Some.ensures _ (omega arith) c.if-depth-eq0.false c.fields-f.ensures.next _ _ _ _ _ (rw c.behind.ensures at (c.in_ok-behind.ensures k)) _ c.in_default-kind.not-Is c.put_row-in_default-kind.ensures

pub read_times-loop-init : goal.read_times-loop-init
read_times-loop-init t c = let e : c.args.n - 0 ≡ c.args.n = omega arith in λ k. rw e (loop-start c.requires.0)

pub read_times-read_deep-requires : goal.read_times-read_deep-requires
read_times-read_deep-requires t c = (omega arith, ((c.loop.invariant 0).position, c.requires.1))

pub read_times-returns-in_err-behind : goal.read_times-returns-in_err-behind
read_times-returns-in_err-behind t c = λ k. let p = err_from_is_err_and c.from_residual.result c.from_residual.ensures.1 in rw (p.1, p.2) (loop-refused (c.loop.invariant k) (omega arith) _ _ _ (c.in_err-behind.ensures k))

pub read_times-loop-preserved : goal.read_times-loop-preserved
read_times-loop-preserved t c =
    let e : c.args.n - c.loop.counter - 1 ≡ c.args.n - (c.loop.counter + 1) = omega arith in
    λ k. rw (← e) (loop-on (c.loop.invariant k) _ (omega arith) _ (c.in_ok-behind.ensures k))

pub read_times-returns : goal.read_times-returns
read_times-returns t c = λ k. loop-end (c.loop.invariant k) (omega arith)
