-- `next_side`: one record, by its kind.
use native.Mathlib.Omega.{arith}
use mathlib.Core.Bool.{false}
use mathlib.Core.Path.{refl}
use Rattle.from.specs.Loop.{loop-as, loop-wrong, loop-limit, next-within, table-moves, loop-table, push-moves, push-within, loop-push, table-falls, push-falls}
use Rattle.text.specs.Answers.{wrong_at, limit_at}
use Rattle.numbers.specs.Reasons.{reason_of}
use Rattle.std.proofs.lemmas.Result.{err_from_is_err_and}
use Rattle.from.specs.Trees.{TableAdded}
use Rattle.from.specs.Turns.{TurnRead}
use Rattle.from.proofs.next_side.Goals as goal

pub returns-in_default : goal.returns-in_default
unfolding TurnRead wrong_at reason_of
returns-in_default c = λ cells g u. rw c.at.ensures (loop-wrong (loop-as false c.requires.side_ahead u) c.in_default.ensures)

pub push-requires : goal.push-requires
push-requires c = push-within (loop-as false c.requires.side_ahead c.requires.begun.reading.reads) c.in-Some.ensures c.in-Join.is

pub returns-in-Join : goal.returns-in-Join
unfolding TurnRead
returns-in-Join c = λ cells g u. rw (c.behind.ensures, c.push.ensures.count) (record { reads = rw c.push.ensures.joins (loop-push (loop-as false c.requires.side_ahead u) c.in-Some.ensures c.in-Join.is); falls = push-falls _ _ _ _ _ c.requires.side_ahead (push-moves (loop-as false c.requires.side_ahead u) c.in-Some.ensures c.in-Join.is) (next-within (loop-as false c.requires.side_ahead u) c.in-Some.ensures); same = c.push.ensures.same })

pub returns-in_err-froms-in-Table : goal.returns-in_err-froms-in-Table
unfolding TurnRead TableAdded limit_at reason_of
returns-in_err-froms-in-Table c = λ cells g u. let p = err_from_is_err_and c.from_residual.result c.from_residual.ensures.1 in rw (p.1, p.2, c.in_err-froms-in-Table.ensures.2) (loop-limit (loop-as false c.requires.side_ahead u) c.in-Some.ensures c.in-Table.is c.in_err-froms-in-Table.ensures.0)

pub returns-in_ok-froms-in-Table : goal.returns-in_ok-froms-in-Table
unfolding TurnRead TableAdded
returns-in_ok-froms-in-Table c = λ cells g u. rw c.in_ok-froms-in-Table.ensures.2 (record { reads = loop-table (loop-as false c.requires.side_ahead u) c.in-Some.ensures c.in-Table.is c.in_ok-froms-in-Table.ensures.0 _ c.in_ok-froms-in-Table.ensures.1 (omega arith); falls = table-falls _ _ _ _ _ c.requires.side_ahead (table-moves (loop-as false c.requires.side_ahead u) c.in-Some.ensures c.in-Table.is) u.position.within (next-within (loop-as false c.requires.side_ahead u) c.in-Some.ensures); same = refl })
