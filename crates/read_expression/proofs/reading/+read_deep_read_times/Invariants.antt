-- `reading::read_deep` and `reading::read_times`: the depth falls with each expression inside another; what is read so far, put before
-- what the rest reads, is what the whole reads.
use Prim.Native.Nat.{ℕ, ◌+◌, ◌*◌, ◌-◌}
use Rattle.rules.specs.ReadExpression.{deep}
use Rattle.read_expression.proofs.ExpressionRuns.{Loop}
use Rattle.read_expression.proofs.reading.+read_deep_read_times.Given as goal

abbrev pub decreases-read_deep : goal.decreases-read_deep
decreases-read_deep l = 2 * l.depth

abbrev pub decreases-read_times : goal.decreases-read_times
decreases-read_times l = 2 * l.depth + 1

abbrev pub invariant-read_times-loop : goal.invariant-read_times-loop
invariant-read_times-loop l = (k : ℕ) → Loop l.t (deep l.depth) l.n l.fn.at.position l.fn.at.line l.fn.at.rows l.initial.cells k l.behind.position l.behind.line l.behind.rows (l.n - l.counter) l.cells
