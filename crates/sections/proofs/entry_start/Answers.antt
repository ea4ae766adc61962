-- `entry_start`: a section starts in the parts, and its entries follow.
use native.Mathlib.Omega.{arith}
use Rattle.std.specs.Prelude.{ℕ, ◌+◌, ◌*◌}
use mathlib.Core.Path.{ap}
use Rattle.entries.specs.Sections.{number_of, number-most}
use Rattle.sections.specs.Kinds.{start-within}
use Rattle.sections.specs.OneEntry.{entry_start}
use Rattle.sections.proofs.entry_start.Goals as goal

pub overflow_add-result : goal.overflow_add-result
overflow_add-result c = record { fits = omega (arith, c.room_of-start.ensures.0, start-within (number_of c.args.kind) (number-most c.args.kind)) }

pub overflow_add-result-2 : goal.overflow_add-result-2
overflow_add-result-2 c = record { fits = omega (arith, c.room_of-start.ensures.0, start-within (number_of c.args.kind) (number-most c.args.kind), c.ranges.n) }

pub returns : goal.returns
unfolding entry_start
returns c = (
  ap (λ (s : ℕ). s + 1 + 12 * c.args.n) c.room_of-start.ensures.0,
  omega (arith, c.room_of-start.ensures.0, start-within (number_of c.args.kind) (number-most c.args.kind), c.ranges.n),
)
