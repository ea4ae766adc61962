-- Answers of reading a statement: one step after another.
use Rattle.std.specs.Prelude.{ℕ, Result, Ok, Err}
use Rattle.rules.specs.Lists.{Bytes}
use Rattle.rules.specs.Reader.{Read}
use Rattle.numbers.specs.declared.refusals.Refusal as code
use Rattle.read_expression.specs.declared.reading.Cursor.{Cursor}
use Rattle.read_expression.specs.Reading.{Given}

-- more of what was read
pub given-map : {A : Type 0} (m : Read A) (H K : ℕ → A → Type 0) (t : Bytes) (p l c k : ℕ) (r : Result Cursor code.Refusal) → ((c' : ℕ) (v : A) → H c' v → K c' v) → Given m H t p l c k r → Given m K t p l c k r
unfolding Given
given-map m H K t p l c k (Err w) f g = g
given-map m H K t p l c k (Ok q) f g = record { value = g.value; is = g.is; position = g.position; moved = g.moved; more = g.more; holds = f q.rows g.value g.holds }
