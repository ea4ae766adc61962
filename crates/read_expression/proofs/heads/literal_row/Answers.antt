-- `literal_row`: the literal's numbers behind the kind.
use mathlib.Core.Path.{refl}
use Rattle.ast.specs.Row.{number_of}
use Rattle.read_expression.specs.Literals.{row-some}
use Rattle.read_expression.proofs.heads.literal_row.Goals as goal

pub returns-clause-says : goal.returns-clause-says
unfolding number_of
returns-clause-says c = λ t o s. row-some t o _ _ _ s refl (rw (c.plain_row.ensures, c.from.ensures) refl) (rw c.plain_row.ensures refl)

pub returns-clause-row : goal.returns-clause-row
returns-clause-row c = rw (c.plain_row.ensures, c.from.ensures) refl
