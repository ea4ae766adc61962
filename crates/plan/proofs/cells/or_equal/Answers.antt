-- `cells::or_equal` meets its contract.
use mathlib.Core.Path.{refl}
use Rattle.rules.specs.Ast.{or, eq}
use Rattle.numbers.specs.Operators.{binary_operator}
use Rattle.plan.specs.Cells.{puts-three}
use Rattle.plan.proofs.cells.or_equal.Goals as goal

pub returns : goal.returns
unfolding binary_operator
returns c = record {
  value = refl;
  puts = λ o e. puts-three (c.plain.ensures o e) (c.plain-2.ensures eq refl)
      (c.plain-3.ensures or refl);
}
