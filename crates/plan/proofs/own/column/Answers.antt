-- `column`: the numbers of a column but for its default.
use Rattle.numbers.specs.Flags.{byte_flag}
use Rattle.plan.specs.Pushed.{pushed-on, pushed-as}
use Rattle.plan.specs.Own.{column_numbers}
use Rattle.plan.proofs.own.column.Goals as goal

pub returns : goal.returns
unfolding column_numbers
returns c = λ d e f g h i j. pushed-as (rw (
  e,
  f,
  g,
  h,
  i,
  j,
  c.from.ensures,
  c.from-2.ensures,
  byte_flag c.args.nullable,
  c.from-3.ensures,
  byte_flag c.args.unique,
  c.from-4.ensures,
  byte_flag c.args.index,
))
    (pushed-on c.extend.ensures c.place.ensures)
