-- `From<LiteralKind> for u32`: a kind's place in the order, from 1, is its number.
use Rattle.std.specs.Prelude.{◌≡◌, ◌+◌}
use Rattle.std.proofs.Math.Path.{refl}
use denote.Enum.Declared.{tag_of}
use Rattle.numbers.specs.Literals.{kind_number}
use Rattle.numbers.specs.contracts.literals.LiteralKind.{the_type}
use Rattle.numbers.specs.declared.literals.LiteralKind.{LiteralKind}
use Rattle.numbers.specs.declared.literals.LiteralKind.TheVariants as L
use Rattle.numbers.proofs.literals.U32FromLiteralKind.from.Goals as goal

number-is : (k : LiteralKind) → tag_of the_type k + 1 ≡ kind_number k
unfolding kind_number
number-is L.Null = refl
number-is L.Bool = refl
number-is L.Int = refl
number-is L.Float = refl
number-is L.Text = refl

pub returns : goal.returns
returns c = number-is c.args.kind
