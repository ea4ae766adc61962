-- `From<DataType> for u32`: a type's place in the order, from 1, is its number.
use Rattle.std.specs.Prelude.{◌≡◌, ◌+◌}
use Rattle.std.proofs.Math.Path.{refl}
use denote.Enum.Declared.{tag_of}
use Rattle.rules.specs.Area.{type_code}
use Rattle.numbers.specs.Datatypes.{type_of}
use Rattle.numbers.specs.contracts.datatypes.DataType.{the_type}
use Rattle.numbers.specs.declared.datatypes.DataType.{DataType}
use Rattle.numbers.specs.declared.datatypes.DataType.TheVariants as D
use Rattle.numbers.proofs.datatypes.U32FromDataType.from.Goals as goal

number-is : (d : DataType) → tag_of the_type d + 1 ≡ type_code (type_of d)
unfolding type_of type_code
number-is D.Boolean = refl
number-is D.Integer = refl
number-is D.Float = refl
number-is D.String = refl

pub returns : goal.returns
returns c = number-is c.args.datatype
