-- A literal's record as an expression.
use Rattle.std.proofs.Common.{arith, sym}
use Rattle.std.specs.Prelude.{◌≡◌, [], ◌∷◌}
use Rattle.std.specs.Prelude as std
use Rattle.std.proofs.Math.Path.{refl}
use Rattle.std.proofs.Math.Option.{Option, none}
use Rattle.rules.specs.Limits.{most_bytes}
use Rattle.rules.specs.Lists.{Bytes, map_option}
use Rattle.rules.specs.Refusals.{statement}
use Rattle.rules.specs.Schema.{Value}
use Rattle.rules.specs.Reader.{base_address}
use Rattle.rules.specs.ReadExpression.{value_head}
use Rattle.text.specs.Reading.{text_of}
use Rattle.literal.specs.Records.{IsLiteral, literal-none, literal-some}
use Rattle.numbers.specs.Literals.{kind_number}
use Rattle.numbers.specs.declared.literals.Literal.{Literal}
use Rattle.read_expression.specs.declared.heads.Row.{Row}
use Rattle.read_expression.specs.Encode.{head_numbers, arity}
use Rattle.read_expression.specs.Fits.{HeadFits}
use Rattle.read_expression.specs.RowOf.{numbers_of, RowSays, RowOf}

pub row-none : (t : Bytes) (o : Option Value) (v : std.Option Literal) → IsLiteral most_bytes t o v → v ≡ std.None → map_option value_head o ≡ none
unfolding map_option
row-none t o v s e = rw (literal-none s e)

pub row-some : (t : Bytes) (o : Option Value) (l : std.Option Literal) (v : Literal) (r : Row) → IsLiteral most_bytes t o l → l ≡ std.Some v → numbers_of r ≡ 8 ∷ kind_number v.kind ∷ v.first ∷ v.second ∷ 0 ∷ 0 ∷ [] → r.operands ≡ 0 → RowOf t (map_option value_head o) (std.Some r)
unfolding RowSays base_address text_of
row-some t o l v r s e n z =
    let x = literal-some v s e in
    record {
      says = rw x.1 (unfold map_option in record {
        is = unfold head_numbers in rw x.2 (sym n);
        many = unfold arity in z;
        small = omega arith;
        fits = λ c. unfold HeadFits in x.3 statement refl c t refl;
      });
    }
