-- What the answers about an expression's value mean, over the two texts: the catalog c and the statement q.
use Rattle.std.specs.Prelude.{◌≡◌, Result, Ok, Err}
use Rattle.rules.specs.Lists.{Bytes}
use Rattle.rules.specs.Refusals.{Answer, ok, refused, refuse}
use Rattle.rules.specs.Schema.{Value}
use Rattle.rules.specs.Ast.{Expr}
use Rattle.rules.specs.Evaluate.{evaluate}
use Rattle.numbers.specs.Reasons.{reason_of}
use Rattle.numbers.specs.Literals.{literal_value}
use Rattle.numbers.specs.declared.refusals.Refusal.{Refusal}
use Rattle.value.specs.Values.{value_of, held}
use Rattle.value.specs.declared.Value as code
use Rattle.expression.specs.declared.Constant.{Constant}
use Rattle.expression.specs.declared.Constant.TheVariants as Co

unfoldable pub map_answer : {A B : Type 0} → (A → B) → Answer A → Answer B
map_answer f (ok a) = ok (f a)
map_answer f (refused r) = refused r

-- a result of the code, its refusal in the statement
unfoldable pub answered : {A B : Type 0} → (A → B) → Result A Refusal → Answer B
answered f (Ok a) = ok (f a)
answered f (Err w) = refuse (reason_of w.reason) w.line

abbrev pub answer_of : Bytes → Bytes → Result code.Value Refusal → Answer Value
answer_of c q x = answered (value_of c q) x

-- x is what the rules give for an expression, a value as the code holds it
abbrev pub Evaluates : Bytes → Bytes → Result code.Value Refusal → Expr → Type 0
Evaluates c q x e = answer_of c q x ≡ map_answer held (evaluate e)

-- a literal, its bits kept
unfoldable pub constant_value : Bytes → Bytes → Constant → Value
constant_value c q (Co.Literal l) = literal_value c q l
constant_value c q (Co.Value v) = value_of c q v

abbrev pub constant_of : Bytes → Bytes → Result Constant Refusal → Answer Value
constant_of c q x = answered (constant_value c q) x
