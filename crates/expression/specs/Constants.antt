-- What the answer about building a constant's expression means: the first refusal of building over the empty scope.
use Rattle.std.specs.Prelude.{Result}
use Rattle.rules.specs.Refusals.{Answer, ok, ◌>>◌}
use Rattle.rules.specs.Ast.{Expr, Exprs, nil, cons}
use Rattle.rules.specs.Scope.{empty}
use Rattle.rules.specs.BuildExpression.{build}
use Rattle.numbers.specs.declared.refusals.Refusal.{Refusal}
use Rattle.expression.specs.Answers.{map_answer, answered}

abbrev pub checked_of : Result (Unit {0}) Refusal → Answer (Unit {0})
checked_of x = answered (λ t. t) x

-- an answer, but for its value
unfoldable pub refusal_only : {A : Type 0} → Answer A → Answer (Unit {0})
refusal_only m = map_answer {B = Unit {0}} (λ a. tt) m

-- what building gives, but for what is built
unfoldable pub check : Expr → Answer (Unit {0})
check e = refusal_only (build empty e)

-- the first refusal of two
unfoldable pub first_of : Answer (Unit {0}) → Answer (Unit {0}) → Answer (Unit {0})
first_of m n = m >> n

-- that of several expressions, in order
unfoldable pub check_all : Exprs → Answer (Unit {0})
check_all nil = ok tt
check_all (cons a as') = first_of (check a) (check_all as')
