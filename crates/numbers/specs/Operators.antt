-- The operators of the code are the rules'.
use Rattle.rules.specs.Ast as rules
use Rattle.numbers.specs.declared.operators.Unary.{Unary}
use Rattle.numbers.specs.declared.operators.Unary.TheVariants as U
use Rattle.numbers.specs.declared.operators.Binary.{Binary}
use Rattle.numbers.specs.declared.operators.Binary.TheVariants as B

unfoldable pub unary_operator : Unary → rules.Unary
unary_operator U.Not = rules.not
unary_operator U.Factorial = rules.fact
unary_operator U.Identity = rules.ident
unary_operator U.Negate = rules.neg
unary_operator U.SquareRoot = rules.sqrt

unfoldable pub binary_operator : Binary → rules.Binary
binary_operator B.And = rules.plain rules.and
binary_operator B.Or = rules.plain rules.or
binary_operator B.Equal = rules.plain rules.eq
binary_operator B.GreaterThan = rules.plain rules.gt
binary_operator B.LessThan = rules.plain rules.lt
binary_operator B.Add = rules.plain rules.add
binary_operator B.Divide = rules.plain rules.div
binary_operator B.Exponentiate = rules.plain rules.pow
binary_operator B.Multiply = rules.plain rules.mul
binary_operator B.Remainder = rules.plain rules.rem
binary_operator B.Subtract = rules.plain rules.sub
binary_operator B.Like = rules.plain rules.like
binary_operator B.GreaterThanOrEqual = rules.ge
binary_operator B.LessThanOrEqual = rules.le
binary_operator B.NotEqual = rules.ne
