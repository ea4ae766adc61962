-- `operator`: by the number that its word is packed into.
use native.Mathlib.Omega.{arith}
use Rattle.rules.specs.ReadExpression.{operators}
use Rattle.text.specs.Words.{nth}
use Rattle.numbers.specs.Operators.{unary_operator, binary_operator}
use Rattle.ast.specs.Row.{number_of}
use Rattle.text.specs.Packed.{find_number, Apart, find_none, packed-word}
use Rattle.read_expression.specs.RowOf.{no_row}
use Rattle.read_expression.specs.Operators.{operator-words, operator-table, operator-none, operator-as, row-of-plain, is-plainly}
use Rattle.read_expression.proofs.heads.operator.Goals as goal

pub returns-in-23359073 : goal.returns-in-23359073
unfolding find_number operators nth binary_operator
returns-in-23359073 c = operator-as _ 0 _ operator-words (packed-word _ _ _ _ _ operator-table c.packed.ensures (rw c.in-23359073.is)) c.binary.ensures

pub returns-in-24407918 : goal.returns-in-24407918
unfolding find_number operators nth unary_operator
returns-in-24407918 c = operator-as _ 1 _ operator-words (packed-word _ _ _ _ _ operator-table c.packed.ensures (rw c.in-24407918.is)) c.unary.ensures

pub returns-in-94831 : goal.returns-in-94831
unfolding find_number operators nth binary_operator
returns-in-94831 c = operator-as _ 2 _ operator-words (packed-word _ _ _ _ _ operator-table c.packed.ensures (rw c.in-94831.is)) c.binary-in-94831.ensures

pub returns-in-94565 : goal.returns-in-94565
unfolding find_number operators nth binary_operator
returns-in-94565 c = operator-as _ 3 _ operator-words (packed-word _ _ _ _ _ operator-table c.packed.ensures (rw c.in-94565.is)) c.binary-in-94565.ensures

pub returns-in-95335 : goal.returns-in-95335
unfolding find_number operators nth binary_operator
returns-in-95335 c = operator-as _ 4 _ operator-words (packed-word _ _ _ _ _ operator-table c.packed.ensures (rw c.in-95335.is)) c.binary-in-95335.ensures

pub returns-in-91495 : goal.returns-in-91495
unfolding find_number operators nth binary_operator
returns-in-91495 c = operator-as _ 5 _ operator-words (packed-word _ _ _ _ _ operator-table c.packed.ensures (rw c.in-91495.is)) c.binary-in-91495.ensures

pub returns-in-95081 : goal.returns-in-95081
unfolding find_number operators nth number_of
returns-in-95081 c = operator-as _ 6 _ operator-words (packed-word _ _ _ _ _ operator-table c.packed.ensures (rw c.in-95081.is)) (λ t. row-of-plain _ _ _ _ _ _ is-plainly c.plain_row.ensures)

pub returns-in-95340 : goal.returns-in-95340
unfolding find_number operators nth binary_operator
returns-in-95340 c = operator-as _ 7 _ operator-words (packed-word _ _ _ _ _ operator-table c.packed.ensures (rw c.in-95340.is)) c.binary-in-95340.ensures

pub returns-in-91500 : goal.returns-in-91500
unfolding find_number operators nth binary_operator
returns-in-91500 c = operator-as _ 8 _ operator-words (packed-word _ _ _ _ _ operator-table c.packed.ensures (rw c.in-91500.is)) c.binary-in-91500.ensures

pub returns-in-91502 : goal.returns-in-91502
unfolding find_number operators nth binary_operator
returns-in-91502 c = operator-as _ 9 _ operator-words (packed-word _ _ _ _ _ operator-table c.packed.ensures (rw c.in-91502.is)) c.binary-in-91502.ensures

pub returns-in-23356513 : goal.returns-in-23356513
unfolding find_number operators nth binary_operator
returns-in-23356513 c = operator-as _ 10 _ operator-words (packed-word _ _ _ _ _ operator-table c.packed.ensures (rw c.in-23356513.is)) c.binary-in-23356513.ensures

pub returns-in-24537444 : goal.returns-in-24537444
unfolding find_number operators nth binary_operator
returns-in-24537444 c = operator-as _ 11 _ operator-words (packed-word _ _ _ _ _ operator-table c.packed.ensures (rw c.in-24537444.is)) c.binary-in-24537444.ensures

pub returns-in-24604528 : goal.returns-in-24604528
unfolding find_number operators nth binary_operator
returns-in-24604528 c = operator-as _ 12 _ operator-words (packed-word _ _ _ _ _ operator-table c.packed.ensures (rw c.in-24604528.is)) c.binary-in-24604528.ensures

pub returns-in-6247637350 : goal.returns-in-6247637350
unfolding find_number operators nth unary_operator
returns-in-6247637350 c = operator-as _ 13 _ operator-words (packed-word _ _ _ _ _ operator-table c.packed.ensures (rw c.in-6247637350.is)) c.unary-in-6247637350.ensures

pub returns-in-1599579972713 : goal.returns-in-1599579972713
unfolding find_number operators nth unary_operator
returns-in-1599579972713 c = operator-as _ 14 _ operator-words (packed-word _ _ _ _ _ operator-table c.packed.ensures (rw c.in-1599579972713.is)) c.unary-in-1599579972713.ensures

pub returns-in-23885165 : goal.returns-in-23885165
unfolding find_number operators nth binary_operator
returns-in-23885165 c = operator-as _ 15 _ operator-words (packed-word _ _ _ _ _ operator-table c.packed.ensures (rw c.in-23885165.is)) c.binary-in-23885165.ensures

pub returns-in-23553390 : goal.returns-in-23553390
unfolding find_number operators nth unary_operator
returns-in-23553390 c = operator-as _ 16 _ operator-words (packed-word _ _ _ _ _ operator-table c.packed.ensures (rw c.in-23553390.is)) c.unary-in-23553390.ensures

pub returns-in-23946610 : goal.returns-in-23946610
unfolding find_number operators nth binary_operator
returns-in-23946610 c = operator-as _ 17 _ operator-words (packed-word _ _ _ _ _ operator-table c.packed.ensures (rw c.in-23946610.is)) c.binary-in-23946610.ensures

pub returns-in-23229811 : goal.returns-in-23229811
unfolding find_number operators nth binary_operator
returns-in-23229811 c = operator-as _ 18 _ operator-words (packed-word _ _ _ _ _ operator-table c.packed.ensures (rw c.in-23229811.is)) c.binary-in-23229811.ensures

pub returns-in-5996505452 : goal.returns-in-5996505452
unfolding find_number operators nth binary_operator
returns-in-5996505452 c = operator-as _ 19 _ operator-words (packed-word _ _ _ _ _ operator-table c.packed.ensures (rw c.in-5996505452.is)) c.binary-in-5996505452.ensures

pub returns-in_default : goal.returns-in_default
unfolding Apart
returns-in_default c = λ t. let r = c.in_default.in_default-own.rest in
    no_row (operator-none _ 20 _ operator-words (packed-word _ _ _ _ _ operator-table c.packed.ensures (find_none _ _ (r.0.0.0.0.0.0.0.0.0.0.0.0.0.0.0.0.0.0.0.1, (r.0.0.0.0.0.0.0.0.0.0.0.0.0.0.0.0.0.0.1, (r.0.0.0.0.0.0.0.0.0.0.0.0.0.0.0.0.0.1, (r.0.0.0.0.0.0.0.0.0.0.0.0.0.0.0.0.1, (r.0.0.0.0.0.0.0.0.0.0.0.0.0.0.0.1, (r.0.0.0.0.0.0.0.0.0.0.0.0.0.0.1, (r.0.0.0.0.0.0.0.0.0.0.0.0.0.1, (r.0.0.0.0.0.0.0.0.0.0.0.0.1, (r.0.0.0.0.0.0.0.0.0.0.0.1, (r.0.0.0.0.0.0.0.0.0.0.1, (r.0.0.0.0.0.0.0.0.0.1, (r.0.0.0.0.0.0.0.0.1, (r.0.0.0.0.0.0.0.1, (r.0.0.0.0.0.0.1, (r.0.0.0.0.0.1, (r.0.0.0.0.1, (r.0.0.0.1, (r.0.0.1, (r.0.1, (r.1, tt)))))))))))))))))))))) (omega arith))
