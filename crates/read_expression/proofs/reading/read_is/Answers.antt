-- `reading::read_is`: the literal and the row of an `is`.
use Rattle.ast.specs.Row.{number_of}
use Rattle.read_expression.proofs.Missing.{missing}
use Rattle.read_expression.proofs.ExpressionRuns.{is-row-wrong, is_row}
use Rattle.read_expression.proofs.reading.read_is.Goals as goal

pub returns-in_err-v : goal.returns-in_err-v
returns-in_err-v c = λ k. let p = missing c.from_residual.result c.literal_at-literal.result c.from_residual.ensures.1 c.in_err-v.ensures.value in
    rw (p.1, c.at.ensures) (is-row-wrong _ _ _ k c.literal_at-literal.ensures _ p.0)

pub returns : goal.returns
unfolding number_of
returns c = λ k. rw c.behind.ensures (is_row _ _ _ k c.literal_at-literal.ensures _ _ _ _ c.requires.position c.in_ok-v.ensures.ok_part c.fields-f.ensures.next (rw c.literal_row.ensures.row at c.put_row.ensures))
