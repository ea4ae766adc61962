-- `read_statement`: a text that is too long first, then its first record, then the rest.
use native.Mathlib.Omega.{arith}
use Rattle.std.proofs.lemmas.Result.{err_from_is_err_and}
use Rattle.statement.specs.Whole.{too_long, wrong_first, second-line, statement-refused, statement-read}
use Rattle.read_expression.proofs.Missing.{missing}
use Rattle.statement.proofs.read_statement.Goals as goal

pub returns-then-statement : goal.returns-then-statement
returns-then-statement c = rw c.at.ensures (too_long _ _ _ _ c.if-statement.true)

pub returns-in_err-f : goal.returns-in_err-f
returns-in_err-f c = let p = missing c.from_residual.result c.first_record.result c.from_residual.ensures.1 c.in_err-f.ensures.value in
    rw (p.1, c.at-2.ensures) (wrong_first _ (rw p.0 at c.first_record.ensures) (omega (arith, c.if-statement.false)) _ _ _)

pub read_behind-requires : goal.read_behind-requires
read_behind-requires c = rw c.first_fields-line.ensures.next (second-line _ _ (rw c.in_ok-f.ensures.ok_part at c.first_record.ensures) (omega (arith, c.if-statement.false)))

pub returns-in_err-behind : goal.returns-in_err-behind
returns-in_err-behind c = let p = err_from_is_err_and c.from_residual-in_err-behind.result c.from_residual-in_err-behind.ensures.1 in rw (p.1, p.2) (statement-refused _ _ (rw c.in_ok-f.ensures.ok_part at c.first_record.ensures) (omega (arith, c.if-statement.false)) _ _ c.args.parts.now _ _ c.put_first.ensures (omega arith) _ c.first_fields-line.ensures.next _ c.in_err-behind.ensures)

pub returns : goal.returns
returns c = statement-read _ _ (rw c.in_ok-f.ensures.ok_part at c.first_record.ensures) (omega (arith, c.if-statement.false)) _ _ c.args.parts.now _ _ c.put_first.ensures (omega arith) _ c.first_fields-line.ensures.next _ c.in_ok-behind.ensures
