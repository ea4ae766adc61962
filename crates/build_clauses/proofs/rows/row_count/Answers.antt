-- `rows::row_count`: the number that a constant is.
use Rattle.plan.specs.Emits.{exit}
use Rattle.build_clauses.specs.Rows.{counted, counted-refused}
use Rattle.build_clauses.proofs.rows.row_count.Goals as goal

pub returns-in_err-constant : goal.returns-in_err-constant
returns-in_err-constant c = rw (exit c.from_residual.result c.from_residual.ensures.1) (counted-refused _ _ _ _ _ c.build_constant_value.ensures _ _ _ c.in_err-constant.was)

pub returns : goal.returns
returns c = rw c.ok_or.ensures.value (counted _ _ _ _ _ c.build_constant_value.ensures c.args.invalid _ _ c.in_ok-constant.was
    (c.to_natural.ensures _ _ c.args.exprs.now.texts.catalog.now c.args.exprs.now.texts.statement.now))
