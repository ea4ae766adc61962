-- `read_insert`: `columns`, its names, the rows.
use mathlib.Core.List.{[]}
use Rattle.std.proofs.lemmas.Result.{err_from_is_err_and}
use Rattle.read_expression.specs.Given.{given-done}
use Rattle.statement.specs.InsertReads.{insert-refused, insert-names-refused, names-position, insert-read}
use Rattle.statement.proofs.bodies.read_insert.Goals as goal

pub read_section-requires : goal.read_section-requires
read_section-requires c = rw (c.requires.line, c.requires.rows) c.requires.position

pub read_names-requires : goal.read_names-requires
read_names-requires c = (given-done _ _ _ _ _ _ _ _ (rw (c.requires.line, c.requires.rows) at (c.in_ok-columns.ensures 0))).position

pub read_some-requires : goal.read_some-requires
read_some-requires c = names-position _ (record { bytes = []; start = 0 }) _ _ _ [] _ _ _ (rw (c.requires.line, c.requires.rows) at (c.in_ok-columns.ensures 0)) _ _ _ c.in_ok-names.ensures

pub returns-in_err-columns : goal.returns-in_err-columns
returns-in_err-columns c = λ n froms. let p = err_from_is_err_and c.from_residual.result c.from_residual.ensures.1 in rw (p.1, p.2) (insert-refused _ n _ _ _ froms _ _ _ (rw (c.requires.line, c.requires.rows) at (c.in_err-columns.ensures 0)))

pub returns-in_err-names : goal.returns-in_err-names
returns-in_err-names c = λ n froms. let p = err_from_is_err_and c.from_residual-in_err-names.result c.from_residual-in_err-names.ensures.1 in rw (p.1, p.2) (insert-names-refused _ n _ _ _ froms _ _ _ (rw (c.requires.line, c.requires.rows) at (c.in_ok-columns.ensures 0)) _ _ _ c.in_err-names.ensures)

pub returns : goal.returns
returns c = λ n froms. insert-read _ n _ _ _ froms _ _ _ (rw (c.requires.line, c.requires.rows) at (c.in_ok-columns.ensures 0)) _ _ _ c.in_ok-names.ensures _ _ _ (c.read_some.ensures 0)
