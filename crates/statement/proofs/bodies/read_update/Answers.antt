-- `read_update`: the sets, then `where`.
use Rattle.std.proofs.lemmas.Result.{err_from_is_err_and}
use Rattle.read_expression.specs.Given.{given-done}
use Rattle.statement.specs.BodyReads.{update-refused, update-read}
use Rattle.statement.proofs.bodies.read_update.Goals as goal

pub read_some-requires : goal.read_some-requires
read_some-requires c = rw (c.requires.line, c.requires.rows) c.requires.position

pub read_section-requires : goal.read_section-requires
read_section-requires c = (given-done _ _ _ _ _ _ _ _ (rw (c.requires.line, c.requires.rows) at (c.in_ok-sets.ensures 0))).position

pub returns-in_err-sets : goal.returns-in_err-sets
returns-in_err-sets c = λ n froms. let p = err_from_is_err_and c.from_residual.result c.from_residual.ensures.1 in rw (p.1, p.2) (update-refused _ n _ _ _ froms _ _ _ (rw (c.requires.line, c.requires.rows) at (c.in_err-sets.ensures 0)))

pub returns : goal.returns
returns c = λ n froms. update-read _ n _ _ _ froms _ _ _ _ _ _ (rw (c.requires.line, c.requires.rows) at (c.in_ok-sets.ensures 0)) (c.read_section.ensures 0)
