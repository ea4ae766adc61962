-- `ends::select_offset`: OFFSET is refused, or LIMIT follows it.
use Rattle.std.proofs.lemmas.Result.{err_from_is_err_and}
use Rattle.build_select.specs.Ends.{offset-follows, offset-stop, offset-on, offset-plans}
use Rattle.build_select.proofs.ends.select_offset.Goals as goal

pub build_offset-requires : goal.build_offset-requires
build_offset-requires c = offset-follows c.requires

pub returns-in_err-skipped : goal.returns-in_err-skipped
returns-in_err-skipped c = let p = err_from_is_err_and c.from_residual.result c.from_residual.ensures.1 in rw (p.1, p.2)
    (λ h. offset-stop h c.clause_at-clause.ensures (c.in_err-skipped.ensures.is _))

pub select_limit-requires : goal.select_limit-requires
select_limit-requires c = offset-on c.requires c.clause_at-clause.ensures (c.in_ok-skipped.ensures.is _)

pub returns : goal.returns
returns c = λ h. offset-plans h c.clause_at-clause.ensures (c.in_ok-skipped.ensures.is _)
    (c.select_limit.ensures (offset-on h c.clause_at-clause.ensures (c.in_ok-skipped.ensures.is _)))
