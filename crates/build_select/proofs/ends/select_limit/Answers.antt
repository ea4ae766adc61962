-- `ends::select_limit`: LIMIT is refused, or the last remap follows it.
use Rattle.std.proofs.lemmas.Result.{err_from_is_err_and}
use Rattle.build_select.specs.Ends.{limit-follows, limit-stop, limit-on, limit-plans}
use Rattle.build_select.proofs.ends.select_limit.Goals as goal

pub build_limit-requires : goal.build_limit-requires
build_limit-requires c = limit-follows c.requires

pub returns-in_err-limited : goal.returns-in_err-limited
returns-in_err-limited c = let p = err_from_is_err_and c.from_residual.result c.from_residual.ensures.1 in rw (p.1, p.2)
    (λ h. limit-stop h c.clause_at-clause.ensures (c.in_err-limited.ensures.is _))

pub select_remap-requires : goal.select_remap-requires
select_remap-requires c = limit-on c.requires c.clause_at-clause.ensures (c.in_ok-limited.ensures.is _)

pub returns : goal.returns
returns c = λ h. limit-plans h c.clause_at-clause.ensures (c.in_ok-limited.ensures.is _)
    (c.select_remap.ensures (limit-on h c.clause_at-clause.ensures (c.in_ok-limited.ensures.is _)))
