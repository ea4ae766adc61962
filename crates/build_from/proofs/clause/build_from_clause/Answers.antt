-- `clause::build_from_clause`: in each turn the items behind the first i are left.
use Rattle.std.proofs.lemmas.Result.{err_from_is_err_and}
use Rattle.build_from.specs.Parts.{clause-empty, clause-first-room, clause-first-refused, clause-first}
use Rattle.build_from.specs.Parts.{clause-next-room, clause-next-refused, clause-next, clause-end}
use Rattle.build_from.proofs.clause.build_from_clause.Goals as goal

pub returns-then-count-eq0 : goal.returns-then-count-eq0
returns-then-count-eq0 c = clause-empty _ _ _ _ _ _ c.requires c.items-count.ensures c.if-count-eq0.true c.empty_clause.ensures

pub build_from-requires : goal.build_from-requires
build_from-requires c = clause-first-room _ _ _ _ _ _ c.requires c.items-count.ensures c.if-count-eq0.false c.root-first.ensures

pub returns-in_err-source : goal.returns-in_err-source
returns-in_err-source c = let p = err_from_is_err_and c.from_residual.result c.from_residual.ensures.1 in rw (p.1, p.2)
    (clause-first-refused _ _ _ _ _ _ c.requires c.items-count.ensures c.if-count-eq0.false c.root-first.ensures
    c.in_err-source.ensures)

pub loop-i-init : goal.loop-i-init
loop-i-init c = clause-first _ _ _ _ _ _ c.requires c.items-count.ensures c.if-count-eq0.false c.root-first.ensures c.in_ok-source.ensures

pub join_item-requires : goal.join_item-requires
join_item-requires c = clause-next-room _ _ _ _ _ _ c.requires c.items-count.ensures c.loop-i.invariant c.loop-i-test.true c.root-r.ensures

pub returns-in_err-clause : goal.returns-in_err-clause
returns-in_err-clause c =
    let p = err_from_is_err_and c.from_residual-in_err-clause.result c.from_residual-in_err-clause.ensures.1 in rw (p.1, p.2)
    (clause-next-refused _ _ _ _ _ _ c.requires c.items-count.ensures c.loop-i.invariant c.loop-i-test.true c.root-r.ensures
    c.in_err-clause.ensures)

pub loop-i-preserved : goal.loop-i-preserved
loop-i-preserved c = clause-next _ _ _ _ _ _ c.requires c.items-count.ensures c.loop-i.invariant c.loop-i-test.true c.root-r.ensures
    c.in_ok-clause.ensures

pub returns : goal.returns
returns c = clause-end _ _ _ _ _ _ c.requires c.items-count.ensures c.loop-i.invariant c.loop-i-test.false
