-- `read_some`: a section with no entry is refused where it should stand.
use native.Mathlib.Omega.{arith}
use Rattle.std.proofs.lemmas.Result.{err_from_is_err_and}
use Rattle.entries.specs.Sections.{number_of, number-most}
use Rattle.sections.specs.Kinds.{start-within}
use Rattle.sections.specs.AtLeastOne.{some-no, some-none, some-done}
use Rattle.sections.proofs.read_some.Goals as goal

pub offset_bounds-parts-start : goal.offset_bounds-parts-start
offset_bounds-parts-start c = record { fits = omega (arith, start-within (number_of c.args.kind) (number-most c.args.kind), c.room_of-start.ensures.0) }

pub bounds-parts-start : goal.bounds-parts-start
bounds-parts-start c = omega (arith, start-within (number_of c.args.kind) (number-most c.args.kind), c.room_of-start.ensures.0)

pub returns-in_err-behind : goal.returns-in_err-behind
returns-in_err-behind c = let p = err_from_is_err_and c.from_residual.result c.from_residual.ensures.1 in rw (p.1, p.2) (some-no _ _ _ _ _ _ _ _ _ _ c.in_err-behind.ensures)

pub returns-then-parts-start-eq0 : goal.returns-then-parts-start-eq0
returns-then-parts-start-eq0 c = rw c.at.ensures (some-none _ _ _ _ _ _ _ _ _ _ c.in_ok-behind.ensures c.room_of-start.ensures.0 c.if-parts-start-eq0.true)

pub returns : goal.returns
returns c = some-done _ _ _ _ _ _ _ _ _ _ c.in_ok-behind.ensures c.room_of-start.ensures.0 c.if-parts-start-eq0.false
