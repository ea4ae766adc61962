-- `read_section`: the entries read, and the rest by the rules from here, are what the rules read in all.
use native.Mathlib.Omega.{arith}
use mathlib.Core.Path.{sym, ◌∙◌}
use Rattle.std.proofs.lemmas.Result.{err_from_is_err_and}
use Rattle.entries.specs.Sections.{number_of, number-most}
use Rattle.sections.specs.Kinds.{start-within}
use Rattle.sections.specs.Runs.{section-begin, section-ready, section-refused, section-end, entry-moved, section-once, section-on}
use Rattle.sections.proofs.read_section.Goals as goal

pub loop-next-init : goal.loop-next-init
loop-next-init c = section-begin _ _ _ _ _ _ _ c.requires

pub read_entry-requires : goal.read_entry-requires
read_entry-requires c = section-ready c.loop-next.invariant (number-most c.args.kind)

pub returns-in_err-next : goal.returns-in_err-next
returns-in_err-next c = let p = err_from_is_err_and c.from_residual.result c.from_residual.ensures.1 in rw (p.1, p.2) (section-refused c.loop-next.invariant _ _ _ c.in_err-next.ensures)

pub offset_bounds-parts-start : goal.offset_bounds-parts-start
offset_bounds-parts-start c = record { fits = omega (arith, start-within (number_of c.args.kind) (number-most c.args.kind), c.room_of-start.ensures.0) }

pub bounds-parts-start : goal.bounds-parts-start
bounds-parts-start c = omega (arith, start-within (number_of c.args.kind) (number-most c.args.kind), c.room_of-start.ensures.0)

pub returns-then-once : goal.returns-then-once
returns-then-once c = section-once c.loop-next.invariant _ _ _ (λ k. rw c.in-Some.is at (c.in_ok-next.ensures k)) (sym c.is_once-once.ensures ∙ c.if-once.true) (number-most c.args.kind) (omega arith) c.room_of-start.ensures.0

pub loop-next-smaller : goal.loop-next-smaller
loop-next-smaller c = let m = entry-moved c.loop-next.invariant _ _ _ (λ k. rw c.in-Some.is at (c.in_ok-next.ensures k)) in omega (arith, m.0, m.1)

pub loop-next-preserved : goal.loop-next-preserved
loop-next-preserved c = section-on c.loop-next.invariant _ _ _ (λ k. rw c.in-Some.is at (c.in_ok-next.ensures k)) (sym c.is_once-once.ensures ∙ c.if-once.false)

pub offset_bounds-parts-start-2 : goal.offset_bounds-parts-start-2
offset_bounds-parts-start-2 c = record { fits = omega (arith, start-within (number_of c.args.kind) (number-most c.args.kind), c.room_of-start.ensures.0) }

pub bounds-parts-start-2 : goal.bounds-parts-start-2
bounds-parts-start-2 c = omega (arith, start-within (number_of c.args.kind) (number-most c.args.kind), c.room_of-start.ensures.0)

pub returns : goal.returns
returns c = section-end c.loop-next.invariant _ _ (number-most c.args.kind) (omega arith) c.room_of-start.ensures.0 (λ k. rw c.in_default.is at (c.in_ok-next.ensures k))
