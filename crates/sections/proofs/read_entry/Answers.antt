-- `read_entry`: the rest from here is this entry and the rest behind it, or what ends the section.
use native.Mathlib.Omega.{arith}
use mathlib.Core.Path.{ap, ◌∙◌}
use Rattle.std.specs.Prelude.{Ok}
use Rattle.std.proofs.lemmas.Result.{err_from_is_err_and}
use Rattle.sections.specs.OneEntry.{entry-room, entry-end, entry-wrong, entry-limit, entry_next, entry-refused, entry-took}
use Rattle.sections.proofs.read_entry.Goals as goal

pub returns-in_default : goal.returns-in_default
returns-in_default c = entry-end _ _ c.requires c.args.run.last c.entry_head.ensures (c.in_ok-h.was ∙ ap Ok c.in_default.is)

pub returns-in_err-h : goal.returns-in_err-h
returns-in_err-h c = let p = err_from_is_err_and c.from_residual.result c.from_residual.ensures.1 in rw (p.1, p.2) (entry-wrong _ _ c.requires c.args.run.last c.entry_head.ensures _ c.in_err-h.was)

pub returns-then-most-run : goal.returns-then-most-run
returns-then-most-run c = rw c.at.ensures (entry-limit _ _ c.requires c.args.run.last c.entry_head.ensures (c.in_ok-h.was ∙ ap Ok c.in-Some.is) (omega (arith, c.if-most-run.true, c.room_of-most.ensures.1)))

pub read_expressions-requires : goal.read_expressions-requires
read_expressions-requires c =
    let next = entry_next c.args.cells.now c.args.parts.now c.requires c.args.run.last c.entry_head.ensures (c.in_ok-h.was ∙ ap Ok c.in-Some.is) (omega (arith, c.if-most-run.false, c.room_of-most.ensures.1)) c.fields-f.ensures.next in
    record { position = rw c.behind.ensures next.0; room = next.1 }

pub put_entry-requires : goal.put_entry-requires
put_entry-requires c = entry-room c.requires (omega (arith, c.if-most-run.false, c.room_of-most.ensures.1)) _ (omega arith) c.entry_start-i.ensures.0

pub returns-in_err-behind : goal.returns-in_err-behind
returns-in_err-behind c = let p = err_from_is_err_and c.from_residual-in_err-behind.result c.from_residual-in_err-behind.ensures.1 in rw (p.1, p.2) (entry-refused _ _ c.requires c.args.run.last c.entry_head.ensures (c.in_ok-h.was ∙ ap Ok c.in-Some.is) (omega (arith, c.if-most-run.false, c.room_of-most.ensures.1)) c.fields-f.ensures.next _ _ (rw c.behind.ensures at c.in_err-behind.ensures))

pub returns : goal.returns
returns c = entry-took _ _ c.requires c.args.run.last c.entry_head.ensures (c.in_ok-h.was ∙ ap Ok c.in-Some.is) (omega (arith, c.if-most-run.false, c.room_of-most.ensures.1)) c.fields-f.ensures.next _ _ (rw c.behind.ensures at c.in_ok-behind.ensures) c.entry_start-i.ensures.0 c.put_entry.ensures (omega arith) (omega arith)
