-- `hidden::put_hidden`: the projected scope and the hidden columns.
use mathlib.Core.Path.{refl}
use Rattle.std.proofs.lemmas.Result.{err_from_is_err_and}
use Rattle.build_project.specs.Widens.{hidden-within, hidden-count, put-ready, hidden-wide, hidden-done}
use Rattle.build_project.proofs.hidden.put_hidden.Goals as goal

pub returns-in_err-widened : goal.returns-in_err-widened
returns-in_err-widened c = let p = err_from_is_err_and c.from_residual.result c.from_residual.ensures.1 in rw (p.1, p.2)
    (hidden-wide c.requires.hidden_ready.items-ready c.project_scope-child.ensures (rw (c.view.ensures.labels, c.view.ensures.matches, c.view.ensures.tables) at c.in_err-widened.ensures) _ _ _)

pub slice_bounds-positions-end : goal.slice_bounds-positions-end
slice_bounds-positions-end c = hidden-within c.requires.hidden_ready.items-ready c.project_scope-child.ensures (rw (c.view.ensures.labels, c.view.ensures.matches, c.view.ensures.tables) at c.in_ok-widened.ensures) refl

pub slice_bounds-put_columns-end : goal.slice_bounds-put_columns-end
slice_bounds-put_columns-end c = hidden-count c.requires.hidden_ready.items-ready c.project_scope-child.ensures (rw (c.view.ensures.labels, c.view.ensures.matches, c.view.ensures.tables) at c.in_ok-widened.ensures) refl

pub put_columns-requires : goal.put_columns-requires
put_columns-requires c =
    let p = put-ready c.requires.hidden_ready.items-ready c.project_scope-child.ensures (rw (c.view.ensures.labels, c.view.ensures.matches, c.view.ensures.tables) at c.in_ok-widened.ensures) c.requires.hidden_ready refl in
    record { room = p.0; nodes_room = p.1 }

pub returns : goal.returns
returns c = hidden-done c.requires.hidden_ready.items-ready c.project_scope-child.ensures (rw (c.view.ensures.labels, c.view.ensures.matches, c.view.ensures.tables) at c.in_ok-widened.ensures) refl c.put_columns.ensures
