-- `build_projection`: a lone star, or the items and the hidden columns behind them.
use mathlib.Core.Path.{sym, ◌∙◌}
use Rattle.std.proofs.lemmas.Result.{err_from_is_err_and}
use Rattle.plan.specs.Records.{opened-project}
use Rattle.build_project.specs.Whole.{stage-lone, stage-refused, hidden-ready, stage-wide, end-room, next-cell, stage-ended}
use Rattle.build_project.proofs.build_projection.Goals as goal

pub returns-then-is_lone : goal.returns-then-is_lone
returns-then-is_lone c = stage-lone c.requires (λ a b. sym c.if-is_lone.true ∙ c.is_lone.ensures a b)

pub returns-in_err-cell : goal.returns-in_err-cell
returns-in_err-cell c = let p = err_from_is_err_and c.from_residual.result c.from_residual.ensures.1 in rw (p.1, p.2)
    (stage-refused c.requires (opened-project c.begin.ensures) (λ a b. sym c.if-is_lone.false ∙ c.is_lone.ensures a b)
    (rw (c.view.ensures.labels, c.view.ensures.matches, c.view.ensures.tables) at c.in_err-cell.ensures.items_put) c.put_items.auto.area)

pub put_hidden-requires : goal.put_hidden-requires
put_hidden-requires c = record {
  hidden_ready = hidden-ready c.requires (opened-project c.begin.ensures) (λ a b. sym c.if-is_lone.false ∙ c.is_lone.ensures a b)
      (rw (c.view.ensures.labels, c.view.ensures.matches, c.view.ensures.tables) at c.in_ok-cell.ensures.items_put) c.put_items.auto.area;
  labels_value = rw (c.view.ensures.labels, c.view.ensures.matches, c.view.ensures.tables) at c.in_ok-cell.ensures.labelled.is;
}

pub returns-in_err-widened : goal.returns-in_err-widened
returns-in_err-widened c = let p = err_from_is_err_and c.from_residual-in_err-widened.result c.from_residual-in_err-widened.ensures.1 in rw (p.1, p.2)
    (stage-wide c.requires (opened-project c.begin.ensures) (λ a b. sym c.if-is_lone.false ∙ c.is_lone.ensures a b)
    (rw (c.view.ensures.labels, c.view.ensures.matches, c.view.ensures.tables) at c.in_ok-cell.ensures.items_put) c.put_items.auto.area c.in_err-widened.ensures)

pub end-requires : goal.end-requires
end-requires c = end-room c.requires (opened-project c.begin.ensures) (λ a b. sym c.if-is_lone.false ∙ c.is_lone.ensures a b)
    (rw (c.view.ensures.labels, c.view.ensures.matches, c.view.ensures.tables) at c.in_ok-cell.ensures.items_put) c.put_items.auto.area c.in_ok-widened.ensures

pub overflow_add-cell : goal.overflow_add-cell
overflow_add-cell c = record {
  fits = next-cell c.requires (opened-project c.begin.ensures) (λ a b. sym c.if-is_lone.false ∙ c.is_lone.ensures a b)
      (rw (c.view.ensures.labels, c.view.ensures.matches, c.view.ensures.tables) at c.in_ok-cell.ensures.items_put) c.put_items.auto.area c.in_ok-widened.ensures;
}

pub returns : goal.returns
returns c = rw c.next.ensures (stage-ended c.requires (opened-project c.begin.ensures) (λ a b. sym c.if-is_lone.false ∙ c.is_lone.ensures a b)
    (rw (c.view.ensures.labels, c.view.ensures.matches, c.view.ensures.tables) at c.in_ok-cell.ensures.items_put) c.put_items.auto.area c.in_ok-widened.ensures c.end.ensures)
