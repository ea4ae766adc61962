-- `items::expand_items`: the numbers listed so far and the entries that are left stand for all items.
use mathlib.Core.Path.{refl, ap, ◌∙◌}
use Rattle.std.proofs.Common.{rules}
use Rattle.sections.specs.declared.entry.Entry.{Entry}
use Rattle.std.proofs.lemmas.Result.{err_from_is_err_and}
use Rattle.build_projection.specs.Listing.{listing-more, listing-limit}
use Rattle.build_projection.specs.Answered.{expand-done, expand-refused}
use Rattle.build_projection.proofs.items.expand_items.Goals as goal

pub returns-in_err-list_item : goal.returns-in_err-list_item
returns-in_err-list_item c = let p = err_from_is_err_and c.from_residual.result c.from_residual.ensures.1 in rw (p.1, p.2) (expand-refused _ c.in_err-list_item.ensures.is.is (listing-limit c.loop-k.invariant.1 _ c.loop-k-test.true
    c.count-total.ensures (c.item_star-star.ensures _ _ c.entry_at-e.ensures) refl c.in_err-list_item.ensures (ap (λ (e : Entry). e.line) c.entry_at-e.ensures)))

pub loop-k-preserved : goal.loop-k-preserved
loop-k-preserved c = (
  c.in_ok-list_item.ensures.same ∙ c.loop-k.invariant.0,
  listing-more c.loop-k.invariant.1 _ c.loop-k-test.true c.count-total.ensures (c.item_star-star.ensures _ _ c.entry_at-e.ensures)
      refl refl refl c.in_ok-list_item.ensures,
)

pub returns : goal.returns
returns c = expand-done _ c.loop-k.invariant.1 c.count-total.ensures c.loop-k-test.false (search rules)
