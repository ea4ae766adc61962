-- `projection::put_items`: the cells, parts and labels of the items so far, and the items that are left.
use Rattle.std.proofs.lemmas.Result.{err_from_is_err_and}
use native.Mathlib.Omega.{arith}
use mathlib.Core.Path.{refl, ap, ◌∙◌}
use mathlib.Core.Bool.{not}
use lib.ListN.{length-map}
use Rattle.numbers.specs.Kept.{kept-all, kept-part}
use Rattle.scope.specs.Copies.{copying-begin, stored}
use Rattle.build_projection.specs.Labels.{label_number, stands-put, some-used}
use Rattle.build_projection.specs.Pushes.{copying-items, used-put, pushing-begin, cells-before, room-here, space-here, pushing-refused, pushing-more, pushing-end, kept_next}
use Rattle.build_projection.proofs.projection.put_items.Goals as goal

pub loop-i-init : goal.loop-i-init
loop-i-init c = (pushing-begin _ _ _ c.requires.items_fit, copying-begin _ c.requires.projected_len refl, kept-all _ _ _)

pub put_item-requires : goal.put_item-requires
put_item-requires c = record { room = room-here c.loop-i.invariant.0 c.loop-i-test.true; nodes_room = space-here c.loop-i.invariant.0 c.loop-i-test.true }

pub returns-in_err-next : goal.returns-in_err-next
returns-in_err-next c = let p = err_from_is_err_and c.from_residual.result c.from_residual.ensures.1 in rw (p.1, p.2)
    (record {
      items_put = pushing-refused c.loop-i.invariant.0 c.loop-i-test.true
          (used-put c.args.scope.now.matches.now c.used-used.ensures.matches (rw (c.used-used.ensures.labels, c.used-used.ensures.tables) at c.in_err-next.ensures));
      labelled = record { is = tt; kept = kept-part _ _ c.loop-i.invariant.2 c.loop-i.invariant.0.within (omega arith) };
    })

pub item_label-requires : goal.item_label-requires
item_label-requires c = record { matched_value = ap not c.is_empty-matched.ensures ∙ some-used _ _ c.used-used.ensures.matches; item_stands = stands-put (cells-before c.loop-i.invariant.0) (used-put c.args.scope.now.matches.now c.used-used.ensures.matches (rw (c.used-used.ensures.labels, c.used-used.ensures.tables) at c.in_ok-next.ensures)) }

pub loop-i-preserved : goal.loop-i-preserved
loop-i-preserved c = (
  pushing-more c.loop-i.invariant.0 c.loop-i-test.true (used-put c.args.scope.now.matches.now c.used-used.ensures.matches (rw (c.used-used.ensures.labels, c.used-used.ensures.tables) at c.in_ok-next.ensures)) c.put_item.auto.area,
  copying-items (label_number c.args.exprs.now.texts.catalog.now c.args.exprs.now.texts.statement.now c.args.exprs.now.table.now c.args.parts.now
      c.args.scope.now.labels.now c.args.scope.now.matches.now
      c.args.scope.now.tables.now) c.args.items.now _ c.loop-i.invariant.1 (omega (arith, c.requires.items_fit.few, c.loop-i-test.true))
      c.loop-i-test.true c.item_label.ensures,
  kept_next _ c.loop-i.invariant.2,
)

pub returns : goal.returns
returns c = record {
  items_put = pushing-end c.loop-i.invariant.0 c.loop-i-test.false;
  labelled = record {
    is = stored c.loop-i.invariant.1 refl (length-map c.args.items.now (label_number c.args.exprs.now.texts.catalog.now c.args.exprs.now.texts.statement.now c.args.exprs.now.table.now c.args.parts.now
        c.args.scope.now.labels.now c.args.scope.now.matches.now
        c.args.scope.now.tables.now)) c.loop-i.invariant.0.within c.loop-i-test.false;
    kept = kept-part _ _ c.loop-i.invariant.2 c.loop-i.invariant.0.within (omega arith);
  };
}
