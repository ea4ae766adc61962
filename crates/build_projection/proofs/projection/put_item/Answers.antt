-- `projection::put_item`: the cells of an item's expression, then its part of the record.
use native.Mathlib.Omega.{arith}
use mathlib.Core.Path.{sym, ◌∙◌}
use Rattle.std.proofs.lemmas.Result.{err_from_is_err_and}
use Rattle.build_projection.specs.Items.{item_of}
use Rattle.build_projection.specs.Aliases.{item-tree, alias-span, alias-numbers}
use Rattle.build_projection.specs.Pushes.{put_refused, put_some, put-done}
use Rattle.build_projection.proofs.projection.put_item.Goals as goal

pub build_item-requires : goal.build_item-requires
build_item-requires c = rw (c.item_row-row.ensures, ← item-tree c.args.exprs.now.texts.catalog.now c.args.exprs.now.texts.statement.now c.args.exprs.now.table.now c.args.parts.now c.args.x) c.requires.room

pub overflow_sub-next : goal.overflow_sub-next
overflow_sub-next c = let l = put_some _ _ c.item_row-row.ensures c.in_ok-next.ensures in omega arith

pub returns-in_err-next : goal.returns-in_err-next
returns-in_err-next c = let p = err_from_is_err_and c.from_residual.result c.from_residual.ensures.1 in rw (p.1, p.2)
    (put_refused _ _ c.item_row-row.ensures c.in_err-next.ensures _)

pub returns : goal.returns
returns c = put-done _ _ c.item_row-row.ensures c.in_ok-next.ensures
    (c.item.ensures (item_of c.args.exprs.now.texts.catalog.now c.args.exprs.now.texts.statement.now c.args.exprs.now.table.now c.args.parts.now c.args.x).alias
    (rw c.alias_at-alias.ensures (alias-span c.args.exprs.now.texts.catalog.now c.args.exprs.now.texts.statement.now c.args.exprs.now.table.now c.args.parts.now c.args.x
    ∙ sym (alias-numbers c.args.exprs.now.texts.catalog.now c.args.exprs.now.texts.statement.now c.args.parts.now c.args.x))))
