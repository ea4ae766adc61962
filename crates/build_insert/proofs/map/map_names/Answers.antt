-- `map::map_names`: the names so far.
use native.Mathlib.Omega.{arith}
use mathlib.Core.Path.{◌∙◌}
use Rattle.build_insert.specs.Map.{columns_of, mapped-first, map-none, map-all, name-unknown, name-repeated, name-mapped}
use Rattle.build_insert.proofs.map.map_names.Goals as goal

pub loop-v-init : goal.loop-v-init
loop-v-init c = map-none c.args.exprs.now.texts.catalog.now c.args.exprs.now.texts.statement.now c.args.exprs.now.table.now c.args.parts.now (columns_of c.args.exprs.now.texts.catalog.now c.args.exprs.now.texts.statement.now c.args.tables.now c.args.i) _

pub returns-in_default : goal.returns-in_default
returns-in_default c = rw c.at.ensures (record {
  map = name-unknown c.args.exprs.now.texts.catalog.now c.args.exprs.now.texts.statement.now c.args.exprs.now.table.now c.args.parts.now (columns_of c.args.exprs.now.texts.catalog.now c.args.exprs.now.texts.statement.now c.args.tables.now c.args.i) c.loop-v.invariant _ c.entry_at-e.ensures _ (c.count-count.ensures c.args.exprs.now.texts.catalog.now c.args.exprs.now.texts.statement.now c.args.exprs.now.table.now) c.loop-v-test.true
      _ c.name_or-name.ensures _ c.column_at-found.ensures c.in_default.is;
  few = tt;
})

pub returns-then-is_mapped : goal.returns-then-is_mapped
returns-then-is_mapped c = rw c.at-then-is_mapped.ensures (record {
  map = name-repeated c.args.exprs.now.texts.catalog.now c.args.exprs.now.texts.statement.now c.args.exprs.now.table.now c.args.parts.now (columns_of c.args.exprs.now.texts.catalog.now c.args.exprs.now.texts.statement.now c.args.tables.now c.args.i) c.loop-v.invariant _ c.entry_at-e.ensures _ (c.count-count.ensures c.args.exprs.now.texts.catalog.now c.args.exprs.now.texts.statement.now c.args.exprs.now.table.now) c.loop-v-test.true
      _ c.name_or-name.ensures _ c.column_at-found.ensures
      _ c.in-Some.is _ (c.is_mapped.ensures ∙ mapped-first _ _ _ (omega (arith, c.requires, c.loop-v.invariant.same, c.loop-v.invariant.few))) c.if-is_mapped.true;
  few = tt;
})

pub loop-v-preserved : goal.loop-v-preserved
loop-v-preserved c = name-mapped c.args.exprs.now.texts.catalog.now c.args.exprs.now.texts.statement.now c.args.exprs.now.table.now c.args.parts.now (columns_of c.args.exprs.now.texts.catalog.now c.args.exprs.now.texts.statement.now c.args.tables.now c.args.i) c.loop-v.invariant _ c.entry_at-e.ensures _ (c.count-count.ensures c.args.exprs.now.texts.catalog.now c.args.exprs.now.texts.statement.now c.args.exprs.now.table.now) c.loop-v-test.true
    _ c.name_or-name.ensures _ c.column_at-found.ensures
    _ c.in-Some.is _ (c.is_mapped.ensures ∙ mapped-first _ _ _ (omega (arith, c.requires, c.loop-v.invariant.same, c.loop-v.invariant.few))) c.if-is_mapped.false
    (omega (arith, c.requires, c.loop-v.invariant.same, c.loop-v-test.true, c.count-count.ensures c.args.exprs.now.texts.catalog.now c.args.exprs.now.texts.statement.now c.args.exprs.now.table.now)) c.map_value.ensures

pub returns : goal.returns
returns c = record {
  map = map-all c.args.exprs.now.texts.catalog.now c.args.exprs.now.texts.statement.now c.args.exprs.now.table.now c.args.parts.now (columns_of c.args.exprs.now.texts.catalog.now c.args.exprs.now.texts.statement.now c.args.tables.now c.args.i) c.loop-v.invariant _ (c.count-count.ensures c.args.exprs.now.texts.catalog.now c.args.exprs.now.texts.statement.now c.args.exprs.now.table.now) (omega (arith, c.loop-v-test.false))
      c.loop-v.invariant.few;
  few = omega (arith, c.requires, c.loop-v.invariant.same, c.count-count.ensures c.args.exprs.now.texts.catalog.now c.args.exprs.now.texts.statement.now c.args.exprs.now.table.now);
}
