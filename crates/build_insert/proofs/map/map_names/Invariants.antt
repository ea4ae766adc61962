-- `map::map_names`: the names so far.
use Rattle.build_insert.specs.Map.{columns_of, MapSoFar}
use Rattle.build_insert.proofs.map.map_names.Given as goal

abbrev pub invariant-loop-v : goal.invariant-loop-v
invariant-loop-v l =
    MapSoFar l.exprs.texts.catalog.now l.exprs.texts.statement.now l.exprs.table.now l.parts (columns_of l.exprs.texts.catalog.now l.exprs.texts.statement.now l.tables l.i) l.initial.columns l.columns l.v
