-- `stars::table_of`: the name of the table in a label's slot, 0 where it has none.
use mathlib.Core.Path.{sym, ap, ◌∙◌}
use Rattle.build_projection.specs.Stars.{table_in, table_none, table-some}
use Rattle.build_projection.proofs.stars.table_of.Goals as goal

pub returns-then-k-eq0 : goal.returns-then-k-eq0
returns-then-k-eq0 c = table_none _ _ (sym c.slot-k.ensures ∙ c.if-k-eq0.true)

pub returns : goal.returns
returns c = c.number.ensures ∙ table-some _ _ c.if-k-eq0.false ∙ ap (table_in _) c.slot-k.ensures
