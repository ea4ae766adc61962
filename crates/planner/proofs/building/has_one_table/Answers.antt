-- `building::has_one_table`: a SELECT by the rows of FROM, and no other statement is one.
use mathlib.Core.Path.{refl, sym, ◌∙◌}
use Rattle.planner.specs.Kinds.{one-table-select, one-table-other, one-table-by}
use Rattle.planner.proofs.building.has_one_table.Goals as goal

pub returns-then-eq : goal.returns-then-eq
returns-then-eq c = one-table-select c.kind_of.result c.from_rows.result (sym c.eq.ensures ∙ c.if-eq.true)
    ∙ one-table-by c.args.parts.now c.kind_of.ensures c.from_rows.ensures

pub returns-else-eq : goal.returns-else-eq
returns-else-eq c = c.if-eq.false ∙ one-table-other c.kind_of.result _ (sym c.eq.ensures ∙ c.if-eq.false)
    ∙ one-table-by c.args.parts.now c.kind_of.ensures refl
