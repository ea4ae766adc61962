-- `rows::function_rows`: three runs of rows, one behind the other.
use Rattle.build_groups.specs.Collects.{items-room, having-none, having-some}
use Rattle.build_groups.proofs.rows.function_rows.Goals as goal
use Rattle.build_groups.proofs.rows.function_rows.Goals.{in-Some, in_default}

pub collect_section-requires : goal.collect_section-requires
collect_section-requires c = items-room _ _ _ _ c.args.rows.now c.requires

pub collect_section-requires-2 : goal.collect_section-requires-2
collect_section-requires-2 c = elim c.match-clause_at.branch [
  | in-Some w ↦ rw w.rows-is (having-some _ _ _ _ _ c.requires c.collect_section.ensures c.clause_at.ensures w.in-Some.is w.collect.ensures).room
  | in_default w ↦ rw w.rows-is (having-none _ _ _ _ _ c.requires c.collect_section.ensures c.clause_at.ensures w.in_default.is).room
]

pub returns : goal.returns
returns c = elim c.match-clause_at.branch [
  | in-Some w ↦ (having-some _ _ _ _ _ c.requires c.collect_section.ensures c.clause_at.ensures w.in-Some.is w.collect.ensures).rest
      _ (rw (← w.rows-is) c.collect_section-2.ensures)
  | in_default w ↦ (having-none _ _ _ _ _ c.requires c.collect_section.ensures c.clause_at.ensures w.in_default.is).rest
      _ (rw (← w.rows-is) c.collect_section-2.ensures)
]
