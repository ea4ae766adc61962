-- `later::later_rows`: the rows of HAVING, if there is one, and then of the order keys.
use Rattle.build_hidden.specs.Later.{none-fits, none-visited, having-fits, some_fits, some-visited}
use Rattle.build_hidden.proofs.later.later_rows.Goals as goal
use Rattle.build_hidden.proofs.later.later_rows.Goals.{in-Some, in_default}

pub visit_rows-requires : goal.visit_rows-requires
visit_rows-requires c = having-fits c.requires c.clause_at.ensures c.in-Some.is

pub order_rows-requires : goal.order_rows-requires
order_rows-requires c = elim c.match-clause_at.branch [
  | in-Some w ↦ rw w.rows-is (some_fits c.requires c.clause_at.ensures w.in-Some.is w.visit_rows.ensures)
  | in_default w ↦ rw w.rows-is (none-fits c.requires c.clause_at.ensures w.in_default.is)
]

pub returns : goal.returns
returns c = elim c.match-clause_at.branch [
  | in-Some w ↦ some-visited c.requires c.clause_at.ensures w.in-Some.is w.visit_rows.ensures
      (rw (← w.rows-is) c.order_rows.ensures)
  | in_default w ↦ none-visited c.requires c.clause_at.ensures w.in_default.is
      (rw (← w.rows-is) c.order_rows.ensures)
]
