-- `tables::build_table`: the table is found or not.
use Rattle.plan.specs.Emits.{exit}
use Rattle.build_from.specs.Tables.{table-missing, table-accepted}
use Rattle.build_from.proofs.tables.build_table.Goals as goal

pub returns-in_err-i : goal.returns-in_err-i
returns-in_err-i c = λ area room. rw (exit c.from_residual.result c.from_residual.ensures.1) (table-missing _ _ _ _ _ _ room c.name-name.ensures.address c.name-name.ensures.length
    c.line-l.ensures c.find_table.ensures _ c.in_err-i.was)

pub returns : goal.returns
returns c = λ area room. rw c.next.ensures (table-accepted _ _ _ _ _ _ room c.name-name.ensures.address c.name-name.ensures.length
    c.line-l.ensures c.find_table.ensures c.in_ok-i.was c.named_scope-s.ensures c.scan_row.ensures)
