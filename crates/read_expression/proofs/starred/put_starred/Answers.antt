-- `starred::put_starred`: nothing is stored, or the row's eight numbers.
use mathlib.Core.Path.{sym, ◌∙◌}
use Rattle.ast.specs.Row.{number_of}
use Rattle.read_expression.specs.Starred.{starred_numbers, starred-past, starred-short, starred-is}
use Rattle.read_expression.proofs.starred.put_starred.Goals as goal

pub returns-then-k-ge-STARRED_ROWS : goal.returns-then-k-ge-STARRED_ROWS
returns-then-k-ge-STARRED_ROWS c = starred-past _ _ _ _ _ _ _ c.if-k-ge-STARRED_ROWS.true

pub returns-in_default : goal.returns-in_default
returns-in_default c = starred-short _ _ _ _ _ _ _ c.if-k-ge-STARRED_ROWS.false c.in_default.ensures.cases

pub returns : goal.returns
unfolding starred_numbers number_of
returns c = let called = c in
    (rw called.qualified_row-h.ensures at called.put_row.ensures)
    ∙ rw c.in-Some.ensures.cases.same (sym (starred-is _ _ _ _ _ _ _ c.if-k-ge-STARRED_ROWS.false c.in-Some.ensures.cases.long))
