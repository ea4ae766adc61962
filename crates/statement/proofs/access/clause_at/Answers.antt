-- `access::clause_at`: none, or the first entry.
use Rattle.std.proofs.Common.{arith}
use mathlib.Core.Path.{sym, ◌∙◌}
use mathlib.Core.List.{[]}
use Rattle.entries.specs.Sections.{number_of}
use Rattle.sections.specs.Access.{section-count}
use Rattle.statement.specs.EntryAccess.{clause-none, clause-by}
use Rattle.statement.proofs.access.clause_at.Goals as goal

pub returns-then-count-eq0 : goal.returns-then-count-eq0
returns-then-count-eq0 c = let args = c.args in
    clause-none args.parts.now (number_of args.kind)
    (sym (c.count.ensures [] [] [] ∙ section-count [] [] [] args.parts.now (number_of args.kind)) ∙ c.if-count-eq0.true)

pub returns : goal.returns
returns c = let args = c.args in
    clause-by args.parts.now (number_of args.kind) _ _ _ c.entry_at-e.ensures c.expr_row.ensures
    (c.count.ensures [] [] [] ∙ section-count [] [] [] args.parts.now (number_of args.kind))
    (omega arith)
