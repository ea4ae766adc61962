-- `read_names`: none, or the section of the names.
use Rattle.std.specs.Prelude.{length}
use Rattle.std.proofs.Common.{[], sym, ap, ◌∙◌}
use Rattle.statement.specs.InsertReads.{names-none, names-some}
use Rattle.statement.proofs.bodies.read_names.Goals as goal

pub returns-then-count-eq0 : goal.returns-then-count-eq0
returns-then-count-eq0 c = λ cs k d. names-none _ cs _ _ _ k _ _ c.requires
    (ap length (sym (d [])) ∙ sym (c.count.ensures [] c.args.t.now c.args.cells.now) ∙ c.if-count-eq0.true)

pub returns : goal.returns
returns c = λ cs k d. names-some _ cs _ _ _ k _ _
    (λ e. c.if-count-eq0.false (c.count.ensures [] c.args.t.now c.args.cells.now ∙ ap length (d []) ∙ e)) _ _ _ (c.read_section.ensures k)
