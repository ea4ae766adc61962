-- `lookup`: the only column of a name, or that of a table's.
use Rattle.std.proofs.Common.{eqb-true, sym, ◌∙◌}
use Rattle.std.proofs.lemmas.Bool.{eqb-false}
use Rattle.rules.specs.Places.{word_at}
use Rattle.scope.specs.Lookup.{qualifier_of}
use Rattle.scope.specs.Search.{looked-empty, looked-only, under-nothing, under_table}
use Rattle.scope.proofs.view.View.lookup.Goals as goal

pub returns-then-is_empty : goal.returns-then-is_empty
returns-then-is_empty c = looked-empty _ _ _ _ _ _ (qualifier_of _ _ _) (eqb-true _ _ (sym c.is_empty.ensures ∙ c.if-is_empty.true))

pub returns-in-None : goal.returns-in-None
unfolding word_at
returns-in-None c = under-nothing c.in-None.is
    (looked-only _ _ _ _ _ _ (eqb-false _ _ (sym c.is_empty.ensures ∙ c.if-is_empty.false)) (c.only_named.ensures _ _ (sym c.bytes_at-sought.ensures)))

pub returns-in-Some : goal.returns-in-Some
unfolding word_at
returns-in-Some c = under_table c.in-Some.is c.bytes_at.ensures
    (λ v ev. c.lookup_qualified.ensures v _ ev (sym c.bytes_at-sought.ensures))
