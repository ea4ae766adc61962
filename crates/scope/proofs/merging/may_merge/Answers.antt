-- `merging::may_merge`: a name that both hold comes before a width that is passed.
use Rattle.scope.specs.Merging.{may-taken, may-wide, may-fit}
use Rattle.scope.proofs.merging.may_merge.Goals as goal

pub returns-then-shares_name : goal.returns-then-shares_name
returns-then-shares_name c = may-taken _ _ _ _
    c.shares_name.ensures _ _ c.if-shares_name.true

pub returns-then-scope-other-gt-COLUMNS : goal.returns-then-scope-other-gt-COLUMNS
returns-then-scope-other-gt-COLUMNS c = may-wide _ _ _ _
    c.shares_name.ensures _ _ c.if-shares_name.false c.if-scope-other-gt-COLUMNS.true

pub returns : goal.returns
returns c = may-fit _ _ _ _
    c.shares_name.ensures _ _ c.if-shares_name.false c.if-scope-other-gt-COLUMNS.false
