-- `lookup::is_qualified`: a label with a table is qualified where both names agree.
use mathlib.Core.Path.{sym, ◌∙◌}
use Rattle.scope.specs.Names.{qualified-none, qualified-not, qualified-both}
use Rattle.scope.specs.Endings.{passed-qualified}
use Rattle.scope.proofs.lookup.is_qualified.Goals as goal

pub returns-then-not-may_end : goal.returns-then-not-may_end
returns-then-not-may_end c = λ v w ev ew f. sym (passed-qualified _ _ _ w _ ew c.args.x f (sym c.may_end.ensures ∙ c.if-not-may_end.true) v)

pub returns-then-not-has_name : goal.returns-then-not-has_name
returns-then-not-has_name c = λ v w ev ew f. sym (qualified-not _ _ _ c.args.x _ _ (c.has_name.ensures w ew) c.if-not-has_name.true)

pub returns-then-k-ne0 : goal.returns-then-k-ne0
returns-then-k-ne0 c = λ v w ev ew f. c.has_name-then-k-ne0.ensures v ev
    ∙ sym (qualified-both _ _ c.args.tables.now c.args.x _ _ _ (λ e. c.if-k-ne0.true (c.slot-k.ensures ∙ e))
    (c.has_name.ensures w ew) _ (rw c.slot-k.ensures at c.number.ensures) c.if-not-has_name.false)

pub returns-else-k-ne0 : goal.returns-else-k-ne0
returns-else-k-ne0 c = λ v w ev ew f. rw c.if-k-ne0.false (sym (qualified-none _ _ _ c.args.x _ _ (sym c.slot-k.ensures ∙ c.if-k-ne0.false)))
