-- `lookup::is_named`: a label of another ending has another name, and a label of 0 none; any other has that of its place.
use mathlib.Core.Path.{sym, ◌∙◌}
use Rattle.scope.specs.Names.{named-last, named-other}
use Rattle.scope.specs.Endings.{passed-named}
use Rattle.scope.proofs.lookup.is_named.Goals as goal

pub returns-then-not-may_end : goal.returns-then-not-may_end
returns-then-not-may_end c = λ ts w e f. sym (passed-named _ _ ts w _ e c.args.x f (sym c.may_end.ensures ∙ c.if-not-may_end.true))

pub returns-then-has_name : goal.returns-then-has_name
returns-then-has_name c = λ ts w e f. named-last _ _ ts c.args.x w (c.has_name.ensures w e) c.if-has_name.true

pub returns-else-has_name : goal.returns-else-has_name
returns-else-has_name c = λ ts w e f. named-other _ _ ts c.args.x w (c.has_name.ensures w e) c.if-has_name.false
