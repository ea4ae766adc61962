-- `set::build_default`: no default, or its constant.
use Rattle.build_update.specs.Sets.{no-default, a-default}
use Rattle.build_update.proofs.set.build_default.Goals as goal

pub returns-in_default : goal.returns-in_default
returns-in_default c = rw c.at.ensures (no-default _ _ _ (c.default_at.ensures c.args.texts.now.catalog.now c.args.texts.now.statement.now) _ c.in_default.is)

pub returns : goal.returns
returns c = a-default _ _ _ (c.default_at.ensures c.args.texts.now.catalog.now c.args.texts.now.statement.now) _ _ c.in-Some.is c.constant.ensures
