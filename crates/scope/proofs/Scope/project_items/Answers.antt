-- `Scope::project_items`: each item so far has its match where no item before is equal.
use borrow.Author.Rules.{rules}
use native.Mathlib.Omega.{arith}
use mathlib.Core.Path.{refl, ◌∙◌}
use Rattle.scope.specs.Copies.{overwritten}
use Rattle.scope.specs.NewMatch.{storing-begin, storing-more}
use Rattle.scope.specs.Items.{items-projected}
use Rattle.scope.proofs.Scope.project_items.Goals as goal

pub loop-j-init : goal.loop-j-init
loop-j-init c = (refl, refl, refl, storing-begin _ _ c.requires.valid.matches-room)

pub loop-j-preserved : goal.loop-j-preserved
loop-j-preserved c = let i = c.loop-j.invariant in (
  i.0,
  i.1,
  i.2,
  storing-more _ i.3 (omega (arith, c.requires.few, c.loop-j-test.true)) c.loop-j-test.true (rw c.first.ensures at c.new_match.ensures),
)

pub returns : goal.returns
returns c = let i = c.loop-j.invariant in
    items-projected c.args.exprs.now.texts.catalog.now c.args.exprs.now.texts.statement.now c.args.exprs.now.table.now _ c.requires
    (overwritten (i.0 ∙ c.overwrite.ensures)) i.3 (search rules) c.loop-j-test.false i.1 refl i.2 refl
