-- `Scope::add_hidden`: the column that is passed on stands behind the others, hidden.
use mathlib.Core.Path.{refl, ap}
use lib.ListN.{set}
use Rattle.scope.specs.Hide.{hidden-added}
use Rattle.scope.proofs.Scope.add_hidden.Goals as goal

pub returns : goal.returns
returns c = let s = c in
    hidden-added s.args.exprs.now.texts.catalog.now s.args.exprs.now.texts.statement.now s.args.exprs.now.table.now _ s.requires refl
    (ap (set s.args.self.matches s.args.self.width) (rw c.first.ensures at c.pass_match-passed.ensures)) refl refl refl refl
