-- `Scope::add_aggregates`: each row so far has its label and its match; those are the child scope.
use native.Mathlib.Omega.{arith}
use Prim.Native.Nat.{◌<◌}
use mathlib.Core.Path.{refl}
use Rattle.rules.specs.Limits.{most_columns}
use Rattle.scope.specs.Copies.{copying-map}
use Rattle.scope.specs.NewMatch.{match_number}
use Rattle.scope.specs.AddAggregates.{passed_label, label-passed, aggregates-added}
use Rattle.scope.proofs.Scope.add_aggregates.Goals as goal

pub loop-j-preserved : goal.loop-j-preserved
loop-j-preserved c =
    let few : c.loop-j.j < most_columns = omega (arith, c.requires.few, c.loop-j-test.true) in
    let f = passed_label c.args.exprs.now.texts.catalog.now c.args.exprs.now.texts.statement.now c.args.exprs.now.table.now c.args.self.now in (
      copying-map f c.args.rows.now _ c.loop-j.invariant.0 few c.loop-j-test.true
          (label-passed c.args.exprs.now.table.now c.args.self.now _ (rw (c.view-view.ensures.labels, c.view-view.ensures.matches, c.view-view.ensures.tables) at c.label_of.ensures)),
      copying-map match_number c.args.rows.now _ c.loop-j.invariant.1 few c.loop-j-test.true c.match_number.ensures,
    )

pub returns : goal.returns
returns c =
    aggregates-added c.args.exprs.now.texts.catalog.now c.args.exprs.now.texts.statement.now c.args.exprs.now.table.now _ c.requires c.loop-j.invariant.0
    c.loop-j.invariant.1 (omega arith) c.loop-j-test.false refl refl refl refl
