-- `build_item`: a qualified column over no matches, or the tree.
use mathlib.Core.Path.{refl, sym, ◌∙◌}
use Rattle.std.proofs.Common.{eqb-true}
use Rattle.ast.specs.Table.{tree_at}
use Rattle.ast.specs.Row.{number_of}
use Rattle.ast.specs.declared.row.Kind.TheVariants as K
use Rattle.ast.proofs.KindNumbers.{same-kinds}
use Rattle.build_expression.specs.Builds.{unmatched-none}
use Rattle.build_expression.specs.Operands.{leaf_room}
use Rattle.build_expression.proofs.build_item.Goals as goal

pub qualified-requires : goal.qualified-requires
unfolding number_of
qualified-requires c = record {
  room = leaf_room (tree_at c.args.exprs.now.texts.catalog.now c.args.exprs.now.texts.statement.now c.args.exprs.now.table.now
      c.args.r) _ _ c.requires;
  qualified = eqb-true _ _ (sym (same-kinds _ K.Qualified c.kind_of.ensures refl) ∙ sym c.eq.ensures ∙ c.if-eq.true);
  unmatched = unmatched-none _ _ _ c.args.scope.now.matches.now _ (eqb-true _ _ (sym c.is_empty.ensures ∙ c.if-is_empty.true));
}
