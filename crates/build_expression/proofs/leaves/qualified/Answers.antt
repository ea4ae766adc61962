-- `leaves::qualified`: the column record's name under its qualifier, looked up.
use Rattle.ast.specs.Table.{tree_at}
use Rattle.scope.specs.Lookup.{qualifier_of}
use Rattle.build_expression.proofs.Names.{qualified}
use Rattle.build_expression.specs.Leaves.{built-qualified}
use Rattle.build_expression.proofs.leaves.qualified.Goals as goal

pub returns : goal.returns
unfolding qualifier_of
returns c = built-qualified _ _ _ _ _ _ _ _ _ _ c.requires.unmatched _ _ c.requires.qualified
    (qualified _ _ _ _ _ _ c.qualifier-qualifier.ensures.address
    c.qualifier-qualifier.ensures.length) (λ h. c.column.ensures (tree_at _ _ _) h)
