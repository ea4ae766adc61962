-- `predicates::build_predicate`: no predicate, or the tree at its row.
use borrow.Author.Rules.{rules}
use Rattle.build_expression.specs.Options.{option-mapped}
use Rattle.build_from.specs.Predicates.{predicate-tree}
use Rattle.build_from.proofs.predicates.build_predicate.Goals as goal

pub build_option-requires : goal.build_option-requires
build_option-requires c = let here = c in rw (predicate-tree _ _ _ _ _ c.predicate_of.ensures (option-mapped (λ i. i) _ _ c.map-p.ensures.cases (λ i r h. search rules))) here.requires

pub returns : goal.returns
returns c = let here = c in λ h. rw (predicate-tree _ _ _ _ _ c.predicate_of.ensures (option-mapped (λ i. i) _ _ c.map-p.ensures.cases (λ i r h. search rules))) at (here.build_option.ensures h)
