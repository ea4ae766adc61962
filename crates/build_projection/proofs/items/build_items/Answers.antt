-- `items::build_items`: 16 before the expansion, then the items counted.
use mathlib.Core.Path.{refl, sym, ap, ◌∙◌}
use borrow.Author.Tests.{eqb-true, eqb-false}
use Rattle.numbers.specs.Options.{option_of}
use Rattle.build_projection.specs.Answered.{built-none, built-star, built-refused}
use Rattle.build_projection.proofs.items.build_items.Goals as goal

pub returns-then-is_empty : goal.returns-then-is_empty
returns-then-is_empty c = rw c.at.ensures (built-refused _ (λ d q. sym (ap option_of c.in-Some.is) ∙ c.plain_star.ensures d q)
    (eqb-true _ _ (sym c.is_empty.ensures ∙ c.if-is_empty.true)) refl)

pub returns-in-None : goal.returns-in-None
returns-in-None c = built-none (λ d q. sym (ap option_of c.in-None.is) ∙ c.plain_star.ensures d q) c.expand_items.ensures

pub returns-else-is_empty : goal.returns-else-is_empty
returns-else-is_empty c = built-star _ _ _ (λ d q. sym (ap option_of c.in-Some.is) ∙ c.plain_star.ensures d q) (eqb-false _ _ (sym c.is_empty.ensures ∙ c.if-is_empty.false))
    c.is_single-single.ensures refl c.expand_items-in-Some.ensures
