-- `equality::are_apart`: kinds are the same where their numbers are.
use Rattle.std.proofs.Common.{◌≡◌, Bool, true, false, not, ◌&&◌, refl, sym, ap, ◌∙◌}
use Rattle.ast.specs.Row.{number_of}
use Rattle.ast.specs.declared.row.Kind.TheVariants as K
use Rattle.ast.proofs.KindNumbers.{same-kinds}
use Rattle.ast.proofs.equality.are_apart.Goals as goal

and-true : {a b r : Bool} → r ≡ b → a ≡ true → r ≡ (a && b)
and-true e h = e ∙ rw h refl

and-false : {a r : Bool} (b : Bool) → r ≡ a → r ≡ false → r ≡ (a && b)
and-false b e h = h ∙ rw (sym e ∙ h) refl

pub returns-then-ne : goal.returns-then-ne
unfolding number_of
returns-then-ne c = and-true (c.ne-then-ne.ensures ∙ ap not (same-kinds _ _ c.kind_of.ensures c.kind_of-kind.ensures))
    (ap not (sym (same-kinds _ K.Star c.kind_of-kind.ensures refl)) ∙ sym c.ne.ensures ∙ c.if-ne.true)

pub returns-else-ne : goal.returns-else-ne
unfolding number_of
returns-else-ne c = and-false _ (c.ne.ensures ∙ ap not (same-kinds _ K.Star c.kind_of-kind.ensures refl)) c.if-ne.false
