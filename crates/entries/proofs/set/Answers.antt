-- `set`: a name that rises, and `default` or not.
use native.Mathlib.Omega.{arith}
use mathlib.Core.Path.{refl, sym, ◌∙◌}
use Rattle.rules.specs.Lines.{bytes}
use Rattle.text.specs.Lines.{field}
use Rattle.entries.specs.HeadRecords.{field_at}
use Rattle.entries.specs.SetHeads.{set-count, set_below, set-one, set_other, set-two}
use Rattle.entries.proofs.set.Goals as goal
use Rattle.entries.proofs.set.Goals.{in-2, in-3}

pub returns-in_default : goal.returns-in_default
unfolding field bytes
returns-in_default c = λ p l. set_other _ _ _ l _ _ c.in-3.is (sym (rw c.field.ensures at c.equal.ensures) ∙ c.if-equal.false) refl

pub returns-in_default-2 : goal.returns-in_default-2
returns-in_default-2 c = λ p l. set-count _ _ _ l _ _ (λ e. omega (arith, e)) (λ e. omega (arith, e)) refl

pub returns-then-not-rises : goal.returns-then-not-rises
unfolding field
returns-then-not-rises c = λ p l. let s = sym (c.rises.ensures _ c.field-2.ensures) ∙ c.if-not-rises.true in elim c.match-f.branch [
  | in-2 w ↦ set_below _ _ _ l _ _ (omega (arith, w.in-2.is)) (omega (arith, w.in-2.is)) s refl
  | in-3 w ↦ set_below _ _ _ l _ _ (omega (arith, w.in-3.is)) (omega (arith, w.in-3.is)) s refl
]

pub name_head-requires-clause-place : goal.name_head-requires-clause-place
name_head-requires-clause-place c =
    let i = field_at _ _ _ c.requires.is 1 (elim c.match-f.branch [ in-2 w ↦ omega (arith, w.in-2.is) | in-3 w ↦ omega (arith, w.in-3.is) ]) in
    (omega (arith, i.short, i.inside), omega (arith, i.short, i.inside))

pub returns : goal.returns
unfolding field bytes
returns c = λ p l. let s = sym (c.rises.ensures _ c.field-2.ensures) ∙ c.if-not-rises.false in elim c.match-f.branch [
  | in-2 w ↦ set-one _ _ _ l _ _ w.in-2.is s (rw w.expressions-is at (c.name_head.ensures _ (field_at _ _ _ l 1 (omega (arith, w.in-2.is)))))
  | in-3 w ↦ set-two _ _ _ l _ _ w.in-3.is (sym (rw w.field.ensures at w.equal.ensures) ∙ w.if-equal.true) s (rw w.expressions-is at (c.name_head.ensures _ (field_at _ _ _ l 1 (omega (arith, w.in-3.is)))))
]
