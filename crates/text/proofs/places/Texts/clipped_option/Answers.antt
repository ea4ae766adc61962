-- `places::Texts::clipped_option`: none, or the place of what there is.
use mathlib.Core.Path.{◌∙◌}
use Rattle.std.specs.Prelude.{Some}
use Rattle.text.specs.Places.{clipped_place}
use Rattle.text.proofs.places.Texts.clipped_option.Goals as goal

pub returns-in_err-place : goal.returns-in_err-place
unfolding clipped_place
returns-in_err-place c = c.from_residual.ensures ∙ rw c.in_err-place.was

pub returns : goal.returns
unfolding clipped_place
returns c = rw c.in_ok-place.was (λ i. Some (record { address = c.clipped.ensures.address i; length = c.clipped.ensures.length i }))
