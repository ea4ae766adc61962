-- `has_name`: the bytes at the label's place.
use Rattle.rules.specs.Equality.{same_name}
use Rattle.rules.specs.Places.{word_at}
use Rattle.scope.specs.Labels.{name_at}
use Rattle.scope.proofs.labels.has_name.Goals as goal

pub returns : goal.returns
unfolding same_name name_at word_at
returns c = λ w e. rw (e, ← c.place.ensures.address, ← c.place.ensures.length) c.holds_at.ensures
