-- `Scope::swap`: the labels in use are rotated.
use mathlib.Core.Path.{refl}
use Rattle.scope.specs.Swap.{swapped-rotated}
use Rattle.scope.proofs.Scope.swap.Goals as goal

pub returns : goal.returns
returns c = swapped-rotated _ c.requires c.rotate_first.ensures refl refl refl refl refl
