-- `rotate_first`: two writes over what a copy has.
use mathlib.Core.Path.{refl}
use Rattle.scope.specs.Swap.{rotated}
use Rattle.scope.proofs.rotate_first.Goals as goal

pub returns : goal.returns
returns c = rotated _ c.args.a c.args.b c.requires refl refl c.overwrite.ensures c.overwrite-2.ensures
