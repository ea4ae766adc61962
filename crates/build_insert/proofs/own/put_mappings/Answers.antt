-- `own::put_mappings`: value by value.
use native.Mathlib.Omega.{arith}
use mathlib.Core.Path.{refl}
use Rattle.build_insert.specs.Own.{put-none, put-room, put-more}
use Rattle.build_insert.proofs.own.put_mappings.Goals as goal

pub loop-v-init : goal.loop-v-init
loop-v-init c = (omega arith, put-none _ _ (omega (arith, c.requires.room)))

pub mapping-requires : goal.mapping-requires
mapping-requires c = put-room c.loop-v.invariant.1 _ c.loop-v-test.true c.requires.room

pub loop-v-preserved : goal.loop-v-preserved
loop-v-preserved c = (
  omega (arith, c.loop-v-test.true),
  put-more c.loop-v.invariant.1 _ refl c.mapping.ensures,
)
