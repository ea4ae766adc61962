-- `From<Kind> for u32`: a kind's place in the order, from 1, is its number.
use Rattle.std.specs.Prelude.{◌≡◌, ◌+◌}
use Rattle.std.proofs.Math.Path.{refl}
use denote.Enum.Declared.{tag_of}
use Rattle.plan.specs.Kinds.{node_number}
use Rattle.plan.specs.contracts.nodes.Kind.{the_type}
use Rattle.plan.specs.declared.nodes.Kind.{Kind}
use Rattle.plan.specs.declared.nodes.Kind.TheVariants as K
use Rattle.plan.proofs.nodes.U32FromKind.from.Goals as goal

number-is : (k : Kind) → tag_of the_type k + 1 ≡ node_number k
number-is K.Scan = refl
number-is K.Values = refl
number-is K.Join = refl
number-is K.Filter = refl
number-is K.Aggregate = refl
number-is K.Project = refl
number-is K.Order = refl
number-is K.Offset = refl
number-is K.Limit = refl
number-is K.Remap = refl

pub returns : goal.returns
returns c = number-is c.args.kind
