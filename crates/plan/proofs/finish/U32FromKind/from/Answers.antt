-- `From<Kind> for u32`: a kind's place in the order, from 1, is its number.
use Rattle.std.specs.Prelude.{◌≡◌, ◌+◌}
use Rattle.std.proofs.Math.Path.{refl}
use denote.Enum.Declared.{tag_of}
use Rattle.plan.specs.Kinds.{statement_number}
use Rattle.plan.specs.contracts.finish.Kind.{the_type}
use Rattle.plan.specs.declared.finish.Kind.{Kind}
use Rattle.plan.specs.declared.finish.Kind.TheVariants as K
use Rattle.plan.proofs.finish.U32FromKind.from.Goals as goal

number-is : (k : Kind) → tag_of the_type k + 1 ≡ statement_number k
number-is K.Select = refl
number-is K.Create = refl
number-is K.Drop = refl
number-is K.Delete = refl
number-is K.Insert = refl
number-is K.Update = refl

pub returns : goal.returns
returns c = number-is c.args.kind
