-- `From<Reason> for u32`: a reason's place in the order, from 1, is document 01's number.
use Rattle.std.specs.Prelude.{◌≡◌, ◌+◌}
use Rattle.std.proofs.Math.Path.{refl}
use denote.Enum.Declared.{tag_of}
use Rattle.rules.specs.Refusals.{refusal_number}
use Rattle.numbers.specs.Reasons.{reason_of}
use Rattle.numbers.specs.contracts.refusals.Reason.{the_type}
use Rattle.numbers.specs.declared.refusals.Reason.{Reason}
use Rattle.numbers.specs.declared.refusals.Reason.TheVariants as Re
use Rattle.numbers.proofs.refusals.U32FromReason.from.Goals as goal

number-is : (r : Reason) → tag_of the_type r + 1 ≡ refusal_number (reason_of r)
unfolding reason_of refusal_number
number-is Re.ShortArea = refl
number-is Re.WrongRecord = refl
number-is Re.LimitPassed = refl
number-is Re.OtherStatement = refl
number-is Re.UnknownTable = refl
number-is Re.DuplicateTable = refl
number-is Re.UnknownQualifier = refl
number-is Re.UnknownColumn = refl
number-is Re.AmbiguousColumn = refl
number-is Re.ConstantOnly = refl
number-is Re.NotAggregated = refl
number-is Re.UnsupportedStar = refl
number-is Re.UnknownFunction = refl
number-is Re.ArgumentCount = refl
number-is Re.NestedAggregate = refl
number-is Re.StarWithoutFrom = refl
number-is Re.HavingWithoutAggregate = refl
number-is Re.InvalidOffset = refl
number-is Re.InvalidLimit = refl
number-is Re.NoPrimaryKey = refl
number-is Re.MultiplePrimaryKeys = refl
number-is Re.UnknownInsertColumn = refl
number-is Re.RepeatedInsertColumn = refl
number-is Re.NoDefault = refl
number-is Re.IntegerOverflow = refl
number-is Re.DivisionByZero = refl
number-is Re.WrongOperand = refl
number-is Re.NotWorkedOut = refl
number-is Re.InvalidIs = refl

pub returns : goal.returns
returns c = number-is c.args.reason
