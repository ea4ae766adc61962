-- The code's reasons for a refusal are the rules'.
use Rattle.std.specs.Prelude.{◌≡◌, ◌<◌, ◌≤◌, refl}
use native.Mathlib.Omega.{arith}
use Rattle.rules.specs.Refusals as rules
use Rattle.numbers.specs.declared.refusals.Reason.{Reason}
use Rattle.numbers.specs.declared.refusals.Reason.TheVariants as Re
use Rattle.numbers.specs.declared.refusals.Refusal.{Refusal}

unfoldable pub reason_of : Reason → rules.Reason
reason_of Re.ShortArea = rules.short_area
reason_of Re.WrongRecord = rules.wrong_record
reason_of Re.LimitPassed = rules.limit_passed
reason_of Re.OtherStatement = rules.other_statement
reason_of Re.UnknownTable = rules.unknown_table
reason_of Re.DuplicateTable = rules.duplicate_table
reason_of Re.UnknownQualifier = rules.unknown_qualifier
reason_of Re.UnknownColumn = rules.unknown_column
reason_of Re.AmbiguousColumn = rules.ambiguous_column
reason_of Re.ConstantOnly = rules.constant_only
reason_of Re.NotAggregated = rules.not_aggregated
reason_of Re.UnsupportedStar = rules.unsupported_star
reason_of Re.UnknownFunction = rules.unknown_function
reason_of Re.ArgumentCount = rules.argument_count
reason_of Re.NestedAggregate = rules.nested_aggregate
reason_of Re.StarWithoutFrom = rules.star_without_from
reason_of Re.HavingWithoutAggregate = rules.having_without_aggregate
reason_of Re.InvalidOffset = rules.invalid_offset
reason_of Re.InvalidLimit = rules.invalid_limit
reason_of Re.NoPrimaryKey = rules.no_primary_key
reason_of Re.MultiplePrimaryKeys = rules.multiple_primary_keys
reason_of Re.UnknownInsertColumn = rules.unknown_insert_column
reason_of Re.RepeatedInsertColumn = rules.repeated_insert_column
reason_of Re.NoDefault = rules.no_default
reason_of Re.IntegerOverflow = rules.integer_overflow
reason_of Re.DivisionByZero = rules.division_by_zero
reason_of Re.WrongOperand = rules.wrong_operand
reason_of Re.NotWorkedOut = rules.not_worked_out
reason_of Re.InvalidIs = rules.invalid_is

-- and back
unfoldable pub named : rules.Reason → Reason
named rules.short_area = Re.ShortArea
named rules.wrong_record = Re.WrongRecord
named rules.limit_passed = Re.LimitPassed
named rules.other_statement = Re.OtherStatement
named rules.unknown_table = Re.UnknownTable
named rules.duplicate_table = Re.DuplicateTable
named rules.unknown_qualifier = Re.UnknownQualifier
named rules.unknown_column = Re.UnknownColumn
named rules.ambiguous_column = Re.AmbiguousColumn
named rules.constant_only = Re.ConstantOnly
named rules.not_aggregated = Re.NotAggregated
named rules.unsupported_star = Re.UnsupportedStar
named rules.unknown_function = Re.UnknownFunction
named rules.argument_count = Re.ArgumentCount
named rules.nested_aggregate = Re.NestedAggregate
named rules.star_without_from = Re.StarWithoutFrom
named rules.having_without_aggregate = Re.HavingWithoutAggregate
named rules.invalid_offset = Re.InvalidOffset
named rules.invalid_limit = Re.InvalidLimit
named rules.no_primary_key = Re.NoPrimaryKey
named rules.multiple_primary_keys = Re.MultiplePrimaryKeys
named rules.unknown_insert_column = Re.UnknownInsertColumn
named rules.repeated_insert_column = Re.RepeatedInsertColumn
named rules.no_default = Re.NoDefault
named rules.integer_overflow = Re.IntegerOverflow
named rules.division_by_zero = Re.DivisionByZero
named rules.wrong_operand = Re.WrongOperand
named rules.not_worked_out = Re.NotWorkedOut
named rules.invalid_is = Re.InvalidIs

-- a reason's number is from 1 to 29
pub reason-numbers : (r : rules.Reason) → (0 < rules.refusal_number r) × (rules.refusal_number r ≤ 29)
unfolding rules.refusal_number
reason-numbers rules.short_area = (omega arith, omega arith)
reason-numbers rules.wrong_record = (omega arith, omega arith)
reason-numbers rules.limit_passed = (omega arith, omega arith)
reason-numbers rules.other_statement = (omega arith, omega arith)
reason-numbers rules.unknown_table = (omega arith, omega arith)
reason-numbers rules.duplicate_table = (omega arith, omega arith)
reason-numbers rules.unknown_qualifier = (omega arith, omega arith)
reason-numbers rules.unknown_column = (omega arith, omega arith)
reason-numbers rules.ambiguous_column = (omega arith, omega arith)
reason-numbers rules.constant_only = (omega arith, omega arith)
reason-numbers rules.not_aggregated = (omega arith, omega arith)
reason-numbers rules.unsupported_star = (omega arith, omega arith)
reason-numbers rules.unknown_function = (omega arith, omega arith)
reason-numbers rules.argument_count = (omega arith, omega arith)
reason-numbers rules.nested_aggregate = (omega arith, omega arith)
reason-numbers rules.star_without_from = (omega arith, omega arith)
reason-numbers rules.having_without_aggregate = (omega arith, omega arith)
reason-numbers rules.invalid_offset = (omega arith, omega arith)
reason-numbers rules.invalid_limit = (omega arith, omega arith)
reason-numbers rules.no_primary_key = (omega arith, omega arith)
reason-numbers rules.multiple_primary_keys = (omega arith, omega arith)
reason-numbers rules.unknown_insert_column = (omega arith, omega arith)
reason-numbers rules.repeated_insert_column = (omega arith, omega arith)
reason-numbers rules.no_default = (omega arith, omega arith)
reason-numbers rules.integer_overflow = (omega arith, omega arith)
reason-numbers rules.division_by_zero = (omega arith, omega arith)
reason-numbers rules.wrong_operand = (omega arith, omega arith)
reason-numbers rules.not_worked_out = (omega arith, omega arith)
reason-numbers rules.invalid_is = (omega arith, omega arith)

-- a refusal of the code as the rules have it: in this text
abbrev pub told : rules.Text → Refusal → rules.Refusal
told t w = record { reason = reason_of w.reason; text = t; line = w.line }

-- a refusal of the rules as the code has it: the reason and the line
abbrev pub noted : rules.Refusal → Refusal
noted w = record { reason = named w.reason; line = w.line }

pub reason-named : (r : rules.Reason) → reason_of (named r) ≡ r
unfolding reason_of named
reason-named rules.short_area = refl
reason-named rules.wrong_record = refl
reason-named rules.limit_passed = refl
reason-named rules.other_statement = refl
reason-named rules.unknown_table = refl
reason-named rules.duplicate_table = refl
reason-named rules.unknown_qualifier = refl
reason-named rules.unknown_column = refl
reason-named rules.ambiguous_column = refl
reason-named rules.constant_only = refl
reason-named rules.not_aggregated = refl
reason-named rules.unsupported_star = refl
reason-named rules.unknown_function = refl
reason-named rules.argument_count = refl
reason-named rules.nested_aggregate = refl
reason-named rules.star_without_from = refl
reason-named rules.having_without_aggregate = refl
reason-named rules.invalid_offset = refl
reason-named rules.invalid_limit = refl
reason-named rules.no_primary_key = refl
reason-named rules.multiple_primary_keys = refl
reason-named rules.unknown_insert_column = refl
reason-named rules.repeated_insert_column = refl
reason-named rules.no_default = refl
reason-named rules.integer_overflow = refl
reason-named rules.division_by_zero = refl
reason-named rules.wrong_operand = refl
reason-named rules.not_worked_out = refl
reason-named rules.invalid_is = refl

pub named-reason : (r : Reason) → named (reason_of r) ≡ r
unfolding reason_of named
named-reason Re.ShortArea = refl
named-reason Re.WrongRecord = refl
named-reason Re.LimitPassed = refl
named-reason Re.OtherStatement = refl
named-reason Re.UnknownTable = refl
named-reason Re.DuplicateTable = refl
named-reason Re.UnknownQualifier = refl
named-reason Re.UnknownColumn = refl
named-reason Re.AmbiguousColumn = refl
named-reason Re.ConstantOnly = refl
named-reason Re.NotAggregated = refl
named-reason Re.UnsupportedStar = refl
named-reason Re.UnknownFunction = refl
named-reason Re.ArgumentCount = refl
named-reason Re.NestedAggregate = refl
named-reason Re.StarWithoutFrom = refl
named-reason Re.HavingWithoutAggregate = refl
named-reason Re.InvalidOffset = refl
named-reason Re.InvalidLimit = refl
named-reason Re.NoPrimaryKey = refl
named-reason Re.MultiplePrimaryKeys = refl
named-reason Re.UnknownInsertColumn = refl
named-reason Re.RepeatedInsertColumn = refl
named-reason Re.NoDefault = refl
named-reason Re.IntegerOverflow = refl
named-reason Re.DivisionByZero = refl
named-reason Re.WrongOperand = refl
named-reason Re.NotWorkedOut = refl
named-reason Re.InvalidIs = refl
