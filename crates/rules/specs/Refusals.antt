-- Document 01's refusals, and the answer that is a value or a refusal.
use Rattle.std.specs.Prelude.{ℕ, Bool, true, false, List}
use Rattle.std.proofs.Math.Option.{none, some}
use Rattle.rules.specs.Lists.{entry_after}

-- the two texts
pub data Text : Type 0 where
  catalog statement : Text

-- why a statement is refused, in the order of document 01's numbers
pub data Reason : Type 0 where
  short_area wrong_record limit_passed other_statement : Reason
  unknown_table duplicate_table : Reason
  unknown_qualifier unknown_column ambiguous_column constant_only not_aggregated : Reason
  unsupported_star unknown_function argument_count nested_aggregate : Reason
  star_without_from having_without_aggregate invalid_offset invalid_limit : Reason
  no_primary_key multiple_primary_keys : Reason
  unknown_insert_column repeated_insert_column no_default : Reason
  integer_overflow division_by_zero wrong_operand not_worked_out invalid_is : Reason

-- document 01's number of a refusal
unfoldable pub refusal_number : Reason → ℕ
refusal_number short_area = 1
refusal_number wrong_record = 2
refusal_number limit_passed = 3
refusal_number other_statement = 4
refusal_number unknown_table = 5
refusal_number duplicate_table = 6
refusal_number unknown_qualifier = 7
refusal_number unknown_column = 8
refusal_number ambiguous_column = 9
refusal_number constant_only = 10
refusal_number not_aggregated = 11
refusal_number unsupported_star = 12
refusal_number unknown_function = 13
refusal_number argument_count = 14
refusal_number nested_aggregate = 15
refusal_number star_without_from = 16
refusal_number having_without_aggregate = 17
refusal_number invalid_offset = 18
refusal_number invalid_limit = 19
refusal_number no_primary_key = 20
refusal_number multiple_primary_keys = 21
refusal_number unknown_insert_column = 22
refusal_number repeated_insert_column = 23
refusal_number no_default = 24
refusal_number integer_overflow = 25
refusal_number division_by_zero = 26
refusal_number wrong_operand = 27
refusal_number not_worked_out = 28
refusal_number invalid_is = 29

-- the line is that of the record where it arose, from 1; 0 if there is none
pub record Refusal : Type 0 where
  pub reason : Reason
  pub text : Text
  pub line : ℕ

pub data Answer (A : Type 0) : Type 0 where
  ok : A → Answer A
  refused : Refusal → Answer A

-- Rust's `?`: the first refusal ends the whole
infixl 10 ◌>>=◌
unfoldable pub ◌>>=◌ : {A B : Type 0} → Answer A → (A → Answer B) → Answer B
◌>>=◌ (ok a) f = f a
◌>>=◌ (refused r) f = refused r

infixl 10 ◌>>◌
abbrev pub ◌>>◌ : {A B : Type 0} → Answer A → Answer B → Answer B
◌>>◌ m n = m >>= λ u. n

-- refused at a line of the statement
unfoldable pub refuse : {A : Type 0} → Reason → ℕ → Answer A
refuse n l = refused (record { reason = n; text = statement; line = l })

-- GUARDS
-- `if test { return errinput!(..) }`
unfoldable pub refuse_if : Bool → Reason → ℕ → Answer (Unit {0})
refuse_if true r l = refuse r l
refuse_if false r l = ok tt

-- 3 at the line of the entry behind the first n, if there is one
unfoldable pub at_most : {A : Type 0} → ℕ → (A → ℕ) → List A → Answer (Unit {0})
at_most n line as' = elim (entry_after n as') [ none ↦ ok tt | some a ↦ refuse limit_passed (line a) ]
