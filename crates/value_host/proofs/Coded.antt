-- An operator by the code that it was found by, and a code that no operator has.
use Rattle.std.specs.Prelude.{ℕ, ◌≡◌}
use Rattle.std.proofs.Common.{ap}
use Rattle.rules.specs.Codes.{unary_code, binary_code}
use Rattle.rules.specs.Schema.{Value}
use Rattle.rules.specs.Ast.{Unary, Binary}
use Rattle.rules.specs.Refusals.{not_worked_out}
use Rattle.rules.specs.Arithmetic.{fails}
use Rattle.rules.specs.Operators.{unary_of, binary_of}
use Rattle.numbers.specs.Codes.{Apart, coded_none}
use Rattle.value_host.specs.Codes.{unary_at, binary_at, applied, unary_worked, binary_worked, unary-found, binary-found}

module _ (k : ℕ) (v : Value) where
  pub unary-worked : (o : Unary) → unary_code o ≡ k → unary_worked k v ≡ unary_of o v
  unfolding unary_worked applied
  unary-worked o e = rw (← e, unary-found o)

  pub unary-fails : Apart k 8 5 → unary_worked k v ≡ fails not_worked_out
  unfolding unary_worked unary_at applied
  unary-fails h = ap (applied (λ (o : Unary). unary_of o v)) (coded_none _ _ 8 k h)

  module _ (w : Value) where
    pub binary-worked : (o : Binary) → binary_code o ≡ k → binary_worked k v w ≡ binary_of o v w
    unfolding binary_worked applied
    binary-worked o e = rw (← e, binary-found o)

    pub binary-fails : Apart k 16 15 → binary_worked k v w ≡ fails not_worked_out
    unfolding binary_worked binary_at applied
    binary-fails h = ap (applied (λ (o : Binary). binary_of o v w)) (coded_none _ _ 16 k h)
