-- The operators give the same of a value as the code holds it.
use mathlib.Core.Path.{◌≡◌, ap, ◌∙◌}
use Prim.Native.Nat.{ℕ}
use Rattle.rules.specs.Operators.{is_of}
use Rattle.rules.specs.Schema.{Value}
use Rattle.value.specs.Values.{held}
use Rattle.value.proofs.Held.{unary-held, binary-held, is_held}
use Rattle.value_host.specs.Codes.{unary_at, binary_at, applied, unary_worked, binary_worked}

module _ (n : ℕ) {a : Value} (v : Value) (e : a ≡ held v) where
  pub unary-from : unary_worked n a ≡ unary_worked n v
  unfolding unary_worked
  unary-from = ap (unary_worked n) e ∙ (λ i. applied (λ o. unary-held o v i) (unary_at n))

  pub binary-from : {b : Value} (w : Value) → b ≡ held w → binary_worked n a b ≡ binary_worked n v w
  unfolding binary_worked
  binary-from w g = (λ i. binary_worked n (e i) (g i)) ∙ (λ i. applied (λ o. binary-held o v w i) (binary_at n))

pub is-from : (l : Value) {a : Value} (v : Value) → a ≡ held v → is_of l a ≡ is_of l v
is-from l v e = ap (is_of l) e ∙ is_held l v
