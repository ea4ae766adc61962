-- `given`: by whether there is one.
use Rattle.std.proofs.Common.{◌≡◌, ℕ, ◌+◌, ◌-◌, [], ◌∷◌, arith, ap, sym, ◌∙◌}
use Rattle.rules.specs.Area.{option_number}
use Rattle.rules.specs.Print.{decimal_of}
use Rattle.listing.specs.Fields.{fields-same, fields-none}
use Rattle.listing.specs.Nodes.{given_fields, given-none, given-some}
use Rattle.listing.proofs.put.Writer.given.Goals as goal

number-given : (n : ℕ) → decimal_of n ∷ [] ≡ given_fields (n + 1)
number-given n = let e : n + 1 - 1 ≡ n = omega arith in
    sym (ap (λ k. decimal_of k ∷ []) e) ∙ given-some (n + 1) (λ z. omega (arith, z))

pub returns-in-Some : goal.returns-in-Some
unfolding option_number
returns-in-Some c = rw c.in-Some.is (fields-same c.number.ensures (λ d q. number-given c.in-Some.n))

pub returns-in_default : goal.returns-in_default
unfolding option_number
returns-in_default c = rw c.in_default.is (fields-same fields-none (λ d q. given-none 0 (omega arith)))
