-- `column_target`: by whether there is one.
use Rattle.std.proofs.Common.{◌≡◌, ℕ, ◌+◌, ◌-◌, [], ◌∷◌, arith, ap, sym, ◌∙◌, refl}
use Rattle.rules.specs.Area.{option_number}
use Rattle.rules.specs.Lines.{bytes}
use Rattle.rules.specs.Print.{decimal_of}
use Rattle.listing.specs.Fields.{fields-same}
use Rattle.listing.specs.Nodes.{target_fields, target_none, target-some}
use Rattle.listing.proofs.put.Writer.column_target.Goals as goal

target-given : (n : ℕ) → decimal_of n ∷ [] ≡ target_fields 0 ((n + 1) ∷ [])
target-given n = let e : n + 1 - 1 ≡ n = omega arith in
    sym (ap (λ k. decimal_of k ∷ []) e) ∙ target-some ((n + 1) ∷ []) 0 (n + 1) refl (λ z. omega (arith, z))

pub returns-in-Some : goal.returns-in-Some
unfolding option_number
returns-in-Some c = rw c.in-Some.is (fields-same c.number.ensures (λ d q. target-given c.in-Some.column))

pub returns-in-None : goal.returns-in-None
unfolding bytes option_number
returns-in-None c = rw c.in-None.is (fields-same c.field.ensures (λ d q. target_none (0 ∷ []) 0 0 refl refl))
