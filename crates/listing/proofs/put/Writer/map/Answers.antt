-- `map`: by whether there is one.
use Rattle.std.proofs.Common.{◌≡◌, ℕ, List, ◌+◌, ◌-◌, [], ◌∷◌, arith, ap, sym, ◌∙◌}
use Rattle.rules.specs.Area.{option_number}
use Rattle.rules.specs.Lines.{bytes}
use Rattle.rules.specs.Print.{decimal_of}
use Rattle.listing.specs.Lines.{line, lines_then, lines_same, lines_none}
use Rattle.listing.specs.Own.{pair_lines, map_lines, map-none, map-some}
use Rattle.listing.proofs.put.Writer.map.Goals as goal

map-given : (n : ℕ) (t : List ℕ) → (bytes "columns" ∷ decimal_of n ∷ []) ∷ pair_lines (bytes "map") n t ≡ map_lines (n + 1) t
map-given n t = let e : n + 1 - 1 ≡ n = omega arith in
    sym (ap (λ k. (bytes "columns" ∷ decimal_of k ∷ []) ∷ pair_lines (bytes "map") k t) e) ∙ map-some (n + 1) t (λ z. omega (arith, z))

pub returns-in-Some : goal.returns-in-Some
unfolding bytes option_number
returns-in-Some c = rw c.in-Some.is (lines_same
    (lines_then (line c.bytes.ensures c.number.ensures c.byte.ensures) c.pairs.ensures) (λ d q. map-given c.in-Some.n _))

pub returns-in_default : goal.returns-in_default
unfolding option_number
returns-in_default c = rw c.in_default.is (lines_same lines_none (λ d q. map-none 0 _ (omega arith)))
