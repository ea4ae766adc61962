-- The targets of a right join's remap, pushed one after the other.
use Rattle.std.specs.Prelude.{ℕ, zero, suc, ◌+◌, ◌-◌, ◌≤◌, ◌≡◌, length}
use Rattle.std.proofs.Common.{arith, add-zero, add-one, ap, ◌∙◌}
use mathlib.Core.List.{[], ◌∷◌, ◌++◌, map}
use Rattle.std.proofs.Math.Option.{some}
use Rattle.std.proofs.lemmas.List.{length-map}
use Rattle.rules.specs.Nodes.{remap}
use Rattle.rules.specs.Area.{option_number, record_numbers}
use Rattle.rules.specs.BuildFrom.{rising, swapped}
use Rattle.claims.specs.Widths.Swapped.{length-rising}
use Rattle.plan.specs.Layout.{record_head, length_place}
use Rattle.plan.specs.Pushed.{Pushed, Stored, pushed-none}
use Rattle.plan.specs.declared.nodes.Nodes.{Nodes}
use Rattle.plan.specs.Parts.{targets-on, remap-targets}
use Rattle.plan.specs.Records.{opened, ended}

-- one target more
rising-next : (i n : ℕ) → rising i (suc n) ≡ rising i n ++ (some (i + n) ∷ [])
unfolding rising
rising-next i zero = rw (add-zero i)
rising-next i (suc n) =
    let z : i + suc n ≡ i + 1 + n = omega arith in
    ap (λ l. some i ∷ l) (rising-next (i + 1) n ∙ rw z)

-- the targets from i on before m are pushed
pub record Pushing (i m : ℕ) (s t : Nodes) : Type 0 where
  pub is : Pushed (map option_number (rising i (m - i))) s t

pub pushing-begin : (i : ℕ) (s : Nodes) → s.used ≤ length s.numbers.now → Pushing i i s s
unfolding rising
pushing-begin i s h = let z : i - i ≡ 0 = omega arith in record { is = rw z (pushed-none s h) }

pub pushing-more : {i m : ℕ} {s t u : Nodes} → i ≤ m → Pushing i m s t → Pushed ((m + 1) ∷ []) t u → Pushing i (m + 1) s u
unfolding option_number
pushing-more {i} {m} l p a =
    let z : m + 1 - i ≡ suc (m - i) = omega (arith, l) in
    let y : i + (m - i) ≡ m = omega (arith, l) in
    record { is = rw (z, rising-next i (m - i), y) (targets-on (rising i (m - i)) (some m ∷ []) p.is a) }

pub pushing-end : {i m : ℕ} (n : ℕ) {s t : Nodes} → m ≡ i + n → Pushing i m s t → Pushed (map option_number (rising i n)) s t
pushing-end {i} {m} n e p = let z : m - i ≡ n = omega (arith, e) in rw z at p.is

pub rising-end : (i n : ℕ) {s t : Nodes} → Pushed (map option_number (rising i n)) s t → t.used ≡ s.used + n
rising-end i n {s} a =
    a.appended.next ∙ ap (λ m. s.used + m) (length-map (rising i n) option_number ∙ length-rising n i)

-- the whole, before its length is stored and then
module _ (source a b : ℕ) {s t u v : Nodes} (o : Pushed (opened (remap source [])) s t)
    (x : Pushed (map option_number (rising b a)) t u) (y : Pushed (map option_number (rising 0 b)) u v) where
  remap-open : Pushed (opened (remap source (swapped a b))) s v
  unfolding swapped
  remap-open = remap-targets source (rising b a) (rising 0 b) (remap-targets source [] (rising b a) o x) y

  pub remap-ended : {w : Nodes} → Stored (s.used + length_place) (v.used - (s.used + record_head)) v w
      → Pushed (record_numbers (remap source (swapped a b))) s w
  remap-ended e = ended (remap source (swapped a b)) remap-open e
