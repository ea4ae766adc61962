-- A remap's targets are the numbers below their count, each once.
use Prim.Native.Nat.{ℕ, zero, suc, ◌+◌, ◌<◌, max}
use native.Mathlib.Omega.{arith}
use Rattle.std.proofs.Common.{add-one, sym, ap, ◌∙◌}
use Rattle.std.specs.Prelude.{◌≡◌, refl, Bool, true, false, List, [], ◌∷◌, ◌++◌, map, eqb}
use Rattle.std.proofs.Math.Option.{Option, none, some}
use Rattle.rules.specs.Lists.{any, given, concat}
use Rattle.rules.specs.Plan.{target_count}
use Rattle.rules.specs.Scope.{targets_from}
use Rattle.rules.specs.BuildFrom.{rising, swapped}
use Rattle.claims.specs.Widths.Swapped.{swapped-count}
use Rattle.claims.specs.Form.Occurrences.{occurrences, among, among-inside, among_none, among-join, occurrences-cons}

-- the targets that are not dropped
unfoldable pub kept : List (Option ℕ) → List ℕ
kept ts = concat (map given ts)

-- each number below the width that a remap gives is the target of exactly one column
unfoldable pub TargetsOnce : List (Option ℕ) → Type 0
TargetsOnce ts = (t : ℕ) → t < target_count ts → occurrences t (kept ts) ≡ 1

kept-some : (i k : ℕ) (ts : List (Option ℕ)) → occurrences k (kept (some i ∷ ts)) ≡ among i (suc i) k + occurrences k (kept ts)
unfolding kept concat given
kept-some i k ts = occurrences-cons k i (kept ts)

kept-none : (k : ℕ) (ts : List (Option ℕ)) → occurrences k (kept (none ∷ ts)) ≡ occurrences k (kept ts)
unfolding kept concat given
kept-none k ts = refl

kept_append : (k : ℕ) (ts us : List (Option ℕ)) → occurrences k (kept (ts ++ us)) ≡ occurrences k (kept ts) + occurrences k (kept us)
kept_append k [] us = unfold kept concat occurrences in (omega arith)
kept_append k (none ∷ ts) us = omega (arith, kept-none k (ts ++ us), kept-none k ts, kept_append k ts us)
kept_append k (some i ∷ ts) us = omega (arith, kept-some i k (ts ++ us), kept-some i k ts, kept_append k ts us)

-- a right join's targets
rising-once : (i n k : ℕ) → occurrences k (kept (rising i n)) ≡ among i (i + n) k
unfolding rising
rising-once i zero k = unfold kept concat occurrences in (let e : i + 0 ≡ i = omega arith in rw e (sym (among_none i k)))
rising-once i (suc n) k =
    let e : i + 1 + n ≡ i + suc n = omega arith in
    omega (
      arith,
      kept-some i k (rising (i + 1) n),
      rw (e, add-one) at (rising-once (i + 1) n k),
      among-join i (suc i) (i + suc n) k (omega arith) (omega arith),
      ap (λ (m : ℕ). occurrences k (kept (rising m n))) (add-one i),
    )

pub swapped-once : (a b : ℕ) → TargetsOnce (swapped a b)
unfolding TargetsOnce swapped
swapped-once a b t h = let e : 0 + b ≡ b = omega arith in omega (
  arith,
  kept_append t (rising b a) (rising 0 b),
  rising-once b a t,
  rw e at (rising-once 0 b t),
  among-join 0 b (b + a) t (omega arith) (omega arith),
  among-inside 0 (b + a) t (omega arith) (omega (arith, swapped-count a b)),
)

-- the last remap's, from column i and target t on
targets-once : (hs : List ℕ) (n i t k : ℕ)
    → occurrences k (kept (targets_from hs n i t)) ≡ among t (max t (target_count (targets_from hs n i t))) k
unfolding targets_from target_count
targets-once hs zero i t k = unfold kept concat occurrences in (let e : max t 0 ≡ t = omega arith in rw e (sym (among_none t k)))
targets-once hs (suc n) i t k = go (any (eqb i) hs) (targets-once hs n (suc i) t k) (targets-once hs n (suc i) (suc t) k)
  where
    ts : List (Option ℕ)
    ts = targets_from hs n (suc i) t

    us : List (Option ℕ)
    us = targets_from hs n (suc i) (suc t)

    go : (b : Bool) → occurrences k (kept ts) ≡ among t (max t (target_count ts)) k
        → occurrences k (kept us) ≡ among (suc t) (max (suc t) (target_count us)) k
        → occurrences k (kept (elim b [ true ↦ none ∷ ts | false ↦ some t ∷ us ]))
        ≡ among t (max t (target_count (elim b [ true ↦ none ∷ ts | false ↦ some t ∷ us ]))) k
    go true h g = kept-none k ts ∙ h
    go false h g =
        let e : max t (max (t + 1) (target_count us)) ≡ max (suc t) (target_count us) = omega arith in
        rw e (omega (
          arith,
          kept-some t k us,
          among-join t (suc t) (max (suc t) (target_count us)) k (omega arith) (omega arith),
        ))

pub hidden-once : (hs : List ℕ) (n : ℕ) → TargetsOnce (targets_from hs n 0 0)
unfolding TargetsOnce
hidden-once hs n t h =
    let m = target_count (targets_from hs n 0 0) in
    omega (arith, targets-once hs n 0 0 t, among-inside 0 (max 0 m) t (omega arith) (omega arith))
