-- What `find_map` over a range gives, said of the numbers in it.
use Prim.Native.Nat.{ℕ, ◌+◌, ◌-◌, ◌≤◌, ◌<◌}
use native.Mathlib.Omega.{arith}
use denote.Param.Members.{Mut}
use Rattle.std.proofs.Math.Path.{◌≡◌, subst, ap}
use Rattle.std.proofs.Common.{◌∙◌}
use Rattle.std.proofs.iter.Yields.{nat_range_steps}
use Rattle.std.proofs.iter.runs.Sources.{range_runs}
use Rattle.std.specs.Bool.{IsTrue}
use Rattle.std.specs.Fn.{Called}
use Rattle.std.specs.Iterator.Runs.{SomeRun, ItemsCountUp, AllItemsGive, IsFirstToGive, CallKeepsClosure}
use Rattle.std.specs.Option.{option_map, IfSome, IsSomeAnd}
use Rattle.std.specs.Prelude.{Option, None, Some, MatchOption}
use Rattle.std.specs.declared.ops.Range.{Range}

item-has : (P : ℕ → Type 0) (v : ℕ) (o : Option ℕ) → option_map (λ y. y) o ≡ Some v → IfSome o P → P v
item-has P v None e h = grind arith
item-has P v (Some x) e h = let z : x ≡ v = cc in subst P z h

item-is : (P : ℕ → Type 0) (v : ℕ) (o : Option ℕ) → option_map (λ y. y) o ≡ Some v → IsSomeAnd o P → P v
item-is P v None e h = absurd h
item-is P v (Some x) e h = let z : x ≡ v = cc in subst P z h

module _ {F B : Type 0} {g : Mut F (ℕ × Unit {0}) (Option B)} {f : F} (Gives : ℕ → Option B → Type 0)
    (gives : (x : ℕ) (o : Option B) (q : F) → Called g f (x, tt) o q → (q ≡ f) × Gives x o) (s : Range ℕ) where
  pub first-mapped : (r : Option B)
      → SomeRun nat_range_steps s (λ p. MatchOption r (IsTrue p.whole × AllItemsGive p g f None)
      (λ y. (i : ℕ) × (i < p.len) × (p.len ≡ i + 1) × IsFirstToGive p g f (Some y) None i))
      → MatchOption r ((k : ℕ) → s.start ≤ k → k < s.end → Gives k None)
      (λ y. (i : ℕ) × (s.start ≤ i) × (i < s.end) × Gives i (Some y) × ((k : ℕ) → s.start ≤ k → k < i → Gives k None))
  first-mapped r (p, e, h) = by r h
    where
      u : ItemsCountUp p p.from.start p.from.end
      u = range_runs p p.seen

      starts : p.from.start ≡ s.start
      starts = ap (λ (x : Range ℕ). x.start) e

      ends : p.from.end ≡ s.end
      ends = ap (λ (x : Range ℕ). x.end) e

      stays : CallKeepsClosure g f
      stays = λ a o q d. (gives a.0 o q d).0

      read : (k : ℕ) → s.start ≤ k → k - s.start < p.len → option_map (λ y. y) (p.at (k - s.start)) ≡ Some k
      read k a b = u.3 (k - s.start) b ∙ ap (λ n. Some n) (omega (arith, starts))

      by : (r : Option B) → MatchOption r (IsTrue p.whole × AllItemsGive p g f None)
          (λ y. (i : ℕ) × (i < p.len) × (p.len ≡ i + 1) × IsFirstToGive p g f (Some y) None i)
          → MatchOption r ((k : ℕ) → s.start ≤ k → k < s.end → Gives k None)
          (λ y. (i : ℕ) × (s.start ≤ i) × (i < s.end) × Gives i (Some y) × ((k : ℕ) → s.start ≤ k → k < i → Gives k None))
      by None h = λ k a b.
          (gives k None f (item-has (λ v. Called g f (v, tt) None f) k (p.at (k - s.start))
          (read k a (omega (arith, u.1 h.0, starts, ends))) (h.1 stays (k - s.start)))).1
      by (Some y) h =
          let i = h.0 in
          let first = h.3 stays in (
            s.start + i,
            omega arith,
            omega (arith, u.0, h.1, starts, ends),
            (gives (s.start + i) (Some y) f (item-is (λ v. Called g f (v, tt) (Some y) f) (s.start + i) (p.at i)
                (u.3 i h.1 ∙ ap (λ n. Some (n + i)) starts) first.0)).1,
            λ k a b. (gives k None f (item-is (λ v. Called g f (v, tt) None f) k (p.at (k - s.start))
                (read k a (omega (arith, b, h.1))) (first.1 (k - s.start) (omega (arith, b))))).1,
          )
