-- The values of a function at successive numbers: `rising`, `sources_from` and `labels_from` are such lists.
use Prim.Native.Nat.{ℕ, zero, suc, ◌+◌, ◌<◌}
use native.Mathlib.Omega.{arith}
use Rattle.std.proofs.Math.Nat.{add-zero, suc-add}
use Rattle.std.proofs.Common.{zero-add, add-one, ◌∙◌}
use Rattle.std.specs.Prelude.{◌≡◌, length, get_or}
use Rattle.std.proofs.Math.Path.{refl, ap, ap₂}
use mathlib.Core.List.{List, [], ◌∷◌, ◌++◌}
use Rattle.std.proofs.Math.Option.{Option, some}
use Rattle.rules.specs.Plan.{Built, Node, last_source, sources_from, column_label, labels_from}
use Rattle.rules.specs.BuildFrom.{rising}

-- the values at the n numbers from i on
unfoldable pub tabulate : {A : Type 0} → (ℕ → A) → ℕ → ℕ → List A
tabulate f i zero = []
tabulate f i (suc n) = f i ∷ tabulate f (suc i) n

module _ {A : Type 0} (f : ℕ → A) where
  pub length-tabulate : (n i : ℕ) → length (tabulate f i n) ≡ n
  unfolding tabulate
  length-tabulate zero i = refl
  length-tabulate (suc n) i = ap suc (length-tabulate n (suc i))

  pub tabulate-append : (m n i : ℕ) → tabulate f i (m + n) ≡ tabulate f i m ++ tabulate f (i + m) n
  unfolding tabulate
  tabulate-append zero n i = rw (zero-add, add-zero)
  tabulate-append (suc m) n i =
      let e : suc i + m ≡ i + suc m = omega arith in
      rw suc-add (ap (λ r. f i ∷ r) (rw e at (tabulate-append m n (suc i))))

  -- the same values, from another number on
  pub tabulate-same : (g : ℕ → A) (n i j : ℕ) → ((k : ℕ) → k < n → f (i + k) ≡ g (j + k))
      → tabulate f i n ≡ tabulate g j n
  unfolding tabulate
  tabulate-same g zero i j h = refl
  tabulate-same g (suc n) i j h = ap₂ ◌∷◌ (simp add-zero at (h 0 (omega arith)))
      (tabulate-same g n (suc i) (suc j) λ k l.
      let p : i + suc k ≡ suc i + k = omega arith in
      let q : j + suc k ≡ suc j + k = omega arith in
      rw (p, q) at (h (suc k) (omega arith)))

  pub get_d_tabulate : (d : A) (n k i : ℕ) → k < n → get_or (tabulate f i n) k d ≡ f (i + k)
  unfolding tabulate
  get_d_tabulate d zero k i h = absurd (omega arith)
  get_d_tabulate d (suc n) zero i h = rw add-zero
  get_d_tabulate d (suc n) (suc k) i h = get_d_tabulate d n k (suc i) (omega arith) ∙ ap f (omega arith)

pub rising-is : (n i : ℕ) → rising i n ≡ tabulate some i n
unfolding rising tabulate
rising-is zero i = refl
rising-is (suc n) i = ap (λ r. some i ∷ r) (rw add-one (rising-is n (suc i)))

pub sources-are : (ts : List (Option ℕ)) (n i : ℕ) → sources_from ts i n ≡ tabulate (λ t. last_source t 0 ts) i n
unfolding sources_from tabulate
sources-are ts zero i = refl
sources-are ts (suc n) i = ap (λ r. last_source i 0 ts ∷ r) (sources-are ts n (suc i))

pub labels-are : (m : Node Built) (n i : ℕ) → labels_from m i n ≡ tabulate (column_label m) i n
unfolding labels_from tabulate
labels-are m zero i = refl
labels-are m (suc n) i = ap (λ r. column_label m i ∷ r) (labels-are m n (suc i))
