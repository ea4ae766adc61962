-- Numbers of a slice that are as they were; `Kept 0 n` is said of the first n.
use Rattle.std.specs.Prelude.{ℕ, suc, ◌+◌, ◌≤◌, ◌<◌, ◌≡◌, refl, List, [], ◌∷◌, length, get_or, set}
use Rattle.std.proofs.Common.{arith, ◌∙◌, get_or-set_other}
use Rattle.std.proofs.lemmas.List.Edits.{sets}

-- the numbers from a on and before b are the same
pub record Kept (a b : ℕ) (s s' : List ℕ) : Type 0 where
  pub same : (k : ℕ) → a ≤ k → k < b → get_or s' k 0 ≡ get_or s k 0

pub kept-all : (a b : ℕ) (s : List ℕ) → Kept a b s s
kept-all a b s = record { same = λ k h g. refl }

pub kept-part : {a b : ℕ} {s s' : List ℕ} (a' b' : ℕ) → Kept a b s s' → a ≤ a' → b' ≤ b → Kept a' b' s s'
kept-part a' b' h l m = record { same = λ k x y. h.same k (omega arith) (omega arith) }

pub kept-first : {m : ℕ} {s s' : List ℕ} (n : ℕ) → Kept 0 m s s' → n ≤ m → Kept 0 n s s'
kept-first n h l = kept-part 0 n h (omega arith) l

pub kept_on : {a b : ℕ} {s s' s'' : List ℕ} → Kept a b s s' → Kept a b s' s'' → Kept a b s s''
kept_on h g = record { same = λ k x y. g.same k x y ∙ h.same k x y }

-- numbers stored before them, and behind them
pub kept_set : (s : List ℕ) (i v a b : ℕ) → i < a → Kept a b s (set s i v)
kept_set s i v a b l = record { same = λ k x y. get_or-set_other s i k v 0 (λ e. omega (arith, e)) }

pub kept_sets : (s : List ℕ) (i : ℕ) (vs : List ℕ) (a b : ℕ) → i + length vs ≤ a → Kept a b s (sets s i vs)
kept_sets s i [] a b l = kept-all a b s
kept_sets s i (v ∷ vs) a b l = kept_on (kept_set s i v a b (omega arith)) (kept_sets (set s i v) (suc i) vs a b (omega arith))

pub kept-set-behind : (s : List ℕ) (i v a b : ℕ) → b ≤ i → Kept a b s (set s i v)
kept-set-behind s i v a b l = record { same = λ k x y. get_or-set_other s i k v 0 (λ e. omega (arith, e)) }

pub kept-sets-behind : (s : List ℕ) (i : ℕ) (vs : List ℕ) (a b : ℕ) → b ≤ i → Kept a b s (sets s i vs)
kept-sets-behind s i [] a b l = kept-all a b s
kept-sets-behind s i (v ∷ vs) a b l = kept_on (kept-set-behind s i v a b l) (kept-sets-behind (set s i v) (suc i) vs a b (omega arith))
