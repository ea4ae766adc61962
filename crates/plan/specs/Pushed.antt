-- Numbers pushed behind those of the nodes that are in use; what stands behind them is not said.
use Rattle.std.specs.Prelude.{ℕ, ◌+◌, ◌-◌, ◌≤◌, ◌≡◌, refl, List, [], ◌∷◌, ◌++◌, length, set}
use Rattle.std.proofs.Common.{◌∙◌, length-set}
use Rattle.plan.specs.Layout.{nodes_size}
use Rattle.std.proofs.lemmas.List.Edits.{sets}
use Rattle.std.proofs.Math.Seq.{length-sets}
use Rattle.plan.specs.Appended.{Appended, appended-none, appended-on, appended-as, appended-sets, appended-count}
use Rattle.plan.specs.declared.nodes.Nodes.{Nodes}

-- n numbers more have room
abbrev pub NodeRoom : ℕ → Nodes → Type 0
NodeRoom n s = s.used + n ≤ length s.numbers.now

-- the lent slice stays the same one, as long as it was
pub record Kept (s t : Nodes) : Type 0 where
  pub same : t.numbers.ghost_name ≡ s.numbers.ghost_name
  pub all : length t.numbers.now ≡ length s.numbers.now

pub kept-all : (s : Nodes) → Kept s s
kept-all s = record { same = refl; all = refl }

pub kept-on : {s t u : Nodes} → Kept s t → Kept t u → Kept s u
kept-on a b = record { same = b.same ∙ a.same; all = b.all ∙ a.all }

-- xs stand behind the numbers of s, and are in use with them
pub record Pushed (xs : List ℕ) (s t : Nodes) : Type 0 where
  pub kept : Kept s t
  pub appended : Appended xs s.used s.numbers.now t.used t.numbers.now

pub pushed-none : (s : Nodes) → s.used ≤ length s.numbers.now → Pushed [] s s
pushed-none s h = record { kept = kept-all s; appended = appended-none s.used s.numbers.now h }

-- one step after another
pub pushed-on : {xs ys : List ℕ} {s t u : Nodes} → Pushed xs s t → Pushed ys t u → Pushed (xs ++ ys) s u
pushed-on a b = record { kept = kept-on a.kept b.kept; appended = appended-on a.appended b.appended }

-- the same numbers, said otherwise
pub pushed-as : {xs ys : List ℕ} {s t : Nodes} → xs ≡ ys → Pushed xs s t → Pushed ys s t
pushed-as e a = record { kept = a.kept; appended = appended-as e a.appended }

-- stores in a row
pub pushed-sets : (xs : List ℕ) {s t : Nodes} → t.numbers.ghost_name ≡ s.numbers.ghost_name → t.used ≡ s.used + length xs
    → t.used ≤ length s.numbers.now → t.numbers.now ≡ sets s.numbers.now s.used xs → Pushed xs s t
pushed-sets xs {s} {t} g e h f = record {
  kept = record { same = g; all = rw f (length-sets s.numbers.now s.used xs) };
  appended = rw f (appended-sets xs s.numbers.now s.used t.used e h);
}

-- STORED: the number x at place i of those in use
pub record Stored (i x : ℕ) (s t : Nodes) : Type 0 where
  pub same : t.numbers.ghost_name ≡ s.numbers.ghost_name
  pub used : t.used ≡ s.used
  pub numbers : t.numbers.now ≡ set s.numbers.now i x

-- a place among those in use, whose number may count those behind it
abbrev pub Countable : ℕ → Nodes → Type 0
Countable i s = (i + 1 ≤ s.used) × (s.used ≤ length s.numbers.now) × (s.used ≤ nodes_size)

pub stored-kept : {i x : ℕ} {s t : Nodes} → Stored i x s t → Kept s t
stored-kept {i} {x} {s} a = record { same = a.same; all = rw (a.numbers, length-set s.numbers.now i x) }

-- the place behind xs is given the number of those that stand behind it
pub pushed-count : (xs r : List ℕ) (y at : ℕ) {s t u : Nodes} → Pushed (xs ++ (y ∷ r)) s t → at ≡ s.used + length xs
    → Stored at (t.used - (at + 1)) t u → Pushed (xs ++ (length r ∷ r)) s u
pushed-count xs r y at {s} {t} {u} a e b = record {
  kept = kept-on a.kept (stored-kept b);
  appended = rw b.used (appended-count xs r y s.used at t.used s.numbers.now t.numbers.now u.numbers.now a.appended e b.numbers);
}
