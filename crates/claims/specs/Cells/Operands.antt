-- A cell's operands.
use Rattle.std.specs.Prelude.{ℕ, ◌≤◌, ◌<◌, ◌≡◌, ◌⊎◌, length, get_or}
use Rattle.std.proofs.Common.{arith, sym, ap, ◌∙◌, inl, inr}
use Rattle.std.proofs.Math.Decide.{dec_lt, ℕ_discrete}
use mathlib.Core.List.Memᴰ
use mathlib.Core.List.{List, [], ◌∷◌, Memᴰ}
use Rattle.std.proofs.Math.ListN.{get_or-eq_default}
use Rattle.rules.specs.Schema.{null}
use Rattle.rules.specs.Ast.{Plain}
use Rattle.rules.specs.Cells.{Cell, constant, column, unary, binary, is}

-- the cell at a number
unfoldable pub cell_at : List Cell → ℕ → Cell
cell_at cs i = get_or cs i (constant null)

-- the numbers of a cell's operands
unfoldable pub operands : Cell → List ℕ
operands (constant v) = []
operands (column i) = []
operands (unary o a) = a ∷ []
operands (binary o a b) = a ∷ b ∷ []
operands (is a v) = a ∷ []

-- a cell uses its operands
unfoldable pub Uses : Cell → ℕ → Type 0
Uses c i = Memᴰ i (operands c)

pub operands-binary : {c : Cell} {o : Plain} {a b : ℕ} → c ≡ binary o a b → operands c ≡ a ∷ b ∷ []
unfolding operands
operands-binary e = rw e

-- what a cell uses, by its operands
pub uses-none : (c : Cell) (i : ℕ) → operands c ≡ [] → ¬ Uses c i
unfolding Uses
uses-none c i e u = Memᴰ.not-nil (rw e at u)

pub uses-one : (c : Cell) (i a : ℕ) → operands c ≡ a ∷ [] → Uses c i → i ≡ a
unfolding Uses
uses-one c i a e u = Memᴰ.eq_of_singleton (rw e at u)

pub uses-two : (c : Cell) (i a b : ℕ) → operands c ≡ a ∷ b ∷ [] → Uses c i → (i ≡ a) ⊎ (i ≡ b)
unfolding Uses
uses-two c i a b e u =
    elim (Memᴰ.cases_cons (rw e at u)) [ inl p ↦ inl p | inr m ↦ inr (Memᴰ.eq_of_singleton m) ]

pub uses-either : (c : Cell) (i a b : ℕ) → operands c ≡ a ∷ b ∷ [] → (i ≡ a) ⊎ (i ≡ b) → Uses c i
unfolding Uses
uses-either c i a b e (inl p) = rw e (Memᴰ.head p)
uses-either c i a b e (inr p) = rw e (Memᴰ.tail (Memᴰ.head p))

member : (i : ℕ) (is' : List ℕ) → Dec (Memᴰ i is')
member i [] = no Memᴰ.not-nil
member i (j ∷ is') = pick (ℕ_discrete i j) (member i is')
  where
    pick : Dec (i ≡ j) → Dec (Memᴰ i is') → Dec (Memᴰ i (j ∷ is'))
    pick (yes e) d = yes (Memᴰ.head e)
    pick (no n) (yes m) = yes (Memᴰ.tail m)
    pick (no n) (no m) = no λ h. elim (Memᴰ.cases_cons h) [ inl e ↦ n e | inr t ↦ m t ]

-- whether it uses a cell
pub uses-decided : (c : Cell) (i : ℕ) → Dec (Uses c i)
unfolding Uses
uses-decided c i = member i (operands c)

-- past the cells there are no operands
pub past_end : (cs : List Cell) (j : ℕ) → length cs ≤ j → operands (cell_at cs j) ≡ []
unfolding cell_at operands
past_end cs j h = rw (get_or-eq_default cs (constant null) h)

-- a cell with an operand is one of the cells
pub user-below : (cs : List Cell) (j : ℕ) {i : ℕ} {is' : List ℕ} → operands (cell_at cs j) ≡ i ∷ is' → j < length cs
user-below cs j e = elim (dec_lt j (length cs)) [
  | yes y ↦ y
  | no y ↦ absurd (let n = ap length (sym (past_end cs j (omega arith)) ∙ e) in omega arith)
]

pub uses-below : (cs : List Cell) (j i : ℕ) → Uses (cell_at cs j) i → j < length cs
uses-below cs j i u = elim (dec_lt j (length cs)) [
  | yes y ↦ y
  | no y ↦ absurd (uses-none _ i (past_end cs j (omega arith)) u)
]
