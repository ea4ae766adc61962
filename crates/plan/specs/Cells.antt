-- Cells appended to the plan's area: where there is room, what stands there then, and one behind another.
use Rattle.std.specs.Prelude.{ℕ, ◌+◌, ◌≤◌, ◌<◌, ◌≡◌, refl, List, [], ◌∷◌, ◌++◌, length, take, drop}
use Rattle.std.proofs.Common.{arith, sym, ap, ◌∙◌, append_assoc, append-nil, length-append, length-take-le, take_at}
use Rattle.std.proofs.lemmas.List.Edits.{sets, sets-eq}
use Rattle.std.proofs.Math.Seq.{length-sets}
use Rattle.rules.specs.Lists.{concat}
use Rattle.rules.specs.Ast.{Unary, Plain, Binary}
use Rattle.rules.specs.Codes.{unary_code, plain_code}
use Rattle.rules.specs.Cells.{Cell, unary, binary, added, operator}
use Rattle.rules.specs.Area.{cell_numbers}
use Rattle.claims.specs.Room.Nodes.{cell-size}
use Rattle.appends.specs.Area.{cells_numbers, cells-numbers-append}
use Rattle.plan.specs.Layout.{cell_size, cells_end}

-- the area has room for k cells from the n-th on, and a number of 32 bits counts them
pub record Room (n k : ℕ) (area : List ℕ) : Type 0 where
  pub counted : n + k < 4294967296
  pub held : cells_end (n + k) ≤ length area

pub room-less : {n k : ℕ} {area : List ℕ} (j : ℕ) → j ≤ k → Room n k area → Room n j area
room-less j l h = record { counted = omega arith; held = omega arith }

-- no cells are no numbers
pub cells-none : cells_numbers [] ≡ []
unfolding cells_numbers concat
cells-none = refl

-- cells appended from the n-th on: what stands behind them is not determined
pub record Puts (n : ℕ) (cs : List Cell) (area area' : List ℕ) : Type 0 where
  pub kept : length area' ≡ length area
  pub cells : take (cells_end (n + length cs)) area' ≡ take (cells_end n) area ++ cells_numbers cs

stored-take : (area vs : List ℕ) (n : ℕ) → length vs ≡ cell_size → cells_end (n + 1) ≤ length area
    → take (cells_end (n + 1)) (sets area (cells_end n) vs) ≡ take (cells_end n) area ++ vs
stored-take area vs n four room =
    let l : length (take (cells_end n) area) ≡ cells_end n = length-take-le (cells_end n) area (omega arith) in
    let m : length (take (cells_end n) area ++ vs) ≡ cells_end (n + 1) =
    omega (arith, length-append (take (cells_end n) area) vs) in
    rw (sets-eq vs area (cells_end n) (omega arith))
    (take_at (take (cells_end n) area ++ vs) (drop (cells_end n + length vs) area) (cells_end (n + 1)) m)

-- the four numbers of a cell
pub put_one : (x : Cell) (n : ℕ) (area area' vs : List ℕ) → Room n 1 area → cell_numbers x ≡ vs
    → area' ≡ sets area (cells_end n) vs → Puts n (x ∷ []) area area'
unfolding cells_numbers concat
put_one x n area area' vs room e h = record {
  kept = ap length h ∙ length-sets area (cells_end n) vs;
  cells = rw (h, append-nil, e)
      (stored-take area vs n (sym (ap length e) ∙ cell-size x) room.held);
}

-- an operator's cell by its code
pub unary-numbers : (o : Unary) (k a : ℕ) → k ≡ unary_code o → cell_numbers (unary o a) ≡ k ∷ a ∷ 0 ∷ 0 ∷ []
unfolding cell_numbers
unary-numbers o k a e = rw e

pub plain-numbers : (o : Plain) (k a b : ℕ) → k ≡ plain_code o → cell_numbers (binary o a b) ≡ k ∷ a ∷ b ∷ 0 ∷ []
unfolding cell_numbers
plain-numbers o k a b e = rw e

-- the cells of an operator, and the next cell
pub record Operated (o : Binary) (n x y : ℕ) (area area' : List ℕ) (r : ℕ) : Type 0 where
  pub next : r ≡ n + added o
  pub puts : Puts n (operator o n x y) area area'

-- cells behind others
pub puts_then : {n m : ℕ} {xs ys : List Cell} {area area' area'' : List ℕ} → Puts n xs area area'
    → n + length xs ≡ m → Puts m ys area' area'' → Puts n (xs ++ ys) area area''
puts_then {n} {m} {xs} {ys} p e q = record {
  kept = q.kept ∙ p.kept;
  cells =
      let l : n + length (xs ++ ys) ≡ m + length ys = omega (arith, length-append xs ys) in
      rw (l, cells-numbers-append xs ys, q.cells, ← e, p.cells, append_assoc);
}

pub puts-two : {n : ℕ} {a b : Cell} {s s' s'' : List ℕ} → Puts n (a ∷ []) s s' → Puts (n + 1) (b ∷ []) s' s''
    → Puts n (a ∷ b ∷ []) s s''
puts-two p q = puts_then p refl q

pub puts-three : {n : ℕ} {a b c : Cell} {s s' s'' s''' : List ℕ} → Puts n (a ∷ []) s s' → Puts (n + 1) (b ∷ []) s' s''
    → Puts (n + 2) (c ∷ []) s'' s''' → Puts n (a ∷ b ∷ c ∷ []) s s'''
puts-three p q r = puts_then (puts-two p q) refl r
