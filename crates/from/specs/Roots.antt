-- FROM from its roots: the tree at a row goes by the trees of its sides, whatever the rows hold.
use Prim.Native.Nat.{ℕ, zero, suc, ◌+◌, ◌-◌, ◌≤◌, ◌<◌}
use native.Mathlib.Omega.{arith}
use Rattle.std.specs.Prelude.{◌≡◌, length, get_or}
use Rattle.std.proofs.Math.Path.{refl, ap}
use Rattle.std.proofs.Common.{sym, ◌∙◌}
use mathlib.Core.List.{List, [], ◌∷◌, ◌++◌, map, reverse, reverse_aux, reverse-cons}
use Rattle.std.proofs.Math.ListN.{length-reverse, get_or-append, get_or-eq_default, get_or-map}
use Rattle.std.proofs.lemmas.List.{length-map}
use Rattle.std.proofs.Math.Seq.{get_or-append_seam}
use Rattle.rules.specs.Lists.{Bytes}
use Rattle.rules.specs.Ast.{From}
use Rattle.from.specs.Layout.{size_at, first_at, left_at, roots_in, roots_before, roots_at, table_at, row_at, tree_in}
use Rattle.from.specs.Layout.{from_at, trees_before, froms_at}

-- ROWS
module _ (froms : List ℕ) where
  pub first-most : (r : ℕ) → first_at froms r ≤ r
  unfolding first_at size_at
  first-most r = omega arith

  pub first-falls : (n f : ℕ) → 1 ≤ n → f ≡ first_at froms (n - 1) → f < n
  first-falls n f h e = omega (arith, e, first-most (n - 1))

  pub left-most : (r : ℕ) → left_at froms (suc r) ≤ r
  unfolding left_at
  left-most r = omega arith

  pub left-all : (r : ℕ) → left_at froms r ≤ r
  unfolding left_at
  left-all zero = omega arith
  left-all (suc r) = omega arith

  -- the row before the first one of the right side
  pub left_by : (r : ℕ) → left_at froms r ≡ first_at froms (r - 1) - 1
  unfolding left_at first_at size_at
  left_by zero = omega arith
  left_by (suc r) = let e : suc r - 1 ≡ r = omega arith in rw e (omega arith)

  pub left_is : (r f : ℕ) → f ≡ first_at froms (r - 1) → f - 1 ≡ left_at froms r
  left_is r f e = ap (λ x. x - 1) e ∙ sym (left_by r)

  roots-enough : (m k n : ℕ) → n ≤ m → n ≤ k → roots_in froms m n ≡ roots_in froms k n
  unfolding roots_in
  roots-enough zero zero n h g = refl
  roots-enough zero (suc k) zero h g = refl
  roots-enough zero (suc k) (suc r) h g = absurd (omega arith)
  roots-enough (suc m) zero zero h g = refl
  roots-enough (suc m) zero (suc r) h g = absurd (omega arith)
  roots-enough (suc m) (suc k) zero h g = refl
  roots-enough (suc m) (suc k) (suc r) h g =
      ap (λ rs. r ∷ rs) (roots-enough m k (first_at froms r) (omega (arith, first-most r)) (omega (arith, first-most r)))

  pub roots-none : roots_before froms zero ≡ []
  unfolding roots_before roots_in
  roots-none = refl

  pub roots-next : (r : ℕ) → roots_before froms (suc r) ≡ r ∷ roots_before froms (first_at froms r)
  unfolding roots_before roots_in
  roots-next r = ap (λ rs. r ∷ rs) (roots-enough r (first_at froms r) (first_at froms r) (first-most r) (omega arith))

-- THE ROOTS IN THEIR ORDER
module _ (froms : List ℕ) where
  pub order-next : (r : ℕ) → roots_at froms (suc r) ≡ roots_at froms (first_at froms r) ++ r ∷ []
  unfolding roots_at
  order-next r = ap reverse (roots-next froms r) ∙ reverse-cons r (roots_before froms (first_at froms r))

  pub count_next : (r : ℕ) → length (roots_before froms (suc r)) ≡ suc (length (roots_before froms (first_at froms r)))
  count_next r = rw (roots-next froms r)

  count-order : (n : ℕ) → length (roots_at froms n) ≡ length (roots_before froms n)
  unfolding roots_at
  count-order n = length-reverse (roots_before froms n)

  -- counting them: c of them stand behind the first n rows, of N
  pub record Counts (N n c : ℕ) : Type 0 where
    pub is : c + length (roots_before froms n) ≡ length (roots_before froms N)
    pub few : c + n ≤ N

  pub counts-on : (N n c f : ℕ) → (n ≡ 0 → ⊥) → f ≡ first_at froms (n - 1) → Counts N n c → Counts N f (c + 1)
  counts-on N zero c f z e h = absurd (z refl)
  counts-on N (suc r) c f z e h =
      let w : suc r - 1 ≡ r = omega arith in
      let g : f ≡ first_at froms r = e ∙ ap (first_at froms) w in
      record { is = rw g (omega (arith, h.is, count_next r)); few = omega (arith, g, first-most froms r, h.few) }

  pub counts_end : (N n c : ℕ) → n ≡ 0 → Counts N n c → c ≡ length (roots_before froms N)
  counts_end N n c z h = let w : length (roots_before froms n) ≡ 0 = rw (z, roots-none froms) in omega (arith, w, h.is)

  -- finding one: the first n rows have j of them, and number k is among those
  pub record Finds (N k n j : ℕ) : Type 0 where
    pub is : get_or (roots_at froms n) k 0 ≡ get_or (roots_at froms N) k 0
    pub count : j ≡ length (roots_before froms n)
    pub more : k < j

  pub finds-none : (N k j : ℕ) → j ≡ length (roots_before froms N) → j ≤ k → 0 ≡ get_or (roots_at froms N) k 0
  finds-none N k j e h = sym (get_or-eq_default (roots_at froms N) 0 {n = k} (omega (arith, count-order N)))

  pub finds-some : (N k n j : ℕ) → Finds N k n j → 1 ≤ n
  finds-some N k zero j h = absurd (let w : length (roots_before froms zero) ≡ 0 = rw (roots-none froms) in
      omega (arith, w, h.count, h.more))
  finds-some N k (suc r) j h = omega arith

  pub finds-on : (N k n j f : ℕ) → f ≡ first_at froms (n - 1) → k < j - 1 → Finds N k n j → Finds N k f (j - 1)
  finds-on N k zero j f e l h = absurd (omega (arith, finds-some N k zero j h))
  finds-on N k (suc r) j f e l h =
      let w : suc r - 1 ≡ r = omega arith in
      let g : f ≡ first_at froms r = e ∙ ap (first_at froms) w in
      let i : k < length (roots_at froms (first_at froms r)) =
      omega (arith, count-order (first_at froms r), count_next r, h.count) in
      let s = sym (get_or-append (roots_at froms (first_at froms r)) (r ∷ []) 0 k i)
      ∙ ap (λ rs. get_or rs k 0) (sym (order-next r)) ∙ h.is in
      record { is = rw g s; count = rw g (omega (arith, h.count, count_next r)); more = omega arith }

  pub finds-end : (N k n j : ℕ) → j - 1 ≤ k → Finds N k n j → n - 1 ≡ get_or (roots_at froms N) k 0
  finds-end N k zero j l h = absurd (omega (arith, finds-some N k zero j h))
  finds-end N k (suc r) j l h =
      let w : suc r - 1 ≡ r = omega arith in
      let i : k ≡ length (roots_at froms (first_at froms r)) =
      omega (arith, count-order (first_at froms r), count_next r, h.count, h.more) in
      w ∙ sym (get_or-append_seam (roots_at froms (first_at froms r)) r [] 0)
      ∙ ap (λ m. get_or (roots_at froms (first_at froms r) ++ r ∷ []) m 0) (sym i)
      ∙ ap (λ rs. get_or rs k 0) (sym (order-next r)) ∙ h.is

  -- both begin at all N rows
  pub counts-begin : (N : ℕ) → Counts N N 0
  counts-begin N = record { is = omega arith; few = omega arith }

  pub finds-begin : (N k j : ℕ) → j ≡ length (roots_before froms N) → k < j → Finds N k N j
  finds-begin N k j e h = record { is = refl; count = e; more = h }

-- TREES
map-onto : (f : ℕ → From) (l r : List ℕ) → map f (reverse_aux l r) ≡ reverse_aux (map f l) (map f r)
map-onto f [] r = refl
map-onto f (x ∷ l) r = map-onto f l (x ∷ r)

module _ (b q : Bytes) (cells froms : List ℕ) where
  tree-enough : (m k r : ℕ) → r ≤ m → r ≤ k → tree_in b q cells froms m r ≡ tree_in b q cells froms k r
  unfolding tree_in
  tree-enough zero zero r h g = refl
  tree-enough zero (suc k) zero h g = refl
  tree-enough zero (suc k) (suc r) h g = absurd (omega arith)
  tree-enough (suc m) zero zero h g = refl
  tree-enough (suc m) zero (suc r) h g = absurd (omega arith)
  tree-enough (suc m) (suc k) zero h g = refl
  tree-enough (suc m) (suc k) (suc r) h g =
      rw (
        tree-enough m k (left_at froms (suc r)) (omega (arith, left-most froms r)) (omega (arith, left-most froms r)),
        tree-enough m k r (omega arith) (omega arith),
      )

  pub from_first : from_at b q cells froms zero ≡ table_at b q cells froms zero
  unfolding from_at tree_in
  from_first = refl

  pub from_next : (r : ℕ) → from_at b q cells froms (suc r)
      ≡ row_at b q cells froms (suc r) (from_at b q cells froms (left_at froms (suc r))) (from_at b q cells froms r)
  unfolding from_at tree_in
  from_next r = ap (λ u. row_at b q cells froms (suc r) u (tree_in b q cells froms r r))
      (tree-enough r (left_at froms (suc r)) (left_at froms (suc r)) (left-most froms r) (omega arith))

  pub trees-none : trees_before b q cells froms zero ≡ []
  unfolding trees_before
  trees-none = rw (roots-none froms)

  pub trees-next : (r : ℕ) → trees_before b q cells froms (suc r)
      ≡ from_at b q cells froms r ∷ trees_before b q cells froms (first_at froms r)
  unfolding trees_before
  trees-next r = rw (roots-next froms r)

-- the items are the trees in their order
pub froms-are : (b q : Bytes) (cells froms : List ℕ) (n : ℕ)
    → froms_at b q cells froms n ≡ reverse (trees_before b q cells froms n)
unfolding froms_at roots_at trees_before
froms-are b q cells froms n = map-onto (from_at b q cells froms) (roots_before froms n) []

-- as many as there are roots, each the tree at its root
pub froms-count : (b q : Bytes) (cells froms : List ℕ) (n : ℕ)
    → length (froms_at b q cells froms n) ≡ length (roots_before froms n)
unfolding froms_at
froms-count b q cells froms n = length-map (roots_at froms n) (from_at b q cells froms) ∙ count-order froms n

pub from-item : (b q : Bytes) (cells froms : List ℕ) (n k : ℕ)
    → get_or (froms_at b q cells froms n) k (from_at b q cells froms 0)
    ≡ from_at b q cells froms (get_or (roots_at froms n) k 0)
unfolding froms_at
from-item b q cells froms n k = get_or-map (from_at b q cells froms) (roots_at froms n) k 0

-- the last of the trees: its root is the last row
pub record Last (b q : Bytes) (cells froms : List ℕ) (n : ℕ) (a : From) (fs : List From) : Type 0 where
  pub root : ℕ
  pub is : n ≡ suc root
  pub tree : from_at b q cells froms root ≡ a
  pub rest : trees_before b q cells froms (first_at froms root) ≡ fs

module _ (b q : Bytes) (cells froms : List ℕ) where
  pub last_of : (n : ℕ) (a : From) (fs : List From) → trees_before b q cells froms n ≡ a ∷ fs
      → Last b q cells froms n a fs
  last_of zero a fs h =
      absurd (let y : ◌≡◌ {A = List From} [] (a ∷ fs) = sym (trees-none b q cells froms) ∙ h in
      grind arith)
  last_of (suc r) a fs h =
      let y = sym (trees-next b q cells froms r) ∙ h in
      record { root = r; is = refl; tree = cc; rest = cc }

-- the last two: the sides of a join at row n
pub record Sides (b q : Bytes) (cells froms : List ℕ) (n : ℕ) (u v : From) (fs : List From) : Type 0 where
  pub root : ℕ
  pub is : n ≡ suc root
  pub right : from_at b q cells froms root ≡ v
  pub left : from_at b q cells froms (left_at froms (suc root)) ≡ u
  pub rest : trees_before b q cells froms (first_at froms (left_at froms (suc root))) ≡ fs

pub sides-of : (b q : Bytes) (cells froms : List ℕ) (n : ℕ) (u v : From) (fs : List From)
    → trees_before b q cells froms n ≡ v ∷ u ∷ fs → Sides b q cells froms n u v fs
sides-of b q cells froms n u v fs h =
    let x = last_of b q cells froms n v (u ∷ fs) h in
    let y = last_of b q cells froms (first_at froms x.root) u fs x.rest in
    let z : y.root ≡ left_at froms (suc x.root) = unfold left_at first_at size_at in omega (arith, y.is) in
    record { root = x.root; is = x.is; right = x.tree; left = rw (← z) y.tree; rest = rw (← z) y.rest }
