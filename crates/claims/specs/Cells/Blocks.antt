-- The cells of a plan come in blocks, one an expression, and a block is made of its operands' blocks: a law of cells
-- that holds at each of these steps holds of every plan.
use Prim.Native.Nat.{ℕ, ◌+◌, ◌≤◌, ◌<◌, pred}
use native.Mathlib.Omega.{arith}
use Rattle.std.proofs.Math.Nat.{add_assoc, add-zero}
use Rattle.std.proofs.Common.{zero-add, sym, ◌∙◌, inl, inr, length-append}
use Rattle.std.specs.Prelude.{◌≡◌, length}
use Rattle.std.proofs.Math.Path.{refl, ap}
use mathlib.Core.List.Memᴰ
use mathlib.Core.List.{List, [], ◌∷◌, ◌++◌, append_assoc, append-nil, Memᴰ}
use Rattle.std.proofs.lemmas.List.{get_or_at}
use Rattle.rules.specs.Schema.{null}
use Rattle.rules.specs.Ast.{Plain, or, eq, gt, lt, Binary, plain, ge, le, ne}
use Rattle.rules.specs.Plan.{Built, Plan}
use Rattle.rules.specs.Plan as P
use Rattle.rules.specs.Cells.{Cell, constant, binary, added, built_count, root, operator, cells, count_all}
use Rattle.rules.specs.Cells.{cells_all, roots, plan_expressions, plan_cells, number_plan}
use Rattle.claims.specs.Answers.{All, all_append}
use Rattle.claims.specs.Cells.Length.{count-positive, cells-length, cells_all-length}
use Rattle.claims.specs.Cells.Roots.{roots-plan}
use Rattle.claims.specs.Cells.Operands.{cell_at, operands}
use Rattle.claims.specs.Cells.Comparisons.{Comparison, comparison, operator_comparisons, comparisons}
use Rattle.claims.specs.Cells.Comparisons.{comparisons_all, plan_comparisons, ComparisonCells}

-- The steps, over some cells and comparisons: B of a block from n up to m, whose last cell is its root, and Q of
-- several blocks and their roots.
pub record Steps (cs : List Cell) (ds : List Comparison) (B : ℕ → ℕ → Type 0) (Q : ℕ → ℕ → List ℕ → Type 0)
    : Type 0 where
  pub leaf : (n : ℕ) → operands (cell_at cs n) ≡ [] → B n (n + 1)
  pub one : (n m : ℕ) → n < m → operands (cell_at cs m) ≡ pred m ∷ [] → B n m → B n (m + 1)
  pub two : (n k m : ℕ) → n < k → k < m → operands (cell_at cs m) ≡ pred k ∷ pred m ∷ [] → B n k → B k m → B n (m + 1)
  pub compared : (n k m : ℕ) (s : Plain) → n < k → k < m → Memᴰ (comparison s m (pred k) (pred m)) ds
      → ComparisonCells cs (comparison s m (pred k) (pred m)) → B n k → B k m → B n (m + 3)
  pub end : (n : ℕ) → Q n n []
  pub more : (n k m : ℕ) (rs : List ℕ) → n < k → k ≤ m → B n k → Q k m rs → Q n m (pred k ∷ rs)

-- some cells stand at n
Stand : List Cell → ℕ → List Cell → Type 0
Stand cs n xs = (p : List Cell) × (q : List Cell) × (cs ≡ p ++ (xs ++ q)) × (length p ≡ n)

stand-left : (cs : List Cell) (n : ℕ) (xs ys : List Cell) → Stand cs n (xs ++ ys) → Stand cs n xs
unfolding Stand
stand-left cs n xs ys h = (h.0, ys ++ h.1, h.2 ∙ rw append_assoc, h.3)

stand-right : (cs : List Cell) (n m : ℕ) (xs ys : List Cell) → n + length xs ≡ m → Stand cs n (xs ++ ys)
    → Stand cs m ys
unfolding Stand
stand-right cs n m xs ys e h = (h.0 ++ xs, h.1, h.2 ∙ simp append_assoc, rw length-append (omega (arith, h.3)))

stand-at : (cs : List Cell) (n : ℕ) (c : Cell) (ys : List Cell) → Stand cs n (c ∷ ys) → cell_at cs n ≡ c
unfolding Stand cell_at
stand-at cs n c ys h = rw h.2 (get_or_at h.0 c (ys ++ h.1) (constant null) n h.3)

compared-cells : (cs : List Cell) (s : Plain) (m x y : ℕ)
    → Stand cs m (binary s x y ∷ binary eq x y ∷ binary or m (m + 1) ∷ []) → ComparisonCells cs (comparison s m x y)
compared-cells cs s m x y h =
    let h₁ = stand-right cs m (m + 1) (binary s x y ∷ []) _ (omega arith) h in
    record {
      compares = stand-at cs m _ _ h;
      equals = stand-at cs (m + 1) _ _ h₁;
      joins = stand-at cs (m + 2) _ _ (stand-right cs (m + 1) (m + 2) (binary eq x y ∷ []) _ (omega arith) h₁);
    }

-- the cells of two operands and their operator
record Parts (cs : List Cell) (o : Binary) (a b : Built) (n : ℕ) : Type 0 where
  left : Stand cs n (cells n a)
  right : Stand cs (n + built_count a) (cells (n + built_count a) b)
  own : Stand cs (n + built_count a + built_count b)
      (operator o (n + built_count a + built_count b) (root n a) (root (n + built_count a) b))

parts : (cs : List Cell) (o : Binary) (a b : Built) (n : ℕ) → Stand cs n (cells n (P.binary o a b)) → Parts cs o a b n
unfolding cells
parts cs o a b n s =
    let k = n + built_count a in
    let t = stand-right cs n k (cells n a) _ (rw (cells-length a n)) s in
    record {
      left = stand-left cs n _ _ s;
      right = stand-left cs k _ _ t;
      own = stand-right cs k (k + built_count b) (cells k b) _ (rw (cells-length b k)) t;
    }

-- some comparisons are among others
Among : List Comparison → List Comparison → Type 0
Among ds es = (d : Comparison) → Memᴰ d ds → Memᴰ d es

among-left : (xs ys ds : List Comparison) → Among (xs ++ ys) ds → Among xs ds
unfolding Among
among-left xs ys ds f d m = f d (Memᴰ.append_left ys m)

among-right : (xs ys ds : List Comparison) → Among (xs ++ ys) ds → Among ys ds
unfolding Among
among-right xs ys ds f d m = f d (Memᴰ.append_right xs m)

-- STEPS
module _ (cs : List Cell) (ds : List Comparison) (B : ℕ → ℕ → Type 0) (Q : ℕ → ℕ → List ℕ → Type 0)
    (steps : Steps cs ds B Q) where
  operator-block : (o : Binary) (n k m : ℕ) → n < k → k < m → Stand cs m (operator o m (pred k) (pred m))
      → Among (operator_comparisons o m (pred k) (pred m)) ds → B n k → B k m → B n (m + added o)
  unfolding operator operator_comparisons added operands Among
  operator-block (plain o) n k m f g s l a b = steps.two n k m f g (ap operands (stand-at cs m _ _ s)) a b
  operator-block ge n k m f g s l a b =
      steps.compared n k m gt f g (l _ (Memᴰ.head refl)) (compared-cells cs gt m _ _ s) a b
  operator-block le n k m f g s l a b =
      steps.compared n k m lt f g (l _ (Memᴰ.head refl)) (compared-cells cs lt m _ _ s) a b
  operator-block ne n k m f g s l a b =
      let t = stand-right cs m (m + 1) (binary eq (pred k) (pred m) ∷ []) _ (omega arith) s in
      let e = ap operands (stand-at cs (m + 1) _ _ t) in
      let r : m ≡ pred (m + 1) = omega arith in
      let equal = steps.two n k m f g (ap operands (stand-at cs m _ _ s)) a b in
      rw (← add_assoc m 1 1) (steps.one n (m + 1) (omega arith) (e ∙ ap (λ i. i ∷ []) r) equal)

  last_block : (a : Built) (c : Cell) (n : ℕ) → operands c ≡ root n a ∷ [] → Stand cs n (cells n a ++ (c ∷ []))
      → B n (n + built_count a) → B n (n + (built_count a + 1))
  unfolding root
  last_block a c n e s h =
      let m = n + built_count a in
      let t = stand-right cs n m (cells n a) _ (rw (cells-length a n)) s in
      rw (← add_assoc) (steps.one n m (omega (arith, count-positive a)) (ap operands (stand-at cs _ _ _ t) ∙ e) h)

  block : (a : Built) (n : ℕ) → Stand cs n (cells n a) → Among (comparisons n a) ds → B n (n + built_count a)
  unfolding cells comparisons built_count root operands
  block (P.constant v) n s l = steps.leaf n (ap operands (stand-at cs n _ _ s))
  block (P.column i) n s l = steps.leaf n (ap operands (stand-at cs n _ _ s))
  block (P.unary o a) n s l = last_block a _ n refl s (block a n (stand-left cs n _ _ s) l)
  block (P.is a v) n s l = last_block a _ n refl s (block a n (stand-left cs n _ _ s) l)
  block (P.binary o a b) n s l =
      let k = n + built_count a in
      let m = k + built_count b in
      let t = parts cs o a b n s in
      let r = among-right (comparisons n a) _ ds l in
      let e : n + (built_count a + built_count b + added o) ≡ m + added o = omega arith in
      rw e (operator-block o n k m (omega (arith, count-positive a)) (omega (arith, count-positive b)) t.own
      (among-right (comparisons k b) _ ds r)
      (block a n t.left (among-left (comparisons n a) _ ds l))
      (block b k t.right (among-left (comparisons k b) _ ds r)))

  blocks : (as' : List Built) (n : ℕ) → Stand cs n (cells_all n as') → Among (comparisons_all n as') ds
      → Q n (n + count_all as') (roots n as')
  unfolding cells_all comparisons_all count_all roots root
  blocks [] n s l = rw add-zero (steps.end n)
  blocks (a ∷ as') n s l =
      let k = n + built_count a in
      let t = stand-right cs n k (cells n a) _ (rw (cells-length a n)) s in
      rw (← add_assoc) (steps.more n k (k + count_all as') (roots k as') (omega (arith, count-positive a)) (omega arith)
      (block a n (stand-left cs n _ _ s) (among-left (comparisons n a) _ ds l))
      (blocks as' k t (among-right (comparisons n a) _ ds l)))

-- COMPARISONS
module _ (cs : List Cell) where
  abbrev Stated : List Comparison → Type 0
  Stated ds = All (ComparisonCells cs) ds

  operator-stated : (o : Binary) (n x y : ℕ) → Stand cs n (operator o n x y) → Stated (operator_comparisons o n x y)
  unfolding operator operator_comparisons All
  operator-stated (plain o) n x y s = tt
  operator-stated ge n x y s = (compared-cells cs gt n x y s, tt)
  operator-stated le n x y s = (compared-cells cs lt n x y s, tt)
  operator-stated ne n x y s = tt

  block-stated : (a : Built) (n : ℕ) → Stand cs n (cells n a) → Stated (comparisons n a)
  unfolding cells comparisons All
  block-stated (P.constant v) n s = tt
  block-stated (P.column i) n s = tt
  block-stated (P.unary o a) n s = block-stated a n (stand-left cs n _ _ s)
  block-stated (P.is a v) n s = block-stated a n (stand-left cs n _ _ s)
  block-stated (P.binary o a b) n s =
      let k = n + built_count a in
      let t = parts cs o a b n s in
      all_append _ (comparisons n a) _ (block-stated a n t.left)
      (all_append _ (comparisons k b) _ (block-stated b k t.right) (operator-stated o _ _ _ t.own))

  blocks-stated : (as' : List Built) (n : ℕ) → Stand cs n (cells_all n as') → Stated (comparisons_all n as')
  unfolding cells_all comparisons_all All
  blocks-stated [] n s = tt
  blocks-stated (a ∷ as') n s =
      let t = stand-right cs n (n + built_count a) (cells n a) _ (rw (cells-length a n)) s in
      all_append _ (comparisons n a) _ (block-stated a n (stand-left cs n _ _ s)) (blocks-stated as' _ t)

-- PLANS
stand-all : (p : Plan Built) → Stand (plan_cells p) 0 (cells_all 0 (plan_expressions p))
unfolding plan_cells Stand
stand-all p = ([], [], sym (append-nil (plan_cells p)), refl)

-- the comparisons of a plan have their cells
pub cells-compared : (p : Plan Built) → All (ComparisonCells (plan_cells p)) (plan_comparisons p)
unfolding plan_comparisons
cells-compared p = blocks-stated (plan_cells p) (plan_expressions p) 0 (stand-all p)

-- what the steps give, of the cells of a plan and the numbers in it
pub of-plan : (p : Plan Built) (B : ℕ → ℕ → Type 0) (Q : ℕ → ℕ → List ℕ → Type 0)
    → Steps (plan_cells p) (plan_comparisons p) B Q → Q 0 (length (plan_cells p)) (plan_expressions (number_plan p))
unfolding plan_cells plan_comparisons Among
of-plan p B Q steps =
    rw (roots-plan p, cells_all-length (plan_expressions p) 0)
    (rw zero-add at (blocks (plan_cells p) (plan_comparisons p) B Q steps (plan_expressions p) 0 (stand-all p) λ d m. m))

-- some numbers are from n up to m
unfoldable pub NumbersBetween : ℕ → ℕ → List ℕ → Type 0
NumbersBetween n m rs = (i : ℕ) → Memᴰ i rs → (n ≤ i) × (i < m)

pub between-end : (n : ℕ) → NumbersBetween n n []
unfolding NumbersBetween
between-end n i m = absurd (Memᴰ.not-nil m)

pub between_more : (n k m : ℕ) (rs : List ℕ) → n < k → k ≤ m → NumbersBetween k m rs → NumbersBetween n m (pred k ∷ rs)
unfolding NumbersBetween
between_more n k m rs h l f i t =
    elim (Memᴰ.cases_cons t) [ inl e ↦ omega arith | inr u ↦ (let b = f i u in omega arith) ]

-- the numbers in a plan are numbers of its cells
pub roots-between : (p : Plan Built) → NumbersBetween 0 (length (plan_cells p)) (plan_expressions (number_plan p))
roots-between p = of-plan p (λ n m. Unit {0}) NumbersBetween (record {
  leaf = λ n e. tt;
  one = λ n m h e b. tt;
  two = λ n k m h l e a b. tt;
  compared = λ n k m s h l t c a b. tt;
  end = between-end;
  more = λ n k m rs h l b f. between_more n k m rs h l f;
})
