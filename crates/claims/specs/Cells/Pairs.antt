-- Two cells that use one cell are the first two of a `ge` or `le`.
use Prim.Native.Nat.{ℕ, ◌+◌, ◌≤◌, ◌<◌, pred}
use native.Mathlib.Omega.{arith}
use Rattle.std.proofs.Math.Decide.{dec_lt}
use Rattle.std.specs.Prelude.{◌≡◌, ◌⊎◌, ◌≢◌, length}
use Rattle.std.proofs.Math.Path.{refl}
use Rattle.std.proofs.Math.Logic.{inl, inr}
use mathlib.Core.List.Memᴰ
use mathlib.Core.List.{List, [], ◌∷◌, Memᴰ}
use Rattle.rules.specs.Ast.{Plain}
use Rattle.rules.specs.Plan.{Built, Plan}
use Rattle.rules.specs.Cells.{Cell, plan_cells, plan_expressions, number_plan}
use Rattle.claims.specs.Cells.Numbers.{Between, between_none, between_join, between_next, Distinct}
use Rattle.claims.specs.Cells.Operands.{cell_at, operands, Uses, operands-binary, uses-none, uses-one, uses-two}
use Rattle.claims.specs.Cells.Operands.{past_end, uses-below}
use Rattle.claims.specs.Cells.Comparisons.{Comparison, comparison, plan_comparisons, ComparisonCells}
use Rattle.claims.specs.Cells.Blocks.{Steps, of-plan, NumbersBetween, between-end, between_more}
use Rattle.claims.specs.Cells.Order.{Below, Within, within-join, within-leaf, within-one, within-two}
use Rattle.claims.specs.Cells.Order.{within-compared}

-- cells j and k are the first two of one of the comparisons
pub record Pair (cs : List Cell) (ds : List Comparison) (j k : ℕ) : Type 0 where
  pub next : k ≡ j + 1
  pub of : Comparison
  pub listed : Memᴰ of ds
  pub cells : ComparisonCells cs of
  pub starts : of.first ≡ j

-- two cells that use one cell are such a pair, no cell uses a cell twice, none uses a root, and no cell is a root twice
pub record Paired (cs : List Cell) (ds : List Comparison) (rs : List ℕ) : Type 0 where
  pub users : (j k i : ℕ) → j < k → Uses (cell_at cs j) i → Uses (cell_at cs k) i → Pair cs ds j k
  pub operands-distinct : (j : ℕ) → Distinct (operands (cell_at cs j))
  pub roots-unused : (j i : ℕ) → Memᴰ i rs → ¬ Uses (cell_at cs j) i
  pub roots-distinct : Distinct rs

one-distinct : (c : Cell) (a : ℕ) → operands c ≡ a ∷ [] → Distinct (operands c)
unfolding Distinct
one-distinct c a e = rw e (Memᴰ.not-nil, tt)

two-distinct : (c : Cell) (a b : ℕ) → a ≢ b → operands c ≡ a ∷ b ∷ [] → Distinct (operands c)
unfolding Distinct
two-distinct c a b d e = rw e (λ m. d (Memᴰ.eq_of_singleton m), (Memᴰ.not-nil, tt))

module _ (cs : List Cell) (ds : List Comparison) where
  -- what cell k shares with one from n on
  Shares : ℕ → ℕ → Type 0
  Shares n k = (j i : ℕ) → n ≤ j → j < k → Uses (cell_at cs j) i → Uses (cell_at cs k) i → Pair cs ds j k

  -- the cells from n up to m share the operands of comparisons only
  record Block (n m : ℕ) : Type 0 where
    within : Within cs n m
    shares : Between (Shares n) n m
    distinct : Between (λ j. Distinct (operands (cell_at cs j))) n m

  -- several blocks, with their roots
  record Blocks (n m : ℕ) (rs : List ℕ) : Type 0 where
    block : Block n m
    inside : NumbersBetween n m rs
    unused : (i : ℕ) → Memᴰ i rs → Between (λ j. ¬ Uses (cell_at cs j) i) n m
    roots : Distinct rs

  -- no cell before m uses its operands
  unused-two : (n k m j i : ℕ) → n < k → k < m → Within cs n k → Within cs k m → n ≤ j → j < m → Uses (cell_at cs j) i
      → ¬ ((i ≡ pred k) ⊎ (i ≡ pred m))
  unfolding Within Below
  unused-two n k m j i l l' f g r r' u e = elim (dec_lt j k) [
    | yes y ↦ (let b = f j r y i u in elim e [ inl p ↦ omega arith | inr p ↦ omega arith ])
    | no y ↦ (let b = g j (omega arith) r' i u in elim e [ inl p ↦ omega arith | inr p ↦ omega arith ])
  ]

  block-leaf : (n : ℕ) → operands (cell_at cs n) ≡ [] → Block n (n + 1)
  unfolding Shares Distinct
  block-leaf n e = record {
    within = within-leaf cs n e;
    shares = between_next _ n n _ refl (between_none _ n) λ j i l r u v. absurd (uses-none _ i e v);
    distinct = between_next _ n n _ refl (between_none _ n) (rw e tt);
  }

  block_one : (n m : ℕ) → n < m → operands (cell_at cs m) ≡ pred m ∷ [] → Block n m → Block n (m + 1)
  unfolding Shares Within Below
  block_one n m h e b = record {
    within = within-one cs n m h e b.within;
    shares = between_next _ n m _ refl b.shares λ j i l r u v.
        absurd (let p = b.within j l r i u in let q = uses-one _ i (pred m) e v in omega arith);
    distinct = between_next _ n m _ refl b.distinct (one-distinct _ _ e);
  }

  block-join : (n k m : ℕ) → n ≤ k → Block n k → Block k m → Block n m
  unfolding Within Below Shares
  block-join n k m h a b = record {
    within = within-join cs n k m h a.within b.within;
    shares = between_join _ n k m a.shares λ c l r j i l' r' u v. elim (dec_lt j k) [
      | yes y ↦ absurd (let p = a.within j l' y i u in let q = b.within c l r i v in omega arith)
      | no y ↦ b.shares c l r j i (omega arith) r' u v
    ];
    distinct = between_join _ n k m a.distinct b.distinct;
  }

  block-two : (n k m : ℕ) → n < k → k < m → operands (cell_at cs m) ≡ pred k ∷ pred m ∷ [] → Block n k → Block k m
      → Block n (m + 1)
  unfolding Shares
  block-two n k m h h' e a b =
      let c = block-join n k m (omega arith) a b in
      record {
        within = within-two cs n k m h h' e a.within b.within;
        shares = between_next _ n m _ refl c.shares λ j i l r u v.
            absurd (unused-two n k m j i h h' a.within b.within l r u (uses-two _ i _ _ e v));
        distinct = between_next _ n m _ refl c.distinct (two-distinct _ _ _ (omega arith) e);
      }

  -- the first two cells of a comparison, and those before them, use what is before the comparison
  before : (n k m : ℕ) → k < m → operands (cell_at cs (m + 1)) ≡ pred k ∷ pred m ∷ [] → Within cs n (m + 1)
      → Between (λ j. (i : ℕ) → Uses (cell_at cs j) i → i < m) n (m + 2)
  unfolding Within Below
  before n k m h e f =
      between_next _ n (m + 1) (m + 2) (omega arith) (λ j l r i u. let b = f j l r i u in omega arith)
      λ i u. elim (uses-two _ i _ _ e u) [ inl p ↦ omega arith | inr p ↦ omega arith ]

  block-compared : (n k m : ℕ) (s : Plain) → n < k → k < m → Memᴰ (comparison s m (pred k) (pred m)) ds
      → ComparisonCells cs (comparison s m (pred k) (pred m)) → Block n k → Block k m → Block n (m + 3)
  unfolding Shares
  block-compared n k m s h h' t c a b = record {
    within = within-compared cs n k m s h h' c a.within b.within;
    shares =
        between_next _ n (m + 2) (m + 3) (omega arith)
        (between_next _ n (m + 1) (m + 2) (omega arith) d.shares second) third;
    distinct =
        between_next _ n (m + 2) (m + 3) (omega arith)
        (between_next _ n (m + 1) (m + 2) (omega arith) d.distinct (two-distinct _ _ _ (omega arith) equals))
        (two-distinct _ _ _ (omega arith) joins);
  }
    where
      equals : operands (cell_at cs (m + 1)) ≡ pred k ∷ pred m ∷ []
      equals = operands-binary c.equals

      joins : operands (cell_at cs (m + 2)) ≡ m ∷ (m + 1) ∷ []
      joins = operands-binary c.joins

      d : Block n (m + 1)
      d = block-two n k m h h' (operands-binary c.compares) a b

      second : Shares n (m + 1)
      second j i l r u v = elim (dec_lt j m) [
        | yes y ↦ absurd (unused-two n k m j i h h' a.within b.within l y u (uses-two _ i _ _ equals v))
        | no y ↦ (let e : j ≡ m = omega arith in
            rw e (record { next = refl; of = _; listed = t; cells = c; starts = refl }))
      ]

      third : Shares n (m + 2)
      third j i l r u v = absurd
          (let p = before n k m h' equals d.within j l r i u in
          elim (uses-two _ i _ _ joins v) [ inl q ↦ omega arith | inr q ↦ omega arith ])

  blocks_end : (n : ℕ) → Blocks n n []
  unfolding Within Distinct
  blocks_end n = record {
    block = record { within = between_none _ n; shares = between_none _ n; distinct = between_none _ n };
    inside = between-end n;
    unused = λ i m. absurd (Memᴰ.not-nil m);
    roots = tt;
  }

  blocks_more : (n k m : ℕ) (rs : List ℕ) → n < k → k ≤ m → Block n k → Blocks k m rs → Blocks n m (pred k ∷ rs)
  unfolding Within Below Distinct NumbersBetween
  blocks_more n k m rs h h' a b = record {
    block = block-join n k m (omega arith) a b.block;
    inside = between_more n k m rs h h' b.inside;
    unused = λ i t. between_join _ n k m (first i (Memᴰ.cases_cons t)) (second i (Memᴰ.cases_cons t));
    roots = (λ t. let p = b.inside (pred k) t in omega arith, b.roots);
  }
    where
      first : (i : ℕ) → (i ≡ pred k) ⊎ Memᴰ i rs → Between (λ j. ¬ Uses (cell_at cs j) i) n k
      first i (inl e) j l r u = let p = a.within j l r i u in omega arith
      first i (inr t) j l r u = let p = a.within j l r i u in let q = b.inside i t in omega arith

      second : (i : ℕ) → (i ≡ pred k) ⊎ Memᴰ i rs → Between (λ j. ¬ Uses (cell_at cs j) i) k m
      second i (inl e) j l r u = let p = b.block.within j l r i u in omega arith
      second i (inr t) j l r u = b.unused i t j l r u

  block-steps : Steps cs ds Block Blocks
  block-steps = record {
    leaf = block-leaf;
    one = block_one;
    two = block-two;
    compared = block-compared;
    end = blocks_end;
    more = blocks_more;
  }

-- the cells of a plan share the operands of its comparisons only
pub paired : (p : Plan Built) → Paired (plan_cells p) (plan_comparisons p) (plan_expressions (number_plan p))
unfolding Shares Distinct
paired p = record {
  users = λ j k i h u v. bs.block.shares k (omega arith) (uses-below cs k i v) j i (omega arith) h u v;
  operands-distinct = λ j. elim (dec_lt j (length cs)) [
    | yes y ↦ bs.block.distinct j (omega arith) y
    | no y ↦ rw (past_end cs j (omega arith)) tt
  ];
  roots-unused = λ j i m u. bs.unused i m j (omega arith) (uses-below cs j i u) u;
  roots-distinct = bs.roots;
}
  where
    cs : List Cell
    cs = plan_cells p

    bs : Blocks cs (plan_comparisons p) 0 (length cs) (plan_expressions (number_plan p))
    bs = of-plan p _ _ (block-steps cs _)
