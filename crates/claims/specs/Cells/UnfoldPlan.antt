-- A plan's cells, unfolded at the numbers in the plan, give the plan that the Rust builds.
use Rattle.std.specs.Prelude.{ℕ, ◌+◌, ◌≡◌, refl}
use Rattle.std.proofs.Common.{arith, add_assoc, add-zero, zero-add, length-append}
use Rattle.std.proofs.Math.Path.{sym, subst}
use mathlib.Core.List.{List, [], ◌∷◌, ◌++◌, append_assoc, append-nil, map}
use Rattle.std.proofs.Math.Option.{Option, none, some}
use Rattle.std.proofs.Math.ListN.{length}
use Rattle.rules.specs.Lists.{map_option, given, concat}
use Rattle.rules.specs.Plan.{Built, Expression, desugar, Node, Plan, map_first, map_second, map_node, map_plan, desugar_plan}
use Rattle.rules.specs.Plan as P
use Rattle.rules.specs.Cells.{built_count, root, count_all, cells_all, roots, expressions, cell_count, number_given}
use Rattle.rules.specs.Cells.{number_rows, number_first, number_second, number_node, plan_expressions, plan_cells, number_plan}
use Rattle.claims.specs.Cells.Unfold.{tree, unfolded, trees, unfolded-append, unfold-cells, at-root, trees-length}

-- the trees at the roots of some expressions, their cells from i on, are those expressions
Covers : List Expression → ℕ → List Built → Type 0
Covers ts i [] = Unit {0}
Covers ts i (a ∷ as') = (tree ts (root i a) ≡ desugar a) × Covers ts (i + built_count a) as'

covers-left : (ts : List Expression) (i : ℕ) (as' bs : List Built) → Covers ts i (as' ++ bs) → Covers ts i as'
unfolding Covers
covers-left ts i [] bs h = tt
covers-left ts i (a ∷ as') bs h = (h.0, covers-left ts (i + built_count a) as' bs h.1)

covers-right : (ts : List Expression) (i : ℕ) (as' bs : List Built) → Covers ts i (as' ++ bs)
    → Covers ts (i + count_all as') bs
unfolding Covers count_all
covers-right ts i [] bs h = rw add-zero h
covers-right ts i (a ∷ as') bs h = rw (← add_assoc) (covers-right ts (i + built_count a) as' bs h.1)

-- the trees of the cells of some expressions
trees_all : List Built → List Expression
trees_all [] = []
trees_all (a ∷ as') = trees a ++ trees_all as'

-- how many trees stand behind an expression's
behind : (a : Built) (n : ℕ) (ts : List Expression) → length ts ≡ n → length (ts ++ trees a) ≡ n + built_count a
behind a n ts e = rw (length-append, trees-length a) (omega arith)

unfold-all : (as' : List Built) (n : ℕ) (ts : List Expression) → length ts ≡ n
    → unfolded ts (cells_all n as') ≡ ts ++ trees_all as'
unfolding cells_all trees_all unfolded
unfold-all [] n ts e = sym (append-nil ts)
unfold-all (a ∷ as') n ts e =
    rw (unfolded-append, unfold-cells a n ts e, unfold-all as' _ (ts ++ trees a) (behind a n ts e), append_assoc)

-- the cells of some expressions, behind others, cover them
covers-all : (as' : List Built) (n : ℕ) (ts us : List Expression) → length ts ≡ n
    → Covers (ts ++ (trees_all as' ++ us)) n as'
unfolding Covers trees_all
covers-all [] n ts us e = tt
covers-all (a ∷ as') n ts us e = (
  rw append_assoc (at-root a n ts (trees_all as' ++ us) e),
  subst (λ (x : List Expression). Covers (ts ++ x) (n + built_count a) as') (sym (append_assoc (trees a) (trees_all as') us))
      (subst (λ (x : List Expression). Covers x (n + built_count a) as') (append_assoc ts (trees a) (trees_all as' ++ us))
      (covers-all as' (n + built_count a) (ts ++ trees a) us (behind a n ts e))),
)

-- a node's parts, a node and a plan
same-given : (ts : List Expression) (i : ℕ) (x : Option Built) → Covers ts i (given x)
    → map_option (tree ts) (number_given i x) ≡ map_option desugar x
unfolding Covers given map_option number_given
same-given ts i none h = refl
same-given ts i (some x) h = rw h.0

same-list : (ts : List Expression) (i : ℕ) (xs : List Built) → Covers ts i xs
    → map (tree ts) (roots i xs) ≡ map desugar xs
unfolding Covers roots
same-list ts i [] h = refl
same-list ts i (x ∷ xs) h = rw (h.0, same-list ts (i + built_count x) xs h.1)

same_rows : (ts : List Expression) (i : ℕ) (rs : List (List Built)) → Covers ts i (concat rs)
    → map (map (tree ts)) (number_rows i rs) ≡ map (map desugar) rs
unfolding concat number_rows
same_rows ts i [] h = refl
same_rows ts i (r ∷ rs) h = rw (
  same-list ts i r (covers-left ts i r (concat rs) h),
  same_rows ts (i + count_all r) rs (covers-right ts i r (concat rs) h),
)

same_first : {B : Type 0} (ts : List Expression) (i : ℕ) (xs : List (Built × B)) → Covers ts i (map (λ x. x.0) xs)
    → map_first (tree ts) (number_first i xs) ≡ map_first desugar xs
unfolding Covers map_first number_first
same_first ts i [] h = refl
same_first ts i (x ∷ xs) h = rw (h.0, same_first ts (i + built_count x.0) xs h.1)

same_second : {B : Type 0} (ts : List Expression) (i : ℕ) (xs : List (B × Built)) → Covers ts i (map (λ x. x.1) xs)
    → map_second (tree ts) (number_second i xs) ≡ map_second desugar xs
unfolding Covers map_second number_second
same_second ts i [] h = refl
same_second ts i (x ∷ xs) h = rw (h.0, same_second ts (i + built_count x.1) xs h.1)

same-node : (n : Node Built) (ts : List Expression) (i : ℕ) → Covers ts i (expressions n)
    → map_node (tree ts) (number_node i n) ≡ map_node desugar n
unfolding expressions map_node number_node cell_count Covers
same-node (P.scan t a x) ts i h = rw (same-given ts i x h)
same-node (P.values rs) ts i h = rw (same_rows ts i rs h)
same-node (P.join a b x o) ts i h =
    let r = covers-right ts i (expressions a) (expressions b ++ given x) h in
    let s = covers-right ts (i + cell_count a) (expressions b) (given x) r in
    rw (
      same-node a ts i (covers-left ts i (expressions a) _ h),
      same-node b ts (i + cell_count a) (covers-left ts (i + cell_count a) (expressions b) _ r),
      same-given ts (i + cell_count a + cell_count b) x s,
    )
same-node (P.filter n x) ts i h =
    rw (same-node n ts i (covers-left ts i (expressions n) _ h), (covers-right ts i (expressions n) _ h).0)
same-node (P.aggregate n gs fs) ts i h =
    let r = covers-right ts i (expressions n) (gs ++ map (λ f. f.1) fs) h in
    rw (
      same-node n ts i (covers-left ts i (expressions n) _ h),
      same-list ts (i + cell_count n) gs (covers-left ts (i + cell_count n) gs _ r),
      same_second ts (i + cell_count n + count_all gs) fs (covers-right ts (i + cell_count n) gs _ r),
    )
same-node (P.project n xs) ts i h = rw (
  same-node n ts i (covers-left ts i (expressions n) _ h),
  same_first ts (i + cell_count n) xs (covers-right ts i (expressions n) _ h),
)
same-node (P.order n xs) ts i h = rw (
  same-node n ts i (covers-left ts i (expressions n) _ h),
  same_first ts (i + cell_count n) xs (covers-right ts i (expressions n) _ h),
)
same-node (P.offset n k) ts i h = rw (same-node n ts i h)
same-node (P.limit n k) ts i h = rw (same-node n ts i h)
same-node (P.remap n ts') ts i h = rw (same-node n ts i h)

same-plan : (p : Plan Built) (ts : List Expression) → Covers ts 0 (plan_expressions p)
    → map_plan (tree ts) (number_plan p) ≡ map_plan desugar p
unfolding plan_expressions map_plan number_plan cell_count
same-plan (P.select n) ts h = rw (same-node n ts 0 h)
same-plan (P.delete t n) ts h = rw (same-node n ts 0 h)
same-plan (P.insert t m n) ts h = rw (same-node n ts 0 h)
same-plan (P.update t n xs) ts h =
    rw (
      same-node n ts 0 (covers-left ts 0 (expressions n) _ h),
      same_second ts (cell_count n) xs (rw zero-add at (covers-right ts 0 (expressions n) _ h)),
    )
same-plan (P.create n k cs) ts h = refl
same-plan (P.drop n y) ts h = refl

-- the plan with shared cells, unfolded, is the plan that the Rust builds
pub unfolds : (p : Plan Built) → map_plan (tree (unfolded [] (plan_cells p))) (number_plan p) ≡ desugar_plan p
unfolding desugar_plan plan_cells
unfolds p = same-plan p _
    (rw (unfold-all (plan_expressions p) 0 [] refl) (rw append-nil at (covers-all (plan_expressions p) 0 [] [] refl)))
