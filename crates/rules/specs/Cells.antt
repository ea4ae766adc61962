-- The table of cells ("Cells and their count"): each expression of the plan in order, operands before their user, `ge`
-- and `le` sharing them.
use Rattle.std.specs.Prelude.{ℕ, ◌+◌, pred, List, [], ◌∷◌, ◌++◌, map}
use Rattle.std.proofs.Math.Option.{Option, none, some}
use Rattle.rules.specs.Lists.{given, concat}
use Rattle.rules.specs.Schema.{Value}
use Rattle.rules.specs.Ast.{Unary, not, Plain, or, eq, gt, lt, Binary, plain, ge, le, ne}
use Rattle.rules.specs.Plan.{Built, Node, Plan}
use Rattle.rules.specs.Plan as P

pub data Cell : Type 0 where
  constant : Value → Cell
  column : ℕ → Cell
  unary : Unary → ℕ → Cell
  binary : Plain → ℕ → ℕ → Cell
  is : ℕ → Value → Cell

-- the cells that an operator adds to those of its operands
unfoldable pub added : Binary → ℕ
added (plain o) = 1
added ge = 3
added le = 3
added ne = 2

-- how many cells an expression is
unfoldable pub built_count : Built → ℕ
built_count (P.constant v) = 1
built_count (P.column i) = 1
built_count (P.unary o a) = built_count a + 1
built_count (P.binary o a b) = built_count a + built_count b + added o
built_count (P.is a v) = built_count a + 1

-- the last of an expression's cells, from n on, is its root
unfoldable pub root : ℕ → Built → ℕ
root n a = pred (n + built_count a)

-- the cells of an operator, the first of them n, over the operands x and y
unfoldable pub operator : Binary → ℕ → ℕ → ℕ → List Cell
operator (plain o) n x y = binary o x y ∷ []
operator ge n x y = binary gt x y ∷ binary eq x y ∷ binary or n (n + 1) ∷ []
operator le n x y = binary lt x y ∷ binary eq x y ∷ binary or n (n + 1) ∷ []
operator ne n x y = binary eq x y ∷ unary not n ∷ []

-- the cells of an expression, the first of them n
unfoldable pub cells : ℕ → Built → List Cell
cells n (P.constant v) = constant v ∷ []
cells n (P.column i) = column i ∷ []
cells n (P.unary o a) = cells n a ++ (unary o (root n a) ∷ [])
cells n (P.binary o a b) =
    let m = n + built_count a in
    cells n a ++ (cells m b ++ operator o (m + built_count b) (root n a) (root m b))
cells n (P.is a v) = cells n a ++ (is (root n a) v ∷ [])

-- those of several, one after the other
unfoldable pub count_all : List Built → ℕ
count_all [] = 0
count_all (a ∷ as') = built_count a + count_all as'

unfoldable pub cells_all : ℕ → List Built → List Cell
cells_all n [] = []
cells_all n (a ∷ as') = cells n a ++ cells_all (n + built_count a) as'

-- the roots of several
unfoldable pub roots : ℕ → List Built → List ℕ
roots n [] = []
roots n (a ∷ as') = root n a ∷ roots (n + built_count a) as'

-- the expressions of a node, sources first: document 01's order
unfoldable pub expressions : {E : Type 0} → Node E → List E
expressions (P.scan t a x) = given x
expressions (P.values rs) = concat rs
expressions (P.join a b x o) = expressions a ++ (expressions b ++ given x)
expressions (P.filter n x) = expressions n ++ (x ∷ [])
expressions (P.aggregate n gs fs) = expressions n ++ (gs ++ map (λ f. f.1) fs)
expressions (P.project n xs) = expressions n ++ map (λ x. x.0) xs
expressions (P.order n xs) = expressions n ++ map (λ x. x.0) xs
expressions (P.offset n k) = expressions n
expressions (P.limit n k) = expressions n
expressions (P.remap n ts) = expressions n

unfoldable pub cell_count : Node Built → ℕ
cell_count n = count_all (expressions n)

-- NUMBERING: expressions replaced by the numbers of their roots, the first of their cells i
unfoldable pub number_given : ℕ → Option Built → Option ℕ
number_given i none = none
number_given i (some x) = some (root i x)

unfoldable pub number_rows : ℕ → List (List Built) → List (List ℕ)
number_rows i [] = []
number_rows i (r ∷ rs) = roots i r ∷ number_rows (i + count_all r) rs

unfoldable pub number_first : {B : Type 0} → ℕ → List (Built × B) → List (ℕ × B)
number_first i [] = []
number_first i (x ∷ xs) = (root i x.0, x.1) ∷ number_first (i + built_count x.0) xs

unfoldable pub number_second : {B : Type 0} → ℕ → List (B × Built) → List (B × ℕ)
number_second i [] = []
number_second i (x ∷ xs) = (x.0, root i x.1) ∷ number_second (i + built_count x.1) xs

unfoldable pub number_node : ℕ → Node Built → Node ℕ
number_node i (P.scan t a x) = P.scan t a (number_given i x)
number_node i (P.values rs) = P.values (number_rows i rs)
number_node i (P.join a b x o) =
    let j = i + cell_count a in
    P.join (number_node i a) (number_node j b) (number_given (j + cell_count b) x) o
number_node i (P.filter n x) = P.filter (number_node i n) (root (i + cell_count n) x)
number_node i (P.aggregate n gs fs) =
    let j = i + cell_count n in
    P.aggregate (number_node i n) (roots j gs) (number_second (j + count_all gs) fs)
number_node i (P.project n xs) = P.project (number_node i n) (number_first (i + cell_count n) xs)
number_node i (P.order n xs) = P.order (number_node i n) (number_first (i + cell_count n) xs)
number_node i (P.offset n k) = P.offset (number_node i n) k
number_node i (P.limit n k) = P.limit (number_node i n) k
number_node i (P.remap n ts) = P.remap (number_node i n) ts

-- the expressions of a plan: its node's, then an update's
unfoldable pub plan_expressions : {E : Type 0} → Plan E → List E
plan_expressions (P.select n) = expressions n
plan_expressions (P.delete t n) = expressions n
plan_expressions (P.insert t m n) = expressions n
plan_expressions (P.update t n xs) = expressions n ++ map (λ x. x.1) xs
plan_expressions (P.create n k cs) = []
plan_expressions (P.drop n y) = []

unfoldable pub plan_cells : Plan Built → List Cell
plan_cells p = cells_all 0 (plan_expressions p)

unfoldable pub number_plan : Plan Built → Plan ℕ
number_plan (P.select n) = P.select (number_node 0 n)
number_plan (P.delete t n) = P.delete t (number_node 0 n)
number_plan (P.insert t m n) = P.insert t m (number_node 0 n)
number_plan (P.update t n xs) = P.update t (number_node 0 n) (number_second (cell_count n) xs)
number_plan (P.create n k cs) = P.create n k cs
number_plan (P.drop n y) = P.drop n y
