-- The numbers in a numbered plan are the roots of its expressions, in order.
use Rattle.std.specs.Prelude.{ℕ, ◌+◌, ◌≡◌, refl, List, [], ◌∷◌, ◌++◌, map}
use Rattle.std.proofs.Common.{add_assoc, add-zero, zero-add}
use Rattle.std.proofs.Math.Option.{Option, none, some}
use Rattle.rules.specs.Lists.{given, concat}
use Rattle.rules.specs.Plan.{Built, Node, Plan}
use Rattle.rules.specs.Plan as P
use Rattle.rules.specs.Cells.{built_count, count_all, roots, expressions, cell_count, number_given, number_rows, number_first}
use Rattle.rules.specs.Cells.{number_second, number_node, plan_expressions, number_plan}
use Rattle.claims.specs.Answers.{All}

pub roots-append : (xs ys : List Built) (i : ℕ) → roots i (xs ++ ys) ≡ roots i xs ++ roots (i + count_all xs) ys
unfolding roots count_all
roots-append [] ys i = rw add-zero
roots-append (x ∷ xs) ys i = rw (roots-append xs ys (i + built_count x), add_assoc)

roots-given : (x : Option Built) (i : ℕ) → given (number_given i x) ≡ roots i (given x)
unfolding given number_given roots
roots-given none i = refl
roots-given (some x) i = refl

roots-rows : (rows : List (List Built)) (i : ℕ) → concat (number_rows i rows) ≡ roots i (concat rows)
unfolding concat number_rows roots
roots-rows [] i = refl
roots-rows (r ∷ rows) i = rw (roots-append r (concat rows) i, roots-rows rows (i + count_all r))

roots-first : {B : Type 0} (xs : List (Built × B)) (i : ℕ)
    → map (λ x. x.0) (number_first i xs) ≡ roots i (map (λ x. x.0) xs)
unfolding number_first roots
roots-first [] i = refl
roots-first (x ∷ xs) i = rw (roots-first xs (i + built_count x.0))

roots-second : {B : Type 0} (xs : List (B × Built)) (i : ℕ)
    → map (λ x. x.1) (number_second i xs) ≡ roots i (map (λ x. x.1) xs)
unfolding number_second roots
roots-second [] i = refl
roots-second (x ∷ xs) i = rw (roots-second xs (i + built_count x.1))

-- a node's numbers
roots-node : (n : Node Built) (i : ℕ) → expressions (number_node i n) ≡ roots i (expressions n)
unfolding expressions number_node cell_count roots
roots-node (P.scan t a x) i = roots-given x i
roots-node (P.values rows) i = roots-rows rows i
roots-node (P.join a b x o) i =
    let j = i + count_all (expressions a) in
    rw (
      roots-append (expressions a) (expressions b ++ given x) i,
      roots-append (expressions b) (given x) j,
      roots-node a i,
      roots-node b j,
      roots-given x (j + count_all (expressions b)),
    )
roots-node (P.filter n x) i = rw (roots-append (expressions n) (x ∷ []) i, roots-node n i)
roots-node (P.aggregate n gs fs) i =
    let j = i + count_all (expressions n) in
    rw (
      roots-append (expressions n) (gs ++ map (λ f. f.1) fs) i,
      roots-append gs (map (λ f. f.1) fs) j,
      roots-node n i,
      roots-second fs (j + count_all gs),
    )
roots-node (P.project n xs) i =
    rw (roots-append (expressions n) _ i, roots-node n i, roots-first xs (i + count_all (expressions n)))
roots-node (P.order n xs) i =
    rw (roots-append (expressions n) _ i, roots-node n i, roots-first xs (i + count_all (expressions n)))
roots-node (P.offset n k) i = roots-node n i
roots-node (P.limit n k) i = roots-node n i
roots-node (P.remap n ts) i = roots-node n i

-- a plan's
pub roots-plan : (p : Plan Built) → plan_expressions (number_plan p) ≡ roots 0 (plan_expressions p)
unfolding plan_expressions number_plan roots cell_count
roots-plan (P.select n) = roots-node n 0
roots-plan (P.delete t n) = roots-node n 0
roots-plan (P.insert t m n) = roots-node n 0
roots-plan (P.update t n xs) =
    rw (roots-append (expressions n) _ 0, roots-node n 0, roots-second xs (count_all (expressions n)), zero-add)
roots-plan (P.create n k cs) = refl
roots-plan (P.drop n y) = refl

-- numbering leaves the other parts as they are
pub first-kept : {B : Type 0} (Q : B → Type 0) (xs : List (Built × B)) (i : ℕ) → All (λ x. Q x.1) xs
    → All (λ x. Q x.1) (number_first i xs)
unfolding number_first All
first-kept Q [] i h = tt
first-kept Q (x ∷ xs) i h = (h.0, first-kept Q xs (i + built_count x.0) h.1)

pub second-kept : {B : Type 0} (Q : B → Type 0) (xs : List (B × Built)) (i : ℕ) → All (λ x. Q x.0) xs
    → All (λ x. Q x.0) (number_second i xs)
unfolding number_second All
second-kept Q [] i h = tt
second-kept Q (x ∷ xs) i h = (h.0, second-kept Q xs (i + built_count x.1) h.1)
