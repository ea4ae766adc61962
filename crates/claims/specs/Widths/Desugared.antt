-- What is bounded as resolved is bounded as the Rust builds it, `ge`, `le` and `ne` desugared.
use Rattle.std.specs.Prelude.{ℕ, suc, ◌+◌, ◌<◌, ◌≡◌, refl, List, [], ◌∷◌, map, length}
use Rattle.std.proofs.Common.{ap, ◌∙◌}
use Rattle.std.proofs.Math.Option.{Option, none, some}
use Rattle.std.proofs.lemmas.List.{length-map}
use Rattle.rules.specs.Lists.{map_option}
use Rattle.rules.specs.Ast.{Binary, plain, ge, le, ne}
use Rattle.rules.specs.Plan.{Built, Expression, desugar_binary, desugar, Node, map_first, map_second, map_node, Plan}
use Rattle.rules.specs.Plan.{map_plan, desugar_plan, first_row, column_count}
use Rattle.rules.specs.Plan as P
use Rattle.claims.specs.Answers.{All, Given, all_map}
use Rattle.claims.specs.Widths.Below.{Below}
use Rattle.claims.specs.Widths.Bounded.{Bounded, PlanBounded}

-- WIDTHS
first-length : {E F B : Type 0} (f : E → F) (xs : List (E × B)) → length (map_first f xs) ≡ length xs
unfolding map_first
first-length f [] = refl
first-length f (x ∷ xs) = ap suc (first-length f xs)

second-length : {E F B : Type 0} (f : E → F) (xs : List (B × E)) → length (map_second f xs) ≡ length xs
unfolding map_second
second-length f [] = refl
second-length f (x ∷ xs) = ap suc (second-length f xs)

row-length : {E F : Type 0} (f : E → F) (rs : List (List E)) → first_row (map (map f) rs) ≡ first_row rs
unfolding first_row
row-length f [] = refl
row-length f (r ∷ rs) = length-map r f

-- a node is as wide, whatever stands for its expressions
count_map : {E F : Type 0} (f : E → F) (n : Node E) → column_count (map_node f n) ≡ column_count n
unfolding column_count map_node
count_map f (P.scan t a x) = refl
count_map f (P.values rs) = row-length f rs
count_map f (P.join a b x o) = rw (count_map f a, count_map f b)
count_map f (P.filter n x) = count_map f n
count_map f (P.aggregate n gs fs) = rw (length-map gs f, second-length f fs)
count_map f (P.project n xs) = first-length f xs
count_map f (P.order n xs) = count_map f n
count_map f (P.offset n k) = count_map f n
count_map f (P.limit n k) = count_map f n
count_map f (P.remap n ts) = refl

-- EXPRESSIONS
binary-below : (o : Binary) (w : ℕ) (a b : Expression) → Below w a → Below w b → Below w (desugar_binary o a b)
unfolding desugar_binary Below
binary-below (plain o) w a b h g = (h, g)
binary-below ge w a b h g = ((h, g), (h, g))
binary-below le w a b h g = ((h, g), (h, g))
binary-below ne w a b h g = (h, g)

desugar-below : (w : ℕ) (a : Built) → Below w a → Below w (desugar a)
unfolding desugar Below
desugar-below w (P.constant v) h = tt
desugar-below w (P.column i) h = h
desugar-below w (P.unary o a) h = desugar-below w a h
desugar-below w (P.binary o a b) h =
    binary-below o w (desugar a) (desugar b) (desugar-below w a h.0) (desugar-below w b h.1)
desugar-below w (P.is a v) h = desugar-below w a h

option-below : (w : ℕ) (x : Option Built) → Given (Below w) x → Given (Below w) (map_option desugar x)
unfolding Given map_option
option-below w none h = tt
option-below w (some x) h = desugar-below w x h

list-below : (w : ℕ) (xs : List Built) → All (Below w) xs → All (Below w) (map desugar xs)
list-below w xs h = all_map (Below w) desugar (Below w) (desugar-below w) xs h

first_below : {B : Type 0} (w : ℕ) (xs : List (Built × B)) → All (λ x. Below w x.0) xs
    → All (λ x. Below w x.0) (map_first desugar xs)
unfolding All map_first
first_below w [] h = tt
first_below w (x ∷ xs) h = (desugar-below w x.0 h.0, first_below w xs h.1)

second_below : {B : Type 0} (w : ℕ) (xs : List (B × Built)) → All (λ x. Below w x.1) xs
    → All (λ x. Below w x.1) (map_second desugar xs)
unfolding All map_second
second_below w [] h = tt
second_below w (x ∷ xs) h = (desugar-below w x.1 h.0, second_below w xs h.1)

-- NODES AND PLANS
node-desugared : (n : Node Built) → Bounded n → Bounded (map_node desugar n)
unfolding Bounded map_node
node-desugared (P.scan t a x) h = option-below (length t.columns) x h
node-desugared (P.values rs) h = all_map _ (map desugar) (All (Below 0)) (λ r g. list-below 0 r g) rs h
node-desugared (P.join a b x o) h = (
  node-desugared a h.0,
  node-desugared b h.1,
  rw (count_map desugar a, count_map desugar b) (option-below (column_count a + column_count b) x h.2),
)
node-desugared (P.filter n x) h =
    (node-desugared n h.0, rw (count_map desugar n) (desugar-below (column_count n) x h.1))
node-desugared (P.aggregate n gs fs) h = (
  node-desugared n h.0,
  rw (count_map desugar n) (list-below (column_count n) gs h.1),
  rw (count_map desugar n) (second_below (column_count n) fs h.2),
)
node-desugared (P.project n xs) h =
    (node-desugared n h.0, rw (count_map desugar n) (first_below (column_count n) xs h.1))
node-desugared (P.order n xs) h =
    (node-desugared n h.0, rw (count_map desugar n) (first_below (column_count n) xs h.1))
node-desugared (P.offset n k) h = node-desugared n h
node-desugared (P.limit n k) h = node-desugared n h
node-desugared (P.remap n ts) h = (node-desugared n h.0, h.1 ∙ rw (count_map desugar n))

sets_below : (v w : ℕ) (xs : List (ℕ × Built)) → All (λ x. (x.0 < v) × Below w x.1) xs
    → All (λ x. (x.0 < v) × Below w x.1) (map_second desugar xs)
unfolding All map_second
sets_below v w [] h = tt
sets_below v w (x ∷ xs) h = ((h.0.0, desugar-below w x.1 h.0.1), sets_below v w xs h.1)

pub plan-desugared : (p : Plan Built) → PlanBounded p → PlanBounded (desugar_plan p)
unfolding desugar_plan map_plan
plan-desugared (P.select n) h = node-desugared n h
plan-desugared (P.delete t n) h = node-desugared n h
plan-desugared (P.insert t m n) h = node-desugared n h
plan-desugared (P.update t n xs) h =
    (node-desugared n h.0, rw (count_map desugar n) (sets_below (length t.columns) (column_count n) xs h.1))
plan-desugared (P.create n k cs) h = tt
plan-desugared (P.drop n y) h = tt
