-- How many numbers a plan takes in the area, by its nodes.
use Rattle.std.specs.Prelude.{ℕ, suc, ◌+◌, ◌*◌, ◌≡◌, refl, Bool, List, [], ◌∷◌, ◌++◌, map, length}
use Rattle.std.proofs.Common.{arith, ap, ◌∙◌, length-append}
use Rattle.std.proofs.Math.Option.{Option, none, some}
use Rattle.std.proofs.lemmas.List.{length-map}
use Rattle.rules.specs.Lists.{concat}
use Rattle.rules.specs.Lines.{Word}
use Rattle.rules.specs.Schema.{Value, null, bool, int, float, text}
use Rattle.rules.specs.Plan.{Built, Aggregate, Node, TablePosition, cindex, ValuePosition, vindex, Mapping, Made, Plan}
use Rattle.rules.specs.Plan as P
use Rattle.rules.specs.Cells.{Cell, constant, column, unary, binary, is, roots, number_rows, number_first, number_second}
use Rattle.rules.specs.Cells.{number_node, number_plan, plan_cells, count_all, built_count, cell_count}
use Rattle.rules.specs.Nodes.{NodeRecord, join}
use Rattle.rules.specs.Nodes.{records, nodes, last, node_of, node_records, plan_records}
use Rattle.rules.specs.Area.{halves, span, option_span, value_numbers, is_numbers, cell_numbers, row_numbers}
use Rattle.rules.specs.Area.{function_numbers, item_numbers, key_numbers}
use Rattle.rules.specs.Area.{sized, record_numbers, mapping_numbers, map_numbers, set_numbers, default_numbers, made_numbers}
use Rattle.rules.specs.Area.{own_numbers}
use Rattle.rules.specs.Area.{header_size, cell_part, node_part, header, plan_numbers}

-- LIMITS
-- the cells of any plan
abbrev pub most_plan_cells : ℕ
most_plan_cells = 2304

-- the numbers of its nodes and its own
abbrev pub most_node_numbers : ℕ
most_node_numbers = 5782

-- those of FROM's nodes; of a filter, of groups and functions, of items and hidden columns, of order keys, of OFFSET or
-- LIMIT, of a remap
abbrev pub most_from_numbers : ℕ
most_from_numbers = 4087

abbrev pub filter_numbers : ℕ
filter_numbers = 4

abbrev pub most_group_numbers : ℕ
most_group_numbers = 516

abbrev pub most_item_numbers : ℕ
most_item_numbers = 771

abbrev pub most_key_numbers : ℕ
most_key_numbers = 131

abbrev pub row_count_numbers : ℕ
row_count_numbers = 5

abbrev pub most_remap_numbers : ℕ
most_remap_numbers = 259

-- those of all nodes behind FROM's
abbrev pub most_later_numbers : ℕ
most_later_numbers = filter_numbers + most_group_numbers + most_item_numbers + filter_numbers + most_key_numbers + row_count_numbers
    + row_count_numbers + most_remap_numbers

-- those of one empty row; of each table of FROM, and of a join and a remap, which the first table needs not
abbrev pub empty_row_room : ℕ
empty_row_room = 3

abbrev pub table_room : ℕ
table_room = 272

abbrev pub join_room : ℕ
join_room = 265

-- NODES
-- the numbers of given rows: a length and its cells for each
unfoldable pub rows_room : {E : Type 0} → List (List E) → ℕ
rows_room [] = 0
rows_room (r ∷ rs) = suc (length r) + rows_room rs

-- the numbers of a node and its sources
unfoldable pub node_room : {E : Type 0} → Node E → ℕ
node_room (P.scan t a x) = 7
node_room (P.values rs) = 2 + rows_room rs
node_room (P.join a b x o) = node_room a + node_room b + 6
node_room (P.filter n x) = node_room n + 4
node_room (P.aggregate n gs fs) = node_room n + 4 + length gs + 2 * length fs
node_room (P.project n xs) = node_room n + 3 + 3 * length xs
node_room (P.order n xs) = node_room n + 3 + 2 * length xs
node_room (P.offset n k) = node_room n + 5
node_room (P.limit n k) = node_room n + 5
node_room (P.remap n ts) = node_room n + 3 + length ts

-- LENGTHS OF NUMBERS
pub alias-size : (a : Option Word) → length (option_span a) ≡ 2
unfolding option_span span
alias-size none = refl
alias-size (some w) = refl

pub rows-size : (rs : List (List ℕ)) → length (row_numbers rs) ≡ rows_room rs
unfolding row_numbers rows_room
rows-size [] = refl
rows-size (r ∷ rs) = simp length-append (omega (arith, rows-size rs))

pub functions-size : (fs : List (Aggregate × ℕ)) → length (function_numbers fs) ≡ 2 * length fs
unfolding function_numbers
functions-size [] = refl
functions-size (f ∷ fs) = omega (arith, functions-size fs)

pub items-size : (xs : List (ℕ × Option Word)) → length (item_numbers xs) ≡ 3 * length xs
unfolding item_numbers
items-size [] = refl
items-size (x ∷ xs) = simp length-append (omega (arith, alias-size x.1, items-size xs))

pub keys-size : (xs : List (ℕ × Bool)) → length (key_numbers xs) ≡ 2 * length xs
unfolding key_numbers
keys-size [] = refl
keys-size (x ∷ xs) = omega (arith, keys-size xs)

pub sets-size : (xs : List (ℕ × ℕ)) → length (set_numbers xs) ≡ 2 * length xs
unfolding set_numbers
sets-size [] = refl
sets-size (x ∷ xs) = omega (arith, sets-size xs)

pub mapping-size : (m : Mapping) → length (mapping_numbers m) ≡ 2
unfolding mapping_numbers
mapping-size m = go m.column m.value
  where
    go : (i : TablePosition) (j : ValuePosition) → length (mapping_numbers (record { column = i; value = j })) ≡ 2
    go (cindex i) (vindex j) = refl

value-size : (v : Value) → length (value_numbers v) ≡ 4
unfolding value_numbers halves span
value-size null = refl
value-size (bool b) = refl
value-size (int n) = refl
value-size (float b) = refl
value-size (text w) = refl

is-size : (a : ℕ) (v : Value) → length (is_numbers a v) ≡ 4
unfolding is_numbers halves
is-size a null = refl
is-size a (bool b) = refl
is-size a (int n) = refl
is-size a (float b) = refl
is-size a (text w) = refl

pub cell-size : (c : Cell) → length (cell_numbers c) ≡ 4
unfolding cell_numbers
cell-size (constant v) = value-size v
cell-size (column i) = refl
cell-size (unary o a) = refl
cell-size (binary o a b) = refl
cell-size (is a v) = is-size a v

default-size : (d : Option Value) → length (default_numbers d) ≡ 4
unfolding default_numbers
default-size none = refl
default-size (some v) = value-size v

pub made-size : (c : Made) → length (made_numbers c) ≡ 12
unfolding made_numbers span
made-size c = simp length-append (omega (arith, alias-size c.reference, default-size c.default))

-- as many numbers each
concat-size : {A : Type 0} (f : A → List ℕ) (k : ℕ) → ((a : A) → length (f a) ≡ k) → (as' : List A)
    → length (concat (map f as')) ≡ k * length as'
unfolding concat
concat-size f k h [] = omega arith
concat-size f k h (a ∷ as') = simp length-append (omega (arith, h a, concat-size f k h as'))

pub cells-room : (p : Plan Built) → length (cell_part p) ≡ 4 * length (plan_cells p)
unfolding cell_part
cells-room p = concat-size cell_numbers 4 cell-size (plan_cells p)

pub made-room : (cs : List Made) → length (concat (map made_numbers cs)) ≡ 12 * length cs
made-room cs = concat-size made_numbers 12 made-size cs

pub mappings-room : (ms : List Mapping) → length (concat (map mapping_numbers ms)) ≡ 2 * length ms
mappings-room ms = concat-size mapping_numbers 2 mapping-size ms

-- RECORDS
-- the numbers of some records
abbrev pub records_room : List NodeRecord → ℕ
records_room rs = length (concat (map record_numbers rs))

append-room : (xs ys : List NodeRecord) → records_room (xs ++ ys) ≡ records_room xs + records_room ys
unfolding concat
append-room [] ys = omega arith
append-room (x ∷ xs) ys = simp length-append (omega (arith, append-room xs ys))

-- behind the records of the sources, one more
last-room : (xs : List NodeRecord) (r : NodeRecord) (m k : ℕ) → records_room xs ≡ m → length (record_numbers r) ≡ k
    → records_room (xs ++ (r ∷ [])) ≡ m + k
unfolding concat
last-room xs r m k h g = append-room xs (r ∷ []) ∙ simp length-append (omega arith)

pub records-room : (n : Node ℕ) (i : ℕ) → records_room (records i n) ≡ node_room n
unfolding records node_room concat record_numbers sized halves span
records-room (P.scan t a x) i = simp length-append (omega (arith, alias-size a))
records-room (P.values rs) i = simp length-append (omega (arith, rows-size rs))
records-room (P.join a b x o) i =
    append-room (records i a) _ ∙ go (records-room a i)
    (last-room (records (i + nodes a) b) (join (last i a) (last (i + nodes a) b) x o) _ 6
    (records-room b (i + nodes a)) refl)
  where
    go : {l r : ℕ} → l ≡ node_room a → r ≡ node_room b + 6 → l + r ≡ node_room a + node_room b + 6
    go h g = omega arith
records-room (P.filter n x) i = last-room (records i n) _ _ 4 (records-room n i) refl
records-room (P.aggregate n gs fs) i =
    last-room (records i n) _ _ (4 + (length gs + 2 * length fs)) (records-room n i)
    (simp length-append (omega (arith, functions-size fs))) ∙ omega arith
records-room (P.project n xs) i =
    last-room (records i n) _ _ (3 + 3 * length xs) (records-room n i) (omega (arith, items-size xs)) ∙ omega arith
records-room (P.order n xs) i =
    last-room (records i n) _ _ (3 + 2 * length xs) (records-room n i) (omega (arith, keys-size xs)) ∙ omega arith
records-room (P.offset n k) i = last-room (records i n) _ _ 5 (records-room n i) refl
records-room (P.limit n k) i = last-room (records i n) _ _ 5 (records-room n i) refl
records-room (P.remap n ts) i =
    last-room (records i n) _ _ (3 + length ts) (records-room n i) (simp length-map (omega arith)) ∙ omega arith

-- NUMBERING leaves every length as it is
pub roots-size : (i : ℕ) (xs : List Built) → length (roots i xs) ≡ length xs
unfolding roots
roots-size i [] = refl
roots-size i (x ∷ xs) = ap suc (roots-size (i + built_count x) xs)

pub first-size : {B : Type 0} (i : ℕ) (xs : List (Built × B)) → length (number_first i xs) ≡ length xs
unfolding number_first
first-size i [] = refl
first-size i (x ∷ xs) = ap suc (first-size (i + built_count x.0) xs)

pub second-size : {B : Type 0} (i : ℕ) (xs : List (B × Built)) → length (number_second i xs) ≡ length xs
unfolding number_second
second-size i [] = refl
second-size i (x ∷ xs) = ap suc (second-size (i + built_count x.1) xs)

number_rows-room : (i : ℕ) (rs : List (List Built)) → rows_room (number_rows i rs) ≡ rows_room rs
unfolding number_rows rows_room
number_rows-room i [] = refl
number_rows-room i (r ∷ rs) = omega (arith, roots-size i r, number_rows-room (i + count_all r) rs)

pub number-room : (n : Node Built) (i : ℕ) → node_room (number_node i n) ≡ node_room n
unfolding number_node node_room
number-room (P.scan t a x) i = refl
number-room (P.values rs) i = rw (number_rows-room i rs)
number-room (P.join a b x o) i = omega (arith, number-room a i, number-room b (i + cell_count a))
number-room (P.filter n x) i = omega (arith, number-room n i)
number-room (P.aggregate n gs fs) i =
    omega (arith, number-room n i, roots-size (i + cell_count n) gs, second-size (i + cell_count n + count_all gs) fs)
number-room (P.project n xs) i = omega (arith, number-room n i, first-size (i + cell_count n) xs)
number-room (P.order n xs) i = omega (arith, number-room n i, first-size (i + cell_count n) xs)
number-room (P.offset n k) i = omega (arith, number-room n i)
number-room (P.limit n k) i = omega (arith, number-room n i)
number-room (P.remap n ts) i = omega (arith, number-room n i)

-- THE WHOLE PLAN
-- the numbers of a plan's nodes
unfoldable pub plan_node_room : Plan Built → ℕ
plan_node_room (P.select n) = node_room n
plan_node_room (P.delete t n) = node_room n
plan_node_room (P.insert t m n) = node_room n
plan_node_room (P.update t n xs) = node_room n
plan_node_room (P.create n k cs) = 0
plan_node_room (P.drop n y) = 0

one-node : (n : Node Built) → records_room (records 0 (number_node 0 n)) ≡ node_room n
one-node n = records-room (number_node 0 n) 0 ∙ number-room n 0

node-part : (p : Plan Built) → length (node_part p) ≡ plan_node_room p
unfolding node_part plan_node_room plan_records node_records node_of number_plan concat
node-part (P.select n) = one-node n
node-part (P.delete t n) = one-node n
node-part (P.insert t m n) = one-node n
node-part (P.update t n xs) = one-node n
node-part (P.create n k cs) = refl
node-part (P.drop n y) = refl

-- the statement's own numbers
unfoldable pub map_room : Option (List Mapping) → ℕ
map_room none = 1
map_room (some m) = 1 + 2 * length m

unfoldable pub own_room : Plan Built → ℕ
own_room (P.select n) = 0
own_room (P.delete t n) = 3
own_room (P.insert t m n) = 2 + map_room m
own_room (P.update t n xs) = 4 + 2 * length xs
own_room (P.create n k cs) = 4 + 12 * length cs
own_room (P.drop n y) = 3

map-size : (m : Option (List Mapping)) → length (map_numbers m) ≡ map_room m
unfolding map_numbers map_room
map-size none = refl
map-size (some m) = omega (arith, mappings-room m)

own-part : (p : Plan Built) → length (own_numbers (number_plan p)) ≡ own_room p
unfolding own_numbers number_plan own_room span
own-part (P.select n) = refl
own-part (P.delete t n) = refl
own-part (P.insert t m n) = omega (arith, map-size m)
own-part (P.update t n xs) = omega (arith, sets-size (number_second (cell_count n) xs), second-size (cell_count n) xs)
own-part (P.create n k cs) = omega (arith, made-room cs)
own-part (P.drop n y) = refl

-- header, cells, nodes and own numbers
pub plan-room : (p : Plan Built)
    → length (plan_numbers p) ≡ header_size + 4 * length (plan_cells p) + plan_node_room p + own_room p
unfolding plan_numbers header
plan-room p = simp length-append (omega (arith, cells-room p, node-part p, own-part p))
