-- The plan as numbers of 32 bits (docs/PLAN.md): the header, the cells, the nodes, and the statement's own numbers.
use Rattle.std.specs.Prelude.{ℕ, suc, ◌+◌, ◌-◌, ◌/◌, ◌%◌, ◌^◌, Bool, true, false, List, [], ◌∷◌, ◌++◌, map, length, ℤ, pos, negsuc}
use Rattle.std.proofs.Math.Option.{Option, none, some}
use Rattle.rules.specs.Lists.{concat}
use Rattle.rules.specs.Lines.{Word}
use Rattle.rules.specs.Schema.{Value, null, bool, int, float, text, Datatype, boolean, integer, floating, string}
use Rattle.rules.specs.Codes.{unary_code, plain_code}
use Rattle.rules.specs.Plan.{Built, Aggregate, avg, count, max, min, sum, cindex, vindex, Mapping, Made}
use Rattle.rules.specs.Plan.{Plan}
use Rattle.rules.specs.Plan as P
use Rattle.rules.specs.Cells.{Cell, constant, column, unary, binary, is, plan_cells, number_plan}
use Rattle.rules.specs.Nodes.{NodeRecord, scan, values, join, filter, aggregate, project, order, offset, limit}
use Rattle.rules.specs.Nodes.{remap, plan_records}

-- 64 bits, low half first
unfoldable pub halves : ℕ → List ℕ
halves n = n % 2 ^ 32 ∷ n / 2 ^ 32 ∷ []

-- an integer's 64 bits, two's complement
unfoldable pub bits : ℤ → ℕ
bits (pos n) = n
bits (negsuc n) = 2 ^ 64 - suc n

unfoldable pub flag : Bool → ℕ
flag false = 0
flag true = 1

-- a part of a text: its address and length
unfoldable pub span : Word → List ℕ
span w = w.start ∷ length w.bytes ∷ []

-- one that may be missing; no name is empty
unfoldable pub option_span : Option Word → List ℕ
option_span none = 0 ∷ 0 ∷ []
option_span (some w) = span w

-- a number that may be missing
unfoldable pub option_number : Option ℕ → ℕ
option_number none = 0
option_number (some n) = n + 1

-- CELLS: four numbers each, the first of them the kind
unfoldable pub value_numbers : Value → List ℕ
value_numbers null = 1 ∷ 0 ∷ 0 ∷ 0 ∷ []
value_numbers (bool b) = 2 ∷ flag b ∷ 0 ∷ 0 ∷ []
value_numbers (int n) = 3 ∷ (halves (bits n) ++ (0 ∷ []))
value_numbers (float b) = 4 ∷ (halves b ++ (0 ∷ []))
value_numbers (text w) = 5 ∷ (span w ++ (0 ∷ []))

-- by the literal behind `is`: a null, or a NaN (no other is built)
unfoldable pub is_numbers : ℕ → Value → List ℕ
is_numbers a null = 14 ∷ a ∷ 0 ∷ 0 ∷ []
is_numbers a (bool b) = 14 ∷ a ∷ 0 ∷ 0 ∷ []
is_numbers a (int n) = 14 ∷ a ∷ 0 ∷ 0 ∷ []
is_numbers a (float b) = 15 ∷ a ∷ halves b
is_numbers a (text w) = 14 ∷ a ∷ 0 ∷ 0 ∷ []

unfoldable pub cell_numbers : Cell → List ℕ
cell_numbers (constant v) = value_numbers v
cell_numbers (column i) = 6 ∷ i ∷ 0 ∷ 0 ∷ []
cell_numbers (unary o a) = unary_code o ∷ a ∷ 0 ∷ 0 ∷ []
cell_numbers (binary o a b) = plain_code o ∷ a ∷ b ∷ 0 ∷ []
cell_numbers (is a v) = is_numbers a v

-- NODES: the kind, how many numbers follow, and those
unfoldable pub aggregate_code : Aggregate → ℕ
aggregate_code avg = 1
aggregate_code count = 2
aggregate_code max = 3
aggregate_code min = 4
aggregate_code sum = 5

unfoldable pub row_numbers : List (List ℕ) → List ℕ
row_numbers [] = []
row_numbers (r ∷ rs) = length r ∷ (r ++ row_numbers rs)

unfoldable pub function_numbers : List (Aggregate × ℕ) → List ℕ
function_numbers [] = []
function_numbers (f ∷ fs) = aggregate_code f.0 ∷ f.1 ∷ function_numbers fs

unfoldable pub item_numbers : List (ℕ × Option Word) → List ℕ
item_numbers [] = []
item_numbers (x ∷ xs) = x.0 ∷ (option_span x.1 ++ item_numbers xs)

unfoldable pub key_numbers : List (ℕ × Bool) → List ℕ
key_numbers [] = []
key_numbers (x ∷ xs) = x.0 ∷ flag x.1 ∷ key_numbers xs

unfoldable pub sized : ℕ → List ℕ → List ℕ
sized k r = k ∷ length r ∷ r

unfoldable pub record_numbers : NodeRecord → List ℕ
record_numbers (scan t a x) = sized 1 (span t.name ++ (option_number x ∷ option_span a))
record_numbers (values rs) = sized 2 (row_numbers rs)
record_numbers (join a b x o) = sized 3 (a ∷ b ∷ flag o ∷ option_number x ∷ [])
record_numbers (filter n x) = sized 4 (n ∷ x ∷ [])
record_numbers (aggregate n gs fs) = sized 5 (n ∷ length gs ∷ (gs ++ function_numbers fs))
record_numbers (project n xs) = sized 6 (n ∷ item_numbers xs)
record_numbers (order n xs) = sized 7 (n ∷ key_numbers xs)
record_numbers (offset n k) = sized 8 (n ∷ halves k)
record_numbers (limit n k) = sized 9 (n ∷ halves k)
record_numbers (remap n ts) = sized 10 (n ∷ map option_number ts)

-- THE STATEMENT'S OWN NUMBERS
unfoldable pub mapping_numbers : Mapping → List ℕ
mapping_numbers m = elim m.column [ cindex i ↦ elim m.value [ vindex j ↦ i ∷ j ∷ [] ] ]

-- no map, or one more than its length and the map
unfoldable pub map_numbers : Option (List Mapping) → List ℕ
map_numbers none = 0 ∷ []
map_numbers (some m) = (length m + 1) ∷ concat (map mapping_numbers m)

-- the table position and the cell of each set
unfoldable pub set_numbers : List (ℕ × ℕ) → List ℕ
set_numbers [] = []
set_numbers (x ∷ xs) = x.0 ∷ x.1 ∷ set_numbers xs

unfoldable pub type_code : Datatype → ℕ
type_code boolean = 1
type_code integer = 2
type_code floating = 3
type_code string = 4

unfoldable pub default_numbers : Option Value → List ℕ
default_numbers none = 0 ∷ 0 ∷ 0 ∷ 0 ∷ []
default_numbers (some v) = value_numbers v

unfoldable pub made_numbers : Made → List ℕ
made_numbers c =
    span c.name
    ++ (type_code c.type ∷ flag c.nullable ∷ flag c.unique ∷ flag c.index
    ∷ (option_span c.reference ++ default_numbers c.default))

unfoldable pub own_numbers : Plan ℕ → List ℕ
own_numbers (P.select n) = []
own_numbers (P.create n k cs) = span n ++ (k ∷ length cs ∷ concat (map made_numbers cs))
own_numbers (P.drop n y) = span n ++ (flag y ∷ [])
own_numbers (P.delete t n) = span t.name ++ (t.key ∷ [])
own_numbers (P.insert t m n) = span t.name ++ map_numbers m
own_numbers (P.update t n xs) = span t.name ++ (t.key ∷ length xs ∷ set_numbers xs)

-- THE WHOLE
unfoldable pub plan_code : {E : Type 0} → Plan E → ℕ
plan_code (P.select n) = 1
plan_code (P.create n k cs) = 2
plan_code (P.drop n y) = 3
plan_code (P.delete t n) = 4
plan_code (P.insert t m n) = 5
plan_code (P.update t n xs) = 6

-- the number that names this layout
abbrev pub layout : ℕ
layout = 1

abbrev pub header_size : ℕ
header_size = 6

unfoldable pub cell_part : Plan Built → List ℕ
cell_part p = concat (map cell_numbers (plan_cells p))

unfoldable pub node_part : Plan Built → List ℕ
node_part p = concat (map record_numbers (plan_records (number_plan p)))

-- where the statement's own numbers start
unfoldable pub own_start : Plan Built → ℕ
own_start p = header_size + length (cell_part p) + length (node_part p)

-- layout, statement, cells, nodes, where the own numbers start, and how many numbers there are in all
unfoldable pub header : Plan Built → List ℕ
header p =
    layout ∷ plan_code p ∷ length (plan_cells p) ∷ length (plan_records (number_plan p))
    ∷ own_start p ∷ (own_start p + length (own_numbers (number_plan p))) ∷ []

unfoldable pub plan_numbers : Plan Built → List ℕ
plan_numbers p = header p ++ (cell_part p ++ (node_part p ++ own_numbers (number_plan p)))
