-- Cells and nodes read back from the area's numbers (docs/PLAN.md), over the two texts and the catalog.
use Rattle.std.specs.Prelude.{ℕ, zero, suc, ◌%◌, ◌^◌, Bool, true, false, List, [], ◌∷◌, ◌++◌, eqb, ltb, length}
use Rattle.std.proofs.Math.Option.{Option, none, some}
use Rattle.rules.specs.Lists.{Bytes, map_option}
use Rattle.rules.specs.Lines.{Word}
use Rattle.rules.specs.Schema.{Value, null, bool, int, float, text, Table, Catalog, get_table, named_by}
use Rattle.rules.specs.Ast.{Unary, not, fact, ident, neg, sqrt, Plain, and, or, eq, gt, lt, add, div, pow, mul, rem}
use Rattle.rules.specs.Ast.{sub, like}
use Rattle.rules.specs.Plan.{Aggregate, avg, count, max, min, sum, map_second}
use Rattle.rules.specs.Cells.{Cell, constant, column, unary, binary, is}
use Rattle.rules.specs.Nodes.{NodeRecord, scan, values, join, filter, aggregate, project, order, offset, limit, remap}
use Rattle.rules.specs.Places.{word_at}
use Rattle.numbers.specs.Bits.{joined, signed}
use Rattle.claims.specs.Area.Readings.{Reading, give, ◌>>=◌, ◌>>◌, giving, found, demand, number, times, all}
use Rattle.claims.specs.Area.Readings.{padded}
use Rattle.claims.specs.Area.Readings.{whole}
use Rattle.claims.specs.Area.Readings.{code_here, kind_here}

-- PARTS
-- 64 bits from their halves, the low one first
unfoldable pub long_here : Reading ℕ
long_here = do
  x ← number
  y ← number
  give (joined x y)

unfoldable pub flag_here : Reading Bool
flag_here = code_here ((0, false) ∷ (1, true) ∷ [])

-- a number that may be missing
unfoldable pub optional : ℕ → Option ℕ
optional zero = none
optional (suc n) = some n

unfoldable pub optional_here : Reading (Option ℕ)
optional_here = giving optional number

-- the word of n bytes at an address, if as many stand there
unfoldable pub placed : Bytes → Bytes → ℕ → ℕ → Option Word
placed c q a n = elim (eqb (length (word_at c q a n).bytes) n) [ true ↦ some (word_at c q a n) | false ↦ none ]

unfoldable pub word_here : Bytes → Bytes → Reading Word
word_here c q = do
  a ← number
  n ← number
  found (placed c q a n)

-- a name that may be missing; none is empty
unfoldable pub optional_name : Bytes → Bytes → ℕ → ℕ → Option (Option Word)
optional_name c q zero zero = some none
optional_name c q (suc a) zero = none
optional_name c q a (suc n) = map_option some (placed c q a (suc n))

unfoldable pub alias_here : Bytes → Bytes → Reading (Option Word)
alias_here c q = do
  a ← number
  n ← number
  found (optional_name c q a n)

-- a table: the catalog's of that name
unfoldable pub table_here : Bytes → Bytes → Catalog → Reading Table
table_here c q ts = do
  n ← word_here c q
  t ← found (get_table ts n.bytes)
  give (named_by n t)

-- CELLS: a kind, and three numbers
unfoldable pub value_forms : Bytes → Bytes → List (ℕ × Reading Value)
value_forms c q =
    (1, padded 3 (give null))
    ∷ (2, padded 2 (giving bool flag_here))
    ∷ (3, padded 1 (giving (λ n. int (signed n)) long_here))
    ∷ (4, padded 1 (giving float long_here))
    ∷ (5, padded 1 (giving text (word_here c q)))
    ∷ []

unfoldable pub unaries : List (ℕ × Unary)
unaries = (8, not) ∷ (9, fact) ∷ (10, ident) ∷ (11, neg) ∷ (12, sqrt) ∷ []

unfoldable pub plains : List (ℕ × Plain)
plains =
    (16, and) ∷ (17, or) ∷ (18, eq) ∷ (19, gt) ∷ (20, lt) ∷ (21, add)
    ∷ (22, div) ∷ (23, pow) ∷ (24, mul) ∷ (25, rem) ∷ (26, sub) ∷ (27, like) ∷ []

unfoldable pub unary_here : Unary → Reading Cell
unary_here o = padded 2 (giving (unary o) number)

unfoldable pub binary_here : Plain → Reading Cell
binary_here o = padded 1 (number >>= λ a. giving (binary o a) number)

-- the bits of a NaN: all of the exponent, and some of the fraction
unfoldable pub is_nan : ℕ → Bool
is_nan n = ltb 0x7ff0000000000000 (n % 2 ^ 63)

unfoldable pub is_nan_here : Reading Cell
is_nan_here = do
  a ← number
  n ← long_here
  demand (is_nan n)
  give (is a (float n))

unfoldable pub cell_forms : Bytes → Bytes → List (ℕ × Reading Cell)
cell_forms c q =
    map_second (giving constant) (value_forms c q)
    ++ ((6, padded 2 (giving column number))
    ∷ (14, padded 2 (giving (λ a. is a null) number))
    ∷ (15, is_nan_here)
    ∷ (map_second unary_here unaries ++ map_second binary_here plains))

unfoldable pub cell_here : Bytes → Bytes → Reading Cell
cell_here c q = kind_here (cell_forms c q)

-- NODES: a kind, how many numbers follow, and those
unfoldable pub aggregates : List (ℕ × Aggregate)
aggregates = (1, avg) ∷ (2, count) ∷ (3, max) ∷ (4, min) ∷ (5, sum) ∷ []

-- a row of values: its length and its cells
unfoldable pub row_here : Reading (List ℕ)
row_here = do
  n ← number
  times n number

-- an aggregate function and its argument
unfoldable pub function_here : Reading (Aggregate × ℕ)
function_here = do
  f ← code_here aggregates
  x ← number
  give (f, x)

-- a projected expression and its alias
unfoldable pub item_here : Bytes → Bytes → Reading (ℕ × Option Word)
item_here c q = do
  x ← number
  a ← alias_here c q
  give (x, a)

-- an order key
unfoldable pub key_here : Reading (ℕ × Bool)
key_here = do
  x ← number
  d ← flag_here
  give (x, d)

unfoldable pub scan_here : Bytes → Bytes → Catalog → Reading NodeRecord
scan_here c q ts = do
  t ← table_here c q ts
  x ← optional_here
  a ← alias_here c q
  give (scan t a x)

unfoldable pub join_here : Reading NodeRecord
join_here = do
  a ← number
  b ← number
  o ← flag_here
  x ← optional_here
  give (join a b x o)

unfoldable pub aggregate_here : Reading NodeRecord
aggregate_here = do
  n ← number
  k ← number
  gs ← times k number
  fs ← all function_here
  give (aggregate n gs fs)

-- a node over one source
unfoldable pub over : {A : Type 0} → (ℕ → A → NodeRecord) → Reading A → Reading NodeRecord
over f m = do
  n ← number
  a ← m
  give (f n a)

unfoldable pub record_forms : Bytes → Bytes → Catalog → List (ℕ × Reading NodeRecord)
record_forms c q ts =
    (1, scan_here c q ts)
    ∷ (2, giving values (all row_here))
    ∷ (3, join_here)
    ∷ (4, over filter number)
    ∷ (5, aggregate_here)
    ∷ (6, over project (all (item_here c q)))
    ∷ (7, over order (all key_here))
    ∷ (8, over offset long_here)
    ∷ (9, over limit long_here)
    ∷ (10, over remap (all optional_here))
    ∷ []

unfoldable pub record_here : Bytes → Bytes → Catalog → Reading NodeRecord
record_here c q ts = do
  m ← code_here (record_forms c q ts)
  n ← number
  b ← times n number
  found (whole m b)
