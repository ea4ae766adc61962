-- The plan as text (docs/PLAN.md): what the planning program prints.
use Rattle.std.specs.Prelude.{ℕ, zero, suc, ◌+◌, ◌/◌, ◌%◌, Bool, true, false, List, [], ◌∷◌, ◌++◌, map, ltb, length, ℤ, pos, negsuc}
use Rattle.std.proofs.Math.Option.{Option, none, some}
use Rattle.rules.specs.Refusals.{Text, catalog, statement, refusal_number, Refusal, Answer, ok, refused}
use Rattle.rules.specs.Lists.{Bytes}
use Rattle.rules.specs.Lines.{Word, bytes}
use Rattle.rules.specs.Schema.{Value, null, bool, int, float, text, Datatype, boolean, integer, floating, string}
use Rattle.rules.specs.Schema.{Table}
use Rattle.rules.specs.Ast.{Unary, not, fact, ident, neg, sqrt}
use Rattle.rules.specs.Ast.{Plain, and, or, eq, gt, lt, add, div, pow, mul, rem, sub, like}
use Rattle.rules.specs.Plan.{Built, Aggregate, avg, count, max, min, sum, Node, cindex, vindex, Mapping, Made}
use Rattle.rules.specs.Plan.{Plan}
use Rattle.rules.specs.Plan as P
use Rattle.rules.specs.Cells.{Cell, constant, column, unary, binary, is, plan_cells, number_plan}
use Rattle.rules.specs.Nodes.{NodeRecord, scan, values, join, filter, aggregate, project, order, offset, limit}
use Rattle.rules.specs.Nodes.{remap, last, plan_records}

-- up to `fuel` digits of n, before r
unfoldable pub digits_of : ℕ → ℕ → Bytes → Bytes
digits_of zero n r = r
digits_of (suc fuel) n r = elim (ltb n 10) [ true ↦ (48 + n) ∷ r | false ↦ digits_of fuel (n / 10) ((48 + n % 10) ∷ r) ]

unfoldable pub decimal_of : ℕ → Bytes
decimal_of n = digits_of 20 n []

unfoldable pub integer_of : ℤ → Bytes
integer_of (pos n) = decimal_of n
integer_of (negsuc n) = 45 ∷ decimal_of (suc n)

unfoldable pub hex_of : ℕ → ℕ → Bytes → Bytes
hex_of zero n r = r
hex_of (suc k) n r = elim (ltb (n % 16) 10) [
  | true ↦ hex_of k (n / 16) ((48 + n % 16) ∷ r)
  | false ↦ hex_of k (n / 16) ((87 + n % 16) ∷ r)
]

-- fields parted by tabs
unfoldable pub tabbed : List Bytes → Bytes
tabbed [] = []
tabbed (f ∷ []) = f
tabbed (f ∷ (g ∷ r)) = f ++ (9 ∷ tabbed (g ∷ r))

unfoldable pub show_value : Value → List Bytes
show_value null = bytes "null" ∷ []
show_value (bool true) = bytes "bool" ∷ bytes "t" ∷ []
show_value (bool false) = bytes "bool" ∷ bytes "f" ∷ []
show_value (int n) = bytes "int" ∷ integer_of n ∷ []
show_value (float b) = bytes "float" ∷ hex_of 16 b [] ∷ []
show_value (text w) = bytes "text" ∷ w.bytes ∷ []

unfoldable pub show_unary : Unary → Bytes
show_unary not = bytes "not"
show_unary fact = bytes "fact"
show_unary ident = bytes "ident"
show_unary neg = bytes "neg"
show_unary sqrt = bytes "sqrt"

unfoldable pub show_plain : Plain → Bytes
show_plain and = bytes "and"
show_plain or = bytes "or"
show_plain eq = bytes "eq"
show_plain gt = bytes "gt"
show_plain lt = bytes "lt"
show_plain add = bytes "add"
show_plain div = bytes "div"
show_plain pow = bytes "pow"
show_plain mul = bytes "mul"
show_plain rem = bytes "rem"
show_plain sub = bytes "sub"
show_plain like = bytes "like"

unfoldable pub show_cell : Cell → List Bytes
show_cell (constant v) = show_value v
show_cell (column i) = bytes "col" ∷ decimal_of i ∷ []
show_cell (unary o a) = show_unary o ∷ decimal_of a ∷ []
show_cell (binary o a b) = show_plain o ∷ decimal_of a ∷ decimal_of b ∷ []
show_cell (is a v) = bytes "is" ∷ decimal_of a ∷ show_value v

unfoldable pub show_alias : Option Word → List Bytes
show_alias none = []
show_alias (some a) = bytes "as" ∷ a.bytes ∷ []

unfoldable pub show_given : Option ℕ → List Bytes
show_given none = []
show_given (some c) = decimal_of c ∷ []

unfoldable pub show_targets : List (Option ℕ) → List Bytes
show_targets [] = []
show_targets (none ∷ r) = bytes "-" ∷ show_targets r
show_targets (some t ∷ r) = decimal_of t ∷ show_targets r

unfoldable pub show_rows : List (List ℕ) → List Bytes
show_rows [] = []
show_rows (r ∷ rs) = (bytes "row" ∷ decimal_of (length r) ∷ map decimal_of r) ++ show_rows rs

unfoldable pub outer : Bool → Bytes
outer true = bytes "outer"
outer false = bytes "inner"

unfoldable pub direction : Bool → Bytes
direction true = bytes "desc"
direction false = bytes "asc"

unfoldable pub show_aggregate : Aggregate → Bytes
show_aggregate avg = bytes "avg"
show_aggregate count = bytes "count"
show_aggregate max = bytes "max"
show_aggregate min = bytes "min"
show_aggregate sum = bytes "sum"

unfoldable pub show_items : List (ℕ × Option Word) → List Bytes
show_items [] = []
show_items (x ∷ xs) = decimal_of x.0 ∷ (show_alias x.1 ++ show_items xs)

unfoldable pub show_keys : List (ℕ × Bool) → List Bytes
show_keys [] = []
show_keys (x ∷ xs) = decimal_of x.0 ∷ direction x.1 ∷ show_keys xs

unfoldable pub show_functions : List (Aggregate × ℕ) → List Bytes
show_functions [] = []
show_functions (x ∷ xs) = show_aggregate x.0 ∷ decimal_of x.1 ∷ show_functions xs

unfoldable pub show_record : NodeRecord → List Bytes
show_record (scan t a x) = bytes "scan" ∷ t.name.bytes ∷ (show_alias a ++ show_given x)
show_record (values rs) = bytes "values" ∷ show_rows rs
show_record (join a b x o) = bytes "join" ∷ decimal_of a ∷ decimal_of b ∷ outer o ∷ show_given x
show_record (filter n x) = bytes "filter" ∷ decimal_of n ∷ decimal_of x ∷ []
show_record (aggregate n gs fs) = bytes "aggregate" ∷ decimal_of n ∷ (map decimal_of gs ++ show_functions fs)
show_record (project n xs) = bytes "project" ∷ decimal_of n ∷ show_items xs
show_record (order n xs) = bytes "order" ∷ decimal_of n ∷ show_keys xs
show_record (offset n k) = bytes "offset" ∷ decimal_of n ∷ decimal_of k ∷ []
show_record (limit n k) = bytes "limit" ∷ decimal_of n ∷ decimal_of k ∷ []
show_record (remap n ts) = bytes "remap" ∷ decimal_of n ∷ show_targets ts

-- numbered lines of a kind, from n
unfoldable pub numbered : Bytes → ℕ → List (List Bytes) → List (List Bytes)
numbered k n [] = []
numbered k n (l ∷ ls) = (k ∷ decimal_of n ∷ l) ∷ numbered k (suc n) ls

unfoldable pub kind : Plan Built → Bytes
kind (P.select n) = bytes "select"
kind (P.delete t n) = bytes "delete"
kind (P.insert t m n) = bytes "insert"
kind (P.update t n xs) = bytes "update"
kind (P.create n k cs) = bytes "create"
kind (P.drop n y) = bytes "drop"

unfoldable pub show_lines : List (List Bytes) → Bytes
show_lines [] = []
show_lines (l ∷ ls) = tabbed l ++ (10 ∷ show_lines ls)

unfoldable pub show_mapping : Mapping → List Bytes
show_mapping m = elim m.column [
  | cindex i ↦ elim m.value [ vindex j ↦ bytes "map" ∷ decimal_of i ∷ decimal_of j ∷ [] ]
]

unfoldable pub show_column_map : Option (List Mapping) → List (List Bytes)
show_column_map none = []
show_column_map (some m) = (bytes "columns" ∷ decimal_of (length m) ∷ []) ∷ map show_mapping m

unfoldable pub show_sets : List (ℕ × ℕ) → List (List Bytes)
show_sets [] = []
show_sets (x ∷ xs) = (bytes "set" ∷ decimal_of x.0 ∷ decimal_of x.1 ∷ []) ∷ show_sets xs

unfoldable pub show_type : Datatype → Bytes
show_type boolean = bytes "bool"
show_type integer = bytes "int"
show_type floating = bytes "float"
show_type string = bytes "text"

unfoldable pub or_dash : Bool → Bytes → Bytes
or_dash true b = b
or_dash false b = bytes "-"

unfoldable pub null_text : Bool → Bytes
null_text true = bytes "null"
null_text false = bytes "notnull"

unfoldable pub show_reference : Option Word → List Bytes
show_reference none = []
show_reference (some w) = w.bytes ∷ []

unfoldable pub show_default : Option Value → List Bytes
show_default none = bytes "nodefault" ∷ []
show_default (some v) = show_value v

-- a created column, and its default on the next line
unfoldable pub show_column : Made → List Bytes
show_column c =
    bytes "column" ∷ c.name.bytes ∷ show_type c.type ∷ null_text c.nullable
    ∷ or_dash c.unique (bytes "unique") ∷ or_dash c.index (bytes "index") ∷ show_reference c.reference

unfoldable pub show_columns : List Made → List (List Bytes)
show_columns [] = []
show_columns (c ∷ cs) = show_column c ∷ (show_default c.default ∷ show_columns cs)

unfoldable pub yes_no : Bool → Bytes
yes_no true = bytes "yes"
yes_no false = bytes "no"

-- the name of a table, its key position and the number of a source
unfoldable pub show_target : Table → Node ℕ → List Bytes
show_target t n = t.name.bytes ∷ decimal_of t.key ∷ decimal_of (last 0 n) ∷ []

-- the statement's own lines
unfoldable pub show_own : Plan ℕ → List (List Bytes)
show_own (P.select n) = []
show_own (P.delete t n) = (bytes "delete" ∷ show_target t n) ∷ []
show_own (P.insert t m n) = (bytes "insert" ∷ t.name.bytes ∷ decimal_of (last 0 n) ∷ []) ∷ show_column_map m
show_own (P.update t n xs) = (bytes "update" ∷ show_target t n) ∷ show_sets xs
show_own (P.create n k cs) = (bytes "create" ∷ n.bytes ∷ decimal_of k ∷ []) ∷ show_columns cs
show_own (P.drop n y) = (bytes "drop" ∷ n.bytes ∷ yes_no y ∷ []) ∷ []

-- THE WHOLE
unfoldable pub show_header : Plan Built → List Bytes
show_header p =
    bytes "plan" ∷ kind p ∷ decimal_of (length (plan_records (number_plan p))) ∷ decimal_of (length (plan_cells p)) ∷ []

unfoldable pub show_cells : List Cell → List (List Bytes)
show_cells cs = numbered (bytes "cell") 0 (map show_cell cs)

unfoldable pub show_nodes : List NodeRecord → List (List Bytes)
show_nodes rs = numbered (bytes "node") 0 (map show_record rs)

unfoldable pub show_plan : Plan Built → Bytes
show_plan p = show_lines (
    show_header p
    ∷ (show_cells (plan_cells p) ++ (show_nodes (plan_records (number_plan p)) ++ show_own (number_plan p))))

unfoldable pub text_name : Text → Bytes
text_name catalog = bytes "catalog"
text_name statement = bytes "statement"

unfoldable pub show_refusal : Refusal → List Bytes
show_refusal r = bytes "refused" ∷ decimal_of (refusal_number r.reason) ∷ text_name r.text ∷ decimal_of r.line ∷ []

unfoldable pub show_answer : Answer (Plan Built) → Bytes
show_answer (ok p) = show_plan p
show_answer (refused r) = show_lines (show_refusal r ∷ [])
