-- The plan (plan.rs; expression.rs, Expression), over the kind of its expressions.
use Prim.Native.Nat.{ℕ, zero, suc, ◌+◌, ◌-◌}
use Rattle.std.specs.Prelude.{Bool, true, false, List, [], ◌∷◌, map, eqb, ltb, length}
use Rattle.std.proofs.Math.Option.{Option, none, some}
use Rattle.rules.specs.Lists.{map_option, or_else, entry_after}
use Rattle.rules.specs.Lines.{Word}
use Rattle.rules.specs.Schema.{Value, Datatype, Column, Table}
use Rattle.rules.specs.Ast.{Unary, not, Plain, or, eq, gt, lt, Binary, plain, ge, le, ne}

-- An expression over a set of binary operators
pub data Tree (O : Type 0) : Type 0 where
  constant : Value → Tree O
  column : ℕ → Tree O
  unary : Unary → Tree O → Tree O
  binary : O → Tree O → Tree O → Tree O
  is : Tree O → Value → Tree O

-- a resolved expression, `ge`, `le` and `ne` as the statement has them
abbrev pub Built : Type 0
Built = Tree Binary

-- an expression of the plan
abbrev pub Expression : Type 0
Expression = Tree Plain

-- build_expression's last step: `a >= b` is `a > b OR a = b`, `a <= b` is `a < b OR a = b`, `a != b` is `NOT a = b`
unfoldable pub desugar_binary : Binary → Expression → Expression → Expression
desugar_binary (plain o) a b = binary o a b
desugar_binary ge a b = binary or (binary gt a b) (binary eq a b)
desugar_binary le a b = binary or (binary lt a b) (binary eq a b)
desugar_binary ne a b = unary not (binary eq a b)

unfoldable pub desugar : Built → Expression
desugar (constant v) = constant v
desugar (column i) = column i
desugar (unary o a) = unary o (desugar a)
desugar (binary o a b) = desugar_binary o (desugar a) (desugar b)
desugar (is a v) = is (desugar a) v

pub data Aggregate : Type 0 where
  avg count max min sum : Aggregate

-- A scanned table is named where the statement names it. A join is outer or inner, a projected expression has its
-- alias, an order key is descending or not, a remap has a target, or none, for each column of its source.
pub data Node (E : Type 0) : Type 0 where
  scan : Table → Option Word → Option E → Node E
  values : List (List E) → Node E
  join : Node E → Node E → Option E → Bool → Node E
  filter : Node E → E → Node E
  aggregate : Node E → List E → List (Aggregate × E) → Node E
  project : Node E → List (E × Option Word) → Node E
  order : Node E → List (E × Bool) → Node E
  offset : Node E → ℕ → Node E
  limit : Node E → ℕ → Node E
  remap : Node E → List (Option ℕ) → Node E

-- a column of a created table (schema.rs, Column)
pub record Made : Type 0 where
  pub name : Word
  pub type : Datatype
  pub nullable : Bool
  pub default : Option Value
  pub unique : Bool
  pub index : Bool
  pub reference : Option Word

-- Two kinds of position that INSERT must not confuse: of a column in its table, and of a value in its row.
pub data TablePosition : Type 0 where
  cindex : ℕ → TablePosition

pub data ValuePosition : Type 0 where
  vindex : ℕ → ValuePosition

-- an entry of INSERT's column map: the column, and the value that it takes
pub record Mapping : Type 0 where
  pub column : TablePosition
  pub value : ValuePosition

-- An update has a table position and an expression a set.
pub data Plan (E : Type 0) : Type 0 where
  select : Node E → Plan E
  delete : Table → Node E → Plan E
  insert : Table → Option (List Mapping) → Node E → Plan E
  update : Table → Node E → List (ℕ × E) → Plan E
  create : Word → ℕ → List Made → Plan E
  drop : Word → Bool → Plan E

-- a function put over every expression of a node
unfoldable pub map_first : {E F B : Type 0} → (E → F) → List (E × B) → List (F × B)
map_first f [] = []
map_first f (x ∷ xs) = (f x.0, x.1) ∷ map_first f xs

unfoldable pub map_second : {E F B : Type 0} → (E → F) → List (B × E) → List (B × F)
map_second f [] = []
map_second f (x ∷ xs) = (x.0, f x.1) ∷ map_second f xs

unfoldable pub map_node : {E F : Type 0} → (E → F) → Node E → Node F
map_node f (scan t a x) = scan t a (map_option f x)
map_node f (values rs) = values (map (map f) rs)
map_node f (join a b x o) = join (map_node f a) (map_node f b) (map_option f x) o
map_node f (filter n x) = filter (map_node f n) (f x)
map_node f (aggregate n gs fs) = aggregate (map_node f n) (map f gs) (map_second f fs)
map_node f (project n xs) = project (map_node f n) (map_first f xs)
map_node f (order n xs) = order (map_node f n) (map_first f xs)
map_node f (offset n k) = offset (map_node f n) k
map_node f (limit n k) = limit (map_node f n) k
map_node f (remap n ts) = remap (map_node f n) ts

-- and of a plan
unfoldable pub map_plan : {E F : Type 0} → (E → F) → Plan E → Plan F
map_plan f (select n) = select (map_node f n)
map_plan f (delete t n) = delete t (map_node f n)
map_plan f (insert t m n) = insert t m (map_node f n)
map_plan f (update t n xs) = update t (map_node f n) (map_second f xs)
map_plan f (create n k cs) = create n k cs
map_plan f (drop n y) = drop n y

-- the plan that the Rust builds
unfoldable pub desugar_plan : Plan Built → Plan Expression
desugar_plan p = map_plan desugar p

-- WIDTH
unfoldable pub first_row : {E : Type 0} → List (List E) → ℕ
first_row [] = 0
first_row (r ∷ rs) = length r

-- one more than the greatest target
unfoldable pub target_count : List (Option ℕ) → ℕ
target_count [] = 0
target_count (none ∷ r) = target_count r
target_count (some t ∷ r) = Prim.Native.Nat.max (t + 1) (target_count r)

-- Node::columns
unfoldable pub column_count : {E : Type 0} → Node E → ℕ
column_count (scan t a x) = length t.columns
column_count (values rs) = first_row rs
column_count (join a b x o) = column_count a + column_count b
column_count (filter n x) = column_count n
column_count (aggregate n gs fs) = length gs + length fs
column_count (project n xs) = length xs
column_count (order n xs) = column_count n
column_count (offset n k) = column_count n
column_count (limit n k) = column_count n
column_count (remap n ts) = target_count ts

-- REMAP
-- the last source, from i, that a remap puts at target t
unfoldable pub last_source : ℕ → ℕ → List (Option ℕ) → Option ℕ
last_source t i [] = none
last_source t i (none ∷ r) = last_source t (suc i) r
last_source t i (some u ∷ r) = elim (last_source t (suc i) r) [
  | some j ↦ some j
  | none ↦ elim (eqb u t) [ true ↦ some i | false ↦ none ]
]

-- the sources of n targets, from t
unfoldable pub sources_from : List (Option ℕ) → ℕ → ℕ → List (Option ℕ)
sources_from ts t zero = []
sources_from ts t (suc n) = last_source t 0 ts ∷ sources_from ts (suc t) n

-- invert_remap
unfoldable pub invert_remap : List (Option ℕ) → List (Option ℕ)
invert_remap ts = sources_from ts 0 (target_count ts)

-- LABELS (value.rs, Label)
pub data Label : Type 0 where
  nameless : Label
  unqualified : Word → Label
  qualified : Word → Word → Label

unfoldable pub scan_label : Word → Option Column → Label
scan_label n none = nameless
scan_label n (some c) = qualified n c.name

-- a column reference has its source's label
unfoldable pub through_label : Built → (ℕ → Label) → Label
through_label (constant v) f = nameless
through_label (column i) f = f i
through_label (unary o a) f = nameless
through_label (binary o a b) f = nameless
through_label (is a v) f = nameless

unfoldable pub group_label : Option Built → (ℕ → Label) → Label
group_label none f = nameless
group_label (some x) f = through_label x f

-- an alias, or else as for a group expression
unfoldable pub project_label : Option (Built × Option Word) → (ℕ → Label) → Label
project_label none f = nameless
project_label (some x) f = elim x.1 [ some a ↦ unqualified a | none ↦ through_label x.0 f ]

-- the first source, from i, that a remap puts at target t
unfoldable pub first_source : ℕ → ℕ → List (Option ℕ) → Option ℕ
first_source t i [] = none
first_source t i (none ∷ r) = first_source t (suc i) r
first_source t i (some u ∷ r) = elim (eqb u t) [ true ↦ some i | false ↦ first_source t (suc i) r ]

unfoldable pub remap_label : Option ℕ → (ℕ → Label) → Label
remap_label none f = nameless
remap_label (some i) f = f i

-- Node::column_label
unfoldable pub column_label : Node Built → ℕ → Label
column_label (scan t a x) k = scan_label (or_else a t.name) (entry_after k t.columns)
column_label (values rs) k = nameless
column_label (join a b x o) k = elim (ltb k (column_count a)) [
  | true ↦ column_label a k
  | false ↦ column_label b (k - column_count a)
]
column_label (filter n x) k = column_label n k
column_label (aggregate n gs fs) k = group_label (entry_after k gs) (column_label n)
column_label (project n xs) k = project_label (entry_after k xs) (column_label n)
column_label (order n xs) k = column_label n k
column_label (offset n m) k = column_label n k
column_label (limit n m) k = column_label n k
column_label (remap n ts) k = remap_label (first_source k 0 ts) (column_label n)

-- the labels of n columns, from i
unfoldable pub labels_from : Node Built → ℕ → ℕ → List Label
labels_from m i zero = []
labels_from m i (suc n) = column_label m i ∷ labels_from m (suc i) n

-- the labels of all its columns
unfoldable pub labels : Node Built → List Label
labels m = labels_from m 0 (column_count m)
