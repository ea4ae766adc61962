-- The plan's nodes in order, sources before their user, each with the numbers of its sources and cells.
use Rattle.std.specs.Prelude.{ℕ, ◌+◌, pred, Bool, List, [], ◌∷◌, ◌++◌}
use Rattle.std.proofs.Math.Option.{Option, none, some}
use Rattle.rules.specs.Lines.{Word}
use Rattle.rules.specs.Schema.{Table}
use Rattle.rules.specs.Plan.{Aggregate, Node, Plan}
use Rattle.rules.specs.Plan as P

pub data NodeRecord : Type 0 where
  scan : Table → Option Word → Option ℕ → NodeRecord
  values : List (List ℕ) → NodeRecord
  join : ℕ → ℕ → Option ℕ → Bool → NodeRecord
  filter : ℕ → ℕ → NodeRecord
  aggregate : ℕ → List ℕ → List (Aggregate × ℕ) → NodeRecord
  project : ℕ → List (ℕ × Option Word) → NodeRecord
  order : ℕ → List (ℕ × Bool) → NodeRecord
  offset limit : ℕ → ℕ → NodeRecord
  remap : ℕ → List (Option ℕ) → NodeRecord

-- how many nodes a node is, its sources among them
unfoldable pub nodes : {E : Type 0} → Node E → ℕ
nodes (P.scan t a x) = 1
nodes (P.values rs) = 1
nodes (P.join a b x o) = nodes a + nodes b + 1
nodes (P.filter n x) = nodes n + 1
nodes (P.aggregate n gs fs) = nodes n + 1
nodes (P.project n xs) = nodes n + 1
nodes (P.order n xs) = nodes n + 1
nodes (P.offset n k) = nodes n + 1
nodes (P.limit n k) = nodes n + 1
nodes (P.remap n ts) = nodes n + 1

-- the number of a node, the first of its sources i: the last of them is the node
unfoldable pub last : {E : Type 0} → ℕ → Node E → ℕ
last i n = pred (i + nodes n)

-- the records of a node and its sources, the first of them i
unfoldable pub records : ℕ → Node ℕ → List NodeRecord
records i (P.scan t a x) = scan t a x ∷ []
records i (P.values rs) = values rs ∷ []
records i (P.join a b x o) =
    let j = i + nodes a in
    records i a ++ (records j b ++ (join (last i a) (last j b) x o ∷ []))
records i (P.filter n x) = records i n ++ (filter (last i n) x ∷ [])
records i (P.aggregate n gs fs) = records i n ++ (aggregate (last i n) gs fs ∷ [])
records i (P.project n xs) = records i n ++ (project (last i n) xs ∷ [])
records i (P.order n xs) = records i n ++ (order (last i n) xs ∷ [])
records i (P.offset n k) = records i n ++ (offset (last i n) k ∷ [])
records i (P.limit n k) = records i n ++ (limit (last i n) k ∷ [])
records i (P.remap n ts) = records i n ++ (remap (last i n) ts ∷ [])

-- the node of a plan, if it has one
unfoldable pub node_of : {E : Type 0} → Plan E → Option (Node E)
node_of (P.select n) = some n
node_of (P.delete t n) = some n
node_of (P.insert t m n) = some n
node_of (P.update t n xs) = some n
node_of (P.create n k cs) = none
node_of (P.drop n y) = none

unfoldable pub node_records : Option (Node ℕ) → List NodeRecord
node_records none = []
node_records (some n) = records 0 n

-- the records of a plan
unfoldable pub plan_records : Plan ℕ → List NodeRecord
plan_records p = node_records (node_of p)
