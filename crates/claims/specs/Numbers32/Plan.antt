-- Every number of an accepted plan is of 32 bits.
use Rattle.std.specs.Prelude.{ℕ, ◌+◌, ◌^◌, ◌≤◌, ◌<◌, ◌≡◌, refl, List, [], ◌∷◌, length}
use Rattle.std.proofs.Common.{arith, length-append}
use mathlib.Core.List.Memᴰ
use Rattle.rules.specs.Limits.{most_bytes, least_area}
use Rattle.rules.specs.Lists.{Bytes}
use Rattle.rules.specs.Schema.{Catalog}
use Rattle.rules.specs.ReadCatalog.{read_catalog}
use Rattle.rules.specs.Plan.{Built, Node, Plan}
use Rattle.rules.specs.Plan as P
use Rattle.rules.specs.Cells.{expressions, plan_expressions, plan_cells, number_node, number_plan}
use Rattle.rules.specs.Nodes.{nodes, node_of, node_records, plan_records}
use Rattle.rules.specs.Area.{plan_code, header_size, cell_part, node_part, own_start, header, plan_numbers, own_numbers}
use Rattle.rules.specs.Entry.{plan_of}
use Rattle.claims.specs.Answers.{Ensures, ensures, ensured, All, all_append, all_left, all-weaken}
use Rattle.claims.specs.Lists.{all_both}
use Rattle.claims.specs.Cells.Length.{cells_all-length}
use Rattle.claims.specs.Area.NodeTree.{records-length}
use Rattle.claims.specs.Cells.Blocks.{NumbersBetween, roots-between}
use Rattle.claims.specs.Reading.Catalog.{LimitedTable, catalog-limited}
use Rattle.claims.specs.Widths.Bounded.{PlanBounded}
use Rattle.claims.specs.Room.Nodes.{node_room, number-room, plan_node_room, plan-room}
use Rattle.claims.specs.Widths.Statements.{plan-bounded}
use Rattle.claims.specs.Building.Has.{PlanHas}
use Rattle.claims.specs.Room.Statements.{room}
use Rattle.claims.specs.Area.Accepted.{catalog-read}
use Rattle.claims.specs.Words.Parts.{plan-trees}
use Rattle.claims.specs.Words.Ends.{Ends, EndsValue, plan-ends}
use Rattle.claims.specs.Numbers32.Cells.{Small, SmallTree, all-cells-small}
use Rattle.claims.specs.Numbers32.Nodes.{Few, SmallRecord, nodes-small, records-small}
use Rattle.claims.specs.Numbers32.Widths.{plan-narrow}
use Rattle.claims.specs.Numbers32.Own.{own-small}

-- HOW MANY
-- a node takes as many numbers as it has nodes, at least
pub nodes-room : {E : Type 0} (n : Node E) → nodes n ≤ node_room n
unfolding nodes node_room
nodes-room (P.scan t a x) = omega arith
nodes-room (P.values rs) = omega arith
nodes-room (P.join a b x o) = omega (arith, nodes-room a, nodes-room b)
nodes-room (P.filter n x) = omega (arith, nodes-room n)
nodes-room (P.aggregate n gs fs) = omega (arith, nodes-room n)
nodes-room (P.project n xs) = omega (arith, nodes-room n)
nodes-room (P.order n xs) = omega (arith, nodes-room n)
nodes-room (P.offset n k) = omega (arith, nodes-room n)
nodes-room (P.limit n k) = omega (arith, nodes-room n)
nodes-room (P.remap n ts) = omega (arith, nodes-room n)

numbered-room : (n : Node Built) → nodes (number_node 0 n) ≤ node_room n
numbered-room n = omega (arith, nodes-room (number_node 0 n), number-room n 0)

records-most : (p : Plan Built) → length (plan_records (number_plan p)) ≤ plan_node_room p
unfolding plan_records node_records node_of number_plan plan_node_room
records-most (P.select n) = omega (arith, records-length (number_node 0 n) 0, numbered-room n)
records-most (P.delete t n) = omega (arith, records-length (number_node 0 n) 0, numbered-room n)
records-most (P.insert t m n) = omega (arith, records-length (number_node 0 n) 0, numbered-room n)
records-most (P.update t n xs) = omega (arith, records-length (number_node 0 n) 0, numbered-room n)
records-most (P.create n k cs) = omega arith
records-most (P.drop n y) = omega arith

-- the numbers in a plan, below the number of its cells
inside-all : (m : ℕ) (rs : List ℕ) → NumbersBetween 0 m rs → All (λ i. i < m) rs
unfolding NumbersBetween All
inside-all m [] h = tt
inside-all m (r ∷ rs) h = ((h r (Memᴰ.head refl)).1, inside-all m rs (λ i k. h i (Memᴰ.tail k)))

-- HEADER
code-small : (p : Plan Built) → Small (plan_code p)
unfolding plan_code
code-small (P.select n) = omega arith
code-small (P.create n k cs) = omega arith
code-small (P.drop n y) = omega arith
code-small (P.delete t n) = omega arith
code-small (P.insert t m n) = omega arith
code-small (P.update t n xs) = omega arith

start_is : (p : Plan Built) → own_start p ≡ header_size + length (cell_part p) + length (node_part p)
unfolding own_start
start_is p = refl

parts-length : (p : Plan Built)
    → length (plan_numbers p)
    ≡ header_size + length (cell_part p) + length (node_part p) + length (own_numbers (number_plan p))
unfolding plan_numbers header
parts-length p = simp length-append (omega arith)

header-small : (p : Plan Built) → length (plan_numbers p) ≤ least_area → All Small (header p)
unfolding header All
header-small p l = (
  omega arith,
  (
    code-small p,
    (
      omega (arith, plan-room p),
      (
        omega (arith, plan-room p, records-most p),
        (omega (arith, start_is p, parts-length p), (omega (arith, start_is p, parts-length p), tt)),
      ),
    ),
  ),
)

-- NODES
records-fit : (ts : Catalog) (p : Plan Built) → plan_node_room p ≤ least_area → PlanHas EndsValue Ends ts p
    → All Few (plan_expressions (number_plan p))
    → All SmallRecord (plan_records (number_plan p))
unfolding plan_records node_records node_of number_plan plan_node_room PlanHas plan_expressions All
records-fit ts (P.select n) l h e = records-small ts n 0 0 (omega (arith, numbered-room n)) e h
records-fit ts (P.delete t n) l h e = records-small ts n 0 0 (omega (arith, numbered-room n)) e h.1
records-fit ts (P.insert t m n) l h e = records-small ts n 0 0 (omega (arith, numbered-room n)) e h.1
records-fit ts (P.update t n xs) l h e =
    records-small ts n 0 0 (omega (arith, numbered-room n)) (all_left Few (expressions (number_node 0 n)) _ e) h.1
records-fit ts (P.create n j cs) l h e = tt
records-fit ts (P.drop n y) l h e = tt

-- THE WHOLE
numbers-small : (ts : Catalog) → All LimitedTable ts → (p : Plan Built) → length (plan_numbers p) ≤ least_area
    → PlanHas EndsValue Ends ts p → PlanBounded p
    → All Small (plan_numbers p)
unfolding plan_numbers cell_part node_part plan_cells
numbers-small ts limited p l h b =
    let r = plan-room p in
    let xs = plan_expressions (number_plan p) in
    let n = length (plan_cells p) in
    let e : All Few xs = all-weaken _ Few (λ i g. omega arith) xs (inside-all n xs (roots-between p)) in
    let trees : All SmallTree (plan_expressions p) =
    all_both _ _ (plan_expressions p) (plan-trees _ _ ts p h) (plan-narrow ts limited p (omega arith) h b) in
    all_append Small (header p) _ (header-small p l)
    (all_append Small (cell_part p) _
    (all-cells-small (plan_expressions p) (omega (arith, cells_all-length (plan_expressions p) 0)) trees)
    (all_append Small (node_part p) _
    (nodes-small (plan_records (number_plan p)) (omega (arith, parts-length p)) (records-fit ts p (omega arith) h e))
    (own-small ts limited p (omega arith) h b e)))

-- the numbers of every accepted plan are of 32 bits
pub numbers_fit : (c q : Bytes) → length c ≤ most_bytes → length q ≤ most_bytes
    → Ensures (plan_of c q) (λ p. All (λ n. n < 2 ^ 32) (plan_numbers p))
numbers_fit c q l m = ensures (plan_of c q) _ λ p e.
    let ts = catalog-read c q p e in
    let limits = ensured (read_catalog c) _ (catalog-limited c) ts.0 ts.1 in
    numbers-small ts.0 limits.1 p
    (ensured (plan_of c q) _ (room c q) p e)
    (ensured (plan_of c q) _ (plan-ends c q l m ts.0 ts.1) p e)
    (ensured (plan_of c q) _ (plan-bounded c q) p e)
