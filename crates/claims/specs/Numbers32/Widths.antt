-- Every column number of an accepted plan is of 32 bits.
use Rattle.std.specs.Prelude.{ℕ, ◌*◌, ◌^◌, ◌≤◌, ◌≡◌, List, [], ◌∷◌}
use native.Mathlib.Omega.{arith}
use Rattle.std.proofs.Math.Option.{Option, none, some}
use Rattle.rules.specs.Limits.{least_area}
use Rattle.rules.specs.Lists.{Bytes, same, map_option}
use Rattle.rules.specs.Schema.{Table, Catalog, get_table, named_by}
use Rattle.rules.specs.Plan.{Built, Node, Plan, first_row, column_count}
use Rattle.rules.specs.Plan as P
use Rattle.rules.specs.Cells.{expressions, plan_expressions}
use Rattle.claims.specs.Answers.{All, Given, all_append, all-weaken, all_map}
use Rattle.claims.specs.Cases.{either_way}
use Rattle.claims.specs.Lists.{all_none, all_one, all-concat, given-all, given-weaken}
use Rattle.claims.specs.Reading.Catalog.{LimitedTable}
use Rattle.claims.specs.Widths.Below.{Below}
use Rattle.claims.specs.Widths.Bounded.{Bounded, PlanBounded}
use Rattle.claims.specs.Room.Nodes.{rows_room, node_room, plan_node_room}
use Rattle.claims.specs.Building.Has.{InCatalog, NodeHas, PlanHas}
use Rattle.claims.specs.Words.Ends.{Ends, EndsValue}

-- TABLES
tables-limited : (ts : Catalog) (n : Bytes) → All LimitedTable ts → Given LimitedTable (get_table ts n)
unfolding get_table All Given
tables-limited [] n h = tt
tables-limited (t ∷ ts) n h =
    either_way (Given LimitedTable) (same t.name.bytes n) (some t) (get_table ts n) h.0
    (tables-limited ts n h.1)

-- a plan's table has the key and the columns of one of the catalog's
pub table-limited : (ts : Catalog) → All LimitedTable ts → (t : Table) → InCatalog ts t → LimitedTable t
unfolding map_option named_by Given
table-limited ts h t = go (get_table ts t.name.bytes) (tables-limited ts t.name.bytes h)
  where
    go : (o : Option Table) → Given LimitedTable o → map_option (named_by t.name) o ≡ some t → LimitedTable t
    go none g e = grind arith
    go (some u) g e = let k : named_by t.name u ≡ t = cc in rw (← k) g

-- WIDTHS
-- below a greater number
below_more : (v w : ℕ) → v ≤ w → (x : Built) → Below v x → Below w x
unfolding Below
below_more v w l (P.constant u) h = tt
below_more v w l (P.column i) h = omega arith
below_more v w l (P.unary o a) h = below_more v w l a h
below_more v w l (P.binary o a b) h = (below_more v w l a h.0, below_more v w l b h.1)
below_more v w l (P.is a u) h = below_more v w l a h

first_row-most : (rs : List (List Built)) → first_row rs ≤ rows_room rs
unfolding first_row rows_room
first_row-most [] = omega arith
first_row-most (r ∷ rs) = omega arith

module _ (ts : Catalog) (limited : All LimitedTable ts) where
  -- a node is at most ten times as wide as it has numbers: a scan has 7 and at most 64 columns
  columns-most : (n : Node Built) → NodeHas EndsValue Ends ts n → column_count n ≤ 10 * node_room n
  unfolding column_count node_room NodeHas
  columns-most (P.scan t a x) h = omega (arith, (table-limited ts limited t h.0).1)
  columns-most (P.values rs) h = omega (arith, first_row-most rs)
  columns-most (P.join a b x o) h = omega (arith, columns-most a h.0, columns-most b h.1)
  columns-most (P.filter n x) h = omega (arith, columns-most n h.0)
  columns-most (P.aggregate n gs fs) h = omega arith
  columns-most (P.project n xs) h = omega arith
  columns-most (P.order n xs) h = omega (arith, columns-most n h.0)
  columns-most (P.offset n k) h = omega (arith, columns-most n h.0)
  columns-most (P.limit n k) h = omega (arith, columns-most n h.0)
  columns-most (P.remap n xs) h = omega (arith, h.1)

  -- an expression whose column numbers are of 32 bits
  abbrev Narrow : Built → Type 0
  Narrow x = Below (2 ^ 32) x

  narrow : (n : Node Built) → node_room n ≤ least_area → NodeHas EndsValue Ends ts n → (x : Built)
      → Below (column_count n) x → Narrow x
  narrow n l h = below_more (column_count n) (2 ^ 32) (omega (arith, columns-most n h))

  node-narrow : (n : Node Built) → node_room n ≤ least_area → NodeHas EndsValue Ends ts n → Bounded n
      → All Narrow (expressions n)
  unfolding expressions node_room NodeHas Bounded column_count
  node-narrow (P.scan t a x) l h b = given-all Narrow x (given-weaken _ _ (narrow (P.scan t a x) l h) x b)
  node-narrow (P.values rs) l h b =
      all-concat Narrow rs (all-weaken _ _ (λ r g. all-weaken _ _ (below_more 0 (2 ^ 32) (omega arith)) r g) rs b)
  node-narrow (P.join n m x o) l h b =
      all_append Narrow (expressions n) _ (node-narrow n (omega arith) h.0 b.0)
      (all_append Narrow (expressions m) _ (node-narrow m (omega arith) h.1 b.1)
      (given-all Narrow x (given-weaken _ _ (narrow (P.join n m x o) l h) x b.2)))
  node-narrow (P.filter n x) l h b =
      all_append Narrow (expressions n) _ (node-narrow n (omega arith) h.0 b.0)
      (all_one Narrow x (narrow n (omega arith) h.0 x b.1))
  node-narrow (P.aggregate n gs fs) l h b =
      let m = narrow n (omega arith) h.0 in
      all_append Narrow (expressions n) _ (node-narrow n (omega arith) h.0 b.0)
      (all_append Narrow gs _ (all-weaken _ _ m gs b.1) (all_map Narrow (λ f. f.1) _ (λ f g. m f.1 g) fs b.2))
  node-narrow (P.project n xs) l h b =
      let m = narrow n (omega arith) h.0 in
      all_append Narrow (expressions n) _ (node-narrow n (omega arith) h.0 b.0)
      (all_map Narrow (λ x. x.0) _ (λ x g. m x.0 g) xs b.1)
  node-narrow (P.order n xs) l h b =
      let m = narrow n (omega arith) h.0 in
      all_append Narrow (expressions n) _ (node-narrow n (omega arith) h.0 b.0)
      (all_map Narrow (λ x. x.0) _ (λ x g. m x.0 g) xs b.1)
  node-narrow (P.offset n k) l h b = node-narrow n (omega arith) h.0 b
  node-narrow (P.limit n k) l h b = node-narrow n (omega arith) h.0 b
  node-narrow (P.remap n xs) l h b = node-narrow n (omega arith) h.0 b.0

  -- of a plan that fits in the area
  pub plan-narrow : (p : Plan Built) → plan_node_room p ≤ least_area → PlanHas EndsValue Ends ts p → PlanBounded p
      → All (Below (2 ^ 32)) (plan_expressions p)
  unfolding plan_expressions plan_node_room PlanHas
  plan-narrow (P.select n) l h b = node-narrow n l h b
  plan-narrow (P.delete t n) l h b = node-narrow n l h.1 b
  plan-narrow (P.insert t m n) l h b = node-narrow n l h.1 b
  plan-narrow (P.update t n xs) l h b =
      all_append Narrow (expressions n) _ (node-narrow n l h.1 b.0)
      (all_map Narrow (λ x. x.1) _ (λ x g. narrow n l h.1 x.1 g.1) xs b.1)
  plan-narrow (P.create n k cs) l h b = all_none Narrow
  plan-narrow (P.drop n y) l h b = all_none Narrow
