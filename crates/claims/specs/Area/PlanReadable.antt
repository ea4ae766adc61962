-- Every accepted plan can be read back: its cells, its node records and the statement's own parts are readable.
use Rattle.std.specs.Prelude.{ℕ, ◌+◌, ◌≤◌, ◌≡◌, length}
use Rattle.std.proofs.Common.{arith}
use mathlib.Core.List.{List, [], ◌∷◌, ◌++◌}
use Rattle.std.specs.Int.Signed.{mag_rem}
use Rattle.rules.specs.Refusals.{ok}
use Rattle.rules.specs.Limits.{most_bytes}
use Rattle.rules.specs.Lists.{Bytes}
use Rattle.rules.specs.Schema.{Catalog}
use Rattle.rules.specs.ReadCatalog.{read_catalog}
use Rattle.rules.specs.Ast.{Binary, plain, ge, le, ne}
use Rattle.rules.specs.Plan.{Built, Node, Plan}
use Rattle.rules.specs.Plan as P
use Rattle.rules.specs.Cells.{built_count, operator, cells, cells_all, plan_expressions, plan_cells, cell_count, number_node}
use Rattle.rules.specs.Cells.{number_plan}
use Rattle.rules.specs.Nodes.{NodeRecord, nodes, records, node_of, node_records, plan_records}
use Rattle.rules.specs.Entry.{plan_of}
use Rattle.claims.specs.Answers.{Ensures, weaken, All, Given, all_append, all-weaken}
use Rattle.claims.specs.Cells.Roots.{first-kept}
use Rattle.claims.specs.Values.Outcomes.{Kept}
use Rattle.claims.specs.Reading.Sound.{IsName}
use Rattle.claims.specs.Building.Has.{TreeHas, NodeHas, PlanHas}
use Rattle.claims.specs.Words.Parts.{plan-trees}
use Rattle.claims.specs.Words.Placed.{placed-planned}
use Rattle.claims.specs.Area.Readable.{ReadableValue, ReadableCell, ReadableAlias, ReadableTable, ReadableRecord}
use Rattle.claims.specs.Area.Readable.{ReadableMade, ReadableOwn, Readable}

module _ (c q : Bytes) where
  -- CELLS
  operator-readable : (o : Binary) (n x y : ℕ) → All (ReadableCell c q) (operator o n x y)
  unfolding operator All ReadableCell
  operator-readable (plain o) n x y = (tt, tt)
  operator-readable ge n x y = (tt, (tt, (tt, tt)))
  operator-readable le n x y = (tt, (tt, (tt, tt)))
  operator-readable ne n x y = (tt, (tt, tt))

  cells-readable : (a : Built) (n : ℕ) → TreeHas (ReadableValue c q) a → All (ReadableCell c q) (cells n a)
  unfolding cells All ReadableCell TreeHas
  cells-readable (P.constant v) n h = (h, tt)
  cells-readable (P.column i) n h = (tt, tt)
  cells-readable (P.unary o a) n h = all_append _ (cells n a) _ (cells-readable a n h) (tt, tt)
  cells-readable (P.binary o a b) n h =
      all_append _ (cells n a) _ (cells-readable a n h.0)
      (all_append _ (cells (n + built_count a) b) _ (cells-readable b (n + built_count a) h.1)
      (operator-readable o _ _ _))
  cells-readable (P.is a v) n h = all_append _ (cells n a) _ (cells-readable a n h.0) (h.1, tt)

  cells_all-readable : (as' : List Built) (n : ℕ) → All (TreeHas (ReadableValue c q)) as'
      → All (ReadableCell c q) (cells_all n as')
  unfolding cells_all All
  cells_all-readable [] n h = tt
  cells_all-readable (a ∷ as') n h =
      all_append _ (cells n a) _ (cells-readable a n h.0) (cells_all-readable as' (n + built_count a) h.1)

  -- NODES
  module _ (ts : Catalog) where
    -- the records of a node, and one more behind them
    behind : (n : Node Built) (i k : ℕ) (r : NodeRecord) → All (ReadableRecord c q ts) (records k (number_node i n))
        → ReadableRecord c q ts r → All (ReadableRecord c q ts) (records k (number_node i n) ++ (r ∷ []))
    unfolding All
    behind n i k r h g = all_append _ (records k (number_node i n)) _ h (g, tt)

    records-readable : (n : Node Built) (i k : ℕ) → NodeHas (ReadableValue c q) (ReadableAlias c q) ts n
        → All (ReadableRecord c q ts) (records k (number_node i n))
    unfolding records number_node NodeHas ReadableAlias ReadableTable ReadableRecord All
    records-readable (P.scan t a x) i k h = (((h.0, h.3.0), h.2), tt)
    records-readable (P.values rs) i k h = (tt, tt)
    records-readable (P.join a b x o) i k h =
        all_append _ (records k (number_node i a)) _ (records-readable a i k h.0)
        (behind b (i + cell_count a) (k + nodes (number_node i a)) _
        (records-readable b (i + cell_count a) (k + nodes (number_node i a)) h.1) tt)
    records-readable (P.filter n x) i k h = behind n i k _ (records-readable n i k h.0) tt
    records-readable (P.aggregate n gs fs) i k h = behind n i k _ (records-readable n i k h.0) tt
    records-readable (P.project n xs) i k h = behind n i k _ (records-readable n i k h.0)
        (first-kept (Given (ReadableAlias c q)) xs (i + cell_count n) (all-weaken _ _ (λ x g. g.1) xs h.1))
    records-readable (P.order n xs) i k h = behind n i k _ (records-readable n i k h.0) tt
    records-readable (P.offset n m) i k h = behind n i k _ (records-readable n i k h.0) tt
    records-readable (P.limit n m) i k h = behind n i k _ (records-readable n i k h.0) tt
    records-readable (P.remap n xs) i k h = behind n i k _ (records-readable n i k h.0) tt

    plan_records-readable : (p : Plan Built) → PlanHas (ReadableValue c q) (ReadableAlias c q) ts p
        → All (ReadableRecord c q ts) (plan_records (number_plan p))
    unfolding number_plan node_of plan_records node_records PlanHas All
    plan_records-readable (P.select n) h = records-readable n 0 0 h
    plan_records-readable (P.delete t n) h = records-readable n 0 0 h.1
    plan_records-readable (P.insert t m n) h = records-readable n 0 0 h.1
    plan_records-readable (P.update t n xs) h = records-readable n 0 0 h.1
    plan_records-readable (P.create n k cs) h = tt
    plan_records-readable (P.drop n y) h = tt

    -- THE STATEMENT'S OWN PARTS
    own-readable : (p : Plan Built) → PlanHas (ReadableValue c q) (ReadableAlias c q) ts p
        → ReadableOwn c q ts (number_plan p)
    unfolding number_plan PlanHas ReadableAlias ReadableTable ReadableMade ReadableOwn
    own-readable (P.select n) h = tt
    own-readable (P.delete t n) h = (h.0, h.2.0)
    own-readable (P.insert t m n) h = (h.0, h.3.0)
    own-readable (P.update t n xs) h = (h.0, h.3.0)
    own-readable (P.create n k cs) h = (h.2.0, all-weaken _ _ (λ m g. (g.0, g.1.0, g.2)) cs h.1)
    own-readable (P.drop n y) h = h.0

    -- PLANS
    -- whose values and names are readable
    plan-reads : (p : Plan Built) → PlanHas (ReadableValue c q) (ReadableAlias c q) ts p → Readable c q ts p
    unfolding plan_cells
    plan-reads p h = record {
      cells = cells_all-readable (plan_expressions p) 0 (plan-trees _ _ ts p h);
      nodes = plan_records-readable p h;
      own = own-readable p h;
    }

  readable-kept : Kept (ReadableValue c q)
  unfolding ReadableValue
  readable-kept = record {
    nulls = tt;
    truths = λ a. tt;
    within = λ z h. h;
    remainders = λ m n h. omega (arith, mag_rem m n);
    floats = λ b h. tt;
  }

-- every accepted plan is readable from the area
pub plan-readable : (c q : Bytes) (ts : Catalog) → length c ≤ most_bytes → read_catalog c ≡ ok ts
    → Ensures (plan_of c q) (Readable c q ts)
unfolding ReadableValue ReadableAlias IsName
plan-readable c q ts l e =
    weaken (plan_of c q) _ _ (plan-reads c q ts)
    (placed-planned c q _ (ReadableAlias c q) (readable-kept c q) (λ w h. h) (λ w h i. (h, i.0)) l ts e)
