-- What the plan and the cells that are read back from a made area keep (docs/PLAN.md, "How a reader checks the form").
use Rattle.std.specs.Prelude.{ℕ, ◌+◌, ◌<◌, ◌≡◌, refl, List, [], ◌∷◌, ◌++◌, length}
use Rattle.std.proofs.Common.{arith, ap}
use Rattle.std.proofs.Math.Option.{Option}
use Rattle.rules.specs.Refusals.{ok}
use Rattle.rules.specs.Lists.{Bytes, given}
use Rattle.rules.specs.Lines.{Word}
use Rattle.rules.specs.Schema.{Value, Catalog}
use Rattle.rules.specs.Ast.{Plain}
use Rattle.rules.specs.Plan.{Built, Node, Plan, map_plan}
use Rattle.rules.specs.Plan as P
use Rattle.rules.specs.Cells.{Cell, built_count, binary, plan_expressions, cell_count, plan_cells, number_first, number_node}
use Rattle.rules.specs.Cells.{number_plan}
use Rattle.rules.specs.Nodes.{NodeRecord, nodes, node_of, records, node_records, plan_records}
use Rattle.rules.specs.Entry.{plan_of}
use Rattle.claims.specs.Answers.{ensured, All, all_append, all_left, all_right}
use Rattle.claims.specs.Values.Values.{Fits}
use Rattle.claims.specs.Reading.Sound.{IsName}
use Rattle.claims.specs.Building.Has.{NodeHas, PlanHas}
use Rattle.claims.specs.Area.Accepted.{catalog-read}
use Rattle.claims.specs.Area.ProperPlan.{plan-proper}
use Rattle.claims.specs.Cells.Operands.{cell_at, Uses}
use Rattle.claims.specs.Cells.Order.{operands-below, left-before-right}
use Rattle.claims.specs.Cells.Roots.{second-kept}
use Rattle.claims.specs.Cells.Reach.{Reached, reached-all, reached-only}
use Rattle.claims.specs.Cells.Unfold.{tree, unfolded}
use Rattle.claims.specs.Cells.UnfoldPlan.{unfolds}
use Rattle.claims.specs.Widths.Bounded.{PlanBounded}
use Rattle.claims.specs.Widths.Desugared.{plan-desugared}
use Rattle.claims.specs.Widths.Statements.{plan-bounded}
use Rattle.claims.specs.Widths.Positions.{PositionsInside, positions-inside}
use Rattle.claims.specs.Words.Lists.{words_of, node_names, plan_node_names, nothing, table_words, built_words, plan_words_by, plan_names}
use Rattle.claims.specs.Words.PlacedPlan.{plan-names}
use Rattle.claims.specs.Form.Targets.{TargetsOnce}
use Rattle.claims.specs.Form.Sources.{SourcesOnce, sources-once, SourcesBefore, sources-before}

-- the names of a plan: of its tables, its columns, its aliases and its references
unfoldable pub names_of : {E : Type 0} → Plan E → List Word
names_of p = plan_node_names p ++ table_words nothing p

-- a remap's targets are the numbers below their count, each once
abbrev pub RemapOnce : NodeRecord → Type 0
RemapOnce (NodeRecord.remap n ts) = TargetsOnce ts
RemapOnce (NodeRecord.scan t a x) = Unit {0}
RemapOnce (NodeRecord.values rs) = Unit {0}
RemapOnce (NodeRecord.join a b x o) = Unit {0}
RemapOnce (NodeRecord.filter n x) = Unit {0}
RemapOnce (NodeRecord.aggregate n gs fs) = Unit {0}
RemapOnce (NodeRecord.project n xs) = Unit {0}
RemapOnce (NodeRecord.order n xs) = Unit {0}
RemapOnce (NodeRecord.offset n k) = Unit {0}
RemapOnce (NodeRecord.limit n k) = Unit {0}

pub record Form (cs : List Cell) (p : Plan ℕ) : Type 0 where
  -- operands stand before their users, the left one before the right
  pub operands : (j i : ℕ) → j < length cs → Uses (cell_at cs j) i → i < j
  pub left-first : (j : ℕ) (o : Plain) (x y : ℕ) → cell_at cs j ≡ binary o x y → (x < y) × (y < j)
  -- the cells are those that the plan's numbers reach
  pub reached : (i : ℕ) → i < length cs → Reached cs (plan_expressions p) i
  pub only : (i : ℕ) → Reached cs (plan_expressions p) i → i < length cs
  -- sources stand before their users, and every node but the last is the source of one
  pub before : SourcesBefore 0 (plan_records p)
  pub once : SourcesOnce (plan_records p)
  pub remaps : All RemapOnce (plan_records p)
  -- column numbers are below the width of what they read, and a remap has an entry for each column of its source
  pub widths : PlanBounded (map_plan (tree (unfolded [] cs)) p)
  -- keys, and the positions of a map and of sets, lie inside their table
  pub positions : PositionsInside p
  pub names : All IsName (names_of p)

-- REMAPS
behind : (rs : List NodeRecord) (r : NodeRecord) → All RemapOnce rs → RemapOnce r → All RemapOnce (rs ++ (r ∷ []))
unfolding All
behind rs r h g = all_append _ rs _ h (g, tt)

module _ (Q : Value → Type 0) (N : Word → Type 0) (ts : Catalog) where
  node-remaps : (n : Node Built) (i k : ℕ) → NodeHas Q N ts n → All RemapOnce (records k (number_node i n))
  unfolding records number_node NodeHas All
  node-remaps (P.scan t a x) i k h = (tt, tt)
  node-remaps (P.values rs) i k h = (tt, tt)
  node-remaps (P.join a b x o) i k h =
      all_append _ (records k (number_node i a)) _ (node-remaps a i k h.0)
      (behind (records (k + nodes (number_node i a)) (number_node (i + cell_count a) b)) _
      (node-remaps b (i + cell_count a) (k + nodes (number_node i a)) h.1) tt)
  node-remaps (P.filter n x) i k h = behind (records k (number_node i n)) _ (node-remaps n i k h.0) tt
  node-remaps (P.aggregate n gs fs) i k h = behind (records k (number_node i n)) _ (node-remaps n i k h.0) tt
  node-remaps (P.project n xs) i k h = behind (records k (number_node i n)) _ (node-remaps n i k h.0) tt
  node-remaps (P.order n xs) i k h = behind (records k (number_node i n)) _ (node-remaps n i k h.0) tt
  node-remaps (P.offset n m) i k h = behind (records k (number_node i n)) _ (node-remaps n i k h.0) tt
  node-remaps (P.limit n m) i k h = behind (records k (number_node i n)) _ (node-remaps n i k h.0) tt
  node-remaps (P.remap n xs) i k h = behind (records k (number_node i n)) _ (node-remaps n i k h.0) h.2

  plan-remaps : (p : Plan Built) → PlanHas Q N ts p → All RemapOnce (plan_records (number_plan p))
  unfolding number_plan node_of plan_records node_records PlanHas All
  plan-remaps (P.select n) h = node-remaps n 0 0 h
  plan-remaps (P.delete t n) h = node-remaps n 0 0 h.1
  plan-remaps (P.insert t m n) h = node-remaps n 0 0 h.1
  plan-remaps (P.update t n xs) h = node-remaps n 0 0 h.1
  plan-remaps (P.create n k cs) h = tt
  plan-remaps (P.drop n y) h = tt

-- SOURCES
plan-before : (p : Plan ℕ) → SourcesBefore 0 (plan_records p)
unfolding node_of plan_records node_records SourcesBefore
plan-before (P.select n) = sources-before n 0
plan-before (P.delete t n) = sources-before n 0
plan-before (P.insert t m n) = sources-before n 0
plan-before (P.update t n xs) = sources-before n 0
plan-before (P.create n k cs) = tt
plan-before (P.drop n y) = tt

no-sources : SourcesOnce []
unfolding SourcesOnce
no-sources k h = absurd (omega arith)

plan-once : (p : Plan ℕ) → SourcesOnce (plan_records p)
unfolding node_of plan_records node_records
plan-once (P.select n) = sources-once n
plan-once (P.delete t n) = sources-once n
plan-once (P.insert t m n) = sources-once n
plan-once (P.update t n xs) = sources-once n
plan-once (P.create n k cs) = no-sources
plan-once (P.drop n y) = no-sources

-- POSITIONS AND NAMES, the same of a plan and of the numbered one
plan-positions : (p : Plan Built) → PositionsInside p → PositionsInside (number_plan p)
unfolding number_plan
plan-positions (P.select n) h = tt
plan-positions (P.delete t n) h = h
plan-positions (P.insert t m n) h = h
plan-positions (P.update t n xs) h = (h.0, second-kept (λ i. i < length t.columns) xs (cell_count n) h.1)
plan-positions (P.create n k cs) h = h
plan-positions (P.drop n y) h = tt

aliases-numbered : (i : ℕ) (xs : List (Built × Option Word))
    → words_of (λ x. given x.1) (number_first i xs) ≡ words_of (λ x. given x.1) xs
unfolding number_first words_of
aliases-numbered i [] = refl
aliases-numbered i (x ∷ xs) = ap (λ ws. given x.1 ++ ws) (aliases-numbered (i + built_count x.0) xs)

node-names : (n : Node Built) (i : ℕ) → node_names (number_node i n) ≡ node_names n
unfolding node_names number_node
node-names (P.scan t a x) i = refl
node-names (P.values rs) i = refl
node-names (P.join a b x o) i = rw (node-names a i, node-names b (i + cell_count a))
node-names (P.filter n x) i = node-names n i
node-names (P.aggregate n gs fs) i = node-names n i
node-names (P.project n xs) i = rw (node-names n i, aliases-numbered (i + cell_count n) xs)
node-names (P.order n xs) i = node-names n i
node-names (P.offset n k) i = node-names n i
node-names (P.limit n k) i = node-names n i
node-names (P.remap n ts) i = node-names n i

plan-names-numbered : (p : Plan Built) → names_of (number_plan p) ≡ names_of p
unfolding names_of plan_node_names table_words number_plan
plan-names-numbered (P.select n) = rw (node-names n 0)
plan-names-numbered (P.delete t n) = rw (node-names n 0)
plan-names-numbered (P.insert t m n) = rw (node-names n 0)
plan-names-numbered (P.update t n xs) = rw (node-names n 0)
plan-names-numbered (P.create n k cs) = refl
plan-names-numbered (P.drop n y) = refl

names-are : (p : Plan Built) → All IsName (plan_names p) → All IsName (names_of p)
unfolding names_of plan_words_by
names-are p h = all_append IsName (plan_node_names p) (table_words nothing p)
    (all_left IsName (plan_node_names p) _ h) (all_right IsName (words_of (built_words nothing) (plan_expressions p)) _ (all_right IsName (plan_node_names p) _ h))

-- THE WHOLE
pub plan-form : (c q : Bytes) (p : Plan Built) → plan_of c q ≡ ok p → Form (plan_cells p) (number_plan p)
plan-form c q p e =
    let ts = catalog-read c q p e in
    record {
      operands = operands-below p;
      left-first = left-before-right p;
      reached = reached-all p;
      only = reached-only p;
      before = plan-before (number_plan p);
      once = plan-once (number_plan p);
      remaps = plan-remaps Fits IsName ts.0 p (ensured (plan_of c q) _ (plan-proper c q ts.0 ts.1) p e);
      widths = rw (unfolds p) (plan-desugared p (ensured (plan_of c q) PlanBounded (plan-bounded c q) p e));
      positions = plan-positions p (ensured (plan_of c q) PositionsInside (positions-inside c q) p e);
      names = rw (plan-names-numbered p) (names-are p (ensured (plan_of c q) _ (plan-names c q) p e));
    }
