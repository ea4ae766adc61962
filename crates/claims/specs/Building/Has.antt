-- Properties of values and of names, said of every one in a plan; its tables are the catalog's, and its numbers within what
-- they count.
use Rattle.std.specs.Prelude.{◌≤◌, ◌<◌, ◌≡◌, true, length, pos}
use Rattle.std.proofs.Math.Option.{some}
use Rattle.rules.specs.Lists.{map_option}
use Rattle.rules.specs.Lines.{Word}
use Rattle.rules.specs.Schema.{Value, int, Table, Catalog, get_table, named_by}
use Rattle.rules.specs.Plan.{Built, Node, Made, Plan, target_count}
use Rattle.rules.specs.Plan as P
use Rattle.rules.specs.BuildExpression.{is_null_or_nan}
use Rattle.claims.specs.Answers.{All, Given}
use Rattle.claims.specs.Form.Targets.{TargetsOnce}
use Rattle.claims.specs.Building.Positions.{Mapped}

-- a table that the catalog has under its name
abbrev pub InCatalog : Catalog → Table → Type 0
InCatalog ts t = map_option (named_by t.name) (get_table ts t.name.bytes) ≡ some t

module _ (Q : Value → Type 0) where
  -- an expression's constants have Q, and what `is` tests for is a null or a NaN
  unfoldable pub TreeHas : Built → Type 0
  TreeHas (P.constant v) = Q v
  TreeHas (P.column i) = Unit {0}
  TreeHas (P.unary o a) = TreeHas a
  TreeHas (P.binary o a b) = TreeHas a × TreeHas b
  TreeHas (P.is a v) = TreeHas a × (is_null_or_nan v ≡ true) × Q v

  -- a created column's default has Q, and its names N
  abbrev pub MadeHas : (Word → Type 0) → Made → Type 0
  MadeHas N c = Given Q c.default × N c.name × Given N c.reference

  module _ (N : Word → Type 0) (ts : Catalog) where
    -- A node's constants, offsets and limits have Q, and its names N; a scanned table is the catalog's, and a remap has no
    -- more targets than sources, each once.
    unfoldable pub NodeHas : Node Built → Type 0
    NodeHas (P.scan t a x) = InCatalog ts t × Given TreeHas x × Given N a × N t.name
    NodeHas (P.values rs) = All (All TreeHas) rs
    NodeHas (P.join a b x o) = NodeHas a × NodeHas b × Given TreeHas x
    NodeHas (P.filter n x) = NodeHas n × TreeHas x
    NodeHas (P.aggregate n gs fs) = NodeHas n × All TreeHas gs × All (λ f. TreeHas f.1) fs
    NodeHas (P.project n xs) = NodeHas n × All (λ x. TreeHas x.0 × Given N x.1) xs
    NodeHas (P.order n xs) = NodeHas n × All (λ x. TreeHas x.0) xs
    NodeHas (P.offset n k) = NodeHas n × Q (int (pos k))
    NodeHas (P.limit n k) = NodeHas n × Q (int (pos k))
    NodeHas (P.remap n xs) = NodeHas n × (target_count xs ≤ length xs) × TargetsOnce xs

    -- an insert's map takes positions of the table to positions of as many values, and a created table's key is one of its
    -- columns
    unfoldable pub PlanHas : Plan Built → Type 0
    PlanHas (P.select n) = NodeHas n
    PlanHas (P.delete t n) = InCatalog ts t × NodeHas n × N t.name
    PlanHas (P.insert t m n) = InCatalog ts t × NodeHas n × Given (Mapped (length t.columns)) m × N t.name
    PlanHas (P.update t n xs) = InCatalog ts t × NodeHas n × All (λ x. TreeHas x.1) xs × N t.name
    PlanHas (P.create n k cs) = (k < length cs) × All (MadeHas N) cs × N n
    PlanHas (P.drop n y) = N n
