-- What a plan must satisfy to be read back from the area's numbers.
use Rattle.std.specs.Prelude.{◌<◌, ◌^◌, ◌≡◌, true, length}
use Rattle.std.proofs.Math.Option.{some}
use Rattle.std.specs.Int.Signed.{mag}
use Rattle.rules.specs.Lists.{Bytes, map_option}
use Rattle.rules.specs.Lines.{Word}
use Rattle.rules.specs.Schema.{Value, null, bool, int, float, text, Table, Catalog, get_table, named_by}
use Rattle.rules.specs.Plan.{Built, Made, Plan}
use Rattle.rules.specs.Plan as P
use Rattle.rules.specs.BuildExpression.{is_null_or_nan}
use Rattle.rules.specs.Cells.{Cell, constant, column, unary, binary, is, plan_cells, number_plan}
use Rattle.rules.specs.Nodes.{NodeRecord, scan, values, join, filter, aggregate, project, order, offset, limit, remap}
use Rattle.rules.specs.Nodes.{plan_records}
use Rattle.claims.specs.Answers.{All, Given}
use Rattle.claims.specs.Words.Places.{Placed}

-- integers within 64 bits, texts at their addresses
unfoldable pub ReadableValue : Bytes → Bytes → Value → Type 0
ReadableValue c q null = Unit {0}
ReadableValue c q (bool b) = Unit {0}
ReadableValue c q (int n) = mag n < 2 ^ 63
ReadableValue c q (float b) = Unit {0}
ReadableValue c q (text w) = Placed c q w

unfoldable pub ReadableCell : Bytes → Bytes → Cell → Type 0
ReadableCell c q (constant v) = ReadableValue c q v
ReadableCell c q (column i) = Unit {0}
ReadableCell c q (unary o a) = Unit {0}
ReadableCell c q (binary o a b) = Unit {0}
ReadableCell c q (is a v) = is_null_or_nan v ≡ true

-- an alias: at its address, and not empty
unfoldable pub ReadableAlias : Bytes → Bytes → Word → Type 0
ReadableAlias c q w = Placed c q w × (0 < length w.bytes)

-- a table: the catalog's of its name, which stands at its address
unfoldable pub ReadableTable : Bytes → Bytes → Catalog → Table → Type 0
ReadableTable c q ts t = (map_option (named_by t.name) (get_table ts t.name.bytes) ≡ some t) × Placed c q t.name

unfoldable pub ReadableRecord : Bytes → Bytes → Catalog → NodeRecord → Type 0
ReadableRecord c q ts (scan t a x) = ReadableTable c q ts t × Given (ReadableAlias c q) a
ReadableRecord c q ts (values rs) = Unit {0}
ReadableRecord c q ts (join a b x o) = Unit {0}
ReadableRecord c q ts (filter n x) = Unit {0}
ReadableRecord c q ts (aggregate n gs fs) = Unit {0}
ReadableRecord c q ts (project n xs) = All (λ x. Given (ReadableAlias c q) x.1) xs
ReadableRecord c q ts (order n xs) = Unit {0}
ReadableRecord c q ts (offset n k) = Unit {0}
ReadableRecord c q ts (limit n k) = Unit {0}
ReadableRecord c q ts (remap n xs) = Unit {0}

-- a created column: its names at their addresses, its default readable
unfoldable pub ReadableMade : Bytes → Bytes → Made → Type 0
ReadableMade c q m =
    Given (ReadableValue c q) m.default × Placed c q m.name × Given (ReadableAlias c q) m.reference

-- the statement's own parts
unfoldable pub ReadableOwn : {E : Type 0} → Bytes → Bytes → Catalog → Plan E → Type 0
ReadableOwn c q ts (P.select n) = Unit {0}
ReadableOwn c q ts (P.delete t n) = ReadableTable c q ts t
ReadableOwn c q ts (P.insert t m n) = ReadableTable c q ts t
ReadableOwn c q ts (P.update t n xs) = ReadableTable c q ts t
ReadableOwn c q ts (P.create n k cs) = Placed c q n × All (ReadableMade c q) cs
ReadableOwn c q ts (P.drop n y) = Placed c q n

-- a plan's cells, node records and own parts
pub record Readable (c q : Bytes) (ts : Catalog) (p : Plan Built) : Type 0 where
  pub cells : All (ReadableCell c q) (plan_cells p)
  pub nodes : All (ReadableRecord c q ts) (plan_records (number_plan p))
  pub own : ReadableOwn c q ts (number_plan p)
