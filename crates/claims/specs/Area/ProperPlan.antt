-- Every accepted plan is proper.
use Rattle.std.specs.Prelude.{◌≡◌}
use Rattle.rules.specs.Refusals.{ok}
use Rattle.rules.specs.Lists.{Bytes}
use Rattle.rules.specs.Schema.{Catalog}
use Rattle.rules.specs.ReadCatalog.{read_catalog}
use Rattle.rules.specs.Entry.{plan_of}
use Rattle.claims.specs.Answers.{Ensures}
use Rattle.claims.specs.Reading.Sound.{any-line}
use Rattle.claims.specs.Building.Statements.{planned}
use Rattle.claims.specs.Area.Proper.{ProperPlan}

-- the plan of two texts, over the catalog that is read
pub plan-proper : (c q : Bytes) (ts : Catalog) → read_catalog c ≡ ok ts → Ensures (plan_of c q) (ProperPlan ts)
plan-proper c q ts e = planned any-line any-line c q tt tt ts e
