-- Proper expressions, nodes and plans: constants within 64 bits, names of 1 to 64 bytes, tables of the catalog, numbers
-- within what they count.
use Rattle.rules.specs.Schema.{Catalog}
use Rattle.rules.specs.Plan.{Built, Node, Plan}
use Rattle.claims.specs.Values.Values.{Fits}
use Rattle.claims.specs.Reading.Sound.{IsName}
use Rattle.claims.specs.Building.Has.{TreeHas, NodeHas, PlanHas}

abbrev pub ProperTree : Built → Type 0
ProperTree x = TreeHas Fits x

abbrev pub ProperNode : Catalog → Node Built → Type 0
ProperNode ts n = NodeHas Fits IsName ts n

abbrev pub ProperPlan : Catalog → Plan Built → Type 0
ProperPlan ts p = PlanHas Fits IsName ts p
