-- `insert::map_columns`: no columns, or the first.
use Rattle.build_insert.specs.Map.{map-of, map-of-none}
use Rattle.build_insert.proofs.insert.map_columns.Goals as goal

pub returns-in-None : goal.returns-in-None
returns-in-None c = map-of-none _ c.in-None.is

pub returns-in-Some : goal.returns-in-Some
returns-in-Some c = map-of _ _ c.in-Some.is c.requires
