-- `map::is_mapped`: among the columns.
use mathlib.Core.Path.{◌∙◌}
use Rattle.build_insert.specs.Map.{mapped-all}
use Rattle.build_insert.proofs.map.is_mapped.Goals as goal

pub returns : goal.returns
returns c = c.contains.ensures.value ∙ mapped-all c.args.column.0 c.args.columns.now
