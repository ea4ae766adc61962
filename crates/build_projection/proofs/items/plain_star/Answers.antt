-- `items::plain_star`: the first entry that is a star with no alias.
use Rattle.std.proofs.Common.{rules}
use native.Mathlib.Omega.{arith}
use Rattle.build_projection.specs.Items.{Plain, seek-first}
use Rattle.build_projection.proofs.FirstMapped.{first-mapped}
use Rattle.build_projection.proofs.items.plain_star.Goals as goal

pub returns : goal.returns
returns c = seek-first c.args.cells.now c.args.parts.now (omega arith) c.count-n.ensures c.find_map.result
    (first-mapped (Plain c.args.cells.now c.args.parts.now) (λ x o q k. search rules) _ _ c.find_map.ensures.runs)
