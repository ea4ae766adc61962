-- `join`: its two steps are the record of a join.
use Rattle.rules.specs.Area.{record_numbers, sized}
use Rattle.numbers.specs.Flags.{byte_flag}
use Rattle.plan.specs.Pushed.{pushed-on, pushed-as}
use Rattle.plan.proofs.nodes.join.Goals as goal

pub returns : goal.returns
unfolding record_numbers sized
returns c = pushed-as (rw (c.from.ensures, byte_flag c.args.outer, c.number_of.ensures))
    (pushed-on c.head.ensures c.extend.ensures)
