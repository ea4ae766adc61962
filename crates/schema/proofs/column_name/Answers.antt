-- `column_name`: the name by the column's first two numbers.
use Rattle.std.proofs.Common.{rules, ◌≡◌, sym, ◌∙◌}
use Rattle.schema.specs.Search.{name-there, name-missing}
use Rattle.schema.proofs.column_name.Goals as goal

pub returns-in-None : goal.returns-in-None
returns-in-None c = λ c' q. let e : c.default.result ≡ record { address = 0; length = 0 } = search rules in rw e (name-missing _ c.args.i c.args.j c' q (sym c.in-None.is ∙ c.start_of.ensures.start))

pub returns-in-Some : goal.returns-in-Some
returns-in-Some c = λ c' q. rw c.at.ensures (name-there _ c.args.i c.args.j c' q (sym c.in-Some.is ∙ c.start_of.ensures.start))
