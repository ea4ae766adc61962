-- `default_at`: the default by the column's numbers.
use Rattle.std.proofs.Common.{refl, sym, ◌∙◌}
use Rattle.numbers.specs.Literals.{given_value, given-none, given-some}
use Rattle.schema.specs.Search.{default-there, default-missing}
use Rattle.schema.proofs.default_at.Goals as goal

pub returns-in_err-k : goal.returns-in_err-k
unfolding given_value
returns-in_err-k c = λ c' q. rw c.from_residual.ensures (default-missing _ c.args.i c.args.j c' q (sym c.in_err-k.was ∙ c.start_of.ensures.start))

pub returns-then-kind-eq0 : goal.returns-then-kind-eq0
returns-then-kind-eq0 c = λ c' q. given-none c' q _ _ _ c.if-kind-eq0.true
    ∙ default-there _ c.args.i c.args.j c' q (sym c.in_ok-k.was ∙ c.start_of.ensures.start) c.number-kind.ensures refl refl

pub returns : goal.returns
returns c = λ c' q. rw c.of_numbers.ensures (given-some c' q _ _ _ c.if-kind-eq0.false
    ∙ default-there _ c.args.i c.args.j c' q (sym c.in_ok-k.was ∙ c.start_of.ensures.start) c.number-kind.ensures c.number.ensures c.number-2.ensures)
