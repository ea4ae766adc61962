-- `default_value`: the four numbers of a default.
use Rattle.std.proofs.Math.Path.{refl}
use Rattle.std.proofs.Common.{ℕ, ◌+◌, length, sym, ap}
use Rattle.numbers.specs.Literals.{given}
use Rattle.plan.specs.Pushed.{pushed-as, pushed-sets}
use Rattle.plan.proofs.own.default_value.Goals as goal

pub returns : goal.returns
returns c = λ d e. pushed-as (sym e) (pushed-sets _ refl
    (ap (λ (n : ℕ). c.args.nodes.now.used + n) (sym (ap length (given c.args.default).is))) c.requires c.put_given.ensures)
