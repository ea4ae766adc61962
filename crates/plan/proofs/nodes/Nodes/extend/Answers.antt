-- `extend`: the stores are the numbers pushed.
use native.Mathlib.Omega.{arith}
use Rattle.std.specs.Prelude.{length, ◌≡◌, refl}
use Rattle.plan.specs.Pushed.{pushed-sets}
use Rattle.plan.proofs.nodes.Nodes.extend.Goals as goal

pub returns : goal.returns
returns g c =
    let n : length c.args.numbers ≡ g.row.N = c.well_formed.1.0.1.0.1 in
    pushed-sets c.args.numbers refl (omega (arith, n)) (omega (arith, c.requires)) c.put.ensures
