-- `ints::factorial` meets its contract: what is left of the product gives the whole.
use Rattle.ints.proofs.Products.{Left}
use Rattle.ints.proofs.factorial.Given as goal

abbrev pub invariant-loop-k : goal.invariant-loop-k
invariant-loop-k l = Left l.n l.k l.product
