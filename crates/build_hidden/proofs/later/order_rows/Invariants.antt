-- `later::order_rows`: the rows of the keys so far, and the keys that are left.
use Rattle.build_hidden.specs.Later.{KeysVisiting}
use Rattle.build_hidden.proofs.later.order_rows.Given as goal

abbrev pub invariant-loop-k : goal.invariant-loop-k
invariant-loop-k l = KeysVisiting l.cells l.parts l.initial.rows l.k l.rows
