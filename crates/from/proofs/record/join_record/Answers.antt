-- `join_record`: two words, or none.
use Rattle.std.proofs.Common.{refl}
use Rattle.rules.specs.Lines.{bytes}
use Rattle.rules.specs.ReadStatement.{joins, predicates}
use Rattle.from.specs.Records.{join_number}
use Rattle.from.specs.Fields.{no_row, join-none, predicate-none, join-some}
use Rattle.from.proofs.record.join_record.Goals as goal

pub returns-in_err-kind : goal.returns-in_err-kind
unfolding joins join_number bytes
returns-in_err-kind c = λ t o q. rw c.from_residual.ensures (no_row (join-none _ _ _ refl c.beside.ensures c.in_err-kind.was))

pub returns-in_err-on : goal.returns-in_err-on
unfolding joins join_number predicates bytes
returns-in_err-on c = λ t o q. rw c.from_residual-in_err-on.ensures (no_row (predicate-none _ _ _ refl c.beside.ensures _ refl c.beside-2.ensures c.in_err-on.was))

pub returns : goal.returns
unfolding joins join_number predicates bytes
returns c = λ t o q. join-some _ _ _ refl c.beside.ensures _ refl c.beside-2.ensures t _ _ _ c.in_ok-kind.was c.in_ok-on.was
