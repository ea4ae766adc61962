-- `clause::empty_clause`: one record, and the empty scope.
use Rattle.build_from.specs.Clause.{clause-none}
use Rattle.build_from.proofs.clause.empty_clause.Goals as goal

pub returns : goal.returns
returns c = λ b q ts cells area. clause-none b q ts cells area c.new.ensures c.requires.none c.empty_row.ensures
