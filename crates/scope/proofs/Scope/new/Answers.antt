-- `Scope::new`: no columns and no tables.
use Rattle.scope.specs.New.{new}
use Rattle.scope.proofs.Scope.new.Goals as goal

pub returns : goal.returns
returns c = new
