-- `Scope::project`: the labels before what else there was.
use Rattle.std.proofs.Common.{refl}
use Rattle.scope.specs.Copies.{overwritten}
use Rattle.scope.specs.Project.{projected}
use Rattle.scope.proofs.Scope.project.Goals as goal

pub returns : goal.returns
returns c = projected _ c.requires (overwritten c.overwrite.ensures) refl refl refl refl refl
