-- `endings::may_end`: a label that ends in the catalog is held to its last byte.
use Rattle.scope.specs.Endings.{may-elsewhere, may_here}
use Rattle.scope.proofs.endings.may_end.Goals as goal

pub returns-then-ending-end : goal.returns-then-ending-end
returns-then-ending-end c = may-elsewhere _ _ c.args.x c.place-name.ensures.address c.place-name.ensures.length c.then-ending-end.either

pub returns : goal.returns
returns c = may_here _ _ c.args.x c.place-name.ensures.address c.place-name.ensures.length c.if-ending-end.false c.if-end-eq0.false
