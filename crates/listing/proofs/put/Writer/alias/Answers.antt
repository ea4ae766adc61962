-- `alias`: by whether there is one.
use Rattle.std.proofs.Common.{refl}
use Rattle.rules.specs.Lines.{bytes}
use Rattle.listing.specs.Fields.{fields-same, fields-then, fields-none}
use Rattle.listing.specs.Places.{alias_of}
use Rattle.listing.proofs.put.Writer.alias.Goals as goal

pub returns-in-Some : goal.returns-in-Some
unfolding alias_of bytes
returns-in-Some c = rw c.in-Some.is (fields-same (fields-then c.field.ensures c.place.ensures) (λ d q. refl))

pub returns-in_default : goal.returns-in_default
unfolding alias_of
returns-in_default c = rw c.in_default.is fields-none
