-- `own::put_own`: the name, then the map.
use native.Mathlib.Omega.{arith}
use Rattle.rules.specs.Area.{option_number}
use Rattle.build_insert.specs.Own.{own-head-room, own-missing, own-small, own-mappings-room, own-mapped}
use Rattle.build_insert.proofs.own.put_own.Goals as goal

pub insert-requires : goal.insert-requires
unfolding option_number
insert-requires c = record { room = own-head-room _ c.requires c.args.name; columns = omega arith }

pub insert-requires-in-Some : goal.insert-requires-in-Some
unfolding option_number
insert-requires-in-Some c = record {
  room = own-head-room _ c.requires c.args.name;
  columns = own-small _ c.requires c.args.name _ (rw c.in-Some.is);
}

pub put_mappings-requires : goal.put_mappings-requires
put_mappings-requires c = record {
  few = omega (arith, own-small _ c.requires c.args.name c.in-Some.columns.now (rw c.in-Some.is));
  room = own-mappings-room _ c.requires c.args.name _ (rw c.in-Some.is) c.insert-in-Some.ensures;
}

pub returns-in-None : goal.returns-in-None
returns-in-None c = own-missing _ c.requires c.args.name (rw c.in-None.is) c.insert.ensures

pub returns-in-Some : goal.returns-in-Some
returns-in-Some c = own-mapped _ c.requires c.args.name _ (rw c.in-Some.is) c.insert-in-Some.ensures c.put_mappings.ensures

pub overflow_cast-columns : goal.overflow_cast-columns
overflow_cast-columns c = omega (arith, own-small _ c.requires c.args.name c.in-Some.columns.now (rw c.in-Some.is))
