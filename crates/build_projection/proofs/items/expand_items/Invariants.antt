-- `items::expand_items`: the numbers listed so far and the entries that are left stand for all items.
use Rattle.std.specs.Prelude.{◌≡◌}
use Rattle.build_projection.specs.Listing.{Listing}
use Rattle.build_projection.proofs.items.expand_items.Given as goal

abbrev pub invariant-loop-k : goal.invariant-loop-k
invariant-loop-k l = (l.listed.items.ghost_name ≡ l.initial.listed.items.ghost_name)
    × Listing l.initial.cells l.parts l.tables l.labels l.expand l.k l.listed.count l.listed.starred l.cells l.listed.items.now
