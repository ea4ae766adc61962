-- `print`: as many bytes of the listing are written as k windows have.
use Rattle.std.proofs.Common.{take, ◌*◌}
use Rattle.std.specs.Io.KnownBytes.{Appends}
use Rattle.rules.specs.Listing.{listing}
use Rattle.query_plan.proofs.print.Given as goal

abbrev pub invariant-loop-k : goal.invariant-loop-k
invariant-loop-k g l = Appends (g.W.Write.contents l.fn.to) (g.W.Write.contents l.to) (take (l.k * 65536) (listing l.texts.catalog.now l.texts.statement.now))
