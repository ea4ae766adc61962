-- `bytes`: as many as the loop has counted are put.
use Rattle.std.proofs.Common.{take}
use Rattle.listing.specs.Put.{Puts}
use Rattle.listing.proofs.put.Writer.bytes.Given as goal

abbrev pub invariant-loop-byte : goal.invariant-loop-byte
invariant-loop-byte l = Puts l.fn.self l.self (take l.byte-index l.bytes)
