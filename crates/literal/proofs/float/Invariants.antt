-- `float`: the digits from here on, behind the number so far, give what all give.
use Rattle.std.proofs.Common.{◌≡◌, ◌^◌, ◌<◌, drop}
use Rattle.rules.specs.Lines as lines
use Rattle.literal.proofs.float.Given as goal

abbrev pub invariant-loop-b : goal.invariant-loop-b
invariant-loop-b l = (l.v < 16 ^ l.b-index) × (lines.hex_digits l.v (drop l.b-index l.x) ≡ lines.hex_digits 0 l.x)
