-- A word's bytes stand at its address in the two texts.
use Rattle.std.specs.Prelude.{◌≡◌, length}
use Rattle.rules.specs.Lists.{Bytes}
use Rattle.rules.specs.Lines.{Word}
use Rattle.rules.specs.Places.{bytes_at}

unfoldable pub Placed : Bytes → Bytes → Word → Type 0
Placed c q w = bytes_at c q w.start (length w.bytes) ≡ w.bytes
