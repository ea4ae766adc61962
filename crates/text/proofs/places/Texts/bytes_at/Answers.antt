-- `bytes_at`: the text by the address.
use mathlib.Core.Path.{sym, ◌∙◌}
use Rattle.text.specs.Places.{bytes-catalog, bytes-statement}
use Rattle.text.proofs.places.Texts.bytes_at.Goals as goal

pub returns-then-place-lt-MOST_BYTES : goal.returns-then-place-lt-MOST_BYTES
returns-then-place-lt-MOST_BYTES c = c.part.ensures ∙ sym (bytes-catalog _ _ _ _ c.if-place-lt-MOST_BYTES.true)

pub returns : goal.returns
returns c = c.part-2.ensures ∙ sym (bytes-statement _ _ _ _ c.if-place-lt-MOST_BYTES.false)
