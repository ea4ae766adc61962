-- The line reader: where it stands at first and n lines on, and that the rules stand there too.
use Rattle.std.specs.Prelude.{ℕ, ◌+◌, ◌≡◌, List}
use Rattle.std.specs.Borrow.{Bor}
use Rattle.rules.specs.Refusals.{Text}
use Rattle.rules.specs.Reader.{Place, start}
use Rattle.text.specs.Reading.{place, place-start}
use Rattle.lines.specs.Spans.{lines_end, steps, steps-place}
use Rattle.lines.specs.declared.LineReader.{LineReader}

-- at a text's first line
abbrev pub at_start : Bor (List ℕ) → LineReader
at_start t = record { text = t; at = 0; line = 1 }

-- n lines on, the line counted on
abbrev pub lines_on : LineReader → ℕ → LineReader
lines_on r n = record { text = r.text; at = lines_end r.text.now r.at n; line = r.line + n }

-- where the rules' reading of a text stands
abbrev pub place_of : Text → LineReader → Place
place_of k r = place k r.text.now r.at r.line 0 0

-- The rules start where a new reader stands, and n of their steps lead where it stands n lines on.
pub start-place : (k : Text) (t : Bor (List ℕ)) → start k t.now ≡ place_of k (at_start t)
start-place k t = place-start k t.now

pub on-place : (k : Text) (r : LineReader) (n : ℕ) → steps n (place_of k r) ≡ place_of k (lines_on r n)
on-place k r n = steps-place k r.text.now n r.at r.line 0 0
