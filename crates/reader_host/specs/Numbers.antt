-- What reading two texts answers, as six numbers.
use Rattle.std.specs.Prelude.{◌≡◌, length, Result, Ok, Err}
use Rattle.rules.specs.Refusals.{refusal_number, Answer, ok, refused}
use Rattle.rules.specs.Schema.{Catalog}
use Rattle.rules.specs.Ast.{Statement}
use Rattle.rules.specs.Sizes.{statement_size}
use Rattle.rules.specs.Entry.{text_number}
use Rattle.reader.specs.Texts.{kind_of}
use Rattle.reader.specs.Reading.{texts_of, kind-numbers}
use Rattle.numbers.specs.Texts.{text_of, text-named}
use Rattle.numbers.specs.Reasons.{reason_of, reason-named}
use Rattle.statement.specs.Kinds.{number_of}
use Rattle.reader.specs.declared.Contents.{Contents}
use Rattle.numbers.specs.declared.refusals.TextRefusal.{TextRefusal}
use Rattle.reader_host.specs.declared.Answer as Numbers

unfoldable pub answered : Result Contents TextRefusal → Numbers.Answer
answered (Ok t) = record { number = 0; text = 0; line = 0; kind = number_of t.kind; cells = t.cells; tables = t.tables }
answered (Err w) = record { number = refusal_number (reason_of w.reason); text = text_number (text_of w.text); line = w.line; kind = 0; cells = 0; tables = 0 }

-- document 01's number, text and line of a refusal, or the statement's kind and cells and the catalog's tables
unfoldable pub answer_of : Answer (Catalog × Statement) → Numbers.Answer
answer_of (ok x) = record { number = 0; text = 0; line = 0; kind = kind_of x.1; cells = statement_size x.1; tables = length x.0 }
answer_of (refused r) = record { number = refusal_number r.reason; text = text_number r.text; line = r.line; kind = 0; cells = 0; tables = 0 }

pub answered-told : (a : Answer (Catalog × Statement)) → answered (texts_of a) ≡ answer_of a
unfolding answered answer_of texts_of
answered-told (ok x) = rw (kind-numbers x.1)
answered-told (refused r) = rw (reason-named r.reason, text-named r.text)
