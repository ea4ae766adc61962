-- Both texts read: the statement that is then built, or the refusal of a text.
use Rattle.std.specs.Prelude.{ℕ, ◌≤◌, ◌≡◌, refl, List, length, Result, Ok, Err}
use Rattle.std.proofs.Common.{◌∙◌}
use Rattle.rules.specs.Limits.{least_area}
use Rattle.rules.specs.Lists.{Bytes}
use Rattle.rules.specs.BuildStatement.{build_statement}
use Rattle.rules.specs.Refusals.{refusal_number}
use Rattle.rules.specs.Entry.{text_number, outcome}
use Rattle.schema.specs.Layout.{catalog_at}
use Rattle.statement.specs.Layout.{statement_at}
use Rattle.reader.specs.Reading.{TextsRead}
use Rattle.reader.specs.Within.{texts-accepted, texts-refused, select-stays}
use Rattle.numbers.specs.Reasons.{reason_of}
use Rattle.numbers.specs.Texts.{text_of}
use Rattle.reader.specs.declared.Contents.{Contents}
use Rattle.numbers.specs.declared.refusals.TextRefusal.{TextRefusal}
use Rattle.planner.specs.Outcomes.{built_of, reading-refused, reading-built, Answers, Refused, refused-answer}
use Rattle.planner.specs.Kinds.{StatementReady}
use Rattle.planner.specs.declared.Outcome.{Outcome}

module _ {c q : Bytes} {tables cells froms parts : List ℕ} {x : Result Contents TextRefusal}
    (h : TextsRead c q tables cells froms parts x) where
  pub statement-ready : (t : Contents) → x ≡ Ok t → StatementReady c q tables cells froms parts
  statement-ready t e =
      let g : TextsRead c q tables cells froms parts (Ok t) = rw e at h in
      record {
        within = (texts-accepted g).within;
        stay = λ z. select-stays g z;
      }

  pub statement-answer : (t : Contents) (area : List ℕ) {area' : List ℕ} {r : Outcome} → x ≡ Ok t
      → Answers (outcome area (build_statement (catalog_at c q tables) (statement_at c q cells froms parts))) r area'
      → Answers (outcome area (built_of c q)) r area'
  statement-answer t area {area'} {r} e a =
      let g : TextsRead c q tables cells froms parts (Ok t) = rw e at h in
      let z = reading-built c q _ (texts-accepted g).read in
      rw z a

  pub text-refused : (w : TextRefusal) (k t : ℕ) (area : List ℕ) {area' : List ℕ} {r : Outcome} → x ≡ Err w
      → k ≡ refusal_number (reason_of w.reason) → t ≡ text_number (text_of w.text)
      → least_area ≤ length area → Refused k t w.line area area' r → Answers (outcome area (built_of c q)) r area'
  text-refused w k t area e ek et m z =
      let g : TextsRead c q tables cells froms parts (Err w) = rw e at h in
      let f = texts-refused g in
      refused-answer area f.refusal (reading-refused c q f.refusal f.read) m refl (ek ∙ f.reason) (et ∙ f.text) f.line z
