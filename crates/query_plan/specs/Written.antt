-- What the program writes.
use Rattle.std.specs.Prelude.{ℕ, ◌≡◌, Bool, true, false, refl, [], ◌∷◌, ◌++◌, List, Result, Ok, Err, take, length, if◌then◌else◌, ◌==◌}
use Rattle.std.proofs.Common.{ap, ◌∙◌}
use Rattle.rules.specs.Refusals.{Text, catalog, statement, Answer, ok, refused}
use Rattle.rules.specs.Limits.{least_area}
use Rattle.rules.specs.Lists.{Bytes}
use Rattle.rules.specs.Plan.{Built, Plan}
use Rattle.rules.specs.Entry.{text_number, entry, outcome, plan}
use Rattle.lines.specs.Spans.{nth_line}
use Rattle.text.specs.Reading.{text_of}
use Rattle.numbers.specs.declared.refusals.Text as Tx
use Rattle.numbers.specs.declared.refusals.Text.TheVariants as T
use Rattle.numbers.specs.declared.refusals.TextRefusal.{TextRefusal}
use Rattle.numbers.specs.Reasons.{reason_of}
use Rattle.numbers.specs.Texts as code
use Rattle.planner.specs.Outcomes.{told, Answers}
use Rattle.planner.specs.declared.Outcome.{Outcome}
use Rattle.plan_listing.specs.Numbers.{not-zero}

-- as much as a window has of the bytes b: all of it, or 65,536 bytes, and there may be more
abbrev pub window_of : Bool → Bytes → Bytes
window_of true b = take 65536 b
window_of false b = b

-- a line with its LF; nothing of a line with no bytes
abbrev pub shown_line : Bytes → Bytes
shown_line [] = []
shown_line (x ∷ xs) = (x ∷ xs) ++ (10 ∷ [])

-- the record that an answer's numbers point at; nothing of a plan
abbrev pub shown_record : Bytes → Bytes → Outcome → Bytes
shown_record c q o = if o.number == 0 then [] else if o.text == 1 then shown_line (nth_line c o.line) else shown_line (nth_line q o.line)

-- a plan has none, and of a refusal it is the line in its text
module _ (c q : Bytes) {x : Result ℕ TextRefusal} where
  pub planned-record : {n : ℕ} → x ≡ Ok n → shown_record c q (told x) ≡ []
  unfolding told
  planned-record e = rw e refl

  pub refused-record : {w : TextRefusal} → x ≡ Err w
      → shown_record c q (told x) ≡ shown_line (nth_line (text_of (code.text_of w.text) c q) w.line)
  unfolding told code.text_of text_of text_number
  refused-record {w} e = rw (e, not-zero (reason_of w.reason)) (side w.text)
    where
      side : (y : Tx.Text) → (if text_number (code.text_of y) == 1 then shown_line (nth_line c w.line) else shown_line (nth_line q w.line))
          ≡ shown_line (nth_line (text_of (code.text_of y) c q) w.line)
      side T.Catalog = refl
      side T.Statement = refl

abbrev pub record_of : Bytes → Bytes → Answer (Plan Built) → Bytes
record_of c q (ok p) = []
record_of c q (refused r) = shown_line (nth_line (text_of r.text c q) r.line)

-- THE RECORD AT FAULT: where the rules refuse both texts, the line that their refusal points at
unfoldable pub fault_record : Bytes → Bytes → Bytes
fault_record c q = record_of c q (entry least_area c q)

-- the numbers of the rules' answer point at it
pub fault-shown : (c q a : List ℕ) {area : List ℕ} {o : Outcome} → Answers (plan c q a) o area → length a ≡ least_area
    → shown_record c q o ≡ fault_record c q
unfolding plan outcome fault_record text_number text_of
fault-shown c q a {area} {o} h l = go (entry (length a) c q) h.number h.text h.line ∙ ap (λ k. record_of c q (entry k c q)) l
  where
    side : (x : Text) → (if text_number x == 1 then shown_line (nth_line c o.line) else shown_line (nth_line q o.line)) ≡ shown_line (nth_line (text_of x c q) o.line)
    side catalog = refl
    side statement = refl

    go : (x : Answer (Plan Built)) → o.number ≡ (outcome a x).number → o.text ≡ (outcome a x).text → o.line ≡ (outcome a x).line
        → shown_record c q o ≡ record_of c q x
    go (ok p) n t i = rw n refl
    go (refused r) n t i = rw (n, not-zero r.reason, t) (side r.text ∙ ap (λ k. shown_line (nth_line (text_of r.text c q) k)) i)
