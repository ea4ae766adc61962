-- What the planner answered, as text: for what it made of two texts, the rules' listing of them.
use Rattle.std.specs.Prelude.{ℕ, ◌-◌, ◌≡◌, refl, true, false, List, eqb, length, replicate, Option, Result, Ok, Err}
use Rattle.std.proofs.Common.{sym, ap, ◌∙◌, eq-eqb, ne_eqb}
use Rattle.std.proofs.lemmas.Bool.{eqb-false}
use Rattle.rules.specs.Refusals.{refusal_number, Answer, ok, refused}
use Rattle.rules.specs.Limits.{least_area}
use Rattle.rules.specs.Lists.{Bytes}
use Rattle.rules.specs.Plan.{Built, Plan}
use Rattle.rules.specs.Area.{plan_numbers}
use Rattle.rules.specs.Entry.{text_number, entry, outcome, plan}
use Rattle.rules.specs.Print.{show_lines, show_answer}
use Rattle.rules.specs.Listing.{listing}
use Rattle.claims.specs.Area.Accepted.{accepted}
use Rattle.listing.specs.Own.{show_area}
use Rattle.listing.specs.Shown.{accepted-shown}
use Rattle.listing.specs.Listed.{Holds, refusal_line, refusal-shown}
use Rattle.numbers.specs.Reasons.{reason_of}
use Rattle.numbers.specs.Texts.{text_of}
use Rattle.numbers.specs.declared.refusals.TextRefusal.{TextRefusal}
use Rattle.planner.specs.Outcomes.{told, Answers}
use Rattle.planner.specs.declared.Outcome.{Outcome}
use Rattle.plan_listing.specs.Numbers.{not-zero}

-- the listing of the area, or the line of the refusal
unfoldable pub shown : Bytes → Bytes → Outcome → List ℕ → Bytes
shown c q o area = elim (eqb o.number 0) [
  | true ↦ show_area c q area
  | false ↦ show_lines (refusal_line o.number o.text o.line)
]

pub shown-plan : (c q : Bytes) (o : Outcome) (area : List ℕ) → o.number ≡ 0 → show_area c q area ≡ shown c q o area
unfolding shown
shown-plan c q o area e = sym (rw (shown, eq-eqb o.number 0 e))

pub shown-refusal : (c q : Bytes) (o : Outcome) (area : List ℕ) → (o.number ≡ 0 → ⊥)
    → show_lines (refusal_line o.number o.text o.line) ≡ shown c q o area
unfolding shown
shown-refusal c q o area h = sym (rw (shown, ne_eqb o.number 0 h))

-- what came of planning, as C reads it, is shown so
module _ (c q : Bytes) (area : List ℕ) {x : Result ℕ TextRefusal} where
  pub shown-planned : {n : ℕ} → x ≡ Ok n → show_area c q area ≡ shown c q (told x) area
  unfolding told
  shown-planned {n} e = rw e (shown-plan c q (told (Ok n)) area refl)

  pub shown-refused : {w : TextRefusal} → x ≡ Err w
      → show_lines (refusal_line (refusal_number (reason_of w.reason)) (text_number (text_of w.text)) w.line) ≡ shown c q (told x) area
  unfolding told
  shown-refused {w} e = rw e (shown-refusal c q (told (Err w)) area (eqb-false (refusal_number (reason_of w.reason)) 0 (not-zero (reason_of w.reason))))

-- what the planner answers is shown as the rules' answer is
answer-shown : (c q : Bytes) (a : List ℕ) (x : Answer (Plan Built)) (o : Outcome) (area : List ℕ) → entry (length a) c q ≡ x
    → Answers (outcome a x) o area → shown c q o area ≡ show_answer x
unfolding shown outcome show_answer
answer-shown c q a (ok p) o area e h =
    let f = accepted (length a) c q p e in
    sym (shown-plan c q o area h.number)
    ∙ (ap (show_area c q) h.area-is
    ∙ accepted-shown c q p (replicate (length a - length (plan_numbers p)) 0) f.catalog f.planned)
answer-shown c q a (refused w) o area e h =
    let n : o.number ≡ 0 → ⊥ = λ z. eqb-false (refusal_number w.reason) 0 (not-zero w.reason) (sym h.number ∙ z) in
    sym (shown-refusal c q o area n)
    ∙ (ap (λ i. show_lines (refusal_line i o.text o.line)) h.number
    ∙ (ap (λ i. show_lines (refusal_line (refusal_number w.reason) i o.line)) h.text
    ∙ (ap (λ i. show_lines (refusal_line (refusal_number w.reason) (text_number w.text) i)) h.line
    ∙ refusal-shown w)))

listed : (c q : Bytes) (n : ℕ) → n ≡ least_area → show_answer (entry n c q) ≡ listing c q
unfolding listing
listed c q n e = ap (λ i. show_answer (entry i c q)) e

-- the planner's outcome and area are shown as the rules' listing
pub planned-shown : (c q : Bytes) (a : List ℕ) {o : Outcome} {area : List ℕ} → length a ≡ least_area
    → Answers (plan c q a) o area → shown c q o area ≡ listing c q
unfolding plan
planned-shown c q a {o} {area} l h = answer-shown c q a (entry (length a) c q) o area refl h ∙ listed c q (length a) l

-- both texts listed from the start on: r tells how much of the listing the window has, and the area is the planner's
pub record Lists (c q : Bytes) (area area' out : List ℕ) (r : Option ℕ) : Type 0 where
  pub listed : Holds (listing c q) out r
  pub area-is : area' ≡ (plan c q area).area
