-- What the entry answers, and the area at exit: those of the rules.
use Rattle.std.specs.Prelude.{ℕ, ◌≤◌, ◌<◌, ◌≡◌, refl, List, length, replicate, Result, MatchResult, IsErrAnd, is_err, true, false, Ok, Err}
use Rattle.std.proofs.Common.{arith, sym, ap, ◌∙◌, lt-ltb}
use Rattle.std.proofs.lemmas.Bool.{false≢true}
use Rattle.std.proofs.lemmas.Result.{err_from_is_err_and}
use Rattle.rules.specs.Refusals.{refusal_number, Refusal, Answer, ok, refused, ◌>>=◌}
use Rattle.rules.specs.Limits.{least_area}
use Rattle.rules.specs.Lists.{Bytes}
use Rattle.rules.specs.Schema.{Catalog}
use Rattle.rules.specs.Ast.{Statement}
use Rattle.rules.specs.Plan.{Built, Plan}
use Rattle.rules.specs.BuildStatement.{build_statement}
use Rattle.rules.specs.Entry as rules
use Rattle.rules.specs.Entry.{text_number, refused_area, outcome, entry, plan}
use Rattle.claims.specs.Refused.Entry.{statement-refusals}
use Rattle.plan.specs.Exit.{refused-exit}
use Rattle.plan.specs.Emits.{Written}
use Rattle.numbers.specs.Reasons.{reason_of, noted, reason-named}
use Rattle.numbers.specs.declared.refusals.Refusal as code
use Rattle.reader.specs.Texts.{read_texts}
use Rattle.reader.specs.Entry.{planned, entry-reads}
use Rattle.numbers.specs.Texts.{text_of}
use Rattle.numbers.specs.declared.refusals.TextRefusal.{TextRefusal}
use Rattle.numbers.specs.declared.refusals.Text.TheVariants as T
use Rattle.build_statement.specs.Plans.{planned_of, Plans}
use Rattle.planner.specs.declared.Outcome.{Outcome}

-- r and the area at exit are those of o
pub record Answers (o : rules.Outcome) (r : Outcome) (area : List ℕ) : Type 0 where
  pub number : r.number ≡ o.number
  pub text : r.text ≡ o.text
  pub line : r.line ≡ o.line
  pub count : r.count ≡ o.count
  pub area-is : area ≡ o.area

-- what came of planning as C reads it: a plan's count, or a refusal
unfoldable pub told : Result ℕ TextRefusal → Outcome
told (Ok n) = record { number = 0; text = 0; line = 0; count = n }
told (Err w) = record { number = refusal_number (reason_of w.reason); text = text_number (text_of w.text); line = w.line; count = 0 }

-- the area behind planning: a refusal clears it
unfoldable pub cleared_by : Result ℕ TextRefusal → List ℕ → List ℕ
cleared_by (Ok n) area = area
cleared_by (Err w) area = replicate (length area) 0

-- A REFUSAL: the area is cleared
pub record Refused (number text line : ℕ) (area area' : List ℕ) (r : Outcome) : Type 0 where
  pub number_is : r.number ≡ number
  pub text-is : r.text ≡ text
  pub line-is : r.line ≡ line
  pub none : r.count ≡ 0
  pub zero : area' ≡ replicate (length area) 0

abbrev pub RefusedWith : TextRefusal → List ℕ → List ℕ → Outcome → Type 0
RefusedWith w = Refused (refusal_number (reason_of w.reason)) (text_number (text_of w.text)) w.line

pub refused-told : (w : TextRefusal) (area : List ℕ) → RefusedWith w area (cleared_by (Err w) area) (told (Err w))
unfolding told cleared_by
refused-told w area = record { number_is = refl; text-is = refl; line-is = refl; none = refl; zero = refl }

pub refused-answer : {a : Answer (Plan Built)} (area₀ : List ℕ) {x t l : ℕ} {area area' : List ℕ} {r : Outcome} (w : Refusal)
    → a ≡ refused w → least_area ≤ length area₀ → length area ≡ length area₀ → x ≡ refusal_number w.reason
    → t ≡ text_number w.text → l ≡ w.line → Refused x t l area area' r → Answers (outcome area₀ a) r area'
unfolding outcome
refused-answer area₀ w e m k fx ft fl h = rw e (record {
  number = h.number_is ∙ fx;
  text = h.text-is ∙ ft;
  line = h.line-is ∙ fl;
  count = h.none;
  area-is = h.zero ∙ ap (λ (i : ℕ). replicate i 0) k ∙ refused-exit w area₀ m;
})

-- A PLAN
built-done : (a : Answer (Plan Built)) (n : ℕ) → ◌≡◌ {A = Written} (Ok n) (planned_of a) → (p : Plan Built) × (a ≡ ok p)
unfolding planned_of
built-done (ok p) n e = (p, refl)
built-done (refused w) n e = grind arith

built-refused : (a : Answer (Plan Built)) (v : code.Refusal) → ◌≡◌ {A = Written} (Err v) (planned_of a)
    → (w : Refusal) × (a ≡ refused w)
unfolding planned_of
built-refused (ok p) v e = grind arith
built-refused (refused w) v e = (w, refl)

pub planned-answer : {a : Answer (Plan Built)} {area area' : List ℕ} {x : Written} {r : Outcome} (n : ℕ)
    → Plans a area area' x → x ≡ Ok n → r.number ≡ 0 → r.text ≡ 0 → r.line ≡ 0 → r.count ≡ n
    → Answers (outcome area a) r area'
unfolding outcome planned_of
planned-answer {a} {area} {area'} {x} {r} n h e en et el ec =
    let b = built-done a n (sym e ∙ h.answer) in
    let f : ◌≡◌ {A = Written} (Ok n) (planned_of (ok b.0)) = sym e ∙ h.answer ∙ ap planned_of b.1 in
    let z = h.exit b.0 b.1 in
    rw b.1 (record {
      number = en;
      text = et;
      line = el;
      count = ec ∙ cc;
      area-is = z ∙ ap (λ (y : Answer (Plan Built)). (outcome area y).area) b.1;
    })

-- a statement that is refused is so in its own text
pub building-refused : (ts : Catalog) (s : Statement) (area₀ : List ℕ) {area area' : List ℕ} {y : Written} {r : Outcome}
    (v : code.Refusal) (x : ℕ) → Plans (build_statement ts s) area₀ area y → y ≡ Err v → least_area ≤ length area₀
    → x ≡ refusal_number (reason_of v.reason) → Refused x 2 v.line area area' r → Answers (outcome area₀ (build_statement ts s)) r area'
unfolding planned_of text_number
building-refused ts s area₀ {y = y} v x h e m n z =
    let b = built-refused (build_statement ts s) v (sym e ∙ h.answer) in
    let w = b.0 in
    let f : ◌≡◌ {A = Written} (Err v) (Err (noted w)) = sym e ∙ h.answer ∙ ap planned_of b.1 in
    let u : v ≡ noted w = cc in
    let fx : x ≡ refusal_number w.reason =
    n ∙ ap (λ (y : code.Refusal). refusal_number (reason_of y.reason)) u ∙ ap refusal_number (reason-named w.reason) in
    let fl : v.line ≡ w.line = ap (λ (y : code.Refusal). y.line) u in
    let g = (statement-refusals ts s).refusal w b.1 in
    refused-answer area₀ w b.1 m h.kept fx (rw g.text) fl z

-- what is built of a statement, its refusal told as one of its text
pub building-answer : (ts : Catalog) (s : Statement) (area₀ : List ℕ) {area : List ℕ} (y : Written) (r : Result ℕ TextRefusal)
    {Q : code.Refusal → TextRefusal → Type 0} → Plans (build_statement ts s) area₀ area y → least_area ≤ length area₀
    → MatchResult y (λ n. r ≡ Ok n) (λ v. IsErrAnd r (Q v))
    → ((v : code.Refusal) (w : TextRefusal) → Q v w → w ≡ record { reason = v.reason; text = T.Statement; line = v.line })
    → Answers (outcome area₀ (build_statement ts s)) (told r) (cleared_by r area)
unfolding told cleared_by text_number text_of
building-answer ts s area₀ (Ok n) r h m c g = rw c (planned-answer n h refl refl refl refl refl)
building-answer ts s area₀ {area} (Err v) r h m c g =
    let w = err_from_is_err_and r c in
    let u : TextRefusal = record { reason = v.reason; text = T.Statement; line = v.line } in
    rw (w.1 ∙ ap Err (g v w.0 w.2)) (building-refused ts s area₀ v _ h refl m refl (refused-told u area))

-- cleared where it is refused
module _ {o : rules.Outcome} (r : Result ℕ TextRefusal) (area : List ℕ) (a : Answers o (told r) (cleared_by r area)) where
  pub answer-refused : {area' : List ℕ} → is_err r ≡ true → area' ≡ replicate (length area) 0 → Answers o (told r) area'
  unfolding cleared_by
  answer-refused {area'} h e = go r a h
    where
      go : (x : Result ℕ TextRefusal) → Answers o (told x) (cleared_by x area) → is_err x ≡ true → Answers o (told x) area'
      go (Ok n) b z = absurd (false≢true z)
      go (Err w) b z = rw e b

  pub answer-planned : is_err r ≡ false → Answers o (told r) area
  unfolding cleared_by
  answer-planned h = go r a h
    where
      go : (x : Result ℕ TextRefusal) → Answers o (told x) (cleared_by x area) → is_err x ≡ false → Answers o (told x) area
      go (Ok n) b z = b
      go (Err w) b z = absurd (false≢true (sym z))

-- BOTH TEXTS
-- what the entry gives where the area is long enough
abbrev pub built_of : Bytes → Bytes → Answer (Plan Built)
built_of c q = read_texts c q >>= planned

pub reading-refused : (c q : Bytes) (w : Refusal) → read_texts c q ≡ refused w → built_of c q ≡ refused w
unfolding ◌>>=◌
reading-refused c q w e = rw e

pub reading-built : (c q : Bytes) (x : Catalog × Statement) → read_texts c q ≡ ok x
    → built_of c q ≡ build_statement x.0 x.1
unfolding ◌>>=◌ planned
reading-built c q x e = rw e

-- THE ENTRY
pub entry-long : (c q : Bytes) (area : List ℕ) {r : Outcome} {area' : List ℕ} → least_area ≤ length area
    → Answers (outcome area (built_of c q)) r area' → Answers (plan c q area) r area'
unfolding plan
entry-long c q area h a = rw (entry-reads (length area) c q h) a

pub entry-short : (c q : Bytes) (area : List ℕ) {r : Outcome} → length area < least_area → r.number ≡ 1 → r.text ≡ 2
    → r.line ≡ 0 → r.count ≡ 0 → Answers (plan c q area) r area
unfolding plan entry outcome refused_area refusal_number text_number
entry-short c q area h n t l k = rw (entry, lt-ltb (length area) least_area h) (record {
  number = n;
  text = t;
  line = l;
  count = k;
  area-is = rw (lt-ltb (length area) least_area h);
})
