-- The fixed list replayed, case after case.
use Rattle.std.specs.Prelude.{ℕ, zero, suc, ◌+◌, ◌≤◌, ◌<◌, ◌≡◌, refl, Bool, true, false, ltb, length, Option, Some, None}
use Rattle.std.specs.Prelude.{Result, Ok, Err, IfSome}
use Rattle.std.specs.Int.{from_bool}
use Rattle.std.proofs.Common.{arith, sym, ap, ◌∙◌, lt-ltb, le-ltb}
use Rattle.std.proofs.lemmas.Option.{none-some}
use Rattle.rules.specs.Lists.{Bytes}
use Rattle.text.specs.Lines.{line-moves}
use Rattle.answer_list.specs.Records.{record_at, record-inside}
use Rattle.answer_list.specs.declared.Record.{Record}
use Rattle.replay.specs.Cases.{agrees, behind, case_of, case_at}
use Rattle.replay.specs.declared.Case.{Case}
use Rattle.replay.specs.declared.Damaged.{Damaged}
use Rattle.replay.specs.declared.Progress.{Progress}

-- a case is counted
unfoldable pub counted : Progress → Option Case → Option Progress
counted p None = None
counted p (Some k) = Some (record { at = k.next; cases = p.cases + 1; agree = p.agree + from_bool k.agrees })

-- as many cases as the list has, `fuel` at most; where one is damaged the replay ends
unfoldable pub steps : ℕ → Bytes → Progress → Result Progress Damaged
steps zero t p = Ok p
steps (suc fuel) t p = elim (ltb p.at (length t)) [
  | true ↦ elim (counted p (case_at t p.at)) [ Some q ↦ steps fuel t q | None ↦ Err (record { cases = p.cases }) ]
  | false ↦ Ok p
]

abbrev pub start : Progress
start = record { at = 0; cases = 0; agree = 0 }

-- THE WHOLE LIST: a case has a byte at least
unfoldable pub replayed : Bytes → Result Progress Damaged
replayed t = steps (length t) t start

-- A STEP
pub record Ready (t : Bytes) (p : Progress) : Type 0 where
  pub inside : p.at < length t
  pub cases : p.cases ≤ p.at
  pub agree : p.agree ≤ p.cases

pub record Moved (p q : Progress) : Type 0 where
  pub at : p.at < q.at
  pub cases : q.cases ≤ q.at
  pub agree : q.agree ≤ q.cases

pub record Stepped (t : Bytes) (p : Progress) (r : Option Progress) : Type 0 where
  pub is : r ≡ counted p (case_at t p.at)
  pub moved : IfSome r (λ q. Moved p q)

from_bool-le : (b : Bool) → from_bool b ≤ 1
from_bool-le true = omega arith
from_bool-le false = omega arith

-- a case that is not damaged ends behind its start
case-after : (t : Bytes) (p : ℕ) (k : Case) → p < length t → case_at t p ≡ Some k → p < k.next
unfolding case_at case_of
case-after t p k l e = go (record_at t p) refl e
  where
    go : (r : Option Record) → record_at t p ≡ r → case_of t r ≡ Some k → p < k.next
    go None i e = absurd (none-some k e)
    go (Some r) i e = ends (ltb r.answer 65536) e
      where
        ends : (b : Bool) → elim b [ true ↦ Some (record { agrees = agrees t r; next = behind r }) | false ↦ None ] ≡ Some k → p < k.next
        ends true e =
            let n : behind r ≡ k.next = cc in
            omega (arith, n, (record-inside t p r i).0, line-moves t p l)
        ends false e = absurd (none-some k e)

module _ (t : Bytes) (p : Progress) (h : Ready t p) where
  pub step-case : (k : Case) → case_at t p.at ≡ Some k
      → Stepped t p (Some (record { at = k.next; cases = p.cases + 1; agree = p.agree + from_bool k.agrees }))
  unfolding counted
  step-case k e =
      let l : p.at < k.next = case-after t p.at k h.inside e in
      record {
        is = sym (ap (counted p) e);
        moved = record { at = l; cases = omega (arith, l, h.cases); agree = omega (arith, h.agree, from_bool-le k.agrees) };
      }

  pub step-damaged : case_at t p.at ≡ None → Stepped t p None
  unfolding counted
  step-damaged e = record { is = sym (ap (counted p) e); moved = tt }

-- THE LOOP: the cases from here on end as the whole list does
pub record Replaying (t : Bytes) (p : Progress) : Type 0 where
  pub cases : p.cases ≤ p.at
  pub agree : p.agree ≤ p.cases
  pub fuel : ℕ
  pub enough : length t ≤ p.at + fuel
  pub is : steps fuel t p ≡ replayed t

pub replay-begin : (t : Bytes) → Replaying t start
unfolding replayed
replay-begin t = record { cases = omega arith; agree = omega arith; fuel = length t; enough = omega arith; is = refl }

pub replay-ready : (t : Bytes) (p : Progress) → Replaying t p → p.at < length t → Ready t p
replay-ready t p h l = record { inside = l; cases = h.cases; agree = h.agree }

module _ (t : Bytes) (p : Progress) (h : Replaying t p) (l : p.at < length t) {r : Option Progress} (s : Stepped t p r) where
  pub replay-more : (q : Progress) → r ≡ Some q → Replaying t q
  unfolding steps
  replay-more q m = go h.fuel h.enough h.is
    where
      moved : Moved p q
      moved = rw m at s.moved

      go : (f : ℕ) → length t ≤ p.at + f → steps f t p ≡ replayed t → Replaying t q
      go zero e i = absurd (omega arith)
      go (suc f) e i = record {
        cases = moved.cases;
        agree = moved.agree;
        fuel = f;
        enough = omega (arith, moved.at);
        is = sym (rw (steps, lt-ltb p.at (length t) l, ← s.is, m)) ∙ i;
      }

  pub replay-damaged : r ≡ None → Err (record { cases = p.cases }) ≡ replayed t
  unfolding steps
  replay-damaged m = go h.fuel h.enough h.is
    where
      go : (f : ℕ) → length t ≤ p.at + f → steps f t p ≡ replayed t → Err (record { cases = p.cases }) ≡ replayed t
      go zero e i = absurd (omega arith)
      go (suc f) e i = sym (rw (steps, lt-ltb p.at (length t) l, ← s.is, m)) ∙ i

pub replay-end : (t : Bytes) (p : Progress) → Replaying t p → length t ≤ p.at → Ok p ≡ replayed t
unfolding steps
replay-end t p h l = go h.fuel h.is
  where
    go : (f : ℕ) → steps f t p ≡ replayed t → Ok p ≡ replayed t
    go zero i = i
    go (suc f) i = sym (rw (steps, le-ltb p.at (length t) l)) ∙ i
