-- What a step that may refuse appends: its answer and the cells, which compose step by step.
use Rattle.std.specs.Prelude.{ℕ, ◌+◌, ◌≡◌, refl, List, ◌++◌, length, take, Result, Ok, Err}
use Rattle.std.proofs.Common.{arith, sym, ap, ◌∙◌, append_assoc}
use Rattle.std.specs.Result.{IsErrAnd}
use Rattle.std.proofs.lemmas.Result.{err_from_is_err_and}
use Rattle.rules.specs.Refusals as R
use Rattle.rules.specs.Refusals.{Answer, ok, refused, refuse}
use Rattle.rules.specs.Cells.{Cell}
use Rattle.appends.specs.Answers.{ok-not-refused}
use Rattle.appends.specs.Area.{cells_numbers, cells-numbers-append}
use Rattle.plan.specs.Layout.{cells_end}
use Rattle.plan.specs.Cells.{Puts}
use Rattle.numbers.specs.Reasons.{named, noted}
use Rattle.numbers.specs.declared.refusals.Reason.{Reason}
use Rattle.numbers.specs.declared.refusals.Refusal.{Refusal}

-- what the exit of a `?` returns
pub exit : {T E : Type 0} (r : Result T E) {w : E} → IsErrAnd r (λ y. y ≡ w) → r ≡ Err w
exit r h = let p = err_from_is_err_and r h in p.1 ∙ ap Err p.2

-- an answer as the code has it: what f gives of the value, or the refusal
abbrev pub result_by : {A B : Type 0} → (A → B) → Answer A → Result B Refusal
result_by f (ok x) = Ok (f x)
result_by f (refused w) = Err (noted w)

-- cells and the next cell, or a refusal
abbrev pub Emitting : Type 0
Emitting = Answer (List Cell × ℕ)

-- the next cell, or the refusal
abbrev pub Written : Type 0
Written = Result ℕ Refusal

unfoldable pub written_of : Emitting → Written
written_of = result_by λ p. p.1

-- r is the answer a, whose cells stand from the n-th on where it is accepted; else the area's numbers are not determined
pub record Emits (a : Emitting) (n : ℕ) (area area' : List ℕ) (r : Written) : Type 0 where
  pub answer : r ≡ written_of a
  pub kept : length area' ≡ length area
  pub cells : (cs : List Cell) (m : ℕ) → a ≡ ok (cs, m)
      → take (cells_end m) area' ≡ take (cells_end n) area ++ cells_numbers cs

-- ONE STEP
-- accepted: its cells are appended
pub accepts : {a : Emitting} {n : ℕ} {cs : List Cell} {area area' : List ℕ} (m : ℕ) → Puts n cs area area'
    → n + length cs ≡ m → a ≡ ok (cs, m) → Emits a n area area' (Ok m)
unfolding written_of
accepts {a} {n} {cs} {area} {area'} m p e h = record {
  answer = sym (ap written_of h);
  kept = p.kept;
  cells = λ ds k g.
      let f : ◌≡◌ {A = List Cell × ℕ} (cs, m) (ds, k) = cc in
      let d : cs ≡ ds = ap (λ x. x.0) f in
      let j : m ≡ k = ap (λ x. x.1) f in
      rw (← d, ← j, ← e) p.cells;
}

-- refused
pub refuses : {a : Emitting} {n : ℕ} {area area' : List ℕ} (k : R.Reason) (l : ℕ) (x : Reason) (y : ℕ)
    → length area' ≡ length area → x ≡ named k → y ≡ l → a ≡ refuse k l
    → Emits a n area area' (Err (record { reason = x; line = y }))
unfolding written_of refuse
refuses {a} k l x y e f g h = record {
  answer = rw (f, g, h);
  kept = e;
  cells = λ ds m g. ok-not-refused _ _ (sym g ∙ h);
}

-- another answer that is the same
pub emits-same : {a b : Emitting} {n : ℕ} {area area' : List ℕ} {r : Written} → b ≡ a → Emits a n area area' r
    → Emits b n area area' r
emits-same e h = record {
  answer = h.answer ∙ sym (ap written_of e);
  kept = h.kept;
  cells = λ cs m g. h.cells cs m (sym e ∙ g);
}

-- ONE STEP BEHIND ANOTHER
-- cells in front of an answer's
unfoldable pub after : List Cell → Emitting → Emitting
after xs (ok q) = ok (xs ++ q.0, q.1)
after xs (refused w) = refused w

-- the first step's cells, then those of the second, which is given the next cell
unfoldable pub joined : Emitting → (ℕ → Emitting) → Emitting
joined (ok p) f = after p.0 (f p.1)
joined (refused w) f = refused w

-- what an accepted answer gave
pub record Accepted (a : Emitting) (m : ℕ) : Type 0 where
  pub cells : List Cell
  pub is : a ≡ ok (cells, m)

pub accepted : {a : Emitting} {n : ℕ} {area area' : List ℕ} {r : Written} (m : ℕ) → Emits a n area area' r
    → r ≡ Ok m → Accepted a m
unfolding written_of
accepted {a} {n} {area} {area'} {r} m h e = go a (sym e ∙ h.answer)
  where
    go : (a : Emitting) → ◌≡◌ {A = Written} (Ok m) (written_of a) → Accepted a m
    go (ok p) g =
        let k : p.1 ≡ m = cc in
        record { cells = p.0; is = ap (λ (j : ℕ). ok (p.0, j)) k }
    go (refused w) g = grind arith

-- a refusal ends the whole
pub stop : {a : Emitting} {n : ℕ} {area area' : List ℕ} {r : Written} (f : ℕ → Emitting) (w : Refusal)
    → Emits a n area area' r → r ≡ Err w → Emits (joined a f) n area area' (Err w)
unfolding written_of joined
stop {a} {n} {area} {area'} {r} f w h e = go a (rw e at h)
  where
    go : (a : Emitting) → Emits a n area area' (Err w) → Emits (joined a f) n area area' (Err w)
    go (ok p) g =
        let y : ◌≡◌ {A = Written} (Err w) (Ok p.1) = g.answer in
        grind arith
    go (refused v) g = g

-- and an accepted step goes on
pub next : {a : Emitting} {n : ℕ} {area area' area'' : List ℕ} {r r' : Written} (f : ℕ → Emitting) (m : ℕ)
    → Emits a n area area' r → r ≡ Ok m → Emits (f m) m area' area'' r' → Emits (joined a f) n area area'' r'
unfolding written_of joined after
next {a} {n} {area} {area'} {area''} {r} {r'} f m h e g =
    let d = accepted m h e in
    emits-same (ap (λ (b : Emitting). joined b f) d.is) (go (f m) d.cells (h.cells d.cells m d.is) g)
  where
    go : (b : Emitting) (xs : List Cell) → take (cells_end m) area' ≡ take (cells_end n) area ++ cells_numbers xs
        → Emits b m area' area'' r' → Emits (after xs b) n area area'' r'
    go (ok q) xs p g = record {
      answer = g.answer;
      kept = g.kept ∙ h.kept;
      cells = λ cs k j.
          let s : ◌≡◌ {A = List Cell × ℕ} (xs ++ q.0, q.1) (cs, k) = cc in
          let u : xs ++ q.0 ≡ cs = ap (λ x. x.0) s in
          let v : q.1 ≡ k = ap (λ x. x.1) s in
          rw (← u, ← v, cells-numbers-append xs q.0, g.cells q.0 q.1 refl, p, append_assoc);
    }
    go (refused w) xs p g = record {
      answer = g.answer;
      kept = g.kept ∙ h.kept;
      cells = λ cs k j. ok-not-refused _ _ (sym j);
    }
