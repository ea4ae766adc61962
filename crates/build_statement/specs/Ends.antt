-- A whole statement's answer from its plan, or from its refusal; its name, and the room at its end.
use Rattle.std.specs.Prelude.{ℕ, ◌≤◌, ◌≡◌, List, [], length, get_or, Ok, Err}
use Rattle.std.proofs.Common.{arith, sym, ap, ◌∙◌}
use Rattle.rules.specs.Refusals.{Reason, Refusal, Answer, ok, refused, refuse}
use Rattle.rules.specs.Lists.{Bytes}
use Rattle.rules.specs.Places.{bytes_at, word_at}
use Rattle.rules.specs.Plan.{Built, Plan}
use Rattle.rules.specs.Cells.{Cell, plan_cells}
use Rattle.rules.specs.Nodes.{NodeRecord}
use Rattle.rules.specs.Area.{span, header, plan_numbers}
use Rattle.rules.specs.Entry.{outcome}
use Rattle.appends.specs.Answers.{ok-not-refused}
use Rattle.appends.specs.Area.{header_of, area_of}
use Rattle.text.specs.declared.places.Place.{Place}
use Rattle.plan.specs.Layout.{plan_size, most_plan_cells, nodes_size}
use Rattle.plan.specs.Pushed.{Kept, Pushed}
use Rattle.plan.specs.Places.{place_numbers}
use Rattle.plan.specs.declared.nodes.Nodes.{Nodes}
use Rattle.plan.specs.Emits.{Written}
use Rattle.plan.specs.Exit.{Pieces}
use Rattle.numbers.specs.Reasons.{named, noted}
use Rattle.numbers.specs.declared.refusals.Reason as code
use Rattle.build_statement.specs.Plans.{planned_of, Plans}
use Rattle.build_statement.specs.Kinds.{Free}

-- the numbers of a name at a place that is cut to its text
pub span-at : (c q : Bytes) (a n : ℕ) {p : Place} → p.address ≡ a → p.length ≡ length (bytes_at c q a n)
    → span (word_at c q a n) ≡ place_numbers p
unfolding span word_at
span-at c q a n g h = rw (g, h)

-- there is room for n cells, and for the own numbers that are pushed behind the nodes' numbers of t
pub finish-room : {area : List ℕ} {s t u : Nodes} {n : ℕ} {ws : List ℕ} → Free area s → Kept s t → Pushed ws t u
    → n ≤ most_plan_cells
    → (plan_size ≤ length area) × (n ≤ most_plan_cells) × (t.used ≤ u.used) × (u.used ≤ nodes_size)
    × (u.used ≤ length u.numbers.now)
finish-room f k p m =
    let a = p.appended in (
      omega (arith, f.area_room),
      m,
      omega (arith, a.next),
      omega (arith, a.fits, k.all, f.nodes_room),
      omega (arith, a.fits, a.all),
    )

-- with no node, the own numbers are the first
pub first-own : {ws : List ℕ} {k e : ℕ} {s t : List ℕ} → k ≡ 0 → Pieces [] [] ws 0 k e s t → Pieces [] [] ws 0 0 e s t
first-own z h = rw z at h

-- the header says how many cells a plan has
pub plan-count : (p : Plan Built) (c : ℕ) (cs : List Cell) (rs : List NodeRecord) (ws : List ℕ) (n m : ℕ)
    → plan_numbers p ≡ area_of c cs rs ws n m → length (plan_cells p) ≡ n
unfolding plan_numbers header area_of header_of
plan-count p c cs rs ws n m e = ap (λ (xs : List ℕ). get_or xs 2 0) e

pub planned : {a : Answer (Plan Built)} {n : ℕ} {area area' : List ℕ} (p : Plan Built) → a ≡ ok p
    → length (plan_cells p) ≡ n → length area' ≡ length area → area' ≡ (outcome area (ok p)).area
    → Plans a area area' (Ok n)
unfolding planned_of
planned {a} {n} {area} {area'} p e f l x = record {
  answer = ap Ok (sym f) ∙ sym (ap planned_of e);
  kept = l;
  exit = λ r g. x ∙ ap (λ (b : Answer (Plan Built)). (outcome area b).area) (sym e);
}

-- refused at a line
pub not-planned : {a : Answer (Plan Built)} {area area' : List ℕ} (k : Reason) (l : ℕ) (x : code.Reason) (y : ℕ)
    → length area' ≡ length area → x ≡ named k → y ≡ l → a ≡ refuse k l
    → Plans a area area' (Err (record { reason = x; line = y }))
unfolding planned_of refuse
not-planned k l x y e f g h = record {
  answer = rw (f, g, h);
  kept = e;
  exit = λ p j. ok-not-refused p _ (sym j ∙ h);
}

-- refused as a step of it was
pub refused-at : {a : Answer (Plan Built)} {area area' : List ℕ} {x : Written} (w : Refusal) → length area' ≡ length area
    → x ≡ Err (noted w) → a ≡ refused w → Plans a area area' x
unfolding planned_of
refused-at w l e h = record {
  answer = e ∙ sym (ap planned_of h);
  kept = l;
  exit = λ p j. ok-not-refused p w (sym j ∙ h);
}
