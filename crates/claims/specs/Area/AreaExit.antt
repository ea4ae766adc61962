-- The area at exit: after a refusal, and behind a plan.
use Rattle.std.specs.Prelude.{ℕ, ◌-◌, ◌≤◌, ◌<◌, ◌≡◌, List, length, drop, replicate}
use Rattle.std.proofs.Math.Seq.{drop-append_seam}
use Rattle.std.proofs.Common.{lt-ltb, le-ltb}
use Rattle.rules.specs.Refusals.{Refusal, refusal_number, Answer, ok, refused}
use Rattle.rules.specs.Limits.{least_area}
use Rattle.rules.specs.Lists.{Bytes}
use Rattle.rules.specs.Plan.{Built, Plan}
use Rattle.rules.specs.Area.{plan_numbers}
use Rattle.rules.specs.Entry.{entry, text_number, refused_area, outcome, plan}

-- An area that is too short is refused with 1, at the statement's line 0, and stays as it was.
pub untouched-when-short : (c q : Bytes) (a : List ℕ) → length a < least_area
    → plan c q a ≡ record { number = 1; text = 2; line = 0; count = 0; area = a }
unfolding plan outcome entry refused_area refusal_number text_number
untouched-when-short c q a h = rw (entry, lt-ltb (length a) least_area h) (rw (lt-ltb (length a) least_area h))

-- After any other refusal the area is all zero.
pub zero-after-refusal : (c q : Bytes) (a : List ℕ) (r : Refusal) → entry (length a) c q ≡ refused r
    → least_area ≤ length a
    → (plan c q a).area ≡ replicate (length a) 0
unfolding plan outcome refused_area
zero-after-refusal c q a r e h = rw (e, le-ltb (length a) least_area h)

-- Behind the numbers of a plan all is zero.
pub zero-behind-plan : (c q : Bytes) (a : List ℕ) (p : Plan Built) → entry (length a) c q ≡ ok p
    → drop (length (plan_numbers p)) (plan c q a).area ≡ replicate (length a - length (plan_numbers p)) 0
unfolding plan outcome
zero-behind-plan c q a p e = rw e (drop-append_seam (plan_numbers p) _)

-- What the area held is of no account: only its length is.
pub same_outcome : (c q : Bytes) (a b : List ℕ) → length a ≡ length b → least_area ≤ length a → plan c q a ≡ plan c q b
unfolding plan outcome refused_area
same_outcome c q a b e h = rw e (go (entry (length b) c q))
  where
    go : (m : Answer (Plan Built)) → outcome a m ≡ outcome b m
    go (ok p) = rw e
    go (refused r) = rw (e, le-ltb (length b) least_area (rw e at h)) (rw e)
