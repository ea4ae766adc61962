-- `print`: a window more is written, and there may be more.
use Rattle.std.proofs.Common.{◌≡◌, ℕ, ◌+◌, ◌*◌, List, Bool, true, take, drop, arith, sym, ap, ◌∙◌, subst}
use Rattle.std.specs.Prelude.{Option}
use Rattle.std.specs.Io.KnownBytes.{Appends}
use Rattle.std.proofs.KnownBytes.{Appends-trans}
use lib.Seq.{take-add}
use Rattle.query_plan.specs.Written.{window_of}
use Rattle.query_plan.proofs.print.Goals as goal

a_window_more : (a b d : Option (List ℕ)) (k : ℕ) (xs : List ℕ) (m : Bool) → m ≡ true
    → Appends a b (take (k * 65536) xs) → Appends b d (window_of m (drop (k * 65536) xs)) → Appends a d (take ((k + 1) * 65536) xs)
a_window_more a b d k xs m e h f =
    let s : (k + 1) * 65536 ≡ k * 65536 + 65536 = omega arith in
    let g : Appends b d (take 65536 (drop (k * 65536) xs)) = rw e at f in
    subst (Appends a d) (sym (ap (λ i. take i xs) s ∙ take-add (k * 65536) 65536 xs))
    (Appends-trans a b d (take (k * 65536) xs) (take 65536 (drop (k * 65536) xs)) h g)

pub loop-k-preserved : goal.loop-k-preserved
loop-k-preserved g c = a_window_more _ _ _ _ _ _ c.if-not-branch.false c.loop-k.invariant c.in_ok-print_window.ensures
