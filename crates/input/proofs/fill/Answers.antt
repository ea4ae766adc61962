-- `fill`: each read puts the reader's next bytes behind those that are there.
use Rattle.std.proofs.Common.{◌≡◌, ℕ, ◌+◌, ◌≤◌, List, ◌++◌, length, take, drop, rules, arith, sym, ap, ◌∙◌, subst, drop_at, length-take-le, le_refl}
use Rattle.std.proofs.lemmas.Slice.{take-put_mid_below}
use Rattle.std.specs.Io.KnownBytes.{Consumes}
use Rattle.std.proofs.KnownBytes.{Consumes-trans}
use borrow.Rule.Slice.PartMut.{put_mid, post_of}
use lib.Seq.{take-add, take-append-le}
use Rattle.std.specs.declared.option.Option.{Option}
use Rattle.input.proofs.fill.Goals as goal

put_behind : (a k n : ℕ) (xs ys : List ℕ) → a ≤ length xs → n ≤ length ys → take (a + n) (put_mid a k xs ys) ≡ take a xs ++ take n ys
put_behind a k n xs ys h l =
    let after = post_of a k xs in
    take-add a n (put_mid a k xs ys)
    ∙ ap (λ z. z ++ take n (drop a (put_mid a k xs ys))) (take-put_mid_below a k xs ys a (le_refl a) h)
    ∙ ap (λ z. take a xs ++ z) (ap (take n) (drop_at (take a xs) (ys ++ after) a (length-take-le a xs h)) ∙ take-append-le n ys after l)

more : (a b d : Option (List ℕ)) (p k n : ℕ) (xs ys : List ℕ) → p ≤ length xs → n ≤ length ys
    → Consumes a b (take p xs) → Consumes b d (take n ys) → Consumes a d (take (p + n) (put_mid p k xs ys))
more a b d p k n xs ys h l e f = subst (Consumes a d) (sym (put_behind p k n xs ys h l)) (Consumes-trans a b d (take p xs) (take n ys) e f)

no_more : (a b d : Option (List ℕ)) (p k n : ℕ) (xs ys : List ℕ) → n ≡ 0 → p ≤ length xs → n ≤ length ys
    → Consumes a b (take p xs) → Consumes b d (take n ys) → Consumes a d (take p (put_mid p k xs ys))
no_more a b d p k n xs ys z h l e f =
    let s : p + n ≡ p = omega arith in
    subst (λ m. Consumes a d (take m (put_mid p k xs ys))) s (more a b d p k n xs ys h l e f)

pub loop-done-preserved : goal.loop-done-preserved
loop-done-preserved g c =
    (search rules, more _ _ _ _ _ _ _ _ c.loop-done.invariant.0 c.in_ok-n.ensures.bound.0 c.loop-done.invariant.1 c.in_ok-n.ensures.bytes.0)
