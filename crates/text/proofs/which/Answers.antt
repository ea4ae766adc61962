-- `which`: the words from here on, counted from those passed, give what all give.
use native.Mathlib.Omega.{arith}
use Rattle.std.proofs.Common.{sym, ◌∙◌, ap}
use Rattle.text.specs.Bytes.{stop-after, stop-most}
use Rattle.text.specs.Words.{find, words_of, search-hit, search-miss, search-end, search-begin}
use Rattle.text.proofs.which.Goals as goal

pub loop-i-init : goal.loop-i-init
loop-i-init c = (omega arith, search-begin _ _)

pub slice_bounds-equal-count : goal.slice_bounds-equal-count
slice_bounds-equal-count c = stop-after _ _ _ _ _ c.stop_at-e.ensures

pub slice_bounds-equal-start : goal.slice_bounds-equal-start
slice_bounds-equal-start c = stop-after _ _ _ _ _ c.stop_at-e.ensures

pub slice_bounds-equal-end : goal.slice_bounds-equal-end
slice_bounds-equal-end c = omega (arith, stop-most _ _ _ _ _ c.stop_at-e.ensures, c.loop-i-test.true)

pub returns-then-equal : goal.returns-then-equal
returns-then-equal c = search-hit _ _ _ _ _ c.loop-i-test.true c.stop_at-e.ensures c.loop-i.invariant.1 (sym c.equal.ensures ∙ c.if-equal.true) ∙ ap (find (words_of c.args.words.now)) c.part-x.ensures

pub overflow_add-i : goal.overflow_add-i
overflow_add-i c = omega (arith, stop-most _ _ _ _ _ c.stop_at-e.ensures, c.loop-i-test.true)

pub loop-i-smaller : goal.loop-i-smaller
loop-i-smaller c = omega (arith, stop-after _ _ _ _ _ c.stop_at-e.ensures, c.loop-i-test.true)

pub loop-i-preserved : goal.loop-i-preserved
loop-i-preserved c = (omega (arith, stop-after _ _ _ _ _ c.stop_at-e.ensures, c.loop-i.invariant.0), search-miss _ _ _ _ _ c.loop-i-test.true c.stop_at-e.ensures c.loop-i.invariant.1 (sym c.equal.ensures ∙ c.if-equal.false))

pub returns : goal.returns
returns c = search-end _ _ _ _ c.loop-i-test.false c.loop-i.invariant.1 ∙ ap (find (words_of c.args.words.now)) c.part-x.ensures
