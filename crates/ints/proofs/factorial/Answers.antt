-- `ints::factorial` meets its contract: what is left of the product gives the whole.
use Rattle.std.proofs.Common.{rules, arith, ◌+◌, ◌*◌, ◌∙◌}
use Rattle.numbers.specs.Reasons.{reason_of}
use Rattle.numbers.specs.declared.refusals.Reason.TheVariants as Re
use Rattle.ints.specs.Checked.{checked}
use Rattle.ints.proofs.Fitted.{of-conversion, taken, missed, exit}
use Rattle.ints.proofs.Products.{at-first, at-next, at-overflow, at-end}
use Rattle.ints.proofs.factorial.Goals as goal
use Rattle.ints.proofs.factorial.Goals.{else-loop-k-test, then-loop-k-test+in_ok-product+else-k-n}

pub loop-k-init : goal.loop-k-init
loop-k-init c = at-first c.args.n

pub returns-in_err-product : goal.returns-in_err-product
unfolding checked reason_of
returns-in_err-product c =
    rw (exit c.from_residual.result Re.IntegerOverflow c.checked_mul.result c.from_residual.ensures.1 c.in_err-product.ensures.value)
    (at-overflow c.args.n c.loop-k.k c.loop-k.product c.loop-k.auto.k c.loop-k-test.true c.loop-k.invariant
    (missed c.checked_mul.result _ c.checked_mul.ensures c.in_err-product.ensures.ok_part))

pub loop-k-preserved : goal.loop-k-preserved
loop-k-preserved c =
    rw (taken c.checked_mul.result _ c.checked_mul.ensures c.in_ok-product.ensures.ok_part)
    (at-next c.args.n c.loop-k.k c.loop-k.product c.loop-k.auto.k c.loop-k-test.true c.loop-k.invariant)

pub returns : goal.returns
returns c = of-conversion c.loop-k-test.product c.try_from.result c.map_err.result c.try_from.ensures c.map_err.ensures.cases (λ e d q. search rules)
    ∙ elim c.loop-k-test.branch [
      | else-loop-k-test w ↦ rw w.product-is (at-end c.args.n c.loop-k.k c.loop-k.product w.loop-k-test.false c.loop-k.invariant)
      | then-loop-k-test+in_ok-product+else-k-n w ↦ rw (w.product-is, taken w.checked_mul.result _ w.checked_mul.ensures w.in_ok-product.ensures.ok_part)
          (at-end c.args.n (c.loop-k.k + 1) (c.loop-k.product * c.loop-k.k) (omega arith) (at-next c.args.n c.loop-k.k c.loop-k.product c.loop-k.auto.k w.loop-k-test.true c.loop-k.invariant))
    ]
