-- `value::comparison::compare` meets its contract.
use Rattle.std.proofs.Common.{rules, arith, Option, Some, sym, ap, ◌∙◌}
use lib.Ieee.{binary64, of_int}
use Rattle.std.specs.Ordering.{int_cmp}
use Rattle.std.specs.declared.cmp.Ordering.{Ordering}
use Rattle.rules.specs.Arithmetic.{rounded}
use Rattle.rules.specs.Comparison.{compare, Compared, ordered, order_floats}
use Rattle.rules.specs.Lists.{Bytes}
use Rattle.ints.proofs.Signed.{read-mag}
use Rattle.value.specs.Operands.{compared_of, order_of}
use Rattle.value.specs.Values.{value_of}
use Rattle.value.specs.declared.Value.{Value}
use Rattle.value.proofs.Floats.{of-bits}
use Rattle.value.proofs.Orders.{bools, integers, floats, texts}
use Rattle.value.proofs.SameImage.{same-image2}
use Rattle.value.proofs.comparison.compare.Goals as goal

abbrev rule : Bytes → Bytes → Value → Value → Compared
rule t q a b = compare (value_of t q a) (value_of t q b)

pub returns-in-Bool-Bool : goal.returns-in-Bool-Bool
unfolding value_of compare compared_of
returns-in-Bool-Bool c = ap (λ (o : Ordering). ordered (order_of (Some o))) c.cmp.ensures ∙ ap ordered (bools _ _)
    ∙ same-image2 (rule c.args.texts.now.catalog.now c.args.texts.now.statement.now) c.in-Bool-Bool.is-0 c.in-Bool-Bool.is-1

pub returns-in-Int-Int : goal.returns-in-Int-Int
unfolding value_of compare compared_of
returns-in-Int-Int c = ap (λ (o : Ordering). ordered (order_of (Some o))) c.cmp-in-Int-Int.ensures
    ∙ (λ i. ordered (order_of (Some (int_cmp (read-mag c.in-Int-Int.x (omega arith) i) (read-mag c.in-Int-Int.y (omega arith) i)))))
    ∙ ap ordered (integers _ _) ∙ same-image2 (rule c.args.texts.now.catalog.now c.args.texts.now.statement.now) c.in-Int-Int.is-0 c.in-Int-Int.is-1

pub returns-in-Int-Float : goal.returns-in-Int-Float
unfolding value_of compare compared_of rounded
returns-in-Int-Float c = ap (λ (o : Option Ordering). ordered (order_of o)) c.partial_cmp.ensures ∙ ap ordered (floats _ _)
    ∙ (λ i. ordered (order_floats ((c.nearest_i64_to_f64-x.ensures ∙ ap (of_int binary64) (read-mag c.in-Int-Float.m (omega arith))) i)
    (sym (of-bits c.in-Int-Float.y (search rules)) i)))
    ∙ same-image2 (rule c.args.texts.now.catalog.now c.args.texts.now.statement.now) c.in-Int-Float.is-0 c.in-Int-Float.is-1

pub returns-in-Float-Int : goal.returns-in-Float-Int
unfolding value_of compare compared_of rounded
returns-in-Float-Int c = ap (λ (o : Option Ordering). ordered (order_of o)) c.partial_cmp-in-Float-Int.ensures ∙ ap ordered (floats _ _)
    ∙ (λ i. ordered (order_floats (sym (of-bits c.in-Float-Int.x (search rules)) i)
    ((c.nearest_i64_to_f64-y.ensures ∙ ap (of_int binary64) (read-mag c.in-Float-Int.n (omega arith))) i)))
    ∙ same-image2 (rule c.args.texts.now.catalog.now c.args.texts.now.statement.now) c.in-Float-Int.is-0 c.in-Float-Int.is-1

pub returns-in-Float-Float : goal.returns-in-Float-Float
unfolding value_of compare compared_of
returns-in-Float-Float c = ap (λ (o : Option Ordering). ordered (order_of o)) c.partial_cmp-in-Float-Float.ensures ∙ ap ordered (floats _ _)
    ∙ (λ i. ordered (order_floats (sym (of-bits c.in-Float-Float.x (search rules)) i) (sym (of-bits c.in-Float-Float.y (search rules)) i)))
    ∙ same-image2 (rule c.args.texts.now.catalog.now c.args.texts.now.statement.now) c.in-Float-Float.is-0 c.in-Float-Float.is-1

pub returns-in-Text-Text : goal.returns-in-Text-Text
unfolding value_of compare compared_of
returns-in-Text-Text c = ap (λ (o : Ordering). ordered (order_of (Some o))) c.order_texts.ensures ∙ ap ordered (texts _ _ _ _ _ _)
    ∙ same-image2 (rule c.args.texts.now.catalog.now c.args.texts.now.statement.now) c.in-Text-Text.is-0 c.in-Text-Text.is-1
