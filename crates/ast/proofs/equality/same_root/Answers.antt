-- `equality::same_root`, by the kind of the two rows.
use native.Mathlib.Omega.{arith}
use mathlib.Core.Path.{sym, ◌∙◌}
use mathlib.Core.Bool.{and-true, and-false}
use mathlib.Core.Logic.{⊎_elim}
use borrow.Author.Tests.{eqb-false, eq-eqb, ne_eqb}
use Rattle.numbers.proofs.OperatorCodes.{same-unary, same-binary}
use Rattle.ast.specs.Row.{number_of, row-literal}
use Rattle.std.proofs.lemmas.Bool.{not-true}
use Rattle.ast.proofs.KindNumbers.{same-kinds, both-kinds}
use Rattle.ast.proofs.Roots.{roots-apart, roots-column, roots-qualified, roots-call, roots-unary, roots-binary, roots-is, roots-literal, roots-star}
use Rattle.ast.proofs.equality.same_root.Goals as goal

pub returns-then-ne : goal.returns-then-ne
returns-then-ne c = sym (roots-apart _ _ _ _ _ (eqb-false _ _ (sym (same-kinds _ _ c.kind_of-kind.ensures c.kind_of.ensures) ∙ not-true _ (sym c.ne.ensures ∙ c.if-ne.true))))

pub returns-in-Star : goal.returns-in-Star
unfolding number_of
returns-in-Star c = let k = both-kinds _ _ c.kind_of-kind.ensures c.kind_of.ensures c.ne.ensures c.if-ne.false c.in-Star.is in
    sym (roots-star _ _ _ _ _ 1 k.0 k.1
    (λ e. omega (arith, e)) (λ e. omega (arith, e)) (λ e. omega (arith, e)) (λ e. omega (arith, e)) (λ e. omega (arith, e)) (λ e. omega (arith, e)) (λ e. omega (arith, e)))

pub returns-in-Column : goal.returns-in-Column
unfolding number_of
returns-in-Column c = let k = both-kinds _ _ c.kind_of-kind.ensures c.kind_of.ensures c.ne.ensures c.if-ne.false c.in-Column.is in
    cc (roots-column _ _ _ _ _ k.0 k.1)

pub returns-then-same_bytes : goal.returns-then-same_bytes
unfolding number_of
returns-then-same_bytes c = let k = both-kinds _ _ c.kind_of-kind.ensures c.kind_of.ensures c.ne.ensures c.if-ne.false c.in-Qualified.is in
    rw (
      roots-qualified _ _ _ _ _ k.0 k.1,
      ← c.qualifier.ensures.address,
      ← c.qualifier.ensures.length,
      ← c.qualifier-in-Qualified.ensures.address,
      ← c.qualifier-in-Qualified.ensures.length,
      ← c.same_bytes-in-Qualified.ensures,
      c.if-same_bytes.true,
    ) (cc)

pub returns-else-same_bytes : goal.returns-else-same_bytes
unfolding number_of
returns-else-same_bytes c = let k = both-kinds _ _ c.kind_of-kind.ensures c.kind_of.ensures c.ne.ensures c.if-ne.false c.in-Qualified.is in
    rw (
      roots-qualified _ _ _ _ _ k.0 k.1,
      ← c.qualifier.ensures.address,
      ← c.qualifier.ensures.length,
      ← c.qualifier-in-Qualified.ensures.address,
      ← c.qualifier-in-Qualified.ensures.length,
      ← c.same_bytes-in-Qualified.ensures,
      c.if-same_bytes.false,
    )

pub returns-then-arguments : goal.returns-then-arguments
unfolding number_of
returns-then-arguments c = let k = both-kinds _ _ c.kind_of-kind.ensures c.kind_of.ensures c.ne.ensures c.if-ne.false c.in-Call.is in
    rw (roots-call _ _ _ _ _ k.0 k.1, ← c.arguments.ensures, ← c.arguments-in-Call.ensures, eq-eqb _ _ c.if-arguments.true, and-true) cc

pub returns-else-arguments : goal.returns-else-arguments
unfolding number_of
returns-else-arguments c = let k = both-kinds _ _ c.kind_of-kind.ensures c.kind_of.ensures c.ne.ensures c.if-ne.false c.in-Call.is in
    rw (roots-call _ _ _ _ _ k.0 k.1, ← c.arguments.ensures, ← c.arguments-in-Call.ensures, ne_eqb c.arguments.result c.arguments-in-Call.result c.if-arguments.false, and-false)

pub returns-in-Unary : goal.returns-in-Unary
unfolding number_of
returns-in-Unary c = let k = both-kinds _ _ c.kind_of-kind.ensures c.kind_of.ensures c.ne.ensures c.if-ne.false c.in-Unary.is in
    cc (roots-unary _ _ _ _ _ k.0 k.1, same-unary c.unary_operator.result c.unary_operator-in-Unary.result)

pub returns-in-Binary : goal.returns-in-Binary
unfolding number_of
returns-in-Binary c = let k = both-kinds _ _ c.kind_of-kind.ensures c.kind_of.ensures c.ne.ensures c.if-ne.false c.in-Binary.is in
    cc (roots-binary _ _ _ _ _ k.0 k.1, same-binary c.binary_operator.result c.binary_operator-in-Binary.result)

pub returns-in-Is : goal.returns-in-Is
unfolding number_of
returns-in-Is c = ⊎_elim (λ e. let k = both-kinds _ _ c.kind_of-kind.ensures c.kind_of.ensures c.ne.ensures c.if-ne.false e in c.same_value.ensures ∙ rw (row-literal _ _ _ _ c.literal.ensures, row-literal _ _ _ _ c.literal-in-Is.ensures) (sym (roots-is _ _ _ _ _ k.0 k.1)))
    (λ e. let k = both-kinds _ _ c.kind_of-kind.ensures c.kind_of.ensures c.ne.ensures c.if-ne.false e in c.same_value.ensures ∙ rw (row-literal _ _ _ _ c.literal.ensures, row-literal _ _ _ _ c.literal-in-Is.ensures) (sym (roots-literal _ _ _ _ _ k.0 k.1))) c.in-Is.is
