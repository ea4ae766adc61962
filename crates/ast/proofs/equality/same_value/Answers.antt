-- `equality::same_value`, by the kinds of the two literals.
use native.Mathlib.Omega.{arith}
use mathlib.Core.Path.{sym, ◌∙◌}
use borrow.Author.Tests.{ne_eqb}
use denote.Enum.Bare.{differs_true, differs_false}
use Rattle.rules.specs.Places.{word_at}
use Rattle.rules.specs.Lists.{same}
use Rattle.rules.specs.Equality.{contents, same_value}
use Rattle.numbers.specs.Values.{is_one}
use Rattle.numbers.specs.Literals.{literal_of}
use Rattle.numbers.specs.contracts.literals.LiteralKind.{the_type}
use Rattle.ast.proofs.Literals.{values-apart, flags, low-differ, low_same}
use Rattle.ast.proofs.equality.same_value.Goals as goal

pub returns-then-ne : goal.returns-then-ne
returns-then-ne c = sym (values-apart _ _ _ _ _ _ _ _ (differs_true the_type _ _ (sym c.ne.ensures ∙ c.if-ne.true)))

pub returns-in-Null : goal.returns-in-Null
unfolding literal_of same_value contents same
returns-in-Null c = let k = sym (differs_false the_type tt _ _ (sym c.ne.ensures ∙ c.if-ne.false)) ∙ c.in-Null.is in
    rw (k, c.in-Null.is)

pub returns-in-Bool : goal.returns-in-Bool
unfolding literal_of is_one
returns-in-Bool c = let k = sym (differs_false the_type tt _ _ (sym c.ne.ensures ∙ c.if-ne.false)) ∙ c.in-Bool.is in
    rw (k, c.in-Bool.is) (sym (flags _ _))

pub returns-then-a-b : goal.returns-then-a-b
returns-then-a-b c = let k = differs_false the_type tt _ _ (sym c.ne.ensures ∙ c.if-ne.false) in
    rw (← k) (sym (low_same _ _ _ c.in-Int.is _ _ _ _ (omega arith) (omega arith) (omega arith) (omega arith) c.if-a-b.true))

pub returns-else-a-b : goal.returns-else-a-b
returns-else-a-b c = let k = differs_false the_type tt _ _ (sym c.ne.ensures ∙ c.if-ne.false) in
    rw (← k) (ne_eqb c.args.a.first c.args.b.first c.if-a-b.false
    ∙ sym (low-differ _ _ _ c.in-Int.is _ _ _ _ (omega arith) (omega arith) (omega arith) (omega arith) c.if-a-b.false))

pub returns-in-Text : goal.returns-in-Text
unfolding literal_of same_value contents same word_at
returns-in-Text c = let k = sym (differs_false the_type tt _ _ (sym c.ne.ensures ∙ c.if-ne.false)) ∙ c.in-Text.is in
    rw (k, c.in-Text.is) (rw (c.of_literal.ensures, c.of_literal-in-Text.ensures) at c.same_bytes.ensures)
