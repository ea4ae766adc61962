-- `planned::in_plan`: by the kind.
use native.Mathlib.Omega.{arith}
use Rattle.std.proofs.Common.{ℕ, [], ◌∷◌, sym, ap, ◌∙◌}
use Rattle.numbers.specs.Flags.{byte_flag}
use Rattle.numbers.specs.Values.{is_one}
use Rattle.numbers.specs.Literals.{kind_number, cell_of, literal-cell, numbers-kept}
use Rattle.literal.proofs.planned.in_plan.Goals as goal

pub returns-in-Null : goal.returns-in-Null
unfolding kind_number cell_of
returns-in-Null c = rw (literal-cell _ _ c.args.literal.first c.args.literal.second c.args.literal.kind (omega arith) (omega arith), c.in-Null.is)

pub returns-in-Bool : goal.returns-in-Bool
unfolding kind_number cell_of is_one
returns-in-Bool c = rw (literal-cell _ _ c.args.literal.first c.args.literal.second c.args.literal.kind (omega arith) (omega arith), c.in-Bool.is)
    (ap (λ (n : ℕ). 2 ∷ n ∷ 0 ∷ 0 ∷ []) (c.from.ensures ∙ byte_flag _))

pub returns-in-Int : goal.returns-in-Int
returns-in-Int c = sym (literal-cell _ _ c.args.literal.first c.args.literal.second c.args.literal.kind (omega arith) (omega arith) ∙ numbers-kept _ _ _ _ _ c.in-Int.is)

pub returns-in-Text : goal.returns-in-Text
unfolding kind_number cell_of
returns-in-Text c = rw (literal-cell _ _ c.args.literal.first c.args.literal.second c.args.literal.kind (omega arith) (omega arith), c.in-Text.is, c.length_at.ensures, c.of_literal.ensures)
