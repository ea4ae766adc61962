-- What the answers about a function's name mean.
use Rattle.std.specs.Prelude.{ℕ, ◌≡◌, refl, List, map, Option, Some, None, is_some}
use Rattle.std.specs.Option.{option_map}
use Rattle.std.proofs.Common.{Bor, arith, ap, ◌∙◌}
use Rattle.std.proofs.Math.Option as rules
use Rattle.rules.specs.Lists.{Bytes, named}
use Rattle.rules.specs.Lines.{bytes}
use Rattle.rules.specs.Lists.{is_some as rules_some}
use Rattle.rules.specs.BuildAggregate.{aggregates}
use Rattle.rules.specs.Plan as P
use Rattle.numbers.specs.Options.{option_of}
use Rattle.text.specs.Beside.{beside, beside-named}
use Rattle.text.specs.Words.{find, words_of, push, keys, nth, named_by, nth-none}
use Rattle.numbers.specs.Aggregates.{aggregate_of}
use Rattle.numbers.specs.declared.aggregates.Aggregate.{Aggregate}

unfoldable pub named_of : Option Aggregate → rules.Option P.Aggregate
named_of (Some a) = rules.some (aggregate_of a)
named_of None = rules.none

pub named-some : (o : Option Aggregate) → is_some o ≡ rules_some (named_of o)
unfolding named_of rules_some
named-some (Some a) = refl
named-some None = refl

-- by a table of their names
pub named-beside : (w : Bytes) (es : List (Bor (List ℕ) × Aggregate)) → map (λ e. (e.0.now, aggregate_of e.1)) es ≡ aggregates
    → named_of (beside es w) ≡ named aggregates w
unfolding named_of
named-beside w es h = by_cases (beside es w) ∙ beside-named aggregate_of w es ∙ ap (λ as'. named as' w) h
  where
    by_cases : (o : Option Aggregate) → named_of o ≡ option_of (option_map aggregate_of o)
    by_cases (Some a) = refl
    by_cases None = refl

-- the aggregate by the number of its name among the five
pub aggregate-named : (k : Bytes) (n : ℕ) → n ≡ find (words_of (bytes "avg count max min sum ")) k → named aggregates k ≡ nth aggregates n
unfolding aggregates keys words_of push bytes
aggregate-named k n h = named_by aggregates (bytes "avg count max min sum ") k n refl h

pub aggregate_not : (n : ℕ) → (n ≡ 0 → ⊥) → (n ≡ 1 → ⊥) → (n ≡ 2 → ⊥) → (n ≡ 3 → ⊥) → (n ≡ 4 → ⊥) → nth aggregates n ≡ rules.none
unfolding aggregates
aggregate_not n a b c d e = nth-none aggregates n (omega arith)
