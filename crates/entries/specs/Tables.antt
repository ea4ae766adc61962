-- Tables of words whose values stand for the rules'.
use Rattle.std.specs.Prelude.{◌≡◌, ℕ, List, map, Option, Some, None}
use Rattle.std.specs.Option.{option_map}
use Rattle.std.proofs.Common.{Bor, refl, ap, ◌∙◌}
use Rattle.rules.specs.Lists.{Bytes, named, map_option}
use Rattle.numbers.specs.Options.{option_of}
use Rattle.text.specs.Beside.{beside, beside-named}

-- a table with the words of r, its values by f
pub named-by : {A T : Type 0} (f : T → A) (r : List (Bytes × A)) (es : List (Bor (List ℕ) × T)) (x : Bytes) → map (λ e. (e.0.now, f e.1)) es ≡ r
    → map_option f (option_of (beside es x)) ≡ named r x
unfolding map_option
named-by {A} {T} f r es x h = by_cases (beside es x) ∙ beside-named f x es ∙ ap (λ t. named t x) h
  where
    by_cases : (v : Option T) → map_option f (option_of v) ≡ option_of (option_map f v)
    by_cases (Some v) = refl
    by_cases None = refl

-- a table with the words and the values of r
pub named-same : {A : Type 0} (r : List (Bytes × A)) (es : List (Bor (List ℕ) × A)) (x : Bytes) → map (λ e. (e.0.now, e.1)) es ≡ r → option_of (beside es x) ≡ named r x
unfolding map_option
named-same {A} r es x h = by_cases (beside es x) ∙ named-by (λ v. v) r es x h
  where
    by_cases : (v : Option A) → option_of v ≡ map_option (λ v. v) (option_of v)
    by_cases (Some v) = refl
    by_cases None = refl
