-- Tables of words, each with a value beside it.
use Rattle.std.specs.Prelude.{ℕ, ◌≡◌, refl, Bool, true, false, List, [], ◌∷◌, map, Option, Some, None}
use Rattle.std.proofs.Common.{Bor, find, cond, ap, ◌∙◌}
use Rattle.std.specs.Option.{option_map}
use Rattle.std.proofs.Math.Option as rules
use Rattle.rules.specs.Lists.{Bytes, same, named}
use Rattle.numbers.specs.Options.{option_of}

-- the value beside the first entry of a word
unfoldable pub beside : {T : Type 0} → List (Bor (List ℕ) × T) → Bytes → Option T
beside [] w = None
beside (e ∷ es) w = elim (same e.0.now w) [ true ↦ Some e.1 | false ↦ beside es w ]

-- what is found by its word
module _ {T : Type 0} (w : Bytes) where
  abbrev holds : Bor (List ℕ) × T → Bool
  holds e = same e.0.now w

  abbrev value : Option (Bor (List ℕ) × T) → Option T
  value r = option_map (λ e. e.1) r

  pick : (b : Bool) (e : Bor (List ℕ) × T) (r : Option (Bor (List ℕ) × T)) {s : Option T}
      → value r ≡ s → value (cond b (Some e) r) ≡ elim b [ true ↦ Some e.1 | false ↦ s ]
  pick true e r h = refl
  pick false e r h = h

  beside-find : (es : List (Bor (List ℕ) × T)) → value (find holds es) ≡ beside es w
  unfolding beside
  beside-find [] = refl
  beside-find (e ∷ es) = pick (same e.0.now w) e (find holds es) (beside-find es)

  pub beside-some : (e : Bor (List ℕ) × T) (es : List (Bor (List ℕ) × T)) → Some e ≡ find holds es → Some e.1 ≡ beside es w
  beside-some e es h = ap value h ∙ beside-find es

  pub beside-none : (es : List (Bor (List ℕ) × T)) → None ≡ find holds es → None ≡ beside es w
  beside-none es h = ap value h ∙ beside-find es

-- a table of the rules with the same words, its values by f
pub beside-named : {T A : Type 0} (f : T → A) (w : Bytes) (es : List (Bor (List ℕ) × T))
    → option_of (option_map f (beside es w)) ≡ named (map (λ e. (e.0.now, f e.1)) es) w
unfolding beside named
beside-named f w [] = refl
beside-named {T} {A} f w (e ∷ es) = go (same e.0.now w) (beside-named f w es)
  where
    go : (b : Bool) → option_of (option_map f (beside es w)) ≡ named (map (λ e. (e.0.now, f e.1)) es) w
        → option_of (option_map f (elim b [ true ↦ Some e.1 | false ↦ beside es w ]))
        ≡ elim b [ true ↦ rules.some (f e.1) | false ↦ named (map (λ e. (e.0.now, f e.1)) es) w ]
    go true h = refl
    go false h = h
