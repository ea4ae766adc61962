-- A star that stands alone among the items.
use Rattle.std.specs.Prelude as std
use Rattle.std.specs.Prelude.{ℕ, ◌≡◌, false, length, get_or}
use Rattle.std.proofs.Common.{arith, ◌∙◌}
use Rattle.std.proofs.Math.Path.{refl, ap}
use mathlib.Core.List.{List, [], ◌∷◌, map}
use Rattle.rules.specs.Lists.{Bytes, is_some}
use Rattle.rules.specs.Items.{plain_star, is_lone}
use Rattle.numbers.specs.Options.{option_of}
use Rattle.build_projection.specs.Items.{item_of}
use Rattle.build_projection.specs.declared.items.Item as listed
use Rattle.build_projection.specs.declared.items.Item.TheVariants as I

some_of : (s : std.Option ℕ) → std.is_some s ≡ is_some (option_of s)
unfolding is_some
some_of std.None = refl
some_of (std.Some x) = refl

module _ (cells parts : List ℕ) where
  pub lone-not : (items : List listed.Item) → (length items ≡ 1 → ⊥) → (c q : Bytes)
      → false ≡ is_lone (map (item_of c q cells parts) items)
  unfolding is_lone
  lone-not [] h c q = refl
  lone-not (x ∷ []) h c q = absurd (h refl)
  lone-not (x ∷ (y ∷ r)) h c q = refl

  -- the only item
  pub lone-only : (s : std.Option ℕ) (items : List listed.Item) → length items ≡ 1
      → ((c q : Bytes) → option_of s ≡ plain_star (item_of c q cells parts (get_or items 0 (I.Entry 0)) ∷ []))
      → (c q : Bytes) → std.is_some s ≡ is_lone (map (item_of c q cells parts) items)
  unfolding is_lone
  lone-only s [] h t c q = absurd (omega (arith, h))
  lone-only s (x ∷ []) h t c q = some_of s ∙ ap is_some (t c q)
  lone-only s (x ∷ (y ∷ r)) h t c q = absurd (omega (arith, h))
