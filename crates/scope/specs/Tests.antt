-- Whether one of several passes a test: std's word is the rules'.
use Rattle.std.specs.Prelude.{◌≡◌, refl, Bool, true, false, ◌||◌, List, [], ◌∷◌, map}
use Rattle.std.specs.List.{list_any}
use Rattle.rules.specs.Lists.{any}

any_step : (b : Bool) {x y : Bool} → x ≡ y → (b || x) ≡ elim b [ true ↦ true | false ↦ y ]
any_step true h = refl
any_step false h = h

module _ {A : Type 0} (p : A → Bool) where
  pub any-is : (xs : List A) → list_any p xs ≡ any p xs
  unfolding any
  any-is [] = refl
  any-is (x ∷ xs) = any_step (p x) (any-is xs)

  pub any-map : {B : Type 0} (q : B → Bool) (f : A → B) → ((x : A) → q (f x) ≡ p x) → (xs : List A)
      → list_any p xs ≡ any q (map f xs)
  unfolding any
  any-map q f h [] = refl
  any-map q f h (x ∷ xs) = rw (any, h x) (any_step (p x) (any-map q f h xs))
