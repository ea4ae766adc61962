-- Loops over expressions paired with something behind or before: entries p so far, then an entry and the rest. `after_none` starts them.
use Rattle.std.specs.Prelude.{ℕ, ◌≡◌, List, [], ◌∷◌, ◌++◌}
use Rattle.rules.specs.Refusals.{Refusal, Answer, ok, refused}
use Rattle.rules.specs.Plan.{Built}
use Rattle.rules.specs.Cells.{Cell}
use Rattle.appends.specs.Lists.Each.{Entries, after, each_step, each-stop, each-done}
use Rattle.appends.specs.Lists.Kinds.{emit_firsts, emit_seconds}
use Rattle.appends.specs.Lists.Entry.{emit_first, emit_second}

module _ {A B : Type 0} (f : A → Answer (Built × B)) (p : Entries (ℕ × B)) where
  pub firsts-step : (a : A) (as' : List A) (xs : List Cell) (c : ℕ × B) (m : ℕ) → emit_first f p.2 a ≡ ok (xs, c, m)
      → after p (emit_firsts f p.2 (a ∷ as')) ≡ after (p.0 ++ xs, p.1 ++ (c ∷ []), m) (emit_firsts f m as')
  unfolding emit_firsts emit_first
  firsts-step a as' xs c m h = each_step (λ b. b.0) (λ b r. (r, b.1)) f p a as' xs c m h

  pub firsts-stop : (a : A) (as' : List A) (w : Refusal) → emit_first f p.2 a ≡ refused w
      → after p (emit_firsts f p.2 (a ∷ as')) ≡ refused w
  unfolding emit_firsts emit_first
  firsts-stop a as' w h = each-stop (λ b. b.0) (λ b r. (r, b.1)) f p a as' w h

  pub firsts-done : after p (emit_firsts f p.2 []) ≡ ok p
  unfolding emit_firsts
  firsts-done = each-done (λ b. b.0) (λ b r. (r, b.1)) f p

module _ {A B : Type 0} (f : A → Answer (B × Built)) (p : Entries (B × ℕ)) where
  pub seconds-step : (a : A) (as' : List A) (xs : List Cell) (c : B × ℕ) (m : ℕ) → emit_second f p.2 a ≡ ok (xs, c, m)
      → after p (emit_seconds f p.2 (a ∷ as')) ≡ after (p.0 ++ xs, p.1 ++ (c ∷ []), m) (emit_seconds f m as')
  unfolding emit_seconds emit_second
  seconds-step a as' xs c m h = each_step (λ b. b.1) (λ b r. (b.0, r)) f p a as' xs c m h

  pub seconds-stop : (a : A) (as' : List A) (w : Refusal) → emit_second f p.2 a ≡ refused w
      → after p (emit_seconds f p.2 (a ∷ as')) ≡ refused w
  unfolding emit_seconds emit_second
  seconds-stop a as' w h = each-stop (λ b. b.1) (λ b r. (b.0, r)) f p a as' w h

  pub seconds-done : after p (emit_seconds f p.2 []) ≡ ok p
  unfolding emit_seconds
  seconds-done = each-done (λ b. b.1) (λ b r. (b.0, r)) f p
