-- The column that an expression is matched to: what was found, and a search that has come to the i-th column.
use Prim.Native.Nat.{ℕ, zero, suc, ◌+◌, ◌-◌, ◌<◌}
use native.Mathlib.Omega.{arith}
use Rattle.std.proofs.Common.{add-one, ◌∙◌}
use Rattle.std.specs.List.{position_from, position_or_len}
use Rattle.std.proofs.lemmas.Iterator.Adapters.{position_from-zero}
use Rattle.std.proofs.lemmas.Bool.{ne_eqb}
use Rattle.std.proofs.Math.Decide.{dec_lt}
use borrow.Author.Tests.{lt-ltb, le-ltb}
use Rattle.std.specs.Prelude.{◌≡◌, refl, cond, IfSome, ltb, Some, not, ◌&&◌, nat_eq, Bool, true, false, List, [], ◌∷◌, length}
use Rattle.std.specs.Prelude as std
use Rattle.std.proofs.Math.Path.{ap, sym}
use Rattle.std.proofs.Math.Option.{Option, some, none-ne-some}
use Rattle.rules.specs.Lists.{Bytes}
use Rattle.rules.specs.Ast.{Expr}
use Rattle.rules.specs.Equality.{equal}
use Rattle.rules.specs.Scope.{match_at, matched}
use Rattle.scope.specs.Scopes.{matches_of, scope_from}
use Rattle.numbers.specs.Options.{option_of}

-- whether a match is of an expression equal to x
abbrev pub is_match_of : (ℕ → Expr) → Expr → ℕ → Bool
is_match_of e x m = not (nat_eq m 0) && equal (e (m - 1)) x

-- the first of those from the i-th column on
pub match-position : (e : ℕ → Expr) (x : Expr) (i : ℕ) (ms : List ℕ)
    → option_of (position_from (is_match_of e x) i ms) ≡ match_at (matches_of e i ms) x
unfolding matches_of match_at
match-position e x i [] = refl
match-position e x i (zero ∷ ms) = rw (add-one i) (match-position e x (suc i) ms)
match-position e x i (suc r ∷ ms) =
    let z : nat_eq (suc r) 0 ≡ false = ne_eqb (suc r) 0 (λ h. omega (arith, h)) in
    let y : suc r - 1 ≡ r = omega arith in
    rw (z, y, add-one i) (go (equal (e r) x) (match-position e x (suc i) ms))
  where
    go : (b : Bool) → option_of (position_from (is_match_of e x) (suc i) ms) ≡ match_at (matches_of e (suc i) ms) x
        → option_of (cond b (Some i) (position_from (is_match_of e x) (suc i) ms))
        ≡ elim b [ true ↦ some i | false ↦ match_at (matches_of e (suc i) ms) x ]
    go true h = refl
    go false h = h

-- as `position` tells it
pub match-first : (e : ℕ → Expr) (x : Expr) (ms : List ℕ) {r : std.Option ℕ}
    → r ≡ cond (ltb (position_or_len (is_match_of e x) ms) (length ms)) (Some (position_or_len (is_match_of e x) ms)) std.None
    → option_of r ≡ match_at (matches_of e 0 ms) x
match-first e x ms g = ap option_of (g ∙ position_from-zero (is_match_of e x) ms) ∙ match-position e x 0 ms

-- below the number of matches
pub position-below : (a n : ℕ) {r : std.Option ℕ} → r ≡ cond (ltb a n) (Some a) std.None → IfSome r (λ i. i < n)
position-below a n e = elim (dec_lt a n) [
  | yes y ↦ rw (e, lt-ltb a n y) y
  | no y ↦ rw (e, le-ltb a n (omega (arith, y))) tt
]

-- what is matched in a scope
pub matched-from : (e : ℕ → Expr) (c q : Bytes) (xs ms ts : List ℕ) (h : ℕ) (x : Expr)
    → matched (scope_from e c q xs ms ts h) x ≡ match_at (matches_of e 0 ms) x
unfolding matched scope_from
matched-from e c q xs ms ts h x = refl

-- A COLUMN THAT IS MATCHED IS BELOW THE WIDTH
match-below : (e : ℕ → Expr) (x : Expr) (i j : ℕ) (ms : List ℕ) → match_at (matches_of e i ms) x ≡ some j
    → j < i + length ms
unfolding matches_of match_at
match-below e x i j [] h = absurd (none-ne-some j h)
match-below e x i j (zero ∷ ms) h = omega (arith, match-below e x (suc i) j ms h)
match-below e x i j (suc r ∷ ms) h = go (equal (e r) x) (match-below e x (suc i) j ms) h
  where
    go : (b : Bool) → (match_at (matches_of e (suc i) ms) x ≡ some j → j < suc i + length ms)
        → ◌≡◌ {A = Option ℕ} (elim b [ true ↦ some i | false ↦ match_at (matches_of e (suc i) ms) x ]) (some j)
        → j < i + suc (length ms)
    go true f g = let z : i ≡ j = cc in omega arith
    go false f g = omega (arith, f g)

pub matched-below : (e : ℕ → Expr) (x : Expr) (ms : List ℕ) {r : std.Option ℕ} (i : ℕ)
    → option_of r ≡ match_at (matches_of e 0 ms) x → r ≡ std.Some i → i < length ms
matched-below e x ms i h g = omega (arith, match-below e x 0 i ms (sym h ∙ ap option_of g))
