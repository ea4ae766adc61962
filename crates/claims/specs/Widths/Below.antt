-- Every column number of a resolved expression is below the width of its scope.
use Rattle.std.specs.Prelude.{ℕ, suc, ◌+◌, ◌≤◌, ◌<◌, Bool, List, [], ◌∷◌, length}
use Rattle.std.proofs.Common.{arith}
use Rattle.std.proofs.Math.Option.{Option, none, some}
use Rattle.rules.specs.Lists.{any, positions, is_empty}
use Rattle.rules.specs.Lines.{Word}
use Rattle.rules.specs.Ast.{Expr}
use Rattle.rules.specs.Equality.{same_name, equal}
use Rattle.rules.specs.Plan.{Tree}
use Rattle.rules.specs.Plan as P
use Rattle.rules.specs.Scope.{Match, Scope, width, is_qualified, is_named, Found, at, missing, not_found, the_last, the_only}
use Rattle.rules.specs.Scope.{lookup_named, lookup, match_at, matched}
use Rattle.rules.specs.BuildExpression.{found, build}
use Rattle.claims.specs.Answers.{Ensures, refusing, All, Given}
use Rattle.claims.specs.Cases.{either_way}
use Rattle.claims.specs.Lists.{given-some}
use Rattle.claims.specs.Building.Built.{Steps, build-by}

-- every column number of an expression is below w
unfoldable pub Below : {O : Type 0} → ℕ → Tree O → Type 0
Below w (P.constant v) = Unit {0}
Below w (P.column i) = i < w
Below w (P.unary o a) = Below w a
Below w (P.binary o a b) = Below w a × Below w b
Below w (P.is a v) = Below w a

-- a found position is below w
unfoldable pub FoundBelow : ℕ → Found → Type 0
FoundBelow w (at i) = i < w
FoundBelow w (missing n) = Unit {0}

-- the positions of a list of matches are below w
unfoldable pub MatchesBelow : ℕ → List Match → Type 0
MatchesBelow w ms = All (λ (m : Match). m.column < w) ms

-- the positions of a scope's matches are below its width
unfoldable pub Sound : Scope → Type 0
Sound s = MatchesBelow (width s) s.aggregates

-- LOOKUP
positions-below : {A : Type 0} (t : A → Bool) (as' : List A) (i w : ℕ) → i + length as' ≤ w
    → All (λ j. j < w) (positions t i as')
unfolding All positions
positions-below t [] i w h = tt
positions-below t (a ∷ as') i w h =
    let r = positions-below t as' (suc i) w (omega arith) in
    either_way (All (λ j. j < w)) (t a) _ _ (omega arith, r) r

not_found-below : (s : Scope) (w : ℕ) → FoundBelow w (not_found s)
unfolding not_found FoundBelow
not_found-below s w = either_way (FoundBelow w) (is_empty s.aggregates) _ _ tt tt

the_only-below : (s : Scope) (w : ℕ) (is' : List ℕ) → All (λ j. j < w) is' → FoundBelow w (the_only s is')
unfolding the_only FoundBelow All
the_only-below s w [] h = not_found-below s w
the_only-below s w (i ∷ []) h = h.0
the_only-below s w (i ∷ (j ∷ r)) h = tt

the_last-below : (s : Scope) (w : ℕ) (is' : List ℕ) → All (λ j. j < w) is' → FoundBelow w (the_last s is')
unfolding the_last FoundBelow All
the_last-below s w [] h = not_found-below s w
the_last-below s w (i ∷ []) h = h.0
the_last-below s w (i ∷ (j ∷ r)) h = the_last-below s w (j ∷ r) h.1

lookup_named-below : (s : Scope) (t : Option Word) (n : Word) → FoundBelow (width s) (lookup_named s t n)
unfolding lookup_named FoundBelow width
lookup_named-below s none n =
    the_only-below s (width s) _ (positions-below (is_named n) s.columns 0 _ (omega arith))
lookup_named-below s (some t) n = either_way (FoundBelow (width s)) (any (same_name t) s.tables) _ _
    (the_last-below s (width s) _ (positions-below (is_qualified t n) s.columns 0 _ (omega arith))) tt

-- a column that is found stands below the scope's width
pub lookup-below : (s : Scope) (t : Option Word) (n : Word) → FoundBelow (width s) (lookup s t n)
unfolding lookup FoundBelow
lookup-below s t n = either_way (FoundBelow (width s)) (is_empty s.columns) _ _ tt (lookup_named-below s t n)

-- and so it is taken
pub found_below : (w l : ℕ) (f : Found) → FoundBelow w f → Ensures (found l f) (λ i. i < w)
unfolding found FoundBelow
found_below w l (at i) h = h
found_below w l (missing n) h = refusing n l _

-- MATCHES
match_at-below : (ms : List Match) (e : Expr) (w : ℕ) → MatchesBelow w ms → Given (λ i. i < w) (match_at ms e)
unfolding MatchesBelow All match_at Given
match_at-below [] e w h = tt
match_at-below (m ∷ ms) e w h =
    either_way (Given (λ i. i < w)) (equal m.expr e) _ _ h.0 (match_at-below ms e w h.1)

-- a match of a sound scope stands below its width
pub matched-below : (s : Scope) (e : Expr) → Sound s → Given (λ i. i < width s) (matched s e)
unfolding Sound matched
matched-below s e h = match_at-below s.aggregates e (width s) h

-- EXPRESSIONS
module _ (s : Scope) (sound : Sound s) where
  below_steps : Steps s (λ e x. Below (width s) x)
  unfolding Below FoundBelow
  below_steps = record {
    matches = λ e i u. given-some _ (matched s e) (matched-below s e sound) i u;
    columns = λ l q n i u f. rw f at (lookup-below s q n);
    literals = λ l v u. tt;
    roots = λ l n a x u e g. g;
    unaries = λ l o a x u g. g;
    binaries = λ l o a b x y u f g. (f, g);
    tests = λ l a v x u e g. g;
  }

  -- a resolved expression is below its scope's width
  pub build-below : (e : Expr) → Ensures (build s e) (Below (width s))
  build-below e = build-by below_steps e
