-- A column by its name: what was found, and a search that has come to the i-th label.
use Rattle.std.specs.Prelude.{ℕ, suc, ◌+◌, ◌<◌, ◌≡◌, Bool, true, false, List, [], ◌∷◌, length, Result, Ok, Err}
use Rattle.std.specs.Prelude as std
use Rattle.std.proofs.Common.{arith, ap, ◌∙◌}
use Rattle.std.proofs.Math.Option.{Option, none, some}
use Rattle.rules.specs.Refusals.{unknown_qualifier, unknown_column, constant_only, not_aggregated}
use Rattle.rules.specs.Lists.{Bytes, any, positions, is_empty}
use Rattle.rules.specs.Lines.{Word}
use Rattle.rules.specs.Ast.{Expr, star}
use Rattle.rules.specs.Equality.{same_name}
use Rattle.rules.specs.Places.{word_at}
use Rattle.rules.specs.Scope as rules
use Rattle.rules.specs.Scope.{at, missing, the_only, the_last, not_found, lookup_named, is_named, is_qualified}
use Rattle.scope.specs.Labels.{columns-length}
use Rattle.scope.specs.Scopes.{matches_of, scope_from}
use Rattle.numbers.specs.Reasons.{reason_of}
use Rattle.numbers.specs.declared.refusals.Reason.{Reason}
use Rattle.text.specs.declared.places.Place.{Place}

-- what was found, as the rules have it
unfoldable pub found_of : Result ℕ Reason → rules.Found
found_of (Ok i) = at i
found_of (Err reason) = missing (reason_of reason)

unfoldable pub qualifier_of : Bytes → Bytes → std.Option Place → Option Word
qualifier_of c q std.None = none
qualifier_of c q (std.Some p) = some (word_at c q p.address p.length)

-- a name looked up among the labels xs over the tables ts, to whose columns ms are matched
pub record Looked (c q : Bytes) (xs ms ts : List ℕ) (o : Option Word) (w : Word) (r : Result ℕ Reason) : Type 0 where
  pub is : (e : ℕ → Expr) (h : ℕ) → rules.lookup (scope_from e c q xs ms ts h) o w ≡ found_of r

-- what F makes of the positions ps in a scope of such matches
pub record Sought (F : rules.Scope → List ℕ → rules.Found) (ps ms : List ℕ) (r : Result ℕ Reason) : Type 0 where
  pub is : (s : rules.Scope) (e : ℕ → Expr) → s.aggregates ≡ matches_of e 0 ms → F s ps ≡ found_of r

-- AN ACCEPTED POSITION IS BELOW THE WIDTH
data Under (n : ℕ) : List ℕ → Type 0 where
  done : Under n []
  more : {j : ℕ} {ps : List ℕ} → j < n → Under n ps → Under n (j ∷ ps)

positions-under : {A : Type 0} (t : A → Bool) (i : ℕ) (xs : List A) → Under (i + length xs) (positions t i xs)
unfolding positions
positions-under t i [] = done
positions-under t i (x ∷ xs) =
    let e : i + suc (length xs) ≡ suc i + length xs = omega arith in
    go (t x) (rw e (positions-under t (suc i) xs))
  where
    go : (b : Bool) → Under (i + length (x ∷ xs)) (positions t (suc i) xs)
        → Under (i + length (x ∷ xs)) (elim b [ true ↦ i ∷ positions t (suc i) xs | false ↦ positions t (suc i) xs ])
    go true u = more {j = i} (omega arith) u
    go false u = u

not_found_lem : (s : rules.Scope) (i : ℕ) → not_found s ≡ at i → ⊥
unfolding not_found
not_found_lem s i = go (is_empty s.aggregates)
  where
    go : (b : Bool)
        → ◌≡◌ {A = rules.Found} (elim b [ true ↦ missing unknown_column | false ↦ missing not_aggregated ]) (at i)
        → ⊥
    go true e = grind arith
    go false e = grind arith

only_under : (s : rules.Scope) {n : ℕ} {ps : List ℕ} (i : ℕ) → Under n ps → the_only s ps ≡ at i → i < n
unfolding the_only
only_under s i done e = absurd (not_found_lem s i e)
only_under s i (more {j} h done) e = let z : j ≡ i = cc in omega arith
only_under s i (more h (more g u)) e = grind arith

last_under : (s : rules.Scope) {n : ℕ} {ps : List ℕ} (i : ℕ) → Under n ps → the_last s ps ≡ at i → i < n
unfolding the_last
last_under s i done e = absurd (not_found_lem s i e)
last_under s i (more {j} h done) e = let z : j ≡ i = cc in omega arith
last_under s i (more h (more g u)) e = last_under s i (more g u) e

named-below : (s : rules.Scope) (o : Option Word) (w : Word) (i : ℕ) → lookup_named s o w ≡ at i → i < rules.width s
unfolding lookup_named rules.width
named-below s none w i e = omega (arith, only_under s i (positions-under (is_named w) 0 s.columns) e)
named-below s (some t) w i e = go (any (same_name t) s.tables) e
  where
    go : (b : Bool)
        → ◌≡◌ {A = rules.Found} (elim b [
          | false ↦ missing unknown_qualifier
          | true ↦ the_last s (positions (is_qualified t w) 0 s.columns)
        ]) (at i)
        → i < length s.columns
    go true g = omega (arith, last_under s i (positions-under (is_qualified t w) 0 s.columns) g)
    go false g = grind arith

-- of the rules' lookup
pub lookup-below : (s : rules.Scope) (o : Option Word) (w : Word) (i : ℕ) → rules.lookup s o w ≡ at i
    → i < rules.width s
unfolding rules.lookup
lookup-below s o w i e = go (is_empty s.columns) e
  where
    go : (b : Bool) → ◌≡◌ {A = rules.Found} (elim b [ true ↦ missing constant_only | false ↦ lookup_named s o w ]) (at i)
        → i < rules.width s
    go true g = grind arith
    go false g = named-below s o w i g

-- and of the code's
pub found_below : {c q : Bytes} {xs ms ts : List ℕ} {o : Option Word} {w : Word} {r : Result ℕ Reason} (i : ℕ)
    → Looked c q xs ms ts o w r → r ≡ Ok i → i < length xs
unfolding found_of scope_from rules.width
found_below {c} {q} {xs} {ms} {ts} {o} {w} i k e =
    let f : ℕ → Expr = λ j. star j in
    let g : rules.lookup (scope_from f c q xs ms ts 0) o w ≡ at i = k.is f 0 ∙ ap found_of e in
    rw columns-length at (lookup-below (scope_from f c q xs ms ts 0) o w i g)
