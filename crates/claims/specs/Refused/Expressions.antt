-- The refusals of a lookup, of an expression and of a constant.
use Rattle.std.specs.Prelude.{ℕ, ◌≡◌, refl, not}
use mathlib.Core.List.{List, [], ◌∷◌}
use Rattle.std.proofs.Math.Option.{Option, none, some}
use Rattle.rules.specs.Refusals.{statement, refusal_number, unsupported_star, unknown_function, invalid_is, Answer}
use Rattle.rules.specs.Lists.{any, is_empty, same}
use Rattle.rules.specs.Lines.{Word, bytes}
use Rattle.rules.specs.Ast.{Expr, star, column, literal, call, unary, binary, is, Exprs, nil, cons}
use Rattle.rules.specs.Plan.{Built}
use Rattle.rules.specs.Scope.{Scope, empty, Found, at, missing, not_found, the_last, the_only, lookup_named, lookup}
use Rattle.rules.specs.Scope.{matched}
use Rattle.rules.specs.Equality.{same_name}
use Rattle.rules.specs.BuildExpression.{found, pick_matched, or_matched, is_null_or_nan, only_argument, build, build_argument}
use Rattle.rules.specs.BuildExpression.{build_option, constant}
use Rattle.claims.specs.Cases.{either_way}
use Rattle.claims.specs.Values.Impossible.{constant-numbers}
use Rattle.claims.specs.Refused.Refuses.{Refuses, accepted, first, Has, Among, among-more, refuse-among, if-among}

-- LOOKUP
-- where a lookup finds nothing, its reason has one of these numbers
abbrev pub Misses : List ℕ → Found → Type 0
Misses ns (at i) = Unit {0}
Misses ns (missing n) = Has ns (refusal_number n)

pub found_among : {ns : List ℕ} (l : ℕ) (f : Found) → Misses ns f → Refuses (found l f) (Among statement ns)
unfolding found
found_among l (at i) h = accepted
found_among l (missing n) h = refuse-among n l h

module _ (s : Scope) (ns : List ℕ) (unknown : Misses ns (not_found s)) where
  last-misses : (ps : List ℕ) → Misses ns (the_last s ps)
  unfolding the_last
  last-misses [] = unknown
  last-misses (i ∷ []) = tt
  last-misses (i ∷ (j ∷ r)) = last-misses (j ∷ r)

  only-misses : Has ns 9 → (ps : List ℕ) → Misses ns (the_only s ps)
  unfolding the_only refusal_number
  only-misses h [] = unknown
  only-misses h (i ∷ []) = tt
  only-misses h (i ∷ (j ∷ r)) = h

  named-misses : Has ns 7 → Has ns 9 → (t : Option Word) (n : Word) → Misses ns (lookup_named s t n)
  unfolding lookup_named refusal_number
  named-misses h g none n = only-misses g _
  named-misses h g (some t) n = either_way (Misses ns) (any (same_name t) s.tables) _ _ (last-misses _) h

  lookup-misses : Has ns 7 → Has ns 9 → Has ns 10 → (t : Option Word) (n : Word) → Misses ns (lookup s t n)
  unfolding lookup refusal_number
  lookup-misses h g k t n = either_way (Misses ns) (is_empty s.columns) _ _ k (named-misses h g t n)

-- over any scope; over one with no aggregates 11 is not possible, and over the empty one 10 alone is
lookup-any : (s : Scope) (ns : List ℕ) → Has ns 7 → Has ns 8 → Has ns 9 → Has ns 10 → Has ns 11
    → (t : Option Word) (n : Word) → Misses ns (lookup s t n)
unfolding not_found refusal_number
lookup-any s ns h₇ h₈ h₉ h₁₀ h₁₁ =
    lookup-misses s ns (either_way (Misses ns) (is_empty s.aggregates) _ _ h₈ h₁₁) h₇ h₉ h₁₀

pub lookup-unaggregated : (s : Scope) → s.aggregates ≡ [] → (ns : List ℕ) → Has ns 7 → Has ns 8 → Has ns 9 → Has ns 10
    → (t : Option Word) (n : Word) → Misses ns (lookup s t n)
unfolding not_found refusal_number is_empty
lookup-unaggregated s e ns h₇ h₈ h₉ h₁₀ = lookup-misses s ns (rw (e, not_found) h₈) h₇ h₉ h₁₀

lookup-empty : (ns : List ℕ) → Has ns 10 → (t : Option Word) (n : Word) → Misses ns (lookup empty t n)
unfolding lookup empty is_empty refusal_number
lookup-empty ns h t n = h

-- EXPRESSIONS
module _ (s : Scope) (ns : List ℕ) (columns : (t : Option Word) (n : Word) → Misses ns (lookup s t n))
    (stars : Has ns 12) (functions : Has ns 13) (tests : Has ns 29) where
  picked : (e : Expr) {m : Answer Built} → Refuses m (Among statement ns)
      → Refuses (or_matched s e m) (Among statement ns)
  unfolding or_matched pick_matched
  picked e {m} h = go (matched s e)
    where
      go : (o : Option ℕ) → Refuses (pick_matched o m) (Among statement ns)
      go none = h
      go (some i) = accepted

  only-among : (l : ℕ) (as' : Exprs) {m : Answer Built} → Refuses m (Among statement ns)
      → Refuses (only_argument l as' m) (Among statement ns)
  unfolding only_argument refusal_number
  only-among l nil h = h
  only-among l (cons b bs) h = refuse-among unknown_function l functions

  mutual
    unfolding build build_argument refusal_number

    build-among : (e : Expr) → Refuses (build s e) (Among statement ns)
    build-among (star l) = picked (star l) (refuse-among unsupported_star l stars)
    build-among (column l t n) = picked (column l t n)
        (first (found_among l (lookup s t n) (columns t n)) λ i e. accepted)
    build-among (literal l v) = picked (literal l v) accepted
    build-among (call l n as') = picked (call l n as')
        (first (if-among (not (same n.bytes (bytes "sqrt"))) unknown_function l functions) λ u e.
        first (argument-among l as') λ x e₁. accepted)
    build-among (unary l o a) = picked (unary l o a) (first (build-among a) λ x e. accepted)
    build-among (binary l o a b) = picked (binary l o a b)
        (first (build-among a) λ x e. first (build-among b) λ y e₁. accepted)
    build-among (is l a v) = picked (is l a v)
        (first (build-among a) λ x e. first (if-among (not (is_null_or_nan v)) invalid_is l tests) λ u e₁. accepted)

    argument-among : (l : ℕ) (as' : Exprs) → Refuses (build_argument s l as') (Among statement ns)
    argument-among l nil = refuse-among unknown_function l functions
    argument-among l (cons a as') = only-among l as' (build-among a)

-- the numbers over any scope, over one with no aggregates, and over the empty one
abbrev pub any_scope : List ℕ
any_scope = 7 ∷ 8 ∷ 9 ∷ 10 ∷ 11 ∷ 12 ∷ 13 ∷ 29 ∷ []

abbrev pub unaggregated : List ℕ
unaggregated = 7 ∷ 8 ∷ 9 ∷ 10 ∷ 12 ∷ 13 ∷ 29 ∷ []

abbrev pub no_columns : List ℕ
no_columns = 10 ∷ 12 ∷ 13 ∷ 29 ∷ []

pub build-any : (s : Scope) (e : Expr) → Refuses (build s e) (Among statement any_scope)
unfolding any
build-any s = build-among s any_scope (lookup-any s any_scope refl refl refl refl refl) refl refl refl

pub build-unaggregated : (s : Scope) → s.aggregates ≡ [] → (e : Expr)
    → Refuses (build s e) (Among statement unaggregated)
unfolding any
build-unaggregated s e =
    build-among s unaggregated (lookup-unaggregated s e unaggregated refl refl refl refl) refl refl refl

pub build-empty : (e : Expr) → Refuses (build empty e) (Among statement no_columns)
unfolding any
build-empty = build-among empty no_columns (lookup-empty no_columns refl) refl refl refl

-- where there may be none
pub option-among : {ns : List ℕ} (s : Scope) → ((e : Expr) → Refuses (build s e) (Among statement ns))
    → (o : Option Expr) → Refuses (build_option s o) (Among statement ns)
unfolding build_option
option-among s k none = accepted
option-among s k (some e) = first (k e) λ x u. accepted

-- CONSTANTS
-- a constant's numbers: those of its expression, then 25 to 28
abbrev pub constant_numbers : List ℕ
constant_numbers = 10 ∷ 12 ∷ 13 ∷ 25 ∷ 26 ∷ 27 ∷ 28 ∷ 29 ∷ []

pub constant-among : (e : Expr) → Refuses (constant e) (Among statement constant_numbers)
unfolding constant any
constant-among e = first (among-more refl (build-empty e)) λ x u. among-more refl (constant-numbers e x u)
