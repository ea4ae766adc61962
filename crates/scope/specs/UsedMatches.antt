-- The matches of a scope, none where no column is matched: the rules cannot tell the difference.
use Prim.Native.Nat.{ℕ, zero, suc}
use Rattle.std.proofs.Common.{arith, sym, ◌∙◌, lt-ltb}
use Rattle.std.proofs.lemmas.Bool.{ne_eqb}
use Rattle.std.specs.List.{list_any}
use Rattle.std.specs.Prelude.{◌≡◌, ◌+◌, ◌<◌, ◌≤◌, nat_eq, Bool, false, not, ltb, List, [], ◌∷◌, length, get_or, drop}
use Rattle.std.proofs.Math.Path.{refl}
use Rattle.std.proofs.Math.Bool.{true, ◌||◌, or-false}
use Rattle.std.proofs.Math.ListN.{drop_of_length-le}
use Rattle.std.proofs.Math.Seq.{drop-cons}
use Rattle.std.proofs.Math.Numerals.{add-one}
use Rattle.rules.specs.Lists.{Bytes, any, is_empty}
use Rattle.rules.specs.Ast.{Expr}
use Rattle.scope.specs.Scopes.{matches_of, scope_from}

-- whether there is a match
unfoldable pub is_match : ℕ → Bool
is_match zero = false
is_match (suc m) = true

unfoldable pub some_match : List ℕ → Bool
some_match ms = any is_match ms

unfoldable pub used_matches : List ℕ → List ℕ
used_matches ms = elim (some_match ms) [ true ↦ ms | false ↦ [] ]

none_of : (e : ℕ → Expr) (i : ℕ) (ms : List ℕ) → some_match ms ≡ false → matches_of e i ms ≡ []
unfolding some_match any is_match matches_of
none_of e i [] h = refl
none_of e i (zero ∷ ms) h = none_of e (suc i) ms h
none_of e i (suc m ∷ ms) h = grind arith

same-matches : (e : ℕ → Expr) (ms : List ℕ) → matches_of e 0 (used_matches ms) ≡ matches_of e 0 ms
unfolding used_matches matches_of
same-matches e ms = go (some_match ms) refl
  where
    go : (b : Bool) → some_match ms ≡ b → matches_of e 0 (elim b [ true ↦ ms | false ↦ [] ]) ≡ matches_of e 0 ms
    go true h = refl
    go false h = sym (none_of e 0 ms h)

-- WHETHER SOMETHING IS MATCHED
pub some_of : (e : ℕ → Expr) (i : ℕ) (ms : List ℕ) → some_match ms ≡ not (is_empty (matches_of e i ms))
unfolding some_match any is_match matches_of is_empty
some_of e i [] = refl
some_of e i (zero ∷ ms) = some_of e (suc i) ms
some_of e i (suc m ∷ ms) = refl

used-length : (ms : List ℕ) → ltb 0 (length (used_matches ms)) ≡ some_match ms
unfolding used_matches some_match any
used-length [] = refl
used-length (x ∷ ms) = go (some_match (x ∷ ms))
  where
    go : (b : Bool) → ltb 0 (length {A = ℕ} (elim b [ true ↦ x ∷ ms | false ↦ [] ])) ≡ b
    go true = lt-ltb 0 (length (x ∷ ms)) (omega arith)
    go false = refl

pub used-some : (e : ℕ → Expr) (ms : List ℕ) → ltb 0 (length (used_matches ms)) ≡ not (is_empty (matches_of e 0 ms))
used-some e ms = used-length ms ∙ some_of e 0 ms

-- a scope is the same with them
pub used-scope : (e : ℕ → Expr) (c q : Bytes) (xs ms ts : List ℕ) (h : ℕ)
    → scope_from e c q xs (used_matches ms) ts h ≡ scope_from e c q xs ms ts h
unfolding scope_from
used-scope e c q xs ms ts h = rw (same-matches e ms)

-- IN THE CODE
pub some-match : (ms : List ℕ) → list_any (λ m. not (nat_eq m 0)) ms ≡ some_match ms
unfolding some_match any is_match
some-match [] = refl
some-match (zero ∷ ms) = some-match ms
some-match (suc m ∷ ms) = rw (ne_eqb (suc m) 0 (λ e. omega (arith, e)))

-- b tells whether there is a match before the i-th
some-cons : (b : Bool) (m : ℕ) (ms : List ℕ) → ((b || not (nat_eq m 0)) || some_match ms) ≡ (b || some_match (m ∷ ms))
unfolding some_match any is_match
some-cons true m ms = refl
some-cons false zero ms = refl
some-cons false (suc m) ms = rw (ne_eqb (suc m) 0 (λ e. omega (arith, e)))

pub some-next : (ms : List ℕ) (i : ℕ) (b : Bool) → i < length ms → (b || some_match (drop i ms)) ≡ some_match ms
    → ((b || not (nat_eq (get_or ms i 0) 0)) || some_match (drop (i + 1) ms)) ≡ some_match ms
some-next ms i b h k = rw (add-one i) (some-cons b _ _ ∙ rw (drop-cons ms i 0 h) at k)

pub some-end : (ms : List ℕ) (i : ℕ) (b : Bool) → length ms ≤ i → (b || some_match (drop i ms)) ≡ some_match ms
    → b ≡ some_match ms
unfolding some_match any
some-end ms i b h k = sym (or-false b) ∙ rw (drop_of_length-le ms h) at k

pub used_all : (ms : List ℕ) → some_match ms ≡ true → ms ≡ used_matches ms
unfolding used_matches
used_all ms h = rw (used_matches, h)

pub used-none : (ms : List ℕ) → some_match ms ≡ false → [] ≡ used_matches ms
unfolding used_matches
used-none ms h = rw (used_matches, h)
