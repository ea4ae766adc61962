-- The searches of a lookup: one that has come to the i-th label, and one for a match.
use Rattle.std.specs.Prelude.{ℕ, zero, suc, ◌+◌, ◌-◌, ◌≤◌, ◌<◌, ◌≡◌, Bool, true, false, not, List, [], ◌∷◌, ◌++◌, map, length, get_or, take, drop, Result, Ok, Err, is_some}
use Rattle.std.specs.Prelude as std
use Rattle.std.specs.Result.{IsErrAnd}
use Rattle.std.proofs.lemmas.Result.{err_from_is_err_and}
use Rattle.std.proofs.Common.{arith, ◌∙◌}
use Rattle.std.proofs.Math.Numerals.{add-one}
use Rattle.std.proofs.Math.Path.{refl, sym, ap}
use Rattle.std.proofs.Math.Option.{Option, none, some}
use Rattle.std.proofs.Math.ListN.{drop_of_length-le}
use Rattle.std.proofs.Math.Seq.{drop-cons}
use Rattle.rules.specs.Lists.{Bytes, any, positions, is_empty}
use Rattle.rules.specs.Lines.{Word}
use Rattle.rules.specs.Ast.{Expr}
use Rattle.rules.specs.Equality.{same_name}
use Rattle.rules.specs.Places.{bytes_at, word_at}
use Rattle.rules.specs.Plan.{Label}
use Rattle.rules.specs.Scope as rules
use Rattle.rules.specs.Scope.{the_only, the_last, not_found, lookup_named, is_named, is_qualified}
use Rattle.scope.specs.Labels.{tables_of, columns_of}
use Rattle.scope.specs.Scopes.{matches_of, scope_from}
use Rattle.scope.specs.UsedMatches.{some_match, some_of}
use Rattle.scope.specs.Lookup.{found_of, qualifier_of, Looked, Sought}
use Rattle.numbers.specs.Reasons.{reason_of}
use Rattle.numbers.specs.declared.refusals.Reason.{Reason}
use Rattle.numbers.specs.declared.refusals.Reason.TheVariants as Re
use Rattle.text.specs.declared.places.Place.{Place}

-- A MATCH
-- what a name that stands nowhere means, where ms are matched
pub record Missing (ms : List ℕ) (r : Reason) : Type 0 where
  pub is : (s : rules.Scope) (e : ℕ → Expr) → s.aggregates ≡ matches_of e 0 ms → not_found s ≡ rules.missing (reason_of r)

empty-matches : (ms : List ℕ) (e : ℕ → Expr) {b : Bool} → some_match ms ≡ b → is_empty (matches_of e 0 ms) ≡ not b
empty-matches ms e h = go (is_empty (matches_of e 0 ms)) (sym (some_of e 0 ms) ∙ h)
  where
    go : (x : Bool) {b : Bool} → not x ≡ b → x ≡ not b
    go true g = ap not g
    go false g = ap not g

module _ {ms : List ℕ} where
  pub missing-column : some_match ms ≡ false → Missing ms Re.UnknownColumn
  unfolding not_found reason_of
  missing-column h = record { is = λ s e g. rw (not_found, g, empty-matches ms e h) }

  pub missing-aggregated : some_match ms ≡ true → Missing ms Re.NotAggregated
  unfolding not_found reason_of
  missing-aggregated h = record { is = λ s e g. rw (not_found, g, empty-matches ms e h) }

-- THE LABELS
-- the position of a hit, if there is one
unfoldable pub hits : std.Option ℕ → List ℕ
hits std.None = []
hits (std.Some i) = i ∷ []

pub record Seeking (F : rules.Scope → List ℕ → rules.Found) (t : Label → Bool) (f : ℕ → Label) (xs : List ℕ)
    (i : ℕ) (h : std.Option ℕ) : Type 0 where
  pub rest : (s : rules.Scope) → F s (hits h ++ positions t i (map f (drop i xs))) ≡ F s (positions t 0 (map f xs))

pub seek-begin : (F : rules.Scope → List ℕ → rules.Found) (t : Label → Bool) (f : ℕ → Label) (xs : List ℕ)
    → Seeking F t f xs 0 std.None
unfolding hits
seek-begin F t f xs = record { rest = λ s. refl }

module _ (t : Label → Bool) (f : ℕ → Label) (xs : List ℕ) (i : ℕ) where
  positions-miss : i < length xs → t (f (get_or xs i 0)) ≡ false
      → positions t i (map f (drop i xs)) ≡ positions t (i + 1) (map f (drop (i + 1) xs))
  unfolding positions
  positions-miss h e = rw (drop-cons xs i 0 h, positions, e, add-one i)

  positions-hit : i < length xs → t (f (get_or xs i 0)) ≡ true
      → positions t i (map f (drop i xs)) ≡ i ∷ positions t (i + 1) (map f (drop (i + 1) xs))
  unfolding positions
  positions-hit h e = rw (drop-cons xs i 0 h, positions, e, add-one i)

  positions-end : length xs ≤ i → positions t i (map f (drop i xs)) ≡ []
  unfolding positions
  positions-end h = rw (drop_of_length-le xs h)

no_hit : (h : std.Option ℕ) → is_some h ≡ false → h ≡ std.None
no_hit std.None e = refl
no_hit (std.Some i) e = grind arith

some_hit : (h : std.Option ℕ) → is_some h ≡ true → (i : ℕ) × (h ≡ std.Some i)
some_hit std.None e = grind arith
some_hit (std.Some i) e = (i, refl)

module _ {F : rules.Scope → List ℕ → rules.Found} {t : Label → Bool} {f : ℕ → Label} {xs : List ℕ} {i : ℕ}
    {h : std.Option ℕ} (k : Seeking F t f xs i h) where
  pub seek-miss : {b : Bool} {h' : std.Option ℕ} → i < length xs → b ≡ t (f (get_or xs i 0)) → b ≡ false → h' ≡ h
      → Seeking F t f xs (i + 1) h'
  seek-miss l e g y = rw y (record { rest = λ s. rw (← positions-miss t f xs i l (sym e ∙ g)) (k.rest s) })

  pub seek-first : {b : Bool} {h' : std.Option ℕ} → i < length xs → b ≡ t (f (get_or xs i 0)) → b ≡ true
      → is_some h ≡ false → h' ≡ std.Some i
      → Seeking F t f xs (i + 1) h'
  unfolding hits
  seek-first l e g z y = rw y (record {
    rest = λ s. rw (add-one i) (rw (no_hit h z, positions-hit t f xs i l (sym e ∙ g), add-one i) at (k.rest s));
  })

  pub seek-none : {ms : List ℕ} {r : Reason} → length xs ≤ i → h ≡ std.None → ((s : rules.Scope) → F s [] ≡ not_found s)
      → Missing ms r → Sought F (positions t 0 (map f xs)) ms (Err r)
  unfolding hits found_of
  seek-none l z e m = record { is = λ s d g. sym (k.rest s) ∙ rw (z, positions-end t f xs i l) (e s ∙ m.is s d g) }

  pub seek-one : {ms : List ℕ} {j : ℕ} → length xs ≤ i → h ≡ std.Some j → ((s : rules.Scope) (j : ℕ) → F s (j ∷ []) ≡ rules.at j)
      → Sought F (positions t 0 (map f xs)) ms (Ok j)
  unfolding hits found_of
  seek-one {j = j} l z e = record { is = λ s d g. sym (k.rest s) ∙ rw (z, positions-end t f xs i l) (e s j) }

  -- the answer, by what was hit
  pub seek-end : {ms : List ℕ} {r : Result ℕ Reason} {Q : Reason → Type 0} → length xs ≤ i → std.MatchOption h (IsErrAnd r Q) (λ j. r ≡ Ok j)
      → ((m : Reason) → Q m → Missing ms m) → ((s : rules.Scope) → F s [] ≡ not_found s) → ((s : rules.Scope) (j : ℕ) → F s (j ∷ []) ≡ rules.at j)
      → Sought F (positions t 0 (map f xs)) ms r
  seek-end {ms} {r} {Q} l c m e g = go h refl c
    where
      go : (o : std.Option ℕ) → h ≡ o → std.MatchOption o (IsErrAnd r Q) (λ j. r ≡ Ok j) → Sought F (positions t 0 (map f xs)) ms r
      go std.None z c = let p = err_from_is_err_and r c in rw p.1 (seek-none l z e (m p.0 p.2))
      go (std.Some j) z c = rw c (seek-one l z g)

-- FROM THE END
split_step : (b : Bool) (k : ℕ) (ps qs rs : List ℕ) → ps ≡ qs ++ rs
    → ◌≡◌ {A = List ℕ} (elim b [ true ↦ k ∷ ps | false ↦ ps ]) (elim b [ true ↦ k ∷ qs | false ↦ qs ] ++ rs)
split_step true k ps qs rs h = ap (λ (r : List ℕ). k ∷ r) h
split_step false k ps qs rs h = h

positions-split : (t : Label → Bool) (f : ℕ → Label) (xs : List ℕ) (i k : ℕ)
    → positions t k (map f xs) ≡ positions t k (map f (take i xs)) ++ positions t (k + i) (map f (drop i xs))
unfolding positions
positions-split t f xs zero k = let e : k + 0 ≡ k = omega arith in rw e
positions-split t f [] (suc i) k = refl
positions-split t f (x ∷ xs) (suc i) k =
    let e : k + suc i ≡ suc k + i = omega arith in
    rw e (split_step (t (f x)) k _ _ _ (positions-split t f xs i (suc k)))

last-behind : (s : rules.Scope) (ps : List ℕ) (j : ℕ) → the_last s (ps ++ (j ∷ [])) ≡ rules.at j
unfolding the_last
last-behind s [] j = refl
last-behind s (p ∷ []) j = refl
last-behind s (p ∷ (p' ∷ ps)) j = last-behind s (p' ∷ ps) j

-- none of the labels from i on has the name
pub record NoneBehind (t : Label → Bool) (f : ℕ → Label) (xs : List ℕ) (i : ℕ) : Type 0 where
  pub is : positions t i (map f (drop i xs)) ≡ []

pub none-behind : (t : Label → Bool) (f : ℕ → Label) (xs : List ℕ) → NoneBehind t f xs (length xs)
none-behind t f xs = record { is = positions-end t f xs (length xs) (omega arith) }

hit-last : (t : Label → Bool) (f : ℕ → Label) (xs : List ℕ) (i : ℕ) → NoneBehind t f xs (i + 1) → i < length xs
    → t (f (get_or xs i 0)) ≡ true → positions t 0 (map f xs) ≡ positions t 0 (map f (take i xs)) ++ (i ∷ [])
hit-last t f xs i k l e =
    let z : 0 + i ≡ i = omega arith in
    positions-split t f xs i 0 ∙ rw (z, positions-hit t f xs i l e, k.is)

-- the one before the i-th
module _ {t : Label → Bool} {f : ℕ → Label} {xs : List ℕ} {i : ℕ} {b : Bool} (k : NoneBehind t f xs i) (l : 0 < i)
    (m : i ≤ length xs) (e : b ≡ t (f (get_or xs (i - 1) 0))) where
  next-behind : NoneBehind t f xs (i - 1 + 1)
  next-behind = let z : i - 1 + 1 ≡ i = omega arith in rw z k

  pub behind-miss : b ≡ false → NoneBehind t f xs (i - 1)
  behind-miss g = record { is = positions-miss t f xs (i - 1) (omega arith) (sym e ∙ g) ∙ next-behind.is }

  pub behind-hit : {ms : List ℕ} → b ≡ true → Sought the_last (positions t 0 (map f xs)) ms (Ok (i - 1))
  unfolding found_of
  behind-hit g = record {
    is = λ s d y. ap (the_last s) (hit-last t f xs (i - 1) next-behind (omega arith) (sym e ∙ g))
        ∙ last-behind s (positions t 0 (map f (take (i - 1) xs))) (i - 1);
  }

pub behind-none : {t : Label → Bool} {f : ℕ → Label} {xs ms : List ℕ} {r : Reason} → NoneBehind t f xs 0 → Missing ms r
    → Sought the_last (positions t 0 (map f xs)) ms (Err r)
unfolding the_last found_of
behind-none k m = record { is = λ s d g. rw k.is (m.is s d g) }

-- a second hit
module _ {t : Label → Bool} {f : ℕ → Label} {xs : List ℕ} {i : ℕ} {h : std.Option ℕ} {b : Bool} where
  pub seek-second : {ms : List ℕ} → Seeking the_only t f xs i h → i < length xs → b ≡ t (f (get_or xs i 0)) → b ≡ true
      → is_some h ≡ true
      → Sought the_only (positions t 0 (map f xs)) ms (Err Re.AmbiguousColumn)
  unfolding hits the_only found_of reason_of
  seek-second k l e g z =
      record { is = λ s d y. sym (k.rest s) ∙ rw ((some_hit h z).1, positions-hit t f xs i l (sym e ∙ g)) }

pub only_none : (s : rules.Scope) → the_only s [] ≡ not_found s
unfolding the_only
only_none s = refl

pub only_one : (s : rules.Scope) (j : ℕ) → the_only s (j ∷ []) ≡ rules.at j
unfolding the_only
only_one s j = refl

-- THE WHOLE
no-columns : (c q : Bytes) (xs ts : List ℕ) → length xs ≡ 0 → columns_of c q ts xs ≡ []
unfolding columns_of
no-columns c q [] ts h = refl
no-columns c q (x ∷ xs) ts h = absurd (omega (arith, h))

some-columns : (c q : Bytes) (xs ts : List ℕ) → (length xs ≡ 0 → ⊥) → is_empty (columns_of c q ts xs) ≡ false
unfolding columns_of is_empty
some-columns c q [] ts h = absurd (h refl)
some-columns c q (x ∷ xs) ts h = refl

module _ (c q : Bytes) (xs ms ts : List ℕ) (w : Word) where
  pub looked-empty : (o : Option Word) → length xs ≡ 0 → Looked c q xs ms ts o w (Err Re.ConstantOnly)
  unfolding rules.lookup is_empty found_of reason_of scope_from
  looked-empty o h = record { is = λ e k. rw (rules.lookup, no-columns c q xs ts h) }

  module _ (h : length xs ≡ 0 → ⊥) where
    some-named : (o : Option Word) (e : ℕ → Expr) (k : ℕ)
        → rules.lookup (scope_from e c q xs ms ts k) o w ≡ lookup_named (scope_from e c q xs ms ts k) o w
    unfolding rules.lookup scope_from
    some-named o e k = rw (rules.lookup, some-columns c q xs ts h)

    pub looked-only : {r : Result ℕ Reason} → Sought the_only (positions (is_named w) 0 (columns_of c q ts xs)) ms r
        → Looked c q xs ms ts none w r
    unfolding lookup_named scope_from
    looked-only j = record { is = λ e k. some-named none e k ∙ j.is (scope_from e c q xs ms ts k) e refl }

    pub looked-no-table : {v : Word} → any (same_name v) (tables_of c q ts) ≡ false
        → Looked c q xs ms ts (some v) w (Err Re.UnknownQualifier)
    unfolding lookup_named found_of reason_of scope_from
    looked-no-table {v} g = record { is = λ e k. some-named (some v) e k ∙ rw (lookup_named, g) }

    pub looked-last : {v : Word} {r : Result ℕ Reason} → any (same_name v) (tables_of c q ts) ≡ true
        → Sought the_last (positions (is_qualified v w) 0 (columns_of c q ts xs)) ms r → Looked c q xs ms ts (some v) w r
    unfolding lookup_named scope_from
    looked-last {v} g j = record {
      is = λ e k. some-named (some v) e k ∙ rw (lookup_named, g) (j.is (scope_from e c q xs ms ts k) e refl);
    }

-- under a qualifier
module _ {c q : Bytes} {xs ms ts : List ℕ} {w : Word} {r : Result ℕ Reason} {d : std.Option Place} where
  pub under-nothing : d ≡ std.None → Looked c q xs ms ts none w r → Looked c q xs ms ts (qualifier_of c q d) w r
  unfolding qualifier_of
  under-nothing e k = rw e k

  pub under_table : {p : Place} {x : Bytes} → d ≡ std.Some p → x ≡ bytes_at c q p.address p.length
      → ((v : Word) → v.bytes ≡ x → Looked c q xs ms ts (some v) w r) → Looked c q xs ms ts (qualifier_of c q d) w r
  unfolding qualifier_of word_at
  under_table {p} e f k = rw e (k (word_at c q p.address p.length) (sym f))
