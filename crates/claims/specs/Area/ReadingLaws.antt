-- Readings of numbers one after the other, and of lists.
use Prim.Native.Nat.{ℕ, zero, suc, ◌+◌, ◌≤◌}
use Rattle.std.proofs.Common.{arith, length-append, eq-eqb}
use Rattle.std.specs.Prelude.{◌≡◌, refl, Bool, true, false, eqb, replicate}
use mathlib.Core.List.{List, [], ◌∷◌, ◌++◌, map, append_assoc}
use Rattle.std.proofs.Math.Option.{Option, none, some}
use Rattle.std.proofs.Math.ListN.{length}
use Rattle.rules.specs.Lists.{concat}
use Rattle.rules.specs.Plan.{map_second}
use Rattle.claims.specs.Answers.{Any, All, all-every}
use Rattle.claims.specs.Area.Readings.{Reading, give, ◌>>=◌, giving, demand, found, number, exactly, position}
use Rattle.claims.specs.Area.Readings.{times, until_end, up_to, all, whole}
use Rattle.claims.specs.Area.Readings.{decoded, code_here, kind_here}

-- a reading gives the value back, whose numbers f lays out
abbrev pub Reads : {A : Type 0} → Reading A → (A → List ℕ) → A → Type 0
Reads m f a = (s : List ℕ) → m (f a ++ s) ≡ some (a, s)

-- a step of a do-block
pub step : {A B : Type 0} (m : Reading A) (f : A → Reading B)
    (s : List ℕ) {t : List ℕ} {a : A} {r : Option (B × List ℕ)}
    → m s ≡ some (a, t) → f a t ≡ r → (m >>= f) s ≡ r
unfolding ◌>>=◌
step m f s e h = rw (e, ◌>>=◌) h

pub giving-reads : {A B : Type 0} (f : A → B) (m : Reading A) {s t : List ℕ} {a : A} → m s ≡ some (a, t)
    → giving f m s ≡ some (f a, t)
unfolding giving give
giving-reads f m e = step m _ _ e refl

-- a code, and a kind
pub code_reads : {A : Type 0} (es : List (ℕ × A)) (k : ℕ) (a : A) (s : List ℕ) → decoded es k ≡ some a
    → code_here es (k ∷ s) ≡ some (a, s)
unfolding code_here number found
code_reads es k a s e = step number _ (k ∷ s) {t = s} {a = k} refl (rw e)

pub kind-reads : {A : Type 0} (es : List (ℕ × Reading A)) (k : ℕ) (m : Reading A) (s : List ℕ) {r : Option (A × List ℕ)}
    → decoded es k ≡ some m → m s ≡ r → kind_here es (k ∷ s) ≡ r
unfolding kind_here
kind-reads es k m s e h = step (code_here es) _ _ (code_reads es k m s e) h

-- an entry of the first table of two, with a function over it
decoded-first : {A B : Type 0} (g : A → B) (es : List (ℕ × A)) (more : List (ℕ × B)) (k : ℕ) (a : A)
    → decoded es k ≡ some a → decoded (map_second g es ++ more) k ≡ some (g a)
unfolding decoded map_second
decoded-first g [] more k a e = grind arith
decoded-first {A} {B} g (x ∷ es) more k a e = go (eqb x.0 k) (λ h. decoded-first g es more k a h) e
  where
    go : (b : Bool) → (decoded es k ≡ some a → decoded (map_second g es ++ more) k ≡ some (g a))
        → elim b [ true ↦ some x.1 | false ↦ decoded es k ] ≡ some a
        → ◌≡◌ {A = Option B} (elim b [ true ↦ some (g x.1) | false ↦ decoded (map_second g es ++ more) k ])
        (some (g a))
    go true i h = let p : x.1 ≡ a = cc in rw p
    go false i h = i h

pub kind-first : {A B : Type 0} (f : A → B) (es : List (ℕ × Reading A)) (more : List (ℕ × Reading B)) (s t : List ℕ)
    (a : A)
    → kind_here es s ≡ some (a, t) → kind_here (map_second (giving f) es ++ more) s ≡ some (f a, t)
unfolding kind_here code_here number found ◌>>=◌
kind-first f es more [] t a = λ e. grind arith
kind-first {A} f es more (k ∷ s) t a = go (decoded es k) refl
  where
    go : (o : Option (Reading A)) → decoded es k ≡ o → (found o >>= λ m. m) s ≡ some (a, t)
        → kind_here (map_second (giving f) es ++ more) (k ∷ s) ≡ some (f a, t)
    go none d h = grind arith
    go (some m) d h = kind-reads _ k (giving f m) s (decoded-first (giving f) es more k m d) (giving-reads f m h)

pub position-reads : (a : List ℕ) (n : ℕ) (s : List ℕ) → n + length s ≡ length a → position a n s ≡ some (tt, s)
unfolding position demand
position-reads a n s e = rw (position, eq-eqb (n + length s) (length a) e)

pub whole-reads : {A : Type 0} (m : Reading A) (s : List ℕ) (a : A) → m s ≡ some (a, []) → whole m s ≡ some a
unfolding whole
whole-reads m s a e = rw (e, whole)

-- n of a kind
pub times-reads : {A : Type 0} (m : Reading A) (f : A → List ℕ) (Q : A → Type 0) → ((a : A) → Q a → Reads m f a)
    → (as' : List A) → All Q as' → (s : List ℕ) → times (length as') m (concat (map f as') ++ s) ≡ some (as', s)
unfolding times concat All give
times-reads m f Q k [] h s = refl
times-reads m f Q k (a ∷ as') h s =
    rw append_assoc (step m _ _ (k a h.0 (concat (map f as') ++ s))
    (step (times (length as') m) _ _ (times-reads m f Q k as' h.1 s) refl))

pub numbers-read : (xs s : List ℕ) → times (length xs) number (xs ++ s) ≡ some (xs, s)
unfolding times number give
numbers-read [] s = refl
numbers-read (x ∷ xs) s = step number _ _ refl (step (times (length xs) number) _ _ (numbers-read xs s) refl)

-- all that there are of a kind, each laid out as a number and others
module _ {A : Type 0} (m : Reading A) (h : A → ℕ) (t : A → List ℕ) (Q : A → Type 0)
    (k : (a : A) → Q a → Reads m (λ x. h x ∷ t x) a)
    (g : List A → List ℕ) (nil : g [] ≡ []) (cons : (a : A) (as' : List A) → g (a ∷ as') ≡ h a ∷ (t a ++ g as')) where
  up_to-reads : (n : ℕ) (as' : List A) → All Q as' → length (g as') ≤ n → up_to n m (g as') ≡ some (as', [])
  unfolding up_to until_end All give
  up_to-reads zero [] q l = rw nil
  up_to-reads (suc n) [] q l = rw nil
  up_to-reads zero (a ∷ as') q l = absurd (let e = cons a as' in omega (arith, rw e at l))
  up_to-reads (suc n) (a ∷ as') q l =
      let l' : length (g as') ≤ n = omega (arith, simp (cons, length-append) at l) in
      rw (cons a as') (step m _ _ (k a q.0 (g as')) (step (up_to n m) _ _ (up_to-reads n as' q.1 l') refl))

  pub all-reads : (as' : List A) → All Q as' → all m (g as') ≡ some (as', [])
  unfolding all
  all-reads as' q = up_to-reads (length (g as')) as' q (omega arith)

-- zeros to the end
zero' : Unit {0} → ℕ
zero' u = 0

zeros-map : (n : ℕ) → map zero' (replicate n tt) ≡ replicate n 0
unfolding zero'
zeros-map zero = refl
zeros-map (suc n) = rw (zeros-map n)

pub zeros-read : (n : ℕ) → all (exactly 0) (replicate n 0) ≡ some (replicate n tt, [])
unfolding zero' exactly number demand ◌>>=◌
zeros-read n =
    rw zeros-map at (all-reads (exactly 0) zero' (λ u. []) Any (λ u q s. refl) (map zero') refl (λ u us. refl)
    (replicate n tt) (all-every Any (λ u. tt) (replicate n tt)))
