-- What holds of a reader's value and of the place behind it, by the steps of reading.
use Prim.Native.Nat.{ℕ, zero, suc, ◌+◌, ◌≤◌, ◌<◌}
use Rattle.std.proofs.Common.{arith, ltb-true}
use Rattle.std.specs.Prelude.{◌≡◌, refl, Bool, true, false, ltb, length}
use mathlib.Core.List.{List, [], ◌∷◌}
use Rattle.std.proofs.Math.Option.{Option, none, some}
use Rattle.rules.specs.Refusals.{Reason, Answer, ok, refused}
use Rattle.rules.specs.Lists.{Bytes}
use Rattle.rules.specs.Lines.{Word}
use Rattle.rules.specs.Reader.{Place, Read, stop, give, ◌>>=◌, ◌>>◌, next, rest, at, fit, record', optional, record_within, many, turns, at_least_one, value_of}
use Rattle.claims.specs.Answers.{Ensures, weaken}

-- what holds of an accepted value and its place
abbrev pub Reaches : {A : Type 0} → Answer (A × Place) → (A → Place → Type 0) → Type 0
Reaches m Q = Ensures m (λ r. Q r.0 r.1)

-- from a place with P, a reader that accepts ends with Q of that place, its value and the place behind it
abbrev pub Reads : {A : Type 0} → (Place → Type 0) → Read A → (Place → A → Place → Type 0) → Type 0
Reads P m Q = (p : Place) → P p → Reaches (m p) (Q p)

-- nothing is asked of the place before
abbrev pub Anywhere : Place → Type 0
Anywhere p = Unit {0}

-- STEPS
pub reads_then : {A B : Type 0} (m : Read A) (f : A → Read B) (p : Place) (Q : A → Place → Type 0) (R : B → Place → Type 0)
    → Reaches (m p) Q → ((a : A) (q : Place) → Q a q → Reaches (f a q) R) → Reaches (◌>>=◌ m f p) R
unfolding ◌>>=◌
reads_then {A} {B} m f p Q R h k = go (m p) h
  where
    go : (x : Answer (A × Place)) → Reaches x Q → Reaches {A = B} (elim x [ ok r ↦ f r.0 r.1 | refused r ↦ refused r ]) R
    go (ok r) g = k r.0 r.1 g
    go (refused r) g = tt

-- the same, all that is known of the first step handed on
pub reads-into : {A B : Type 0} (m : Read A) (f : A → Read B) (p : Place) (R : B → Place → Type 0)
    → Reaches (m p) (λ a q. Reaches (f a q) R) → Reaches (◌>>=◌ m f p) R
reads-into m f p R h = reads_then m f p (λ a q. Reaches (f a q) R) R h λ a q g. g

-- the same, by a rule of the first step
pub reads-by : {A B : Type 0} {P : Place → Type 0} (m : Read A) (f : A → Read B) (Q : Place → A → Place → Type 0) (R : B → Place → Type 0)
    → Reads P m Q → {p : Place} → P p → ((a : A) (q : Place) → Q p a q → Reaches (f a q) R) → Reaches (◌>>=◌ m f p) R
reads-by m f Q R h {p} g k = reads_then m f p (Q p) R (h p g) k

pub reads-next : {A B : Type 0} (m : Read A) (n : Read B) (p : Place) (Q : A → Place → Type 0) (R : B → Place → Type 0)
    → Reaches (m p) Q → ((a : A) (q : Place) → Q a q → Reaches (n q) R) → Reaches (◌>>◌ m n p) R
unfolding ◌>>◌ ◌>>=◌
reads-next m n p Q R h k = reads_then m (λ a. n) p Q R h k

pub reads-give : {A : Type 0} (a : A) (p : Place) (Q : A → Place → Type 0) → Q a p → Reaches (give a p) Q
unfolding give
reads-give a p Q h = h

pub reads-stop : {A : Type 0} (n : Reason) (p : Place) (Q : A → Place → Type 0) → Reaches (stop n p) Q
unfolding stop
reads-stop n p Q = tt

-- a test, and what it shows
pub reads-test : {A : Type 0} (b : Bool) (x y : Answer (A × Place)) (Q : A → Place → Type 0)
    → (b ≡ true → Reaches x Q) → (b ≡ false → Reaches y Q) → Reaches (elim b [ true ↦ x | false ↦ y ]) Q
reads-test true x y Q h k = h refl
reads-test false x y Q h k = k refl

pub reads-option : {A H : Type 0} (o : Option H) (x : Answer (A × Place)) (y : H → Answer (A × Place)) (Q : A → Place → Type 0)
    → Reaches x Q → ((h : H) → o ≡ some h → Reaches (y h) Q) → Reaches (elim o [ none ↦ x | some h ↦ y h ]) Q
reads-option none x y Q h k = h
reads-option (some a) x y Q h k = k a refl

pub reads-list : {A B : Type 0} (xs : List B) (x y : Answer (A × Place)) (Q : A → Place → Type 0)
    → Reaches x Q → Reaches y Q → Reaches (elim xs [ [] ↦ x | b ∷ bs ↦ y ]) Q
reads-list [] x y Q h k = h
reads-list (b ∷ bs) x y Q h k = k

-- RECORDS
pub reads_fit : {A : Type 0} (o : Option A) (p : Place) (Q : A → Place → Type 0) → ((a : A) → o ≡ some a → Q a (next p)) → Reaches (fit o p) Q
unfolding fit stop
reads_fit none p Q k = tt
reads_fit (some a) p Q k = k a refl

pub reads-record : {A : Type 0} (b : Bytes) (f : List Word → Option A) (p : Place) (Q : A → Place → Type 0)
    → ((a : A) → f (rest p) ≡ some a → Q a (next p)) → Reaches (record' b f p) Q
unfolding record' stop
reads-record b f p Q k = reads-test (at b p) _ _ Q (λ t. reads_fit (f (rest p)) p Q k) (λ t. tt)

pub reads-within : {H : Type 0} (f : List Word → Option H) (n most : ℕ) (p : Place) (Q : ℕ × H → Place → Type 0)
    → ((h : H) → f (rest p) ≡ some h → n < most → Q (p.line, h) (next p)) → Reaches (record_within f n most p) Q
unfolding record_within stop
reads-within f n most p Q k = reads-option (f (rest p)) _ _ Q tt λ h e. reads-test (ltb n most) _ _ Q (λ t. k h e (ltb-true n most t)) (λ t. tt)

-- RUNS
pub reads-optional : {A : Type 0} {P : Place → Type 0} (b : Bool) (m : Read A) (Q : Place → Option A → Place → Type 0)
    → ((p : Place) → P p → Q p none p) → Reads P m (λ p a. Q p (some a)) → Reads P (optional b m) Q
unfolding optional
reads-optional true m Q n h p g = reads-by m _ (λ p a. Q p (some a)) _ h g λ a q k. reads-give (some a) q _ k
reads-optional false m Q n h p g = reads-give none p _ (n p g)

pub reads-turns : {A : Type 0} {P : Place → Type 0} (f : ℕ → Read A) (Q : Place → A → Place → Type 0) → ((k : ℕ) → Reads P (f k) Q) → Reads P (turns f) Q
unfolding turns
reads-turns f Q h p g = h (suc (length p.left)) p g

pub reads-at_least_one : {A : Type 0} {P : Place → Type 0} (b : Bytes) (m : Read (List A)) (Q : Place → List A → Place → Type 0) → Reads P m Q → Reads P (at_least_one b m) Q
unfolding at_least_one stop
reads-at_least_one b m Q h p g = reads-test (at b p) _ _ _ (λ t. h p g) (λ t. tt)

pub reads-value : {A : Type 0} (m : Answer (A × Place)) (Q : A → Type 0) → Reaches m (λ a q. Q a) → Ensures (value_of m) Q
unfolding value_of
reads-value (ok r) Q h = h
reads-value (refused r) Q h = tt

-- entries that each go from place to place by E make a run by Q, and with the n before them no more than the most
module _ {H A : Type 0} (k : Bytes) (f : List Word → Option H) (most : ℕ) (body : ℕ → H → Read A)
    (P : Place → Type 0) (E : Place → A → Place → Type 0) (Q : Place → List A → Place → Type 0)
    (entry : (p : Place) (h : H) → P p → f (rest p) ≡ some h → Reaches (body p.line h (next p)) (λ a q. E p a q × P q))
    (none' : (p : Place) → P p → Q p [] p)
    (more : (p q r : Place) (a : A) (as' : List A) → E p a q → Q q as' r → Q p (a ∷ as') r) where
  pub reads-many : (fuel n : ℕ) → n ≤ most → Reads P (many k f most body fuel n) (λ p as' q. Q p as' q × (n + length as' ≤ most))
  unfolding many
  reads-many zero n b p h = reads-give [] p _ (none' p h, omega arith)
  reads-many (suc fuel) n b p h = reads-test (at k p) _ _ _
      (λ t. reads-into (record_within f n most) _ p _ (reads-within f n most p _ λ g e l. reads_then (body p.line g) _ (next p) _ _ (entry p g h e) λ a q s.
      reads_then (many k f most body fuel (suc n)) _ q _ _ (reads-many fuel (suc n) l q s.1) λ as' r u. reads-give (a ∷ as') r _ (more p q r a as' s.0 u.0, omega arith)))
      (λ t. (none' p h, omega arith))

  pub reads-run : Reads P (turns λ fuel. many k f most body fuel 0) (λ p as' q. Q p as' q × (length as' ≤ most))
  reads-run = reads-turns _ _ λ fuel p h. weaken (many k f most body fuel 0 p) _ _ (λ r u. (u.0, omega arith)) (reads-many fuel 0 (omega arith) p h)
