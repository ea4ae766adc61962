-- What holds of every refusal that an answer can be, along a do-block; and a refusal by its number of document 01.
use Rattle.std.specs.Prelude.{ℕ, ◌≡◌, refl, Bool, true, false, List, [], ◌∷◌, eqb}
use Rattle.std.proofs.Common.{arith, eqb-true}
use Rattle.std.proofs.lemmas.Bool.{false≢true}
use Rattle.std.proofs.Math.Option.{Option, none, some}
use Rattle.rules.specs.Refusals.{Text, statement, Reason, refusal_number, limit_passed, Refusal, Answer, ok, refused}
use Rattle.rules.specs.Refusals.{◌>>=◌, refuse, refuse_if, at_most}
use Rattle.rules.specs.Lists.{any, entry_after}
use Rattle.rules.specs.BuildExpression.{each}

-- every refusal that an answer can be has R
pub record Refuses {A : Type 0} (m : Answer A) (R : Refusal → Type 0) : Type 0 where
  pub refusal : (r : Refusal) → m ≡ refused r → R r

-- ALONG A DO-BLOCK
pub accepted : {A : Type 0} {a : A} {R : Refusal → Type 0} → Refuses (ok a) R
accepted = record { refusal = λ r e. grind arith }

pub refused-with : {A : Type 0} {t : Refusal} {R : Refusal → Type 0} → R t → Refuses {A = A} (refused t) R
refused-with {A} {t} {R} h = record { refusal = λ r e. let q : t ≡ r = cc in rw (← q) h }

-- a step, and what follows from its value
pub first : {A B : Type 0} {m : Answer A} {f : A → Answer B} {R : Refusal → Type 0}
    → Refuses m R → ((a : A) → m ≡ ok a → Refuses (f a) R) → Refuses (m >>= f) R
unfolding ◌>>=◌
first {m} {f} {R} h k = go m h.refusal k
  where
    go : (n : Answer _) → ((r : Refusal) → n ≡ refused r → R r) → ((a : _) → n ≡ ok a → Refuses (f a) R)
        → Refuses (n >>= f) R
    go (ok a) g l = l a refl
    go (refused r) g l = refused-with (g r refl)

pub refuses-weaken : {A : Type 0} {m : Answer A} {R S : Refusal → Type 0} → ((r : Refusal) → R r → S r) → Refuses m R
    → Refuses m S
refuses-weaken k h = record { refusal = λ r e. k r (h.refusal r e) }

pub each-refuses : {A B : Type 0} {f : A → Answer B} {R : Refusal → Type 0} → ((a : A) → Refuses (f a) R)
    → (as' : List A) → Refuses (each f as') R
unfolding each
each-refuses k [] = accepted
each-refuses k (a ∷ as') = first (k a) λ b e. first (each-refuses k as') λ bs e₁. accepted

-- what holds in each case of a test
pub if-refuses : {A : Type 0} {x y : Answer A} {R : Refusal → Type 0} (b : Bool) → Refuses x R → Refuses y R
    → Refuses {A = A} (elim b [ true ↦ x | false ↦ y ]) R
if-refuses true h g = h
if-refuses false h g = g

-- NUMBERS
-- a number is one of these
abbrev pub Has : List ℕ → ℕ → Type 0
Has ns n = any (eqb n) ns ≡ true

-- in this text, with one of these numbers
pub record Among (t : Text) (ns : List ℕ) (r : Refusal) : Type 0 where
  pub number : Has ns (refusal_number r.reason)
  pub text : r.text ≡ t

-- each of some numbers is one of others
abbrev pub all_in : List ℕ → List ℕ → Bool
all_in [] ns = true
all_in (m ∷ ms) ns = elim (any (eqb m) ns) [ true ↦ all_in ms ns | false ↦ false ]

in-more : (k : ℕ) (ms ns : List ℕ) → all_in ms ns ≡ true → Has ms k → Has ns k
unfolding any
in-more k [] ns s h = absurd (false≢true h)
in-more k (m ∷ ms) ns s h = go (in-more k ms ns) (any (eqb m) ns) refl (eqb k m) refl s h
  where
    go : (all_in ms ns ≡ true → Has ms k → Has ns k) → (b : Bool) → any (eqb m) ns ≡ b → (e : Bool) → eqb k m ≡ e
        → (elim b [ true ↦ all_in ms ns | false ↦ false ]) ≡ true
        → (elim e [ true ↦ true | false ↦ any (eqb k) ms ]) ≡ true → Has ns k
    go rest false p e q u v = absurd (false≢true u)
    go rest true p true q u v = rw (eqb-true k m q) p
    go rest true p false q u v = rest u v

-- more numbers
pub among-more : {A : Type 0} {m : Answer A} {t : Text} {ks ns : List ℕ} → all_in ks ns ≡ true
    → Refuses m (Among t ks) → Refuses m (Among t ns)
among-more {ks} {ns} s h = refuses-weaken (λ r g. record { number = in-more _ ks ns s g.number; text = g.text }) h

-- GUARDS
pub refuse-among : {A : Type 0} {ns : List ℕ} (n : Reason) (l : ℕ) → Has ns (refusal_number n)
    → Refuses {A = A} (refuse n l) (Among statement ns)
unfolding refuse
refuse-among n l h = refused-with (record { number = h; text = refl })

pub if-among : {ns : List ℕ} (b : Bool) (n : Reason) (l : ℕ) → Has ns (refusal_number n)
    → Refuses (refuse_if b n l) (Among statement ns)
unfolding refuse_if
if-among true n l h = refuse-among n l h
if-among false n l h = accepted

pub limit-among : {A : Type 0} {ns : List ℕ} (n : ℕ) (line : A → ℕ) (xs : List A) → Has ns 3
    → Refuses (at_most n line xs) (Among statement ns)
unfolding at_most refusal_number
limit-among {A} {ns} n line xs h = go (entry_after n xs)
  where
    go : (o : Option A)
        → Refuses {A = Unit {0}} (elim o [ none ↦ ok tt | some a ↦ refuse limit_passed (line a) ]) (Among statement ns)
    go none = accepted
    go (some a) = refuse-among limit_passed (line a) h
