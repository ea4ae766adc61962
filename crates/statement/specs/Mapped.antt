-- Readers whose value is changed by a function, and the laws of steps.
use Rattle.std.specs.Prelude.{ℕ, ◌≡◌, Bool, true, false, List, ltb}
use Rattle.std.proofs.Math.Path.{refl, fun_ext}
use Rattle.std.proofs.Common.{ap}
use Rattle.std.proofs.Math.Option.{Option, none, some}
use Rattle.rules.specs.Refusals.{Answer, ok, refused}
use Rattle.rules.specs.Lists.{Bytes, map_option}
use Rattle.rules.specs.Lines.{Word}
use Rattle.rules.specs.Reader.{Place, Read, give, stop, ◌>>=◌, rest, at, record_within, turns, at_least_one}

-- the reader, its value changed by f
unfoldable pub mapped : {A B : Type 0} → (A → B) → Read A → Read B
mapped f m = m >>= λ a. give (f a)

-- what follows, the same for every value
pub same-steps : {A B : Type 0} (m : Read A) (f g : A → Read B) → ((a : A) → f a ≡ g a) → (m >>= f) ≡ (m >>= g)
same-steps m f g h = ap (λ k. m >>= k) (fun_ext h)

module _ {A B C : Type 0} where
  pub regroup : (m : Read A) (f : A → Read B) (g : B → Read C) → ((m >>= f) >>= g) ≡ (m >>= λ a. (f a >>= g))
  unfolding ◌>>=◌
  regroup m f g = fun_ext λ p. go p (m p) refl
    where
      go : (p : Place) (x : Answer (A × Place)) → m p ≡ x → ((m >>= f) >>= g) p ≡ (m >>= λ a. (f a >>= g)) p
      go p (ok r) e = rw (◌>>=◌, e)
      go p (refused r) e = rw (◌>>=◌, e)

  pub mapped-steps : (m : Read A) (f : A → B) (g : B → Read C) → (mapped f m >>= g) ≡ (m >>= λ a. g (f a))
  unfolding mapped give ◌>>=◌
  mapped-steps m f g = regroup m (λ a. give (f a)) g

  pub steps-mapped : (m : Read A) (f : A → Read B) (g : B → C) → mapped g (m >>= f) ≡ (m >>= λ a. mapped g (f a))
  unfolding mapped
  steps-mapped m f g = regroup m f λ b. give (g b)

  pub mapped-twice : (m : Read A) (f : A → B) (g : B → C) → mapped g (mapped f m) ≡ mapped (λ a. g (f a)) m
  unfolding mapped
  mapped-twice m f g = mapped-steps m f λ b. give (g b)

pub mapped-same : {A : Type 0} (m : Read A) → mapped (λ a. a) m ≡ m
unfolding mapped ◌>>=◌ give
mapped-same {A} m = fun_ext λ p. go p (m p) refl
  where
    go : (p : Place) (x : Answer (A × Place)) → m p ≡ x → mapped (λ a. a) m p ≡ m p
    go p (ok r) e = rw (mapped, ◌>>=◌, e)
    go p (refused r) e = rw (mapped, ◌>>=◌, e)

module _ {A B : Type 0} (f : A → B) where
  pub given-mapped : (a : A) → mapped f (give a) ≡ give (f a)
  unfolding mapped ◌>>=◌ give
  given-mapped a = refl

  pub turns-mapped : (m : ℕ → Read A) → turns (λ k. mapped f (m k)) ≡ mapped f (turns m)
  unfolding mapped ◌>>=◌ turns
  turns-mapped m = refl

-- the reader where a record with this keyword stands, else the value
unfoldable pub if_at : {A : Type 0} → Bytes → A → Read A → Read A
if_at k a m p = elim (at k p) [ false ↦ ok (a, p) | true ↦ m p ]

pub if_at-steps : {A B : Type 0} (k : Bytes) (a : A) (m : Read A) (f : A → Read B) (b : B) → f a ≡ give b → (if_at k a m >>= f) ≡ if_at k b (m >>= f)
unfolding if_at ◌>>=◌ give
if_at-steps k a m f b z = fun_ext λ p. go p (at k p) refl
  where
    go : (p : Place) (t : Bool) → at k p ≡ t → (if_at k a m >>= f) p ≡ if_at k b (m >>= f) p
    go p true e = rw (if_at, ◌>>=◌, e)
    go p false e = rw (if_at, ◌>>=◌, e, z)

pub if_at-mapped : {A B : Type 0} (f : A → B) (k : Bytes) (a : A) (m : Read A) → mapped f (if_at k a m) ≡ if_at k (f a) (mapped f m)
unfolding mapped
if_at-mapped f k a m = if_at-steps k a m (λ x. give (f x)) (f a) refl

pub at_least_one-mapped : {A B : Type 0} (f : List A → List B) (k : Bytes) (m : Read (List A)) → at_least_one k (mapped f m) ≡ mapped f (at_least_one k m)
unfolding mapped ◌>>=◌ at_least_one stop
at_least_one-mapped f k m = fun_ext λ p. go p (at k p) refl
  where
    go : (p : Place) (b : Bool) → at k p ≡ b → at_least_one k (mapped f m) p ≡ mapped f (at_least_one k m) p
    go p true e = rw (at_least_one, mapped, ◌>>=◌, e)
    go p false e = rw (at_least_one, mapped, ◌>>=◌, e)

-- a record's fields, changed
pub within-mapped : {H G : Type 0} (f : List Word → Option H) (g : List Word → Option G) (c : H → G) → ((r : List Word) → g r ≡ map_option c (f r))
    → (n most : ℕ) → record_within g n most ≡ mapped (λ h. (h.0, c h.1)) (record_within f n most)
unfolding mapped ◌>>=◌ give record_within stop map_option
within-mapped {H} {G} f g c same n most = fun_ext λ p. go p (f (rest p)) refl (ltb n most) refl
  where
    go : (p : Place) (o : Option H) → f (rest p) ≡ o → (b : Bool) → ltb n most ≡ b
        → record_within g n most p ≡ mapped (λ h. (h.0, c h.1)) (record_within f n most) p
    go p none e b l = rw (record_within, mapped, ◌>>=◌, same (rest p), e)
    go p (some h) e true l = rw (record_within, mapped, ◌>>=◌, same (rest p), e, l)
    go p (some h) e false l = rw (record_within, mapped, ◌>>=◌, same (rest p), e, l)
