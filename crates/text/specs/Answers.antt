-- Answers of reading a text: one step after another, and lists put before what the rest gives.
use Rattle.std.specs.Prelude.{ℕ, ◌≤◌, ◌<◌, ◌≡◌, List, [], ◌∷◌, ◌++◌}
use Rattle.std.proofs.Math.Path.{refl}
use Rattle.std.proofs.Math.Option.{Option, none, some}
use Rattle.std.proofs.Common.{append_assoc}
use borrow.Author.Tests.{lt-ltb, le-ltb}
use Rattle.rules.specs.Refusals.{Text, wrong_record, limit_passed, Refusal, Answer, ok, refused}
use Rattle.rules.specs.Lines.{Word}
use Rattle.rules.specs.Reader.{Place, Read, give, stop, next, rest, record_within, ◌>>=◌, ◌>>◌}

-- document 01's 2 and 3, at a line of a text
unfoldable pub wrong_at : {A : Type 0} → Text → ℕ → Answer A
wrong_at t l = refused (record { reason = wrong_record; text = t; line = l })

unfoldable pub limit_at : {A : Type 0} → Text → ℕ → Answer A
limit_at t l = refused (record { reason = limit_passed; text = t; line = l })

module _ {A B : Type 0} (m : Read A) (f : A → Read B) (p : Place) where
  pub bind_ok : (a : A) (p' : Place) → m p ≡ ok (a, p') → (m >>= f) p ≡ f a p'
  unfolding ◌>>=◌
  bind_ok a p' e = rw (◌>>=◌, e)

  pub bind-no : (r : Refusal) → m p ≡ refused r → (m >>= f) p ≡ refused r
  unfolding ◌>>=◌
  bind-no r e = rw (◌>>=◌, e)

module _ {A B : Type 0} (m : Read A) (n : Read B) (p : Place) where
  pub then_ok : (a : A) (p' : Place) → m p ≡ ok (a, p') → (m >> n) p ≡ n p'
  unfolding ◌>>◌
  then_ok a p' e = rw (◌>>◌, e)

  pub then-no : (r : Refusal) → m p ≡ refused r → (m >> n) p ≡ refused r
  unfolding ◌>>◌
  then-no r e = rw (◌>>◌, e)

-- what is read depends on the answer alone
pub bind-answer : {A B : Type 0} (m n : Read A) (f : A → Read B) (p q : Place) → m p ≡ n q → (m >>= f) p ≡ (n >>= f) q
unfolding ◌>>=◌
bind-answer m n f p q e = rw (◌>>=◌, e)

-- a record after n of its kind
module _ {H : Type 0} (f : List Word → Option H) (n most : ℕ) (p : Place) where
  pub within-wrong : f (rest p) ≡ none → record_within f n most p ≡ stop wrong_record p
  unfolding record_within
  within-wrong e = rw (record_within, e)

  pub within-limit : (h : H) → f (rest p) ≡ some h → most ≤ n → record_within f n most p ≡ stop limit_passed p
  unfolding record_within
  within-limit h e l = rw (record_within, e, le-ltb n most l)

  pub within-ok : (h : H) → f (rest p) ≡ some h → n < most → record_within f n most p ≡ ok ((p.line, h), next p)
  unfolding record_within
  within-ok h e l = rw (record_within, e, lt-ltb n most l)

-- a list put before the one that is read
unfoldable pub prefixed : {A : Type 0} → List A → Answer (List A × Place) → Answer (List A × Place)
prefixed xs (ok r) = ok (xs ++ r.0, r.1)
prefixed xs (refused r) = refused r

module _ {A : Type 0} where
  pub give-first : (m : Read (List A)) (a : A) (p : Place) → (m >>= λ as'. give (a ∷ as')) p ≡ prefixed (a ∷ []) (m p)
  unfolding ◌>>=◌ prefixed give
  give-first m a p = go (m p) refl
    where
      go : (x : Answer (List A × Place)) → m p ≡ x → (m >>= λ as'. give (a ∷ as')) p ≡ prefixed (a ∷ []) (m p)
      go (ok r) e = rw (◌>>=◌, e)
      go (refused r) e = rw (◌>>=◌, e)

  pub prefixed-none : (x : Answer (List A × Place)) → prefixed [] x ≡ x
  unfolding prefixed
  prefixed-none (ok r) = refl
  prefixed-none (refused r) = refl

  pub prefixed-twice : (xs ys : List A) (x : Answer (List A × Place)) → prefixed xs (prefixed ys x) ≡ prefixed (xs ++ ys) x
  unfolding prefixed
  prefixed-twice xs ys (ok r) = rw (append_assoc xs ys r.0)
  prefixed-twice xs ys (refused r) = refl
