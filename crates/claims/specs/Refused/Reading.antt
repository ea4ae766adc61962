-- Readers that refuse with 2 or 3 alone, in the text that they read, by the steps of reading.
use Prim.Native.Nat.{ℕ, zero, suc}
use Rattle.std.specs.Prelude.{◌≡◌, Bool, ltb, length}
use Rattle.std.proofs.Math.Path.{refl}
use Rattle.std.proofs.Math.Bool.{true, false}
use mathlib.Core.List.{List, [], ◌∷◌}
use Rattle.std.proofs.Math.Option.{Option, none, some}
use Rattle.rules.specs.Refusals.{Text, refusal_number, wrong_record, limit_passed, Answer, ok, refused}
use Rattle.rules.specs.Lists.{Bytes, any}
use Rattle.rules.specs.Lines.{Word}
use Rattle.rules.specs.Reader.{Place, Read, stop, give, ◌>>=◌, ◌>>◌, next, rest, at, line_number, fit, record', optional}
use Rattle.rules.specs.Reader.{record_within, many, turns, at_least_one}
use Rattle.claims.specs.Cases.{either_way}
use Rattle.claims.specs.Refused.Refuses.{Among}

-- what is read next is in this text, or the refusal is, with 2 or 3
abbrev pub Stays : {A : Type 0} → Text → Answer (A × Place) → Type 0
Stays t (ok r) = r.1.text ≡ t
Stays t (refused r) = Among t (2 ∷ 3 ∷ []) r

-- and so from every place
pub record InText {A : Type 0} (m : Read A) : Type 0 where
  pub from : (p : Place) → Stays p.text (m p)

-- STEPS
pub gives : {A : Type 0} (a : A) → InText (give a)
unfolding give
gives a = record { from = λ p. refl }

-- 2 and 3 in a text
pub wrong : {t : Text} {l : ℕ} → Among t (2 ∷ 3 ∷ []) (record { reason = wrong_record; text = t; line = l })
unfolding refusal_number any
wrong = record { number = refl; text = refl }

pub past-limit : {t : Text} {l : ℕ} → Among t (2 ∷ 3 ∷ []) (record { reason = limit_passed; text = t; line = l })
unfolding refusal_number any
past-limit = record { number = refl; text = refl }

-- a step, and the next from its value
pub after : {A B : Type 0} {m : Read A} {f : A → Read B} → InText m → ((a : A) → InText (f a))
    → InText (◌>>=◌ m f)
unfolding ◌>>=◌
after {A} {B} {m} {f} h k = record { from = λ p. go p.text (m p) (h.from p) }
  where
    go : (t : Text) (x : Answer (A × Place)) → Stays t x
        → Stays {A = B} t (elim x [ ok r ↦ f r.0 r.1 | refused r ↦ refused r ])
    go t (ok r) g = rw (← g) ((k r.0).from r.1)
    go t (refused r) g = g

-- a step of whose value nothing is wanted
pub past : {A B : Type 0} {m : Read A} {n : Read B} → InText m → InText n → InText (◌>>◌ m n)
unfolding ◌>>◌ ◌>>=◌
past h g = after h λ a. g

-- RECORDS
pub fit_stays : {A : Type 0} (o : Option A) (p : Place) → Stays p.text (fit o p)
unfolding fit stop next
fit_stays none p = wrong
fit_stays (some a) p = refl

pub records : {A : Type 0} (k : Bytes) (f : List Word → Option A) → InText (record' k f)
unfolding record' stop
records k f = record { from = λ p. either_way (Stays p.text) (at k p) _ _ (fit_stays (f (rest p)) p) wrong }

pub line-numbers : InText line_number
unfolding line_number
line-numbers = record { from = λ p. refl }

module _ {H : Type 0} (f : List Word → Option H) (n most : ℕ) where
  pub within : InText (record_within f n most)
  unfolding record_within stop next
  within = record { from = λ p. go p (f (rest p)) }
    where
      go : (p : Place) (o : Option H) → Stays {A = ℕ × H} p.text (elim o [
        | none ↦ stop wrong_record p
        | some h ↦ elim (ltb n most) [ false ↦ stop limit_passed p | true ↦ ok ((p.line, h), next p) ]
      ])
      go p none = wrong
      go p (some h) = either_way (Stays {A = ℕ × H} p.text) (ltb n most) _ _ refl past-limit

-- RUNS
pub turned : {A : Type 0} {f : ℕ → Read A} → ((k : ℕ) → InText (f k)) → InText (turns f)
unfolding turns
turned h = record { from = λ p. (h (suc (length p.left))).from p }

pub optionals : {A : Type 0} {m : Read A} (b : Bool) → InText m → InText (optional b m)
unfolding optional
optionals true h = after h λ a. gives (some a)
optionals false h = gives none

pub at_least : {A : Type 0} {m : Read (List A)} (k : Bytes) → InText m → InText (at_least_one k m)
unfolding at_least_one stop
at_least k h = record { from = λ p. either_way (Stays p.text) (at k p) _ _ (h.from p) wrong }

module _ {H A : Type 0} (k : Bytes) (f : List Word → Option H) (most : ℕ) {body : ℕ → H → Read A}
    (h : (l : ℕ) (x : H) → InText (body l x)) where
  many-in-text : (fuel n : ℕ) → InText (many k f most body fuel n)
  unfolding many
  many-in-text zero n = gives []
  many-in-text (suc fuel) n = record {
    from = λ p. either_way (Stays p.text) (at k p) _ _
        ((after (within f n most) λ x.
        after (h x.0 x.1) λ a.
        after (many-in-text fuel (suc n)) λ as'.
        gives (a ∷ as')).from p)
        refl;
  }

  pub run : InText (turns λ fuel. many k f most body fuel 0)
  run = turned λ fuel. many-in-text fuel 0
