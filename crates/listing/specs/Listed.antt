-- What the listing's answer says of a window: it has the rest of the bytes, or is full of them.
use Rattle.std.specs.Prelude.{ℕ, ◌+◌, ◌-◌, ◌≤◌, ◌<◌, ◌≡◌, refl, List, [], ◌∷◌, take, Option, None, Some}
use native.Mathlib.Omega.{arith}
use Rattle.std.proofs.Common.{◌∙◌, take_all, length-take-le}
use Rattle.std.proofs.Math.Path.{sym, ap}
use Rattle.std.proofs.Math.ListN.{length, drop}
use Rattle.std.proofs.Math.Seq.{take-length}
use Rattle.std.proofs.lemmas.List.{drop-take}
use Rattle.io.specs.Counts.{IsPrefixLen}
use Rattle.rules.specs.Refusals.{Text, catalog, statement, refusal_number, Refusal, refused}
use Rattle.rules.specs.Lists.{Bytes}
use Rattle.rules.specs.Lines.{bytes}
use Rattle.rules.specs.Entry.{text_number}
use Rattle.rules.specs.Print.{decimal_of, show_lines, text_name, show_refusal, show_answer}
use Rattle.text.specs.Words.{words_of, push}
use Rattle.listing.specs.Words.{word_of}
use Rattle.listing.specs.Put.{Put}

-- what is left of a window, as the answer tells it
unfoldable pub Told : ℕ → Option ℕ → Type 0
Told left (Some n) = (0 < left) × (n ≡ 65536 - left)
Told left None = left ≡ 0

-- the bytes b are the first n of the window and end there, or fill all of it
unfoldable pub Holds : Bytes → List ℕ → Option ℕ → Type 0
Holds b s (Some n) = (n < length s) × (take n s ≡ b)
Holds b s None = (length s ≡ 65536) × (s ≡ take 65536 b)

-- a window that starts behind `from` bytes of b
module _ {s s' : List ℕ} {b : Bytes} {at left : ℕ} (from : ℕ) (w : length s ≡ 65536) (a : at ≡ from + 65536)
    (h : Put s s' at b left) where
  put-window : take (65536 - left) s' ≡ drop from (take at b)
  put-window =
      let e : 65536 - at ≡ 0 = omega arith in
      let f : at - 65536 ≡ from = omega arith in
      rw (w, e, f) at h.written

  pub held : (r : Option ℕ) → Told left r → Holds (drop from b) s' r
  unfolding Told Holds
  held (Some n) t =
      let l : length b ≤ at = omega (arith, h.left, t.0) in
      (omega (arith, t.0, t.1, h.room, w), rw t.1 (put-window ∙ ap (drop from) (take_all at b l)))
  held None t =
      let l : length s' ≡ 65536 = h.room ∙ w in
      (l, sym (take-length s') ∙ rw (l) (rw (t) at put-window ∙ ap (λ i. drop from (take i b)) a ∙ drop-take from 65536 b))

-- WHAT A CALLER KNOWS
module _ (b : Bytes) (s : List ℕ) {r : Option ℕ} (h : Holds b s r) where
  pub counted : {n : ℕ} → r ≡ Some n → IsPrefixLen n s
  unfolding Holds
  counted {n} e = let l : n < length s = (rw e at h).0 in (omega arith, sym (length-take-le n s (omega arith)))

  pub ended : {n : ℕ} → r ≡ Some n → take n s ≡ b
  unfolding Holds
  ended e = (rw e at h).1

  pub filled : r ≡ None → (length s ≡ 65536) × (s ≡ take 65536 b)
  unfolding Holds
  filled e = rw e at h

-- A REFUSAL by its number, its text's number and its line
unfoldable pub refusal_line : ℕ → ℕ → ℕ → List (List Bytes)
refusal_line n x l = (bytes "refused" ∷ decimal_of n ∷ word_of (bytes " catalog statement ") x ∷ decimal_of l ∷ []) ∷ []

text-word : (t : Text) → word_of (bytes " catalog statement ") (text_number t) ≡ text_name t
unfolding text_number text_name bytes words_of push
text-word catalog = refl
text-word statement = refl

pub refusal-listed : (n l : ℕ) (t : Text) → (bytes "refused" ∷ decimal_of n ∷ text_name t ∷ decimal_of l ∷ []) ∷ [] ≡ refusal_line n (text_number t) l
unfolding refusal_line
refusal-listed n l t = rw (text-word t)

pub refusal-shown : (r : Refusal)
    → show_lines (refusal_line (refusal_number r.reason) (text_number r.text) r.line) ≡ show_answer (refused r)
unfolding refusal_line show_answer show_refusal
refusal-shown r = rw (text-word r.text)
