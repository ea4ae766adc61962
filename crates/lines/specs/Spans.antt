-- The lines of a text: the rules' own steps from line to line, and where each line stands.
use Rattle.std.specs.Prelude.{ℕ, zero, suc, ◌+◌, ◌-◌, ◌≤◌, ◌<◌, ◌≡◌, refl, Bool, true, false, List, [], ◌∷◌, eqb, length, get_or, take, drop}
use Rattle.std.proofs.Common.{arith, add-zero, ap, ◌∙◌, drop_of_length-le, drop-drop}
use Rattle.std.proofs.Math.Decide.{dec_lt}
use Rattle.rules.specs.Lists.{Bytes}
use Rattle.rules.specs.Lines.{line_size}
use Rattle.rules.specs.Refusals.{Text}
use Rattle.rules.specs.Reader.{Place, start, next}
use Rattle.text.specs.Bytes.{run, stop_at, step}
use Rattle.text.specs.Lines.{line_end, line-none}
use Rattle.text.specs.Words.{push}
use Rattle.text.specs.Reading.{place, place-start, place-next}
use Rattle.lines.specs.declared.Span.{Span}

-- the position behind n lines
unfoldable pub lines_end : Bytes → ℕ → ℕ → ℕ
lines_end t p zero = p
lines_end t p (suc n) = lines_end t (line_end t p) n

-- the bytes of the line that a text starts with, without its LF
unfoldable pub line_bytes : Bytes → Bytes
line_bytes [] = []
line_bytes (x ∷ xs) = elim (eqb x 10) [ true ↦ [] | false ↦ x ∷ line_bytes xs ]

-- where the line at p stands
unfoldable pub span_at : Bytes → ℕ → Span
span_at t p = record { start = p; len = length (line_bytes (drop p t)) }

-- where the n-th line stands, from 1; 0 is no line
unfoldable pub line_span : Bytes → ℕ → Span
line_span t zero = record { start = 0; len = 0 }
line_span t (suc n) = span_at t (lines_end t 0 n)

pub span_none : (t : Bytes) (n : ℕ) → n ≡ 0 → record { start = 0; len = 0 } ≡ line_span t n
unfolding line_span
span_none t n e = rw e

pub span-nth : (t : Bytes) (n : ℕ) (s : Span) → (n ≡ 0 → ⊥) → s ≡ span_at t (lines_end t 0 (n - 1)) → s ≡ line_span t n
unfolding line_span
span-nth t zero s h e = absurd (h refl)
span-nth t (suc n) s h e = let k : suc n - 1 ≡ n = omega arith in rw k at e

-- A TEXT AS ITS LINES
-- the lines of a text, each without its LF; bytes behind the last LF are a line too
unfoldable pub lines_of : Bytes → List Bytes
lines_of [] = []
lines_of (x ∷ xs) = elim (eqb x 10) [ true ↦ [] ∷ lines_of xs | false ↦ push x (lines_of xs) ]

three : lines_of (97 ∷ 98 ∷ 10 ∷ 10 ∷ 99 ∷ []) ≡ (97 ∷ 98 ∷ []) ∷ [] ∷ (99 ∷ []) ∷ []
unfolding lines_of push
three = refl

-- the n-th line, from 1, or no bytes
unfoldable pub nth_line : Bytes → ℕ → Bytes
nth_line t zero = []
nth_line t (suc n) = get_or (lines_of t) n []

-- LINES ON
pub end_stays : (t : Bytes) (p n : ℕ) → length t ≤ p → lines_end t p n ≡ p
unfolding lines_end
end_stays t p zero h = refl
end_stays t p (suc n) h = rw (line-none t p h) (end_stays t p n h)

pub end-next : (t : Bytes) (p e n : ℕ) → 0 < n → e ≡ line_end t p → lines_end t e (n - 1) ≡ lines_end t p n
unfolding lines_end
end-next t p e zero h g = absurd (omega arith)
end-next t p e (suc n) h g = let k : suc n - 1 ≡ n = omega arith in rw (k, g)

pub end_none : (t : Bytes) (p n : ℕ) → n ≤ 0 → lines_end t p n ≡ p
unfolding lines_end
end_none t p zero h = refl
end_none t p (suc n) h = absurd (omega arith)

-- n of the rules' steps to the next line
unfoldable pub steps : ℕ → Place → Place
steps zero p = p
steps (suc n) p = steps n (next p)

-- the reader n lines on stands where the rules stand after n steps
pub steps-place : (k : Text) (t : Bytes) (n p l c m : ℕ) → steps n (place k t p l c m) ≡ place k t (lines_end t p n) (l + n) c m
unfolding steps lines_end
steps-place k t zero p l c m = rw add-zero
steps-place k t (suc n) p l c m = let e : l + suc n ≡ l + 1 + n = omega arith in rw (place-next k t p l c m, e) (steps-place k t n (line_end t p) (l + 1) c m)

pub steps-start : (k : Text) (t : Bytes) (n : ℕ) → steps n (start k t) ≡ place k t (lines_end t 0 n) (1 + n) 0 0
steps-start k t n = rw (place-start k t) (steps-place k t n 0 1 0 0)

-- THE LINE'S BYTES
bytes_run : (xs : Bytes) → length (line_bytes xs) ≡ run 10 10 xs
unfolding line_bytes run
bytes_run [] = refl
bytes_run (x ∷ xs) = go (eqb x 10) refl (bytes_run xs)
  where
    go : (b : Bool) → eqb x 10 ≡ b → length (line_bytes xs) ≡ run 10 10 xs → length (line_bytes (x ∷ xs)) ≡ run 10 10 (x ∷ xs)
    go true e ih = rw (line_bytes, run, e)
    go false e ih = rw (line_bytes, run, e, e) (ap suc ih)

pub span-stop : (t : Bytes) (p e : ℕ) → e ≡ stop_at 10 10 t p → record { start = p; len = e - p } ≡ span_at t p
unfolding span_at stop_at
span-stop t p e h = let l : e - p ≡ length (line_bytes (drop p t)) = omega (arith, bytes_run (drop p t)) in ap (λ n. record { start = p; len = n }) l

bytes_take : (xs : Bytes) → take (length (line_bytes xs)) xs ≡ line_bytes xs
unfolding line_bytes
bytes_take [] = refl
bytes_take (x ∷ xs) = go (eqb x 10) refl (bytes_take xs)
  where
    go : (b : Bool) → eqb x 10 ≡ b → take (length (line_bytes xs)) xs ≡ line_bytes xs → take (length (line_bytes (x ∷ xs))) (x ∷ xs) ≡ line_bytes (x ∷ xs)
    go true e ih = rw (line_bytes, e)
    go false e ih = rw (line_bytes, e) (ap (◌∷◌ x) ih)

push-lines : (x : ℕ) (xs : Bytes) → push x (lines_of xs) ≡ (x ∷ line_bytes xs) ∷ lines_of (drop (line_size xs) xs)
unfolding push lines_of line_bytes line_size
push-lines x [] = refl
push-lines x (y ∷ ys) = go (eqb y 10) refl (push-lines y ys)
  where
    go : (b : Bool) → eqb y 10 ≡ b → push y (lines_of ys) ≡ (y ∷ line_bytes ys) ∷ lines_of (drop (line_size ys) ys)
        → push x (lines_of (y ∷ ys)) ≡ (x ∷ line_bytes (y ∷ ys)) ∷ lines_of (drop (line_size (y ∷ ys)) (y ∷ ys))
    go true e ih = rw (lines_of, line_bytes, line_size, e)
    go false e ih = rw (lines_of, line_bytes, line_size, e, ih)

lines-first : (x : ℕ) (xs : Bytes) → lines_of (x ∷ xs) ≡ line_bytes (x ∷ xs) ∷ lines_of (drop (line_size (x ∷ xs)) (x ∷ xs))
unfolding lines_of line_bytes line_size
lines-first x xs = go (eqb x 10) refl
  where
    go : (b : Bool) → eqb x 10 ≡ b → lines_of (x ∷ xs) ≡ line_bytes (x ∷ xs) ∷ lines_of (drop (line_size (x ∷ xs)) (x ∷ xs))
    go true e = rw (lines_of, line_bytes, line_size, e)
    go false e = rw (lines_of, line_bytes, line_size, e) (push-lines x xs)

-- the lines from p on: the one there, and those behind it
lines_at : (t : Bytes) (p : ℕ) → p < length t → lines_of (drop p t) ≡ line_bytes (drop p t) ∷ lines_of (drop (line_end t p) t)
unfolding line_end
lines_at t p h = rw (← drop-drop (line_size (drop p t)) p t) (rw (← step t p h) at (lines-first (get_or t p 0) (drop (p + 1) t)))

-- behind the end there is no line
line-out : (t : Bytes) (p n : ℕ) → length t ≤ p → line_bytes (drop (lines_end t p n) t) ≡ get_or (lines_of (drop p t)) n []
unfolding line_bytes lines_of
line-out t p n h = rw (end_stays t p n h, drop_of_length-le t h)

line-from : (t : Bytes) (n p : ℕ) → line_bytes (drop (lines_end t p n) t) ≡ get_or (lines_of (drop p t)) n []
unfolding lines_end
line-from t zero p = elim (dec_lt p (length t)) [ yes y ↦ rw (lines_at t p (omega (arith, y))) | no y ↦ line-out t p 0 (omega (arith, y)) ]
line-from t (suc n) p = elim (dec_lt p (length t)) [ yes y ↦ rw (lines_at t p (omega (arith, y))) (line-from t n (line_end t p)) | no y ↦ line-out t p (suc n) (omega (arith, y)) ]

span-bytes : (t : Bytes) (n : ℕ) → take (line_span t n).len (drop (line_span t n).start t) ≡ nth_line t n
unfolding line_span span_at nth_line
span-bytes t zero = refl
span-bytes t (suc n) = bytes_take (drop (lines_end t 0 n) t) ∙ line-from t n 0

-- the bytes that stand there are the n-th of the text's lines
pub line-bytes : (t : Bytes) (n : ℕ) (s : Span) → s ≡ line_span t n → take s.len (drop s.start t) ≡ nth_line t n
line-bytes t n s e = rw e (span-bytes t n)

-- after n of the rules' steps the line that stands there is the text's line n + 1, and that is its number
pub line-there : (k : Text) (t : Bytes) (n : ℕ) → (line_bytes (steps n (start k t)).left ≡ nth_line t (suc n)) × ((steps n (start k t)).line ≡ suc n)
unfolding place nth_line
line-there k t n = let e : 1 + n ≡ suc n = omega arith in rw (steps-start k t n, e) (line-from t n 0, refl)
