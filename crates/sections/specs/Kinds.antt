-- The twelve kinds of sections: each has a keyword, and room for all its entries.
use Rattle.std.specs.Prelude.{ℕ, zero, suc, ◌+◌, ◌*◌, ◌≤◌, ◌<◌, ◌≡◌, Bool, true, false, length}
use Rattle.std.proofs.Common.{arith}
use Rattle.std.proofs.Math.Decide.{dec_lt}
use Rattle.std.proofs.Math.Path.{refl}
use Rattle.std.proofs.Math.Bool.{not}
use mathlib.Core.List.{[]}
use Rattle.std.proofs.Math.Dec.{leb}
use Rattle.std.proofs.Math.ListN.{drop_of_length-le}
use borrow.Author.Tests.{leb-true, not-true}
use Rattle.rules.specs.Lists.{Bytes, same}
use Rattle.rules.specs.Lines.{bytes, fields, empty}
use Rattle.rules.specs.Reader.{at, key, key_of, line_here}
use Rattle.text.specs.Reading.{place}
use Rattle.read_expression.specs.Reading.{here}
use Rattle.entries.specs.Entries.{keyword_of, most_of, is_once, turns_of}
use Rattle.sections.specs.Layout.{start_of, numbers}
use Rattle.sections.specs.Terms.{end_of}

-- a test that passes at all numbers below n
unfoldable passes : (ℕ → Bool) → ℕ → Bool
passes f zero = true
passes f (suc n) = elim (f n) [ true ↦ passes f n | false ↦ false ]

passes_at : (f : ℕ → Bool) (n k : ℕ) → passes f n ≡ true → k < n → f k ≡ true
unfolding passes
passes_at f zero k h l = absurd (omega arith)
passes_at f (suc n) k h l = go (f n) refl (passes_at f n k)
  where
    go : (b : Bool) → f n ≡ b → (passes f n ≡ true → k < n → f k ≡ true) → f k ≡ true
    go true e ih = elim (dec_lt k n) [
      | yes y ↦ ih (rw (passes, e) at h) y
      | no y ↦ let z : k ≡ n = omega (arith, y) in rw (z, e)
    ]
    go false e ih = absurd (let x : false ≡ true = (rw (passes, e) at h) in grind arith)

module _ (kind : ℕ) (h : kind ≤ 11) where
  keyword-some : same [] (keyword_of kind) ≡ false
  unfolding passes keyword_of same bytes
  keyword-some = not-true _ (passes_at (λ k. not (same [] (keyword_of k))) 12 kind refl (omega arith))

  -- all entries of a section lie in the parts
  pub end-within : end_of kind ≤ numbers
  unfolding passes end_of start_of most_of
  end-within = leb-true _ _ (passes_at (λ k. leb (end_of k) numbers) 12 kind refl (omega arith))

  pub start-within : start_of kind < numbers
  unfolding end_of
  start-within = omega (arith, end-within)

  pub entry-within : (n : ℕ) → n < most_of kind → start_of kind + 1 + 12 * n + 12 ≤ numbers
  unfolding end_of
  entry-within n l = omega (arith, end-within)

  -- a record stands before the text's end
  module _ (t : Bytes) (p l c k : ℕ) where
    keyword-past : length t ≤ p → at (keyword_of kind) (here t p l c k) ≡ false
    unfolding at key line_here place fields key_of empty
    keyword-past m = rw (at, drop_of_length-le t m) keyword-some

    pub keyword-inside : at (keyword_of kind) (here t p l c k) ≡ true → p < length t
    keyword-inside e = elim (dec_lt p (length t)) [
      | yes y ↦ y
      | no y ↦ absurd (let x = keyword-past (omega (arith, y)) in grind arith)
    ]

-- NO KIND
-- none of the numbers below n
unfoldable pub Past : ℕ → ℕ → Type 0
Past zero k = Unit {0}
Past (suc n) k = Past n k × (k ≡ n → ⊥)

past : (n k : ℕ) → Past n k → n ≤ k
unfolding Past
past zero k h = omega arith
past (suc n) k h = next (past n k h.0) h.1
  where
    next : n ≤ k → (k ≡ n → ⊥) → suc n ≤ k
    next l e = omega arith

pub no_kind : (kind : ℕ) → kind ≤ 11 → Past 12 kind → ⊥
no_kind kind h p = contra (past 12 kind p)
  where
    contra : 12 ≤ kind → ⊥
    contra l = omega arith

-- TURNS
pub turns-once : (kind n : ℕ) → is_once kind ≡ true → turns_of kind n ≡ 1
unfolding turns_of
turns-once kind n e = rw (turns_of, e)

pub turns_more : (kind n : ℕ) → is_once kind ≡ false → turns_of kind n ≡ suc n
unfolding turns_of
turns_more kind n e = rw (turns_of, e)

pub turns-some : (kind n : ℕ) → 1 ≤ turns_of kind n
unfolding turns_of
turns-some kind n = go (is_once kind) refl
  where
    go : (b : Bool) → is_once kind ≡ b → 1 ≤ turns_of kind n
    go true e = rw (turns_of, e) (omega arith)
    go false e = rw (turns_of, e) (omega arith)
