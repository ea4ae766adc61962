-- The line fits in 64 bytes.
use Rattle.std.specs.Prelude.{ℕ, zero, suc, ◌+◌, ◌*◌, ◌-◌, ◌/◌, ◌%◌, ◌^◌, ◌≤◌, ◌<◌, ◌≡◌, Bool, true, false, List, [], ◌∷◌, ◌++◌, length, take, ltb}
use Rattle.std.proofs.Common.{arith, pow-suc, div-lt_iff_lt-mul, sym, ◌∙◌, length-append, length-take-le, take_all, lt-ltb}
use Rattle.io.specs.Counts.{IsPrefixLen}
use Rattle.rules.specs.Lists.{Bytes}
use Rattle.rules.specs.Lines.{bytes}
use Rattle.rules.specs.Print.{digits_of, decimal_of, tabbed}
use Rattle.listing.specs.Put.{Put}
use Rattle.statement.specs.declared.access.Kind.{Kind}
use Rattle.statement.specs.declared.access.Kind.TheVariants as K
use Rattle.numbers.specs.declared.refusals.Text as Tx
use Rattle.numbers.specs.declared.refusals.Text.TheVariants as T
use Rattle.read_texts.specs.Line.{kind_word, text_word}

digits_few : (k f n : ℕ) (r : Bytes) → n < 10 ^ suc k → length (digits_of f n r) ≤ suc k + length r
unfolding digits_of
digits_few k zero n r h = omega arith
digits_few zero (suc f) n r h =
    let x : n < 10 = h in
    rw (digits_of, lt-ltb n 10 x) (omega arith)
digits_few (suc k) (suc f) n r h =
    let w : n < 10 ^ suc k * 10 = (rw (pow-suc 10 (suc k)) at h) in
    go (ltb n 10) (digits_few k f (n / 10) ((48 + n % 10) ∷ r) ((div-lt_iff_lt-mul (omega arith)).1 w))
  where
    go : (b : Bool) → length (digits_of f (n / 10) ((48 + n % 10) ∷ r)) ≤ suc k + suc (length r)
        → length {A = ℕ} (elim b [ true ↦ (48 + n) ∷ r | false ↦ digits_of f (n / 10) ((48 + n % 10) ∷ r) ]) ≤ suc (suc k) + length r
    go true e = omega arith
    go false e = omega (arith, e)

-- a number of 32 bits has ten digits at most
pub decimal_few : (n : ℕ) → n < 4294967296 → length (decimal_of n) ≤ 10
unfolding decimal_of
decimal_few n h = digits_few 9 20 n [] (omega arith)

pub kind_few : (k : Kind) → length (kind_word k) ≤ 6
unfolding kind_word bytes
kind_few K.Select = omega arith
kind_few K.Create = omega arith
kind_few K.Drop = omega arith
kind_few K.Delete = omega arith
kind_few K.Insert = omega arith
kind_few K.Update = omega arith
kind_few K.Other = omega arith

pub text_few : (t : Tx.Text) → length (text_word t) ≤ 9
unfolding text_word bytes
text_few T.Catalog = omega arith
text_few T.Statement = omega arith

pub four_few : (a b c d : Bytes) → length a + length b + length c + length d ≤ 60 → length (tabbed (a ∷ b ∷ c ∷ d ∷ []) ++ (10 ∷ [])) ≤ 64
unfolding tabbed
four_few a b c d h = simp length-append (omega arith)

-- what a short line put at the start of 64 bytes leaves of them
pub all_put : {s s' : List ℕ} {r : ℕ} (b l : Bytes) → length s ≡ 64 → Put s s' 64 b r → b ≡ l → length l ≤ 64
    → IsPrefixLen (64 - r) s' × (take (64 - r) s' ≡ l)
all_put {s} {s'} {r} b l w p e h =
    let m : length b ≤ 64 = rw e h in
    let z : 64 - length s ≡ 0 = omega arith in
    let f : length s - 64 ≡ 0 = omega arith in
    let t : take (length s - r) s' ≡ take 64 b = rw (z, f) at p.written in
    let k : 64 - r ≤ length s' = omega (arith, p.room, w) in
    ((k, sym (length-take-le (64 - r) s' k)), rw (w) at t ∙ take_all 64 b m ∙ e)
