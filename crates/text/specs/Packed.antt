-- Short words as numbers, and keywords found by them.
use Rattle.std.specs.Prelude.{ℕ, zero, suc, ◌+◌, ◌*◌, ◌-◌, ◌≤◌, ◌<◌, ◌≡◌, Bool, true, false, List, [], ◌∷◌, ◌++◌, eqb, ltb}
use native.Mathlib.Omega.{arith}
use Rattle.std.proofs.Math.Path.{refl, sym}
use Rattle.std.proofs.Common.{ap, ◌∙◌, drop_of_length-le}
use Rattle.std.proofs.Math.ListN.{length, get_or, take, drop}
use Rattle.std.proofs.lemmas.List.{take_all, take_at, take-take, get_or-take, get_or-append_right, length-append}
use Rattle.std.proofs.lemmas.Bool.{false≢true}
use borrow.Author.Tests.{eqb-true, eqb-false, ne_eqb, ltb-true, lt-ltb, le-ltb}
use Rattle.rules.specs.Lists.{Bytes, same}
use Rattle.text.specs.Bytes.{step}
use Rattle.text.specs.Order.{same_true, same_self}
use Rattle.text.specs.Words.{find, words_of}

-- the bytes, the first one lowest, and a 1 above them
unfoldable pub number : Bytes → ℕ
number [] = 1
number (x ∷ xs) = x + 256 * number xs

-- numbers of 64 bits are below this
abbrev pub bound : ℕ
bound = 18446744073709551616

-- the same where the number has 64 bits, and else 0
unfoldable pub short_number : Bytes → ℕ
short_number x = elim (ltb (number x) bound) [ true ↦ number x | false ↦ 0 ]

unfoldable pub are_bytes : Bytes → Bool
are_bytes [] = true
are_bytes (x ∷ xs) = elim (ltb x 256) [ true ↦ are_bytes xs | false ↦ false ]

-- a word that its number stands for
unfoldable pub is_word : Bytes → Bool
is_word w = elim (are_bytes w) [ true ↦ ltb (number w) bound | false ↦ false ]

-- a byte string as a number: that of a word only where it is this word
pub record Packed (x : Bytes) (r : ℕ) : Type 0 where
  pub is : r ≡ short_number x
  pub only : (w : Bytes) → is_word w ≡ true → eqb r (number w) ≡ same w x

pub packed-as : (x y : Bytes) (r : ℕ) → x ≡ y → Packed x r → Packed y r
packed-as x y r e p = rw e at p

-- NUMBERS
number-some : (xs : Bytes) → 0 < number xs
unfolding number
number-some [] = omega arith
number-some (x ∷ xs) = omega (arith, number-some xs)

bytes-first : (x : ℕ) (xs : Bytes) → are_bytes (x ∷ xs) ≡ true → (x < 256) × (are_bytes xs ≡ true)
unfolding are_bytes
bytes-first x xs e = go (ltb x 256) refl e
  where
    go : (b : Bool) → ltb x 256 ≡ b → elim b [ true ↦ are_bytes xs | false ↦ false ] ≡ true → (x < 256) × (are_bytes xs ≡ true)
    go true h s = (ltb-true x 256 h, s)
    go false h s = absurd (false≢true s)

bytes-more : (x : ℕ) (xs : Bytes) → x < 256 → are_bytes xs ≡ true → are_bytes (x ∷ xs) ≡ true
unfolding are_bytes
bytes-more x xs h e = rw (are_bytes, lt-ltb x 256 h) e

number_same : (xs ys : Bytes) → are_bytes xs ≡ true → are_bytes ys ≡ true → number xs ≡ number ys → xs ≡ ys
unfolding number
number_same [] [] h g e = refl
number_same [] (y ∷ ys) h g e = absurd (omega (arith, number-some ys, e))
number_same (x ∷ xs) [] h g e = absurd (omega (arith, number-some xs, e))
number_same (x ∷ xs) (y ∷ ys) h g e =
    let a = bytes-first x xs h in
    let b = bytes-first y ys g in
    let f : x ≡ y = omega (arith, a.0, b.0, e) in
    let k : number xs ≡ number ys = omega (arith, a.0, b.0, e) in
    let r = number_same xs ys a.1 b.1 k in
    cc

number-drop : (xs : Bytes) (i : ℕ) → number (drop i xs) ≤ number xs
unfolding number
number-drop [] zero = omega arith
number-drop [] (suc i) = omega arith
number-drop (x ∷ xs) zero = omega arith
number-drop (x ∷ xs) (suc i) = omega (arith, number-drop xs i)

number_more : (xs : Bytes) (i : ℕ) → 0 < i → i ≤ length xs → 256 * number (drop i xs) ≤ number xs
unfolding number
number_more xs zero h g = absurd (omega arith)
number_more [] (suc i) h g = absurd (omega arith)
number_more (x ∷ xs) (suc i) h g = omega (arith, number-drop xs i)

word-is : (w : Bytes) → is_word w ≡ true → (are_bytes w ≡ true) × (number w < bound)
unfolding is_word
word-is w e = go (are_bytes w) refl e
  where
    go : (b : Bool) → are_bytes w ≡ b → elim b [ true ↦ ltb (number w) bound | false ↦ false ] ≡ true → (are_bytes w ≡ true) × (number w < bound)
    go true h s = (h, ltb-true (number w) bound s)
    go false h s = absurd (false≢true s)

-- THE LOOP FROM THE LAST BYTE TO THE FIRST
-- the bytes from i on are packed
pub record Packing (x : Bytes) (i v : ℕ) : Type 0 where
  pub within : i ≤ length x
  pub is : v ≡ number (drop i x)
  pub bytes : are_bytes (drop i x) ≡ true
  pub short : v < bound

module _ (x : Bytes) where
  pub packing-begin : Packing x (length x) 1
  unfolding number are_bytes
  packing-begin =
      let l : length x ≤ length x = omega arith in
      record { within = l; is = rw (drop_of_length-le x l); bytes = rw (drop_of_length-le x l); short = omega arith }

  pub packing-step : (i v : ℕ) → 0 < i → Packing x i v → v < 72057594037927936 → get_or x (i - 1) 0 < 256 → Packing x (i - 1) (v * 256 + get_or x (i - 1) 0)
  unfolding number
  packing-step i v h p s b =
      let l : i - 1 < length x = omega (arith, p.within) in
      let e : i - 1 + 1 ≡ i = omega arith in
      let d : drop (i - 1) x ≡ get_or x (i - 1) 0 ∷ drop i x = step x (i - 1) l ∙ rw e in
      record {
        within = omega arith;
        is = rw (d, number) (omega (arith, p.is));
        bytes = rw d (bytes-more _ _ b p.bytes);
        short = omega arith;
      }

  packing-whole : (v : ℕ) → Packing x 0 v → Packed x v
  unfolding short_number
  packing-whole v p = record { is = p.is ∙ sym small; only = λ w h. go w (word-is w h) (eqb v (number w)) refl (same w x) refl }
    where
      small : short_number x ≡ number x
      small = let l : number x < bound = omega (arith, p.is, p.short) in rw (short_number, lt-ltb _ _ l)

      go : (w : Bytes) → (are_bytes w ≡ true) × (number w < bound) → (a : Bool) → eqb v (number w) ≡ a → (b : Bool) → same w x ≡ b → a ≡ b
      go w h true e true f = refl
      go w h false e false f = refl
      go w h true e false f =
          let n : number w ≡ number x = sym (eqb-true v (number w) e) ∙ p.is in
          let q : w ≡ x = number_same w x h.0 p.bytes n in
          sym (same_self x) ∙ (rw q at f)
      go w h false e true f =
          let q : w ≡ x = same_true w x f in
          absurd (eqb-false v (number w) e (p.is ∙ ap number (sym q)))

  pub packing-end : (i v : ℕ) → i ≤ 0 → Packing x i v → Packed x v
  packing-end i v h p = let e : i ≡ 0 = omega arith in packing-whole v (rw e at p)

  pub packing-long : (i v : ℕ) → 0 < i → Packing x i v → 72057594037927936 ≤ v → Packed x 0
  unfolding short_number
  packing-long i v h p g = record { is = sym none; only = λ w k. go w (word-is w k) (same w x) refl }
    where
      large : bound ≤ number x
      large = omega (arith, number_more x i h p.within, p.is)

      none : short_number x ≡ 0
      none = rw (short_number, le-ltb _ _ large)

      go : (w : Bytes) → (are_bytes w ≡ true) × (number w < bound) → (b : Bool) → same w x ≡ b → eqb 0 (number w) ≡ b
      go w k false f = ne_eqb 0 (number w) (λ e. omega (arith, e, number-some w))
      go w k true f = absurd (omega (arith, ap number (same_true w x f), large, k.1))

  -- the bytes r, the first of x, are left
  pub record Left (r : Bytes) (v : ℕ) : Type 0 where
    pub first : r ≡ take (length r) x
    pub packing : Packing x (length r) v

  pub left-begin : Left x 1
  left-begin = record { first = sym (take_all (length x) x (omega arith)); packing = packing-begin }

  module _ {r : Bytes} {v : ℕ} (p : Left r v) where
    pub left-step : (s : Bytes) (b : ℕ) → r ≡ s ++ (b ∷ []) → v < 72057594037927936 → b < 256 → Left s (v * 256 + b)
    left-step s b e h l =
        let n : length r ≡ length s + 1 = rw e (length-append s (b ∷ [])) in
        let k : 0 < length r = omega arith in
        let i : length r - 1 ≡ length s = omega arith in
        let z : length s - length s ≡ 0 = omega arith in
        let a : get_or r (length s) 0 ≡ b =
        rw e (get_or-append_right s (b ∷ []) (length s) (length s) 0 refl (omega arith) ∙ rw z) in
        let d : get_or x (length s) 0 ≡ b = sym (get_or-take (length r) x (length s) 0 (omega arith))
        ∙ ap (λ (y : Bytes). get_or y (length s) 0) (sym p.first) ∙ a in
        let q : Packing x (length r - 1) (v * 256 + get_or x (length r - 1) 0) =
        packing-step (length r) v k p.packing h (rw (i, d) l) in
        record {
          first = sym (take_at s (b ∷ []) (length s) refl) ∙ ap (take (length s)) (sym e) ∙ ap (take (length s)) p.first
              ∙ take-take (length s) (length r) x (omega arith);
          packing = rw (i, d) at q;
        }

    pub left-end : length r ≡ 0 → Packed x v
    left-end e = packing-end (length r) v (omega arith) p.packing

    pub left-long : (s : Bytes) (b : ℕ) → r ≡ s ++ (b ∷ []) → 72057594037927936 ≤ v → Packed x 0
    left-long s b e = packing-long (length r) v (rw e (omega (arith, length-append s (b ∷ [])))) p.packing

-- KEYWORDS
unfoldable pub numbers : List Bytes → List ℕ
numbers [] = []
numbers (w ∷ ws) = number w ∷ numbers ws

unfoldable pub are_words : List Bytes → Bool
are_words [] = true
are_words (w ∷ ws) = elim (is_word w) [ true ↦ are_words ws | false ↦ false ]

-- where a number first stands, or how many there are
unfoldable pub find_number : List ℕ → ℕ → ℕ
find_number [] r = 0
find_number (n ∷ ns) r = elim (eqb r n) [ true ↦ 0 | false ↦ suc (find_number ns r) ]

-- a number that is none of some
unfoldable pub Apart : List ℕ → ℕ → Type 0
Apart [] r = Unit {0}
Apart (n ∷ ns) r = (r ≡ n → ⊥) × Apart ns r

pub find_none : (ns : List ℕ) (r : ℕ) → Apart ns r → find_number ns r ≡ length ns
unfolding find_number Apart
find_none [] r a = refl
find_none (n ∷ ns) r a = rw (find_number, ne_eqb r n a.0) (ap suc (find_none ns r a.1))

-- words that their numbers stand for
pub record Keywords (words : Bytes) (ns : List ℕ) : Type 0 where
  pub are : are_words (words_of words) ≡ true
  pub is : numbers (words_of words) ≡ ns

packed-find : (ws : List Bytes) (x : Bytes) (r : ℕ) → are_words ws ≡ true → Packed x r → find ws x ≡ find_number (numbers ws) r
unfolding find find_number numbers are_words
packed-find [] x r h p = refl
packed-find (w ∷ ws) x r h p = go (is_word w) refl h (λ s. packed-find ws x r s p)
  where
    at : (b : Bool) → same w x ≡ b → eqb r (number w) ≡ b → find ws x ≡ find_number (numbers ws) r → find (w ∷ ws) x ≡ find_number (number w ∷ numbers ws) r
    at true e f ih = rw (find, find_number, e, f)
    at false e f ih = rw (find, find_number, e, f, ih)

    go : (b : Bool) → is_word w ≡ b → elim b [ true ↦ are_words ws | false ↦ false ] ≡ true → (are_words ws ≡ true → find ws x ≡ find_number (numbers ws) r)
        → find (w ∷ ws) x ≡ find_number (number w ∷ numbers ws) r
    go true k s ih = at (same w x) refl (p.only w k) (ih s)
    go false k s ih = absurd (false≢true s)

-- the keyword that a byte string is, by the number it is packed into
pub packed-word : (words : Bytes) (ns : List ℕ) (x : Bytes) (r k : ℕ) → Keywords words ns → Packed x r → find_number ns r ≡ k → k ≡ find (words_of words) x
packed-word words ns x r k w p e = sym (packed-find (words_of words) x r w.are p ∙ rw w.is e)
