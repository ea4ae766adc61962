-- A label as one number: 1 + the place of its table among the scope's tables (0: none) times 2^24, its name's address
-- times 2^7, its name's length. A column without a name is 0. A table's name is such a number with no table.
use Rattle.std.specs.Prelude.{ℕ, zero, suc, ◌+◌, ◌-◌, ◌*◌, ◌/◌, ◌%◌, ◌≤◌, ◌<◌, min, ◌≡◌, refl, Bool, true, false, List, ◌++◌, map, eqb, ltb, length, get_or, take, drop}
use Rattle.std.proofs.Common.{arith, ap, ◌∙◌, length-take, take_all, eq-eqb, ne_eqb, ltb-true, ltb-false, eqb-true}
use Rattle.std.proofs.lemmas.List.{length-map, map-append}
use Rattle.std.proofs.lemmas.Bool.{eqb-false}
use Rattle.rules.specs.Limits.{most_bytes}
use Rattle.rules.specs.Lists.{Bytes}
use Rattle.rules.specs.Lines.{Word}
use Rattle.rules.specs.Places.{bytes_at, word_at}
use Rattle.rules.specs.Plan.{Label, nameless, unqualified, qualified}
use Rattle.text.specs.Places.{bytes-catalog, bytes-statement}

-- PACKING
-- what one slot counts, and one address; how many addresses there are
abbrev pub slot_unit : ℕ
slot_unit = 16777216

abbrev pub address_unit : ℕ
address_unit = 128

abbrev pub addresses : ℕ
addresses = 131072

-- the last address, the most bytes of a name, and how many slots a number has room for
abbrev pub last_address : ℕ
last_address = addresses - 1

abbrev pub most_length : ℕ
most_length = address_unit - 1

abbrev pub slot_count : ℕ
slot_count = 256

abbrev pub slot_of : ℕ → ℕ
slot_of x = x / slot_unit

abbrev pub address_of : ℕ → ℕ
address_of x = x / address_unit % addresses

abbrev pub length_of : ℕ → ℕ
length_of x = x % address_unit

-- an address and a length, each at most what there is room for
abbrev pub packed : ℕ → ℕ → ℕ → ℕ
packed s a n = s * slot_unit + min a last_address * address_unit + min n most_length

pub slot-packed : (s a n : ℕ) → slot_of (packed s a n) ≡ s
slot-packed s a n = omega arith

-- how many labels a slice may have for their positions to be numbers of 32 bits
abbrev pub position_count : ℕ
position_count = 4294967296

-- LABELS
-- the name of a number
unfoldable pub name_at : Bytes → Bytes → ℕ → Word
name_at c q x = word_at c q (address_of x) (length_of x)

unfoldable pub tables_of : Bytes → Bytes → List ℕ → List Word
tables_of c q ts = map (name_at c q) ts

-- a word under the name of the table in a slot
unfoldable pub in_slot : Bytes → Bytes → List ℕ → ℕ → Word → Label
in_slot c q ts zero w = unqualified w
in_slot c q ts (suc k) w = qualified (name_at c q (get_or ts k 0)) w

-- the label that a number is, over the tables ts
unfoldable pub label_at : Bytes → Bytes → List ℕ → ℕ → Label
label_at c q ts x = elim (eqb x 0) [ true ↦ nameless | false ↦ in_slot c q ts (slot_of x) (name_at c q x) ]

unfoldable pub columns_of : Bytes → Bytes → List ℕ → List ℕ → List Label
columns_of c q ts xs = map (label_at c q ts) xs

-- WORDS THAT FIT
-- a word that a label has room for: every name of a text that was read is one
pub record Fits (w : Word) : Type 0 where
  pub start : w.start < addresses
  pub size : length w.bytes < address_unit

cut-bytes : (l : Bytes) (n : ℕ) → length (take n l) < address_unit → take (min n most_length) l ≡ take n l
cut-bytes l n h = go (ltb n address_unit) refl
  where
    go : (b : Bool) → ltb n address_unit ≡ b → take (min n most_length) l ≡ take n l
    go true e =
        let k : n < address_unit = ltb-true _ _ e in
        let z : min n most_length ≡ n = omega arith in
        rw z
    go false e =
        let k : address_unit ≤ n = ltb-false _ _ e in
        let z : min n most_length ≡ most_length = omega arith in
        let y : length l < address_unit = omega (arith, length-take n l) in
        rw (z, take_all n l (omega arith)) (take_all most_length l (omega arith))

cut-bytes-at : (c q : Bytes) (a n : ℕ) → length (bytes_at c q a n) < address_unit
    → bytes_at c q a (min n most_length) ≡ bytes_at c q a n
cut-bytes-at c q a n h = go (ltb a most_bytes) refl
  where
    go : (b : Bool) → ltb a most_bytes ≡ b → bytes_at c q a (min n most_length) ≡ bytes_at c q a n
    go true e =
        let l : a < most_bytes = ltb-true _ _ e in
        rw (bytes-catalog c q a n l, bytes-catalog c q a (min n most_length) l)
        (cut-bytes (drop a c) n (rw (bytes-catalog c q a n l) at h))
    go false e =
        let l : most_bytes ≤ a = ltb-false _ _ e in
        rw (bytes-statement c q a n l, bytes-statement c q a (min n most_length) l)
        (cut-bytes (drop (a - most_bytes) q) n (rw (bytes-statement c q a n l) at h))

-- packing loses nothing of a word that fits
pub name-packed : (c q : Bytes) (s a n : ℕ) → Fits (word_at c q a n) → name_at c q (packed s a n) ≡ word_at c q a n
unfolding name_at word_at
name-packed c q s a n h =
    let ea : address_of (packed s a n) ≡ a = omega (arith, h.start) in
    let en : length_of (packed s a n) ≡ min n most_length = omega arith in
    rw (ea, en, cut-bytes-at c q a n h.size)

-- LABELS BY THEIR SLOT
pub label-nameless : (c q : Bytes) (ts : List ℕ) (x : ℕ) → x ≡ 0 → label_at c q ts x ≡ nameless
unfolding label_at
label-nameless c q ts x h = rw (label_at, eq-eqb x 0 h)

pub label-slot : (c q : Bytes) (ts : List ℕ) (x : ℕ) → (x ≡ 0 → ⊥)
    → label_at c q ts x ≡ in_slot c q ts (slot_of x) (name_at c q x)
unfolding label_at
label-slot c q ts x h = rw (label_at, ne_eqb x 0 h)

-- a label of a table
pub label-in : (c q : Bytes) (ts : List ℕ) (x k : ℕ) → slot_of x ≡ suc k
    → label_at c q ts x ≡ qualified (name_at c q (get_or ts k 0)) (name_at c q x)
unfolding in_slot
label-in c q ts x k h = label-slot c q ts x (λ e. omega (arith, e)) ∙ rw h

-- and of none, which is the same over any tables
pub label-free : (c q : Bytes) (ts us : List ℕ) (x : ℕ) → slot_of x ≡ 0 → label_at c q ts x ≡ label_at c q us x
unfolding in_slot
label-free c q ts us x h = go (eqb x 0) refl
  where
    go : (b : Bool) → eqb x 0 ≡ b → label_at c q ts x ≡ label_at c q us x
    go true e = rw (label-nameless c q ts x (eqb-true _ _ e), label-nameless c q us x (eqb-true _ _ e))
    go false e = rw (label-slot c q ts x (eqb-false _ _ e), label-slot c q us x (eqb-false _ _ e), h)

pub label-packed : (c q : Bytes) (ts : List ℕ) (s a n : ℕ) → Fits (word_at c q a n)
    → label_at c q ts (packed (suc s) a n) ≡ qualified (name_at c q (get_or ts s 0)) (word_at c q a n)
label-packed c q ts s a n h =
    rw (label-in c q ts (packed (suc s) a n) s (slot-packed (suc s) a n), name-packed c q (suc s) a n h)

pub label-alias : (c q : Bytes) (ts : List ℕ) (a n : ℕ) → Fits (word_at c q a n) → 0 < length (word_at c q a n).bytes
    → label_at c q ts (packed 0 a n) ≡ unqualified (word_at c q a n)
unfolding in_slot word_at
label-alias c q ts a n h l =
    let k : 0 < n = some_bytes c q a n l in
    label-slot c q ts (packed 0 a n) (λ e. omega (arith, e)) ∙ rw (slot-packed 0 a n, name-packed c q 0 a n h)
  where
    some_bytes : (c q : Bytes) (a n : ℕ) → 0 < length (bytes_at c q a n) → 0 < n
    some_bytes c q a n h = go (ltb a most_bytes) refl
      where
        go : (b : Bool) → ltb a most_bytes ≡ b → 0 < n
        go true e =
            let k : a < most_bytes = ltb-true _ _ e in
            omega (arith, ap length (bytes-catalog c q a n k), length-take n (drop a c))
        go false e =
            let k : most_bytes ≤ a = ltb-false _ _ e in
            omega (arith, ap length (bytes-statement c q a n k), length-take n (drop (a - most_bytes) q))

-- SEVERAL
pub columns-append : (c q : Bytes) (ts xs ys : List ℕ)
    → columns_of c q ts (xs ++ ys) ≡ columns_of c q ts xs ++ columns_of c q ts ys
unfolding columns_of
columns-append c q ts xs ys = map-append (label_at c q ts) xs ys

pub columns-length : (c q : Bytes) (ts xs : List ℕ) → length (columns_of c q ts xs) ≡ length xs
unfolding columns_of
columns-length c q ts xs = length-map xs (label_at c q ts)

pub tables-append : (c q : Bytes) (ts us : List ℕ) → tables_of c q (ts ++ us) ≡ tables_of c q ts ++ tables_of c q us
unfolding tables_of
tables-append c q ts us = map-append (name_at c q) ts us
