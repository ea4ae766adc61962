-- Every field of a line stands in its text, at its address.
use Rattle.std.specs.Prelude.{ℕ, suc, ◌+◌, ◌-◌, ◌≤◌, ◌≡◌, refl, Bool, true, false, [], ltb, length, take, drop}
use Rattle.std.proofs.Common.{arith, sym, ◌∙◌, ltb→lt, nltb→le, drop_of_length-le, drop-drop}
use Rattle.std.proofs.Math.Seq.{take-nil}
use Rattle.rules.specs.Limits.{most_bytes}
use Rattle.rules.specs.Lists.{Bytes}
use Rattle.rules.specs.Lines.{Word, empty}
use Rattle.rules.specs.Places.{bytes_at}
use Rattle.claims.specs.Reading.Lines.{Running}
use Rattle.claims.specs.Words.Places.{Placed}

-- a word's bytes stand at its address in a text, whose first byte has the address b
unfoldable pub Stands : Bytes → ℕ → Word → Type 0
Stands t b w = (b ≤ w.start) × (take (length w.bytes) (drop (w.start - b) t) ≡ w.bytes)

-- what is left of the text at the address o
unfoldable pub Left : Bytes → ℕ → ℕ → Bytes → Type 0
Left t b o xs = (b ≤ o) × (drop (o - b) t ≡ xs)

-- every field of a line stands where the line does
pub stands : (t : Bytes) (b : ℕ) → Running (Left t b) (Stands t b)
unfolding Left Stands empty
stands t b = record {
  rest = λ o x xs h.
      let e : suc o - b ≡ o - b + 1 = omega arith in (omega arith, rw (e, ← drop-drop 1 (o - b) t, h.1));
  empties = λ o xs h. (h.0, refl);
  longer = λ o x xs w h e g.
      let d : suc o - b ≡ o - b + 1 = omega arith in
      let f : take (length w.bytes) xs ≡ w.bytes = rw (e, d, ← drop-drop 1 (o - b) t, h.1) at g.1 in
      (h.0, rw (h.1, f));
}

-- a word of the statement is placed
pub placed-statement : (c q : Bytes) (w : Word) → Stands q most_bytes w → Placed c q w
unfolding Stands Placed bytes_at
placed-statement c q w h = go (ltb w.start most_bytes) refl
  where
    go : (k : Bool) → ltb w.start most_bytes ≡ k
        → elim k [
          | true ↦ take (length w.bytes) (drop w.start c)
          | false ↦ take (length w.bytes) (drop (w.start - most_bytes) q)
        ] ≡ w.bytes
    go true e = absurd (omega (arith, ltb→lt w.start most_bytes (rw e tt)))
    go false e = h.1

-- and one of the catalog
pub placed-catalog : (c q : Bytes) → length c ≤ most_bytes → (w : Word) → Stands c 0 w → Placed c q w
unfolding Stands Placed bytes_at
placed-catalog c q l w h = go (ltb w.start most_bytes) refl
  where
    start' : w.start - 0 ≡ w.start
    start' = omega arith

    go : (k : Bool) → ltb w.start most_bytes ≡ k
        → elim k [
          | true ↦ take (length w.bytes) (drop w.start c)
          | false ↦ take (length w.bytes) (drop (w.start - most_bytes) q)
        ] ≡ w.bytes
    go true e = rw start' at h.1
    go false e =
        let b : most_bytes ≤ w.start = nltb→le w.start most_bytes (rw e tt) in
        let m : length c ≤ w.start = omega arith in
        let d : take (length w.bytes) [] ≡ w.bytes = rw (start', drop_of_length-le c m) at h.1 in
        let n : w.bytes ≡ [] = sym d ∙ take-nil (length w.bytes) in
        rw n
