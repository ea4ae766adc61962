-- A word, a name and a value inside the text that they were read from; the readers of both texts give such.
use Rattle.std.specs.Prelude.{ℕ, ◌+◌, ◌≤◌, ◌<◌, ◌≡◌}
use Rattle.std.proofs.Common.{arith}
use Rattle.std.proofs.Math.ListN.{length}
use Rattle.rules.specs.Limits.{most_bytes, most_name_bytes}
use Rattle.rules.specs.Lists.{Bytes}
use Rattle.rules.specs.Lines.{Word}
use Rattle.rules.specs.Schema.{Value}
use Rattle.rules.specs.Places.{word_at}
use Rattle.claims.specs.Answers.{All}
use Rattle.claims.specs.Values.Values.{Fits}
use Rattle.claims.specs.Reading.Sound.{IsName, Sound}
use Rattle.claims.specs.Reading.Lines.{running, running-both}
use Rattle.claims.specs.Words.Places.{Placed}
use Rattle.claims.specs.Words.Lists.{value_words}
use Rattle.claims.specs.Words.Lines.{Stands, Left, stands, placed-catalog, placed-statement}
use Rattle.claims.specs.Words.Placed.{whole-left}
use Rattle.claims.specs.Words.Ends.{end_address, ending-by, FitsWorded, fits-worded-kept}

-- a word of the text t, whose first byte has the address b, of the catalog c and the statement q
pub record WordWithin (c q t : Bytes) (b : ℕ) (w : Word) : Type 0 where
  pub placed : Placed c q w
  pub from : b ≤ w.start
  pub ends : w.start + length w.bytes ≤ b + length t

-- a name of it
pub record NameWithin (c q t : Bytes) (b : ℕ) (w : Word) : Type 0 where
  pub word : WordWithin c q t b w
  pub least : 1 ≤ length w.bytes
  pub most : length w.bytes ≤ most_name_bytes

-- a value within 64 bits, or a text of it
abbrev pub ValueWithin : (c q t : Bytes) → ℕ → Value → Type 0
ValueWithin c q t b v = FitsWorded (WordWithin c q t b) v

abbrev pub CatalogName : Bytes → Bytes → Word → Type 0
CatalogName c q w = NameWithin c q c 0 w

abbrev pub CatalogValue : Bytes → Bytes → Value → Type 0
CatalogValue c q v = ValueWithin c q c 0 v

abbrev pub StatementName : Bytes → Bytes → Word → Type 0
StatementName c q w = NameWithin c q q most_bytes w

abbrev pub StatementValue : Bytes → Bytes → Value → Type 0
StatementValue c q v = ValueWithin c q q most_bytes v

-- LAWS
-- the word is the bytes at its address
pub word-at : {c q t : Bytes} {b : ℕ} {w : Word} → WordWithin c q t b w → word_at c q w.start (length w.bytes) ≡ w
unfolding word_at Placed
word-at {w = w} h = rw h.placed

-- a name starts below the end of all addresses
pub name_below : {c q t : Bytes} {b : ℕ} {w : Word} → NameWithin c q t b w → b + length t ≤ end_address
    → w.start < end_address
name_below h k = omega (arith, h.word.ends, h.least)

-- READING
-- the fields of a text, each inside it
abbrev Within : Bytes → ℕ → Word → Type 0
Within t b w = Stands t b w × (w.start + length w.bytes ≤ b + length t)

-- what is left of it at an address
abbrev LeftWithin : Bytes → ℕ → ℕ → Bytes → Type 0
LeftWithin t b o xs = Left t b o xs × (o + length xs ≤ b + length t)

module _ (c q t : Bytes) (b : ℕ) (placed : (w : Word) → Stands t b w → Placed c q w) where
  word-within : (w : Word) → Within t b w → WordWithin c q t b w
  unfolding Stands
  word-within w h = record { placed = placed w h.0; from = h.0.0; ends = h.1 }

  sound-within : Sound (Within t b) (ValueWithin c q t b) (NameWithin c q t b) (λ p. LeftWithin t b p.address p.left)
  unfolding IsName Fits value_words All
  sound-within = running (running-both (stands t b) (ending-by (b + length t))) (fits-worded-kept (WordWithin c q t b))
      (λ w h. (tt, (word-within w h, tt)))
      (λ w h i. record { word = word-within w h; least = i.0; most = i.1 })

-- the catalog's
pub catalog-sound : (c q : Bytes) → length c ≤ most_bytes
    → Sound (Within c 0) (CatalogValue c q) (CatalogName c q) (λ p. LeftWithin c 0 p.address p.left)
catalog-sound c q l = sound-within c q c 0 (placed-catalog c q l)

-- and the statement's
pub statement-sound : (c q : Bytes)
    → Sound (Within q most_bytes) (StatementValue c q) (StatementName c q)
    (λ p. LeftWithin q most_bytes p.address p.left)
statement-sound c q = sound-within c q q most_bytes (placed-statement c q)

-- at the start all of it is left
pub whole-within : (t : Bytes) (b : ℕ) → LeftWithin t b b t
whole-within t b = (whole-left t b, omega arith)
