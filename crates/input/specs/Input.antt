-- How far a text was read into its buffer.
use Rattle.std.specs.Prelude.{ℕ, ◌+◌, ◌≡◌, ◌≤◌, ◌<◌, List, length, take, Result, Ok, Err, Option}
use Rattle.std.specs.Io.KnownBytes.{Consumes, IsAtEnd}
use Rattle.std.proofs.Common.{arith, sym, length-take-le}
use Rattle.io.specs.Counts.{IsPrefixLen}
use Rattle.rules.specs.Limits.{most_bytes}

-- as many bytes as there are at most
abbrev pub Within : {E : Type 0} → List ℕ → Result ℕ E → Type 0
Within s (Ok n) = IsPrefixLen n s
Within s (Err e) = Unit {0}

-- and where that is no more than a text may have, there is room for more: the file ended there
abbrev pub Whole : {E : Type 0} → List ℕ → Result ℕ E → Type 0
Whole s (Ok n) = IsPrefixLen n s × (n ≤ most_bytes → n < length s)
Whole s (Err e) = Unit {0}

-- what was read are the next bytes that the reader had, where those are known; where there is room for more, it had no more
abbrev pub Took : {E : Type 0} → Option (List ℕ) → Option (List ℕ) → List ℕ → Result ℕ E → Type 0
Took before after s (Ok n) = Consumes before after (take n s) × (n < length s → IsAtEnd after)
Took before after s (Err e) = Unit {0}

-- a text is the next bytes that the reader had, where those are known: all of them, or one byte more than a text may have
abbrev pub Gave : Option (List ℕ) → Option (List ℕ) → List ℕ → Type 0
Gave before after t = Consumes before after t × (length t ≤ most_bytes → IsAtEnd after) × (length t ≤ most_bytes + 1)

pub whole : {E : Type 0} (s : List ℕ) (r : Result ℕ E) → most_bytes < length s → Within s r → Whole s r
whole s (Ok n) l h = (h, λ m. omega arith)
whole s (Err e) l h = tt

pub within : (E : Type 0) (s : List ℕ) (n : ℕ) → n ≤ length s → Within {E = E} s (Ok n)
within E s n h = (h, sym (length-take-le n s h))

pub counted : {E : Type 0} (s : List ℕ) (r : Result ℕ E) {n : ℕ} → Whole s r → r ≡ Ok n → IsPrefixLen n s
counted s r h e = (rw e at h).0

pub failed : {E : Type 0} (s : List ℕ) (e : E) → Within s (Err e)
failed s e = tt

pub filled : {E : Type 0} (s : List ℕ) (r : Result ℕ E) {n : ℕ} → Within s r → r ≡ Ok n → IsPrefixLen n s
filled s r h e = rw e at h
