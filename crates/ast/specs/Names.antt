-- Names read back from numbers: a name that may be missing is an address and a length, or zeros (the rules' `option_span`).
use Prim.Native.Nat.{ℕ, zero, suc, ◌≤◌}
use Rattle.std.proofs.Common.{arith, ap}
use Rattle.std.specs.Prelude.{◌≡◌, get_or}
use Rattle.std.proofs.Math.Path.{refl}
use Rattle.std.proofs.Math.Option.{Option, none, some}
use Rattle.std.proofs.Math.ListN.{length}
use Rattle.rules.specs.Lists.{Bytes}
use Rattle.rules.specs.Lines.{Word}
use Rattle.rules.specs.Places.{word_at}
use Rattle.rules.specs.Area.{span, option_span}
use Rattle.numbers.specs.Values.{WordFits}
use Rattle.std.specs.Prelude as std
use Rattle.text.specs.Places.{place_of}
use Rattle.text.specs.declared.places.Place.{Place}

-- the name at an address of the catalog c or the statement q, or none where it has no bytes
unfoldable pub name_at : Bytes → Bytes → ℕ → ℕ → Option Word
name_at c q a zero = none
name_at c q a (suc n) = some (word_at c q a (suc n))

-- the same of a place that may be missing
unfoldable pub option_name : Bytes → Bytes → std.Option Place → Option Word
option_name c q std.None = none
option_name c q (std.Some p) = some (word_at c q p.address p.length)

pub name-place : (c q : Bytes) (a n : ℕ) → name_at c q a n ≡ option_name c q (place_of a n)
unfolding name_at option_name place_of
name-place c q a zero = refl
name-place c q a (suc n) = refl

-- a name of at least one byte is the word at its place
unfoldable pub NameFits : Bytes → Bytes → Option Word → Type 0
NameFits c q none = Unit {0}
NameFits c q (some w) = WordFits c q w × (1 ≤ length w.bytes)

module _ (c q : Bytes) where
  pub name_back : (w : Word) → NameFits c q (some w) → name_at c q w.start (length w.bytes) ≡ some w
  unfolding NameFits name_at WordFits
  name_back w f = go (length w.bytes) refl
    where
      go : (n : ℕ) → length w.bytes ≡ n → name_at c q w.start (length w.bytes) ≡ some w
      go zero e = absurd (let z = f.1 in omega (arith, z, e))
      go (suc n) e = rw e (ap some ((rw e at f.0)))

  pub names-back : (w : Option Word) → NameFits c q w → name_at c q (get_or (option_span w) 0 0) (get_or (option_span w) 1 0) ≡ w
  unfolding name_at option_span span
  names-back none f = refl
  names-back (some w) f = name_back w f
