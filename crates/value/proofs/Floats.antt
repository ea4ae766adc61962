-- Floats and their bits: a float is that of its bits, and a NaN the one NaN.
use Rattle.std.proofs.Common.{◌≡◌, ℕ, true, T, sym, refl, ◌∙◌, subst}
use lib.Ieee.Bits.{of_bits-to_bits, nan_bits_is, nan_bits_above}
use lib.Ieee.{Float, nan, inf, fin, to_bits, fits, is_nan, binary64}
use Rattle.rules.specs.Arithmetic.{float_of}
use Rattle.rules.specs.BuildExpression.{is_null_or_nan}
use Rattle.rules.specs.Schema as rule
use Rattle.std.proofs.lemmas.Bool.{false≢true}

pub back : (x : Float) → T (fits binary64 x) → float_of (to_bits binary64 x) ≡ x
unfolding float_of
back x h = of_bits-to_bits binary64 x h

pub of-bits : (x : Float) → fits binary64 x ≡ true → float_of (to_bits binary64 x) ≡ x
of-bits x h = back x (subst T (sym h) tt)

pub nan-bits : (n : ℕ) → is_null_or_nan (rule.float n) ≡ is_nan (float_of n)
unfolding is_null_or_nan float_of
nan-bits n = sym (nan_bits_above binary64 n) ∙ nan_bits_is binary64 n

pub only_nan : (x : Float) → is_nan x ≡ true → nan ≡ x
unfolding is_nan
only_nan nan e = refl
only_nan (inf s) e = absurd (false≢true e)
only_nan (fin s m d) e = absurd (false≢true e)
