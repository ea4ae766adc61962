-- `integer`: by the highest of the 64 bits.
use Rattle.std.proofs.Common.{◌≡◌, ◌<◌, ◌+◌, ◌-◌, ◌^◌, arith, rules, sym, ap, [], ◌∷◌}
use Rattle.listing.specs.Put.{puts-then}
use Rattle.listing.specs.Fields.{field, fields-same}
use Rattle.listing.specs.Decimals.{integer-below, integer-above}
use Rattle.listing.proofs.put.Writer.integer.Goals as goal

pub returns-then-n-lt9223372036854775808 : goal.returns-then-n-lt9223372036854775808
returns-then-n-lt9223372036854775808 c = fields-same c.long.ensures (λ d q. ap (λ b. b ∷ []) (sym (integer-below c.args.n c.if-n-lt9223372036854775808.true)))

pub returns : goal.returns
returns c =
    let l : c.args.n < 2 ^ 64 = search rules in
    let e : c.wrapping_neg.result ≡ 2 ^ 64 - 1 - c.args.n + 1 = omega (arith, c.wrapping_neg.ensures, c.if-n-lt9223372036854775808.false, l) in
    fields-same (field c.byte.ensures (puts-then c.byte-2.ensures c.decimal.ensures))
    (λ d q. ap (λ b. b ∷ []) (rw e (sym (integer-above c.args.n c.if-n-lt9223372036854775808.false l))))
