-- `nth_word`: the word found, or none.
use Rattle.std.specs.Prelude.{ℕ, List}
use Rattle.std.proofs.Common.{Bor, arith, sym}
use Rattle.std.proofs.Math.ListN.{get_or-map}
use Rattle.listing.specs.Words.{word_at}
use Rattle.listing.proofs.put.nth_word.Goals as goal

pub returns : goal.returns
unfolding word_at
returns c = rw (c.unwrap_or.ensures, c.copied.ensures, c.get.ensures.lookup.4 (omega arith) _) (sym (get_or-map (λ (w : Bor (List ℕ)). w.now) c.args.words.now c.args.k _))
