-- The k-th of some words, and the empty word past them.
use Rattle.std.specs.Prelude.{ℕ, ◌≡◌, ◌≤◌, ◌<◌, List, [], map, length, get_or}
use Rattle.std.proofs.Common.{Bor, arith, sym, ap, ◌∙◌}
use Rattle.std.proofs.Math.Decide.{dec_lt}
use Rattle.std.proofs.lemmas.List.{get_or_past}
use Rattle.rules.specs.Lists.{Bytes}
use Rattle.text.specs.Words.{words_of}

-- of words that are each closed by a blank
abbrev pub word_of : Bytes → ℕ → Bytes
word_of t k = get_or (words_of t) k []

-- where the first of n words is empty, the empty word is all that stands at 0 and past them
pub no-word : (t : Bytes) (n k : ℕ) → [] ≡ word_of t 0 → length (words_of t) ≤ n → (k < n → k ≡ 0) → [] ≡ word_of t k
no-word t n k e l h = elim (dec_lt k n) [
  | yes y ↦ e ∙ ap (word_of t) (sym (h y))
  | no y ↦ sym (get_or_past (words_of t) k [] (omega (arith, y, l)))
]

-- of a table of words
unfoldable pub word_at : List (Bor (List ℕ)) → ℕ → Bytes
word_at words k = get_or (map (λ w. w.now) words) k []
