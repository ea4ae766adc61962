-- The keywords' tables: the numbers of their words.
use Rattle.std.specs.Prelude.{ℕ, ◌≡◌, refl, [], ◌∷◌}
use Rattle.std.proofs.Common.{sym}
use Rattle.rules.specs.Lists.{Bytes, named}
use Rattle.rules.specs.Lines.{bytes}
use Rattle.rules.specs.ReadColumn.{datatypes}
use Rattle.text.specs.Words.{words_of, push, keys, nth, named_by}
use Rattle.text.specs.Packed.{Keywords, Packed, find_number, packed-word, number, numbers, are_bytes, is_word, are_words}

pub head-table : Keywords (bytes "op col fn star ") (94319 ∷ 23883619 ∷ 93798 ∷ 6213956723 ∷ [])
unfolding words_of push bytes number numbers are_bytes is_word are_words
head-table = record { are = refl; is = refl }

pub literal-table : Keywords (bytes "null bool int float text ") (6114014574 ∷ 6114209634 ∷ 24407657 ∷ 1599362526310 ∷ 6249014644 ∷ [])
unfolding words_of push bytes number numbers are_bytes is_word are_words
literal-table = record { are = refl; is = refl }

pub datatype-table : Keywords (bytes "bool int float text ") (6114209634 ∷ 24407657 ∷ 1599362526310 ∷ 6249014644 ∷ [])
unfolding words_of push bytes number numbers are_bytes is_word are_words
datatype-table = record { are = refl; is = refl }

pub nullable-table : Keywords (bytes "null notnull ") (6114014574 ∷ 102576143142776686 ∷ [])
unfolding words_of push bytes number numbers are_bytes is_word are_words
nullable-table = record { are = refl; is = refl }

type-keys : keys datatypes ≡ words_of (bytes "bool int float text ")
unfolding keys datatypes words_of bytes push
type-keys = refl

-- a type by the number of its word
pub type-packed : {x : Bytes} {r : ℕ} → Packed x r → (k : ℕ) → find_number (6114209634 ∷ 24407657 ∷ 1599362526310 ∷ 6249014644 ∷ []) r ≡ k
    → nth datatypes k ≡ named datatypes x
unfolding bytes
type-packed {x} {r} p k e = sym (named_by datatypes _ x k type-keys (packed-word _ _ x r k datatype-table p e))

pub part-table : Keywords (bytes "item where group having order offset limit columns name row set column ") (6130332777 ∷ 1535222573175 ∷ 1582518202983 ∷ 395198890140008 ∷ 1590838981231 ∷ 409454053320303 ∷ 1599496612204 ∷ 104548632760184675 ∷ 5996634478 ∷ 24604530 ∷ 24405363 ∷ 402891377241955 ∷ [])
unfolding words_of push bytes number numbers are_bytes is_word are_words
part-table = record { are = refl; is = refl }
