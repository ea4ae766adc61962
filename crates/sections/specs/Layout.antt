-- Sections as numbers of 32 bits, and the entries that such numbers stand for, whatever they are.
--
-- A section is how many entries it has, and twelve numbers an entry: 0 its line, 1 how many expressions it has, 2 the row of the first
-- (crate ast), 3 4 the name's address and length (0 0 where there is none), 5 code, 6 key, 7 nullable, 8 unique, 9 index, 10 11 the
-- reference's address and length. Sections that no statement has together share their numbers.
use Rattle.std.specs.Prelude.{ℕ, zero, suc, ◌+◌, List, [], ◌∷◌, get_or}
use Rattle.rules.specs.Lists.{Bytes}
use Rattle.ast.specs.Table.{arguments_at, tree_at}
use Rattle.ast.specs.Names.{name_at}
use Rattle.entries.specs.Entries.{EntryHead, Entry}

-- how many numbers there are, eight of them in front of the sections
abbrev pub numbers : ℕ
numbers = 3863

-- where a section starts
unfoldable pub start_of : ℕ → ℕ
start_of k = get_or (8 ∷ 777 ∷ 790 ∷ 1559 ∷ 1572 ∷ 2341 ∷ 2354 ∷ 8 ∷ 21 ∷ 790 ∷ 8 ∷ 8 ∷ []) k 0

-- ENTRIES
module _ (b q : Bytes) (cells : List ℕ) where
  -- the entry whose numbers start at i, of the catalog b and the statement q
  unfoldable pub head_at : List ℕ → ℕ → EntryHead
  head_at parts i = record {
    name = name_at b q (get_or parts (i + 3) 0) (get_or parts (i + 4) 0);
    reference = name_at b q (get_or parts (i + 10) 0) (get_or parts (i + 11) 0);
    code = get_or parts (i + 5) 0;
    key = get_or parts (i + 6) 0;
    nullable = get_or parts (i + 7) 0;
    unique = get_or parts (i + 8) 0;
    index = get_or parts (i + 9) 0;
    expressions = get_or parts (i + 1) 0;
  }

  unfoldable pub entry_at : List ℕ → ℕ → Entry
  entry_at parts i = record {
    line = get_or parts i 0;
    head = head_at parts i;
    exprs = arguments_at (tree_at b q cells) cells (get_or parts (i + 1) 0) (get_or parts (i + 2) 0);
  }

  unfoldable pub entries_at : List ℕ → ℕ → ℕ → List Entry
  entries_at parts i zero = []
  entries_at parts i (suc n) = entry_at parts i ∷ entries_at parts (i + 12) n

  unfoldable pub section_at : List ℕ → ℕ → List Entry
  section_at parts k = entries_at parts (start_of k + 1) (get_or parts (start_of k) 0)
