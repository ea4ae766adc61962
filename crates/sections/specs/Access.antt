-- Sections as they were read: the kinds by name, how many entries a section has, and each entry by its twelve numbers.
use Prim.Native.Nat.{ℕ, zero, suc, ◌+◌, ◌*◌, ◌<◌}
use native.Mathlib.Omega.{arith}
use Rattle.std.proofs.Math.Decide.{dec_lt}
use Rattle.std.specs.Prelude.{◌≡◌, Bool, true, false, List, [], ◌∷◌, length, get_or, drop, Option, Some, None}
use Rattle.std.proofs.Math.Path.{ap}
use Rattle.std.proofs.Common.{◌∙◌}
use Rattle.std.proofs.Math.Option.{some, some-injective}
use Rattle.std.proofs.Math.ListN.{get_or-eq_default}
use Rattle.rules.specs.Lists.{Bytes, entry_after}
use Rattle.numbers.specs.Codes.{coded}
use Rattle.numbers.specs.Values.{is_one}
use Rattle.numbers.specs.Datatypes.{datatype_at}
use Rattle.text.specs.Places.{place_of}
use Rattle.entries.specs.declared.NewColumn.{NewColumn}
use Rattle.sections.specs.Layout.{numbers, start_of, entry_at, entries_at, section_at}
use Rattle.sections.specs.Store.{entries-length}
use Rattle.sections.specs.Kinds.{start-within}
use Rattle.sections.specs.OneEntry.{entry_start}
use Rattle.sections.specs.declared.entry.Entry.{Entry}

-- KINDS
abbrev pub item_kind : ℕ
item_kind = 0

abbrev pub where_kind : ℕ
where_kind = 1

abbrev pub group_kind : ℕ
group_kind = 2

abbrev pub having_kind : ℕ
having_kind = 3

abbrev pub order_kind : ℕ
order_kind = 4

abbrev pub offset_kind : ℕ
offset_kind = 5

abbrev pub limit_kind : ℕ
limit_kind = 6

abbrev pub columns_kind : ℕ
columns_kind = 7

abbrev pub name_kind : ℕ
name_kind = 8

abbrev pub row_kind : ℕ
row_kind = 9

abbrev pub set_kind : ℕ
set_kind = 10

abbrev pub column_kind : ℕ
column_kind = 11

-- what is no kind has no section
pub start-past : (k : ℕ) → column_kind < k → start_of k ≡ 0
unfolding start_of
start-past k h = get_or-eq_default
    (8 ∷ 777 ∷ 790 ∷ 1559 ∷ 1572 ∷ 2341 ∷ 2354 ∷ 8 ∷ 21 ∷ 790 ∷ 8 ∷ 8 ∷ []) 0 h

pub start_small : (k : ℕ) → start_of k < numbers
start_small k = elim (dec_lt column_kind k) [
  | yes y ↦ omega (arith, start-past k y)
  | no y ↦ start-within k (omega (arith, y))
]

-- NUMBERS
-- what a number says of nulls
unfoldable pub null_of : ℕ → Option Bool
null_of k = coded None (Some true ∷ Some false ∷ []) 1 k

-- what the entry with the numbers from i on says as a new column
unfoldable pub column_from : List ℕ → ℕ → NewColumn
column_from parts i = record {
  datatype = datatype_at (get_or parts (i + 5) 0);
  key = is_one (get_or parts (i + 6) 0);
  nullable = null_of (get_or parts (i + 7) 0);
  unique = is_one (get_or parts (i + 8) 0);
  index = is_one (get_or parts (i + 9) 0);
  reference = place_of (get_or parts (i + 10) 0) (get_or parts (i + 11) 0);
}

-- an entry by its numbers from i on, and entry k of a section
unfoldable pub numbers_from : List ℕ → ℕ → Entry
numbers_from parts i = record {
  line = get_or parts i 0;
  expressions = get_or parts (i + 1) 0;
  row = get_or parts (i + 2) 0;
  name = place_of (get_or parts (i + 3) 0) (get_or parts (i + 4) 0);
}

unfoldable pub numbers_at : List ℕ → ℕ → ℕ → Entry
numbers_at parts kind k = numbers_from parts (entry_start kind k)

pub numbers-start : (parts : List ℕ) (kind k s : ℕ) → s ≡ start_of kind
    → numbers_from parts (s + 1 + 12 * k) ≡ numbers_at parts kind k
unfolding numbers_at entry_start
numbers-start parts kind k s h = rw h

-- whether key k of ORDER descends, and what new column k says
abbrev pub descends : List ℕ → ℕ → Bool
descends parts k = is_one (get_or parts (entry_start order_kind k + 5) 0)

abbrev pub new_column : List ℕ → ℕ → NewColumn
new_column parts k = column_from parts (entry_start column_kind k)

-- ENTRIES OF A LIST
-- the entry behind the first k comes first in what is left behind them
pub after-drop : {A : Type 0} (k : ℕ) (xs : List A) (x : A) → entry_after k xs ≡ some x → drop k xs ≡ x ∷ drop (suc k) xs
unfolding entry_after
after-drop k [] x h = cc
after-drop zero (y ∷ xs) x h = ap (λ z. z ∷ xs) (some-injective y x h)
after-drop (suc k) (y ∷ xs) x h = after-drop k xs x h

-- SECTIONS
module _ (b q : Bytes) (cells parts : List ℕ) where
  entries-after : (i n k : ℕ) → k < n
      → entry_after k (entries_at b q cells parts i n) ≡ some (entry_at b q cells parts (i + 12 * k))
  unfolding entries_at entry_after
  entries-after i zero k h = absurd (omega arith)
  entries-after i (suc n) zero h = let e : i ≡ i + 12 * 0 = omega arith in ap (λ j. some (entry_at b q cells parts j)) e
  entries-after i (suc n) (suc k) h =
      let e : i + 12 + 12 * k ≡ i + 12 * suc k = omega arith in
      entries-after (i + 12) n k (omega arith) ∙ ap (λ j. some (entry_at b q cells parts j)) e

  pub section-count : (kind : ℕ) → length (section_at b q cells parts kind) ≡ get_or parts (start_of kind) 0
  unfolding section_at
  section-count kind = entries-length b q cells parts (start_of kind + 1) (get_or parts (start_of kind) 0)

  -- entry k of a section
  pub section-entry : (kind k : ℕ) → k < length (section_at b q cells parts kind)
      → entry_after k (section_at b q cells parts kind) ≡ some (entry_at b q cells parts (entry_start kind k))
  unfolding section_at entry_start
  section-entry kind k l = entries-after (start_of kind + 1) (get_or parts (start_of kind) 0) k (rw (section-count kind) at l)
