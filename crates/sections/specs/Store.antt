-- Numbers that are stored, and the entry that twelve of them stand for.
use Rattle.std.specs.Prelude.{ℕ, zero, suc, ◌+◌, ◌*◌, ◌<◌, ◌≡◌, refl, List, [], ◌∷◌, ◌++◌, length}
use Rattle.std.proofs.Common.{arith, add-zero, ap, ◌∙◌}
use Rattle.std.proofs.Math.Option.{Option, none, some}
use Rattle.std.proofs.Math.ListN.{get_or}
use Rattle.rules.specs.Lists.{Bytes}
use Rattle.rules.specs.Lines.{Word}
use Rattle.rules.specs.Ast.{Exprs}
use Rattle.rules.specs.Area.{span, option_span}
use Rattle.numbers.specs.Stores.{Stored}
use Rattle.ast.specs.Table.{arguments_at, tree_at}
use Rattle.ast.specs.Names.{NameFits, names-back}
use Rattle.entries.specs.Entries.{EntryHead}
use Rattle.entries.specs.Heads.{head_numbers}
use Rattle.sections.specs.Layout.{head_at, entry_at, entries_at}

-- ENTRIES
-- the twelve numbers of an entry
unfoldable pub entry_numbers : ℕ → ℕ → EntryHead → List ℕ
entry_numbers l r h = l ∷ h.expressions ∷ r ∷ head_numbers h

-- a name has two numbers
names-two : (w v : Option Word) (a b d e f : ℕ)
    → option_span w ++ (a ∷ b ∷ d ∷ e ∷ f ∷ option_span v)
    ≡ get_or (option_span w) 0 0 ∷ get_or (option_span w) 1 0 ∷ a ∷ b ∷ d ∷ e ∷ f ∷ get_or (option_span v) 0 0 ∷ get_or (option_span v) 1 0 ∷ []
unfolding option_span span
names-two none none a b d e f = refl
names-two none (some v) a b d e f = refl
names-two (some w) none a b d e f = refl
names-two (some w) (some v) a b d e f = refl

-- the same twelve, one by one
unfoldable twelve : ℕ → ℕ → EntryHead → List ℕ
twelve l r h =
    l
    ∷ h.expressions
    ∷ r
    ∷ get_or (option_span h.name) 0 0
    ∷ get_or (option_span h.name) 1 0
    ∷ h.code
    ∷ h.key
    ∷ h.nullable
    ∷ h.unique
    ∷ h.index
    ∷ get_or (option_span h.reference) 0 0
    ∷ get_or (option_span h.reference) 1 0
    ∷ []

numbers-twelve : (l r : ℕ) (h : EntryHead) → entry_numbers l r h ≡ twelve l r h
unfolding entry_numbers head_numbers twelve
numbers-twelve l r h = rw (names-two h.name h.reference h.code h.key h.nullable h.unique h.index)

pub entry-twelve : (l r : ℕ) (h : EntryHead) → length (entry_numbers l r h) ≡ 12
unfolding twelve
entry-twelve l r h = rw (numbers-twelve l r h)

-- the entry whose numbers stand from i on
module _ (c q : Bytes) (cells s : List ℕ) (i l r : ℕ) (h : EntryHead) (f : NameFits c q h.name) (g : NameFits c q h.reference) (w : Stored s i (entry_numbers l r h)) where
  number : (j : ℕ) → j < 12 → get_or s (i + j) 0 ≡ get_or (twelve l r h) j 0
  number j k = w.at j (rw (entry-twelve l r h) k) ∙ ap (λ xs. get_or xs j 0) (numbers-twelve l r h)

  head-back : head_at c q cells s i ≡ h
  unfolding head_at twelve
  head-back =
      rw (
        number 1 (omega arith),
        number 3 (omega arith),
        number 4 (omega arith),
        number 5 (omega arith),
        number 6 (omega arith),
        number 7 (omega arith),
        number 8 (omega arith),
        number 9 (omega arith),
        number 10 (omega arith),
        number 11 (omega arith),
        names-back c q h.name f,
        names-back c q h.reference g,
      )

  pub entry-back : (es : Exprs) → arguments_at (tree_at c q cells) cells h.expressions r ≡ es
      → entry_at c q cells s i ≡ record { line = l; head = h; exprs = es }
  unfolding entry_at twelve
  entry-back es e =
      let n₀ : get_or s i 0 ≡ l = (rw (add-zero i) at (number 0 (omega arith))) in
      rw (n₀, head-back, number 1 (omega arith), number 2 (omega arith), e)

-- one entry more
pub entries-more : (c q : Bytes) (cells s : List ℕ) (i n : ℕ) → entries_at c q cells s i (suc n) ≡ entries_at c q cells s i n ++ (entry_at c q cells s (i + 12 * n) ∷ [])
unfolding entries_at
entries-more c q cells s i zero = let e : i + 12 * 0 ≡ i = omega arith in rw e
entries-more c q cells s i (suc n) =
    let e : i + 12 * suc n ≡ i + 12 + 12 * n = omega arith in
    rw e (ap (λ r. entry_at c q cells s i ∷ r) (entries-more c q cells s (i + 12) n))

pub entries-length : (c q : Bytes) (cells s : List ℕ) (i n : ℕ) → length (entries_at c q cells s i n) ≡ n
unfolding entries_at
entries-length c q cells s i zero = refl
entries-length c q cells s i (suc n) = ap suc (entries-length c q cells s (i + 12) n)
