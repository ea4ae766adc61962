-- The lines of cells, from their numbers.
use Rattle.std.specs.Prelude.{ℕ, ◌+◌, ◌*◌, ◌^◌, ◌≤◌, ◌<◌, ◌≡◌, true, false, List, [], ◌∷◌, eqb, ltb, get_or, drop}
use Rattle.std.proofs.Common.{sym, ap, ◌∙◌}
use borrow.Author.Tests.{eq-eqb, ne_eqb, lt-ltb, le-ltb}
use Rattle.rules.specs.Lists.{Bytes}
use Rattle.rules.specs.Lines.{bytes}
use Rattle.rules.specs.Places.{bytes_at}
use Rattle.rules.specs.Print.{decimal_of, integer_of, hex_of}
use Rattle.rules.specs.Area.{header_size}
use Rattle.numbers.specs.Bits.{signed}
use Rattle.numbers.specs.Codes.{coded, or_least, count_from, least_kept, coded-map, coded-least}
use Rattle.numbers.specs.Literals.{kind_number, kind_at}
use Rattle.numbers.specs.declared.literals.LiteralKind.{LiteralKind}
use Rattle.numbers.specs.declared.literals.LiteralKind.TheVariants as L
use Rattle.listing.specs.Words.{word_of}
use Rattle.listing.specs.Choices.{choose, choose-none, Misses}
use Rattle.listing.specs.Lines.{listed, each}

-- the word of a kind
unfoldable pub kind_word : ℕ → Bytes
kind_word k = word_of (bytes
    " null bool int float text col  not fact ident neg sqrt  is is and or eq gt lt add div pow mul rem sub like ") k

-- what stands behind a constant's kind, by its numbers s
unfoldable pub value_rest : Bytes → Bytes → ℕ → List ℕ → List Bytes
value_rest c q k s =
    let n = get_or s 1 0 + get_or s 2 0 * 2 ^ 32 in
    choose (
    (2, word_of (bytes "f t ") (get_or s 1 0) ∷ [])
    ∷ (3, integer_of (signed n) ∷ [])
    ∷ (4, hex_of 16 n [] ∷ [])
    ∷ (5, bytes_at c q (get_or s 1 0) (get_or s 2 0) ∷ [])
    ∷ []) k []

-- behind the first operand of a cell that is no constant
unfoldable pub operand_rest : ℕ → List ℕ → List Bytes
operand_rest k s = elim (eqb k 14) [
  | true ↦ bytes "null" ∷ []
  | false ↦ elim (eqb k 15) [
    | true ↦ bytes "float" ∷ hex_of 16 (get_or s 2 0 + get_or s 3 0 * 2 ^ 32) [] ∷ []
    | false ↦ elim (ltb k 16) [ true ↦ [] | false ↦ decimal_of (get_or s 2 0) ∷ [] ]
  ]
]

-- behind its kind
unfoldable pub kind_rest : Bytes → Bytes → ℕ → List ℕ → List Bytes
kind_rest c q k s = elim (ltb k 6) [ true ↦ value_rest c q k s | false ↦ decimal_of (get_or s 1 0) ∷ operand_rest k s ]

unfoldable pub cell_fields : Bytes → Bytes → List ℕ → List Bytes
cell_fields c q s = kind_word (get_or s 0 0) ∷ kind_rest c q (get_or s 0 0) s

unfoldable pub cell_line : Bytes → Bytes → ℕ → List ℕ → List (List Bytes)
cell_line c q i s = (bytes "cell" ∷ decimal_of i ∷ cell_fields c q s) ∷ []

unfoldable pub cell_lines : Bytes → Bytes → List ℕ → List (List Bytes)
cell_lines c q a = each (get_or a 2 0) 4 (cell_line c q) (drop header_size a)

-- BY KIND
-- the number of a literal's kind that is no null
least-kind : (k : ℕ) → kind_number (kind_at k) ≡ or_least 1 5 k
unfolding kind_at kind_number count_from
least-kind k = coded-map kind_number L.Null (L.Null ∷ L.Bool ∷ L.Int ∷ L.Float ∷ L.Text ∷ []) 1 k ∙ coded-least 4 1 k

pub kind_kept : (k : ℕ) (l : LiteralKind) → kind_at k ≡ l → (kind_number l ≡ 1 → ⊥) → k ≡ kind_number l
kind_kept k l e ne = least_kept 1 5 k (kind_number l) (sym (least-kind k) ∙ ap kind_number e) ne

module _ (c q : Bytes) (k : ℕ) (s : List ℕ) where
  pub value-null : kind_at k ≡ L.Null → [] ≡ value_rest c q k s
  unfolding value_rest Misses kind_at coded
  value-null e =
      let n : (j : ℕ) → (kind_at j ≡ L.Null → ⊥) → k ≡ j → ⊥ = λ j h z. h (sym (ap kind_at z) ∙ e) in
      choose-none _ _ _ (n 2 (λ x. cc), (n 3 (λ x. cc), (n 4 (λ x. cc), (n 5 (λ x. cc), tt))))

  pub rest-constant : k < 6 → kind_rest c q k s ≡ value_rest c q k s
  unfolding kind_rest
  rest-constant h = rw (kind_rest, lt-ltb k 6 h)

  pub rest-operand : 6 ≤ k → kind_rest c q k s ≡ decimal_of (get_or s 1 0) ∷ operand_rest k s
  unfolding kind_rest
  rest-operand h = rw (kind_rest, le-ltb k 6 h)

module _ (k : ℕ) (s : List ℕ) where
  pub operand-null : k ≡ 14 → operand_rest k s ≡ bytes "null" ∷ []
  unfolding operand_rest
  operand-null h = rw (operand_rest, eq-eqb k 14 h)

  pub operand-nan : (k ≡ 14 → ⊥) → k ≡ 15
      → operand_rest k s ≡ bytes "float" ∷ hex_of 16 (get_or s 2 0 + get_or s 3 0 * 2 ^ 32) [] ∷ []
  unfolding operand_rest
  operand-nan g h = rw (operand_rest, ne_eqb k 14 g, eq-eqb k 15 h)

  pub operand-one : (k ≡ 14 → ⊥) → (k ≡ 15 → ⊥) → k < 16 → operand_rest k s ≡ []
  unfolding operand_rest
  operand-one g f h = rw (operand_rest, ne_eqb k 14 g, ne_eqb k 15 f, lt-ltb k 16 h)

  pub operand-two : (k ≡ 14 → ⊥) → (k ≡ 15 → ⊥) → 16 ≤ k → operand_rest k s ≡ decimal_of (get_or s 2 0) ∷ []
  unfolding operand_rest
  operand-two g f h = rw (operand_rest, ne_eqb k 14 g, ne_eqb k 15 f, le-ltb k 16 h)

-- WHAT THE CODE PUTS
pub cells-all : (c q : Bytes) (a : List ℕ) {n : ℕ} {t : List ℕ} → n ≡ get_or a 2 0 → t ≡ drop header_size a
    → listed n (λ j. cell_line c q j (drop (j * 4) t)) ≡ cell_lines c q a
unfolding cell_lines each
cells-all c q a e f = rw (e, f)
