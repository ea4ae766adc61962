-- The columns that a star stands for, by the names of FROM's labels: what their rows hold, and what is read back.
use Rattle.std.specs.Prelude.{ℕ, zero, suc, ◌+◌, ◌-◌, ◌*◌, ◌≤◌, ◌<◌, ◌≡◌, Bool, true, false, List, [], ◌∷◌, map, eqb, length, get_or, drop}
use Rattle.std.proofs.Common.{arith, add-one, sub-one, sym, ap, ◌∙◌, drop_of_length-le, drop-cons, eqb-true}
use Rattle.std.proofs.Math.Path.{refl}
use Rattle.std.proofs.Math.Option.{none, some}
use Rattle.std.proofs.Math.Seq.{length-sets}
use Rattle.std.proofs.lemmas.Bool.{eqb-false}
use Rattle.rules.specs.Lists.{Bytes}
use Rattle.rules.specs.Ast.{column, line_of, Item}
use Rattle.rules.specs.Items.{starred_column}
use Rattle.claims.specs.Answers.{All}
use Rattle.claims.specs.Refused.Qualified.{IsQualified}
use Rattle.ast.specs.Table.{row_size, starred_rows, table_size, tree_at}
use Rattle.ast.specs.Row.{line_at, line-of}
use Rattle.numbers.specs.Kept.{Kept}
use Rattle.numbers.specs.Stores.{Stored, stored-kept}
use Rattle.numbers.specs.Kept.{kept-all, kept_on, kept-first}
use Rattle.read_expression.specs.Starred.{starred_row, starred_numbers, with_starred, starred-is, starred-below, starred-stands, starred-column}
use Rattle.scope.specs.Labels.{slot_of, address_of, length_of, name_at, label_at, columns_of, in_slot, label-nameless, label-slot, label-in}
use Rattle.scope.specs.Scopes.{up_to}

-- TABLES
-- the table in a slot, 0 where there is none
unfoldable pub table_in : List ℕ → ℕ → ℕ
table_in ts zero = 0
table_in ts (suc k) = get_or ts k 0

-- that of a label
abbrev pub table_of : List ℕ → ℕ → ℕ
table_of ts x = table_in ts (slot_of x)

pub table_none : (ts : List ℕ) (k : ℕ) → k ≡ 0 → 0 ≡ table_in ts k
unfolding table_in
table_none ts zero h = refl
table_none ts (suc k) h = absurd (omega arith)

pub table-some : (ts : List ℕ) (k : ℕ) → (k ≡ 0 → ⊥) → get_or ts (k - 1) 0 ≡ table_in ts k
unfolding table_in
table-some ts zero h = absurd (h refl)
table-some ts (suc k) h = rw (sub-one (suc k))

-- ROWS
-- the table of rows with starred column k, of the label x at a star's line l
abbrev pub with_column : List ℕ → List ℕ → ℕ → ℕ → ℕ → List ℕ
with_column cells ts k l x =
    with_starred cells k l (address_of (table_of ts x)) (length_of (table_of ts x)) (address_of x) (length_of x)

-- and with those of several labels, from k on
unfoldable pub with_columns : List ℕ → List ℕ → ℕ → ℕ → List ℕ → List ℕ
with_columns cells ts k l [] = cells
with_columns cells ts k l (x ∷ xs) = with_columns (with_column cells ts k l x) ts (suc k) l xs

pub columns-none : (cells ts : List ℕ) (k l : ℕ) → with_columns cells ts k l [] ≡ cells
unfolding with_columns
columns-none cells ts k l = refl

pub columns-more : (cells ts : List ℕ) (k l x : ℕ) (xs : List ℕ)
    → with_columns cells ts k l (x ∷ xs) ≡ with_columns (with_column cells ts k l x) ts (suc k) l xs
unfolding with_columns
columns-more cells ts k l x xs = refl

-- one label after the other, i of them so far
pub record Putting (cells₀ ts xs : List ℕ) (k l i : ℕ) (cells : List ℕ) : Type 0 where
  pub rest : with_columns cells ts (k + i) l (drop i xs) ≡ with_columns cells₀ ts k l xs

module _ {cells₀ ts xs : List ℕ} {k l i : ℕ} {cells : List ℕ} (h : Putting cells₀ ts xs k l i cells) where
  pub putting-more : {cells' : List ℕ} → i < length xs → cells' ≡ with_column cells ts (k + i) l (get_or xs i 0)
      → Putting cells₀ ts xs k l (i + 1) cells'
  putting-more g e =
      let z : k + (i + 1) ≡ suc (k + i) = omega arith in
      record {
        rest = rw (e, z, add-one i) (sym (columns-more cells ts (k + i) l (get_or xs i 0) (drop (suc i) xs))
            ∙ rw (← drop-cons xs i 0 g) h.rest);
      }

  pub putting-end : length xs ≤ i → cells ≡ with_columns cells₀ ts k l xs
  putting-end g = sym (columns-none cells ts (k + i) l) ∙ rw (drop_of_length-le xs g) at h.rest

-- WHAT IS KEPT
column-room : (cells ts : List ℕ) (k l x : ℕ) → suc k ≤ starred_rows → length cells ≡ table_size
    → length (with_column cells ts k l x) ≡ table_size
column-room cells ts k l x h g =
    ap length (starred-is cells k l _ _ _ _ (omega arith) g)
    ∙ length-sets cells (row_size * starred_row k)
    (starred_numbers l (address_of (table_of ts x)) (length_of (table_of ts x)) (address_of x) (length_of x)) ∙ g

pub columns-room : (xs cells ts : List ℕ) (k l : ℕ) → k + length xs ≤ starred_rows → length cells ≡ table_size
    → length (with_columns cells ts k l xs) ≡ table_size
unfolding with_columns
columns-room [] cells ts k l h g = g
columns-room (x ∷ xs) cells ts k l h g =
    columns-room xs (with_column cells ts k l x) ts (suc k) l (omega arith) (column-room cells ts k l x (omega arith) g)

pub columns-below : (xs cells ts : List ℕ) (k l : ℕ)
    → Kept 0 (row_size * starred_row k) cells (with_columns cells ts k l xs)
unfolding with_columns
columns-below [] cells ts k l = kept-all 0 _ cells
columns-below (x ∷ xs) cells ts k l =
    let next = with_column cells ts k l x in
    kept_on (starred-below cells k l _ _ _ _)
    (kept-first (row_size * starred_row k) (columns-below xs next ts (suc k) l) (omega arith))

-- WHAT IS READ BACK
-- the item that a starred row stands for
unfoldable pub starred_at : Bytes → Bytes → List ℕ → ℕ → Item
starred_at c q cells r = record { line = line_at cells r; expr = tree_at c q cells r; alias = none }

-- a qualified label is one of a table
slot-some : (c q : Bytes) (ts : List ℕ) (x : ℕ) → IsQualified (label_at c q ts x) → slot_of x ≡ 0 → ⊥
unfolding in_slot
slot-some c q ts x h e = go (eqb x 0) refl
  where
    none : (k : ℕ) → k ≡ 0 → IsQualified (in_slot c q ts k (name_at c q x)) → ⊥
    none zero z g = g
    none (suc k) z g = omega arith

    go : (b : Bool) → eqb x 0 ≡ b → ⊥
    go true z = rw (label-nameless c q ts x (eqb-true _ _ z)) at h
    go false z = none (slot_of x) e (rw (label-slot c q ts x (eqb-false _ _ z)) at h)

column-back : (c q : Bytes) (ts s : List ℕ) (x r l : ℕ)
    → Stored s (row_size * r)
    (starred_numbers l (address_of (table_of ts x)) (length_of (table_of ts x)) (address_of x) (length_of x))
    → IsQualified (label_at c q ts x) → starred_at c q s r ≡ starred_column l (label_at c q ts x)
unfolding starred_at starred_column
column-back c q ts s x r l h g = go (slot_of x) refl
  where
    tree : tree_at c q s r ≡ column l (some (name_at c q (table_of ts x))) (name_at c q x)
    tree = unfold name_at in starred-column s r l _ _ _ _ c q h

    line : line_at s r ≡ l
    line = sym (line-of c q s r) ∙ ap line_of tree ∙ unfold line_of in refl

    go : (k : ℕ) → slot_of x ≡ k → starred_at c q s r ≡ starred_column l (label_at c q ts x)
    go zero e = absurd (slot-some c q ts x g e)
    go (suc k) e =
        let t : table_of ts x ≡ get_or ts k 0 = rw e (unfold table_in in refl) in
        rw (label-in c q ts x k e, line, tree, t)

-- in every table that keeps them, the starred rows are FROM's columns
pub columns-back : (xs cells ts : List ℕ) (k l : ℕ) → k + length xs ≤ starred_rows → length cells ≡ table_size
    → (c q : Bytes) → All IsQualified (columns_of c q ts xs)
    → (s : List ℕ) → Kept 0 (row_size * (starred_row k + length xs)) (with_columns cells ts k l xs) s
    → map (starred_at c q s) (up_to (starred_row k) (length xs)) ≡ map (starred_column l) (columns_of c q ts xs)
unfolding with_columns up_to columns_of All
columns-back [] cells ts k l h g c q a s b = refl
columns-back (x ∷ xs) cells ts k l h g c q a s b =
    let next = with_column cells ts k l x in
    let e : starred_row (suc k) ≡ suc (starred_row k) = omega arith in
    let m : starred_row (suc k) + length xs ≡ starred_row k + length (x ∷ xs) = omega arith in
    let w = starred_numbers l (address_of (table_of ts x)) (length_of (table_of ts x)) (address_of x) (length_of x) in
    let st : Stored next (row_size * starred_row k) w = starred-stands cells k l _ _ _ _ (omega arith) g in
    let all = with_columns next ts (suc k) l xs in
    let kept : Kept 0 (row_size * starred_row (suc k)) next s =
    kept_on (columns-below xs next ts (suc k) l) (kept-first (row_size * starred_row (suc k)) b (omega arith)) in
    let here =
    stored-kept (row_size * starred_row k) w kept (omega arith) (unfold starred_numbers in omega arith) st in
    let rest = columns-back xs next ts (suc k) l (omega arith) (column-room cells ts k l x (omega arith) g) c q a.1 s (rw m b) in
    rw (column-back c q ts s x (starred_row k) l here a.0, ← e, rest)
