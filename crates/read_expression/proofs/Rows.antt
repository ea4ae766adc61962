-- The rows that a reader wrote: what they keep, one run behind another, and the expressions read back from them.
use Rattle.std.specs.Prelude.{ℕ, ◌+◌, ◌*◌, ◌≤◌, ◌≡◌, refl, List, length}
use Rattle.std.proofs.Common.{arith, add-zero, sym, append-nil}
use Rattle.rules.specs.Limits.{most_cells}
use Rattle.rules.specs.Lists.{Bytes}
use Rattle.rules.specs.Ast.{Expr, Exprs, nil, cons, size_all}
use Rattle.numbers.specs.Stores.{Stored, stored-sets, stored-kept, sets-append}
use Rattle.numbers.specs.Kept.{Kept, kept-sets-behind}
use Rattle.ast.specs.Table.{row_size, table_size, arguments_at, tree_at}
use Rattle.read_expression.specs.Encode.{count_of, encode, encode_all}
use Rattle.read_expression.proofs.Encoded.{encode-all-length}
use Rattle.read_expression.specs.Fits.{FitsAll}
use Rattle.read_expression.proofs.TreesBack.{read_back, read_all}
use Rattle.read_expression.specs.Reading.{Rows}
use Rattle.read_expression.specs.Times.{joined, joined-encode, joined-size, joined-fits}

-- ONE RUN BEHIND ANOTHER
pub rows_none : {t : Bytes} {c : ℕ} (s : List ℕ) → Rows t c s s c nil
unfolding encode_all size_all FitsAll
rows_none {c = c} s = record { written = refl; rows = sym (add-zero c); fits = λ b. tt }

pub rows_join : {t : Bytes} {c c₁ c₂ : ℕ} {s s₁ s₂ : List ℕ} {as' bs : Exprs} → Rows t c s s₁ c₁ as'
    → Rows t c₁ s₁ s₂ c₂ bs → Rows t c s s₂ c₂ (joined as' bs)
rows_join {t} {c} {c₁} {s = s} {as' = as'} {bs = bs} f g =
    let e : row_size * c + length (encode_all as') ≡ row_size * c₁ = omega (arith, encode-all-length as', f.rows) in
    record {
      written = rw (joined-encode as' bs, sets-append (encode_all as') (encode_all bs) s (row_size * c), e, ← f.written)
          g.written;
      rows = omega (arith, joined-size as' bs, f.rows, g.rows);
      fits = λ b. joined-fits b t as' bs (f.fits b) (g.fits b);
    }

-- READ BACK
pub rows-kept : {t : Bytes} {c c' : ℕ} {cells cells' : List ℕ} {es : Exprs} → Rows t c cells cells' c' es
    → Kept 0 (row_size * c) cells cells'
rows-kept {c = c} {cells = cells} {es = es} r =
    rw r.written (kept-sets-behind cells (row_size * c) (encode_all es) 0 (row_size * c) (omega arith))

module _ {t : Bytes} {c c' : ℕ} {cells cells' : List ℕ} {es : Exprs} (r : Rows t c cells cells' c' es)
    (m : length cells ≡ table_size) (h : c' ≤ most_cells)
    (cells'' : List ℕ) (k : Kept 0 (row_size * c') cells' cells'') where
  stands : Stored cells'' (row_size * c) (encode_all es)
  stands =
      let e : row_size * c + length (encode_all es) ≡ row_size * c' = omega (arith, encode-all-length es, r.rows) in
      let w : Stored cells' (row_size * c) (encode_all es) =
      rw r.written (stored-sets cells (row_size * c) (encode_all es) (omega (arith, e, h, m))) in
      stored-kept (row_size * c) (encode_all es) k (omega arith) (omega (arith, e)) w

  pub rows_back : (b : Bytes) → arguments_at (tree_at b t cells'') cells'' (count_of es) c ≡ es
  rows_back b = read_all b t cells'' es c (r.fits b) stands

pub tree-back : {t : Bytes} {c c' : ℕ} {cells cells' : List ℕ} {e : Expr} → Rows t c cells cells' c' (cons e nil)
    → length cells ≡ table_size → c' ≤ most_cells
    → (cells'' : List ℕ) → Kept 0 (row_size * c') cells' cells'' → (b : Bytes) → tree_at b t cells'' c ≡ e
unfolding encode_all FitsAll
tree-back {t} {c} {e = e} r m h cells'' k b =
    read_back b t cells'' e c (r.fits b).0 (rw (append-nil (encode e)) at (stands r m h cells'' k))
