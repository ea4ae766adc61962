-- Trees that are read back from the numbers of their rows.
use Rattle.std.specs.Prelude.{ℕ, suc, ◌+◌, ◌*◌, ◌≡◌, refl, List, ◌++◌, length}
use Rattle.std.proofs.Common.{arith, ◌∙◌}
use Rattle.std.proofs.Math.Option.{Option, none, some}
use Rattle.rules.specs.Lists.{Bytes}
use Rattle.rules.specs.Lines.{Word}
use Rattle.rules.specs.Schema.{Value}
use Rattle.rules.specs.Ast.{Expr, star, column, literal, call, unary, binary, is, Exprs, nil, cons, size}
use Rattle.numbers.specs.Stores.{Stored, stored-append}
use Rattle.numbers.specs.Codes.{coded}
use Rattle.numbers.specs.Values.{literal-numbers, WordFits, ValueFits, value-back}
use Rattle.ast.specs.Table.{row_size, rows_at, arguments_at}
use Rattle.ast.specs.Table.{tree_by, tree_at}
use Rattle.ast.specs.Operands.{tree-at}
use Rattle.read_expression.specs.Encode.{head_numbers, is_numbers, row_of, count_of, encode, encode_all}
use Rattle.read_expression.proofs.Encoded.{encode-length}
use Rattle.read_expression.specs.Fits.{ColumnFits, Fits, FitsAll}
use Rattle.ast.specs.Row.{unary-back, binary-back}
use Rattle.read_expression.specs.ReadBack.{row-stands}

module _ (t : List ℕ) where
  -- how many rows a tree has
  rows_back : (e : Expr) (r : ℕ) → Stored t (row_size * r) (encode e) → rows_at t r ≡ size e
  unfolding rows_at encode row_of head_numbers is_numbers size
  rows_back (star l) r s = (row-stands t _ r _ _ _ _ _ _ _ _ s).0.rows
  rows_back (column l none n) r s = (row-stands t _ r _ _ _ _ _ _ _ _ s).0.rows
  rows_back (column l (some w) n) r s = (row-stands t _ r _ _ _ _ _ _ _ _ s).0.rows
  rows_back (literal l v) r s = (row-stands t _ r _ _ _ _ _ _ _ _ (rw (literal-numbers v).is at s)).0.rows
  rows_back (call l n as') r s = (row-stands t _ r _ _ _ _ _ _ _ _ s).0.rows
  rows_back (unary l o a) r s = (row-stands t _ r _ _ _ _ _ _ _ _ s).0.rows
  rows_back (binary l o a b) r s = (row-stands t _ r _ _ _ _ _ _ _ _ s).0.rows
  rows_back (is l a v) r s = (row-stands t _ r _ _ _ _ _ _ _ _ (rw (literal-numbers v).is at s)).0.rows

  -- the tree behind the one at a row
  next-stands : (a : Expr) (rest : List ℕ) (r : ℕ) → Stored t (row_size * r) (encode a ++ rest)
      → Stored t (row_size * r) (encode a) × Stored t (row_size * (r + rows_at t r)) rest
  next-stands a rest r s =
      let w = stored-append t (row_size * r) (encode a) rest s in
      let e : row_size * r + length (encode a) ≡ row_size * (r + rows_at t r) =
      omega (arith, encode-length a, rows_back a r w.0) in
      (w.0, rw e at w.1)

module _ (c q : Bytes) (t : List ℕ) where
  column-back : (f : ℕ → Expr) (l : ℕ) (w : Option Word) (n : Word) (r : ℕ) → ColumnFits c q w n
      → Stored t (row_size * r) (encode (column l w n)) → tree_by f c q t r ≡ column l w n
  unfolding encode row_of head_numbers tree_by coded ColumnFits WordFits
  column-back f l none n r g s = let w = (row-stands t _ r _ _ _ _ _ _ _ _ s).0 in rw (w.kind, w.line, w.first, w.second, g)
  column-back f l (some m) n r g s = let w = (row-stands t _ r _ _ _ _ _ _ _ _ s).0 in rw (w.kind, w.line, w.first, w.second, w.third, w.fourth, g.0, g.1)

  literal-back : (f : ℕ → Expr) (l : ℕ) (v : Value) (r : ℕ) → ValueFits c q v
      → Stored t (row_size * r) (encode (literal l v)) → tree_by f c q t r ≡ literal l v
  unfolding encode row_of head_numbers tree_by coded
  literal-back f l v r g s =
      let w = (row-stands t _ r _ _ _ _ _ _ _ _ (rw (literal-numbers v).is at s)).0 in
      rw (w.kind, w.line, w.code, w.first, w.second, value-back c q v _ _ _ g (literal-numbers v).is)

  mutual
    unfolding encode encode_all row_of head_numbers is_numbers tree_by coded Fits FitsAll WordFits arguments_at count_of

    pub read_back : (e : Expr) (r : ℕ) → Fits c q e → Stored t (row_size * r) (encode e) → tree_at c q t r ≡ e
    read_back (star l) r f s = let w = (row-stands t _ r _ _ _ _ _ _ _ _ s).0 in tree-at c q t r ∙ rw (w.kind, w.line)
    read_back (column l m n) r f s = tree-at c q t r ∙ column-back (tree_at c q t) l m n r f s
    read_back (literal l v) r f s = tree-at c q t r ∙ literal-back (tree_at c q t) l v r f s
    read_back (call l n as') r f s =
        let w = row-stands t _ r _ _ _ _ _ _ _ _ s in
        tree-at c q t r ∙ rw (
          w.0.kind,
          w.0.line,
          w.0.code,
          w.0.first,
          w.0.second,
          f.0,
          read_all as' (suc r) f.1 w.1,
        )
    read_back (unary l o a) r f s =
        let w = row-stands t _ r _ _ _ _ _ _ _ _ s in
        tree-at c q t r ∙ rw (w.0.kind, w.0.line, w.0.code, unary-back o, read_back a (suc r) f w.1)
    read_back (binary l o a b) r f s =
        let w = row-stands t _ r _ _ _ _ _ _ _ _ s in
        let n = next-stands t a (encode b) (suc r) w.1 in
        tree-at c q t r ∙ rw (
          w.0.kind,
          w.0.line,
          w.0.code,
          binary-back o,
          read_back a (suc r) f.0 n.0,
          read_back b (suc r + rows_at t (suc r)) f.1 n.1,
        )
    read_back (is l a v) r f s =
        let w = row-stands t _ r _ _ _ _ _ _ _ _ (rw (literal-numbers v).is at s) in
        tree-at c q t r ∙ rw (
          w.0.kind,
          w.0.line,
          w.0.code,
          w.0.first,
          w.0.second,
          value-back c q v _ _ _ f.1 (literal-numbers v).is,
          read_back a (suc r) f.0 w.1,
        )

    pub read_all : (as' : Exprs) (r : ℕ) → FitsAll c q as' → Stored t (row_size * r) (encode_all as')
        → arguments_at (tree_at c q t) t (count_of as') r ≡ as'
    read_all nil r f s = refl
    read_all (cons a as') r f s =
        let n = next-stands t a (encode_all as') r s in
        rw (read_back a r f.0 n.0, read_all as' (r + rows_at t r) f.1 n.1)
