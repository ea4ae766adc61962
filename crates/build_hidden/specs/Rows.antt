-- The rows of a walk, written one behind the other: no more than the tree has cells.
use Rattle.std.specs.Prelude.{ℕ, suc, ◌+◌, ◌-◌, ◌≤◌, ◌<◌, ◌≡◌, refl, Bool, true, false, not, List, [], ◌∷◌, ◌++◌, eqb, length}
use Rattle.std.proofs.Common.{arith, add-one, ap, ◌∙◌, length-append}
use Rattle.std.specs.Bool.{beq}
use Rattle.rules.specs.Lists.{Bytes}
use Rattle.rules.specs.Ast.{Expr, star, column, literal, call, unary, binary, is, size, size_all}
use Rattle.ast.specs.Table.{rows_at, arguments_at, tree_at}
use Rattle.ast.specs.Operands.{operands_of, kind_at, operands_at, operands-at, tree-at, arguments-more}
use Rattle.ast.specs.Listed.{Listed, listed-all, listed-on}
use Rattle.ast.specs.declared.buffer.Rows.{Rows}
use Rattle.build_hidden.specs.Visits.{Walks, Walking, walking-begin, walking-end, walking-stop, walking-more}

-- there is room behind the rows of s for as many as the tree at row r has cells, by some texts
pub record RowsFit (t : List ℕ) (r : ℕ) (s : Rows) : Type 0 where
  pub c : Bytes
  pub q : Bytes
  pub fits : s.used + size (tree_at c q t r) ≤ length s.rows.now

-- the rows of the walk of the tree at row r, whose answer is b, stand behind those of s
pub record RowsVisited (t : List ℕ) (r : ℕ) (s s' : Rows) (b : Bool) : Type 0 where
  pub seen : List ℕ
  pub walks : Walks t r seen b
  pub listed : Listed seen s s'
  pub most : (c q : Bytes) → length seen ≤ size (tree_at c q t r)

-- SIZES
size-operands : (e : Expr) → size e ≡ suc (size_all (operands_of e))
unfolding size operands_of
size-operands (star l) = refl
size-operands (column l t n) = refl
size-operands (literal l v) = refl
size-operands (call l n as') = refl
size-operands (unary l o a) = ap suc (omega arith)
size-operands (binary l o a b) = ap suc (omega arith)
size-operands (is l a v) = ap suc (omega arith)

size-at : (c q : Bytes) (t : List ℕ) (r : ℕ)
    → size (tree_at c q t r) ≡ suc (size_all (arguments_at (tree_at c q t) t (operands_at t r) (suc r)))
size-at c q t r = size-operands (tree_at c q t r)
    ∙ ap (λ as'. suc (size_all as')) (ap operands_of (tree-at c q t r) ∙ operands-at (tree_at c q t) c q t r)

size-first : (f : ℕ → Expr) (t : List ℕ) (n p : ℕ) → 0 < n
    → size_all (arguments_at f t n p) ≡ size (f p) + size_all (arguments_at f t (n - 1) (p + rows_at t p))
unfolding size
size-first f t n p l = rw (arguments-more f t n p l)

pub size-some : (c q : Bytes) (t : List ℕ) (r : ℕ) → 0 < size (tree_at c q t r)
size-some c q t r = omega (arith, size-at c q t r)

-- THE LOOP
-- behind the rows of s, r and those of the walk up to its last k operands, from row p on
pub record Visiting (t : List ℕ) (r : ℕ) (any : Bool) (s : Rows) (k p : ℕ) (s' : Rows) : Type 0 where
  pub seen : List ℕ
  pub walking : Walking t r any k p (r ∷ seen)
  pub listed : Listed (r ∷ seen) s s'
  pub most : (c q : Bytes) → suc (length seen) + size_all (arguments_at (tree_at c q t) t k p) ≤ size (tree_at c q t r)

-- the row itself
pub first_fits : {t : List ℕ} {r : ℕ} {s : Rows} → RowsFit t r s → s.used + 1 ≤ length s.rows.now
first_fits {t} {r} f = omega (arith, f.fits, size-some f.c f.q t r)

pub visiting-begin : (t : List ℕ) (r : ℕ) {s s' : Rows} {b : Bool} (k : ℕ) → Listed (r ∷ []) s s'
    → b ≡ eqb (kind_at t r) 4 → k ≡ operands_at t r → Visiting t r b s k (r + 1) s'
visiting-begin t r k l e g = record {
  seen = [];
  walking = rw e (walking-begin t r (kind_at t r) k refl g);
  listed = l;
  most = λ c q. rw (g, add-one r) (omega (arith, size-at c q t r));
}

module _ {t : List ℕ} {r : ℕ} {any : Bool} {s : Rows} {k p : ℕ} {s' : Rows} (v : Visiting t r any s k p s') where
  -- room for the next operand's
  pub visiting-fits : RowsFit t r s → 0 < k → RowsFit t p s'
  visiting-fits f l = record {
    c = f.c;
    q = f.q;
    fits = omega (
      arith,
      f.fits,
      v.most f.c f.q,
      v.listed.used,
      listed-all v.listed,
      size-first (tree_at f.c f.q t) t k p l,
    );
  }

  pub visiting-end : k ≤ 0 → RowsVisited t r s s' (not any)
  visiting-end l = record {
    seen = r ∷ v.seen;
    walks = walking-end v.walking l;
    listed = v.listed;
    most = λ c q. omega (arith, v.most c q);
  }

  module _ {s'' : Rows} {b : Bool} (l : 0 < k) (o : RowsVisited t p s' s'' b) where
    more-most : (c q : Bytes)
        → suc (length (v.seen ++ o.seen)) + size_all (arguments_at (tree_at c q t) t (k - 1) (p + rows_at t p))
        ≤ size (tree_at c q t r)
    more-most c q = rw (length-append v.seen o.seen)
        (omega (arith, v.most c q, o.most c q, size-first (tree_at c q t) t k p l))

    pub visiting-stop : beq b any ≡ true → RowsVisited t r s s'' any
    visiting-stop z = record {
      seen = r ∷ (v.seen ++ o.seen);
      walks = walking-stop v.walking l o.walks z;
      listed = listed-on v.listed o.listed;
      most = λ c q. omega (arith, more-most c q);
    }

    pub visiting-more : beq b any ≡ false → Visiting t r any s (k - 1) (p + rows_at t p) s''
    visiting-more z = record {
      seen = v.seen ++ o.seen;
      walking = walking-more v.walking l o.walks z;
      listed = listed-on v.listed o.listed;
      most = more-most;
    }
