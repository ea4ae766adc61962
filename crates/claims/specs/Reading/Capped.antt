-- The cap on counts changes nothing: past 512 every count refuses alike.
use Prim.Native.Nat.{ℕ, zero, suc, ◌+◌, ◌≤◌, ◌<◌, min}
use Rattle.std.proofs.Common.{arith, le-ltb}
use Rattle.std.proofs.Math.Decide.{dec_le}
use Rattle.std.specs.Prelude.{◌≡◌, refl, List, length}
use Rattle.rules.specs.Refusals.{Answer, ok, refused}
use Rattle.rules.specs.Limits.{most_cells, most_depth, most_table_columns}
use Rattle.rules.specs.Lists.{map_option}
use Rattle.rules.specs.Lines.{Word, decimal}
use Rattle.rules.specs.Ast.{Expr, star, column, literal, call, unary, binary, is, size}
use Rattle.rules.specs.Schema.{Column}
use Rattle.rules.specs.Reader.{Place, Read, ◌>>=◌, count_field}
use Rattle.rules.specs.ReadExpression.{call_head, times, operands, deep, expression}
use Rattle.rules.specs.ReadStatement.{row_body}
use Rattle.rules.specs.ReadCatalog.{key_fits}
use Rattle.claims.specs.Answers.{weaken}
use Rattle.claims.specs.Reading.Rules.{Reaches, Reads, reads_then, reads-by}
use Rattle.claims.specs.Reading.Cells.{adds-deep}

-- a reader that counts one cell or more, within the limit
abbrev pub Counts : {A : Type 0} → Read A → Type 0
Counts m = Reads (λ p. p.cells ≤ most_cells) m (λ p a q. (p.cells < q.cells) × (q.cells ≤ most_cells))

-- every expression has a cell at least
pub size-positive : (e : Expr) → 1 ≤ size e
unfolding size
size-positive (star l) = omega arith
size-positive (column l t n) = omega arith
size-positive (literal l v) = omega arith
size-positive (call l n as') = omega arith
size-positive (unary l o a) = omega arith
size-positive (binary l o a b) = omega arith
size-positive (is l a v) = omega arith

pub counts-deep : (d : ℕ) → Counts (deep d)
counts-deep d p h = weaken (deep d p) _ _ (λ r g. omega (arith, size-positive r.0)) (adds-deep d p tt)

-- what follows an accepted value may be replaced by the same
same-behind : {A B : Type 0} (m : Read A) (f g : A → Read B) (p : Place) → Reaches (m p) (λ a q. f a q ≡ g a q) → ◌>>=◌ m f p ≡ ◌>>=◌ m g p
unfolding ◌>>=◌
same-behind {A} {B} m f g p h = go (m p) h
  where
    go : (x : Answer (A × Place)) → Reaches x (λ a q. f a q ≡ g a q)
        → ◌≡◌ {A = Answer (B × Place)} (elim x [ ok r ↦ f r.0 r.1 | refused r ↦ refused r ]) (elim x [ ok r ↦ g r.0 r.1 | refused r ↦ refused r ])
    go (ok r) k = k
    go (refused r) k = refl

same_first : {A B : Type 0} (m n : Read A) (f : A → Read B) (p : Place) → m p ≡ n p → ◌>>=◌ m f p ≡ ◌>>=◌ n f p
unfolding ◌>>=◌
same_first m n f p h = rw (h, ◌>>=◌)

module _ (e : Read Expr) (h : Counts e) where
  -- as many as the limit has no room for are refused
  pub times-refused : (n : ℕ) (p : Place) → p.cells ≤ most_cells → most_cells < n + p.cells → Reaches (times n e p) (λ as' q. ⊥)
  unfolding times
  times-refused zero p a b = absurd (omega arith)
  times-refused (suc n) p a b = reads-by _ _ _ _ h a λ x q g. reads_then (times n e) _ q _ _ (times-refused n q g.1 (omega arith)) λ as' r z. absurd z

  -- and all for the same reason at the same line
  pub times-alike : (m n : ℕ) (p : Place) → p.cells ≤ most_cells → most_cells < m + p.cells → most_cells < n + p.cells → times m e p ≡ times n e p
  unfolding times
  times-alike zero n p a b c = absurd (omega arith)
  times-alike (suc m) zero p a b c = absurd (omega arith)
  times-alike (suc m) (suc n) p a b c = same-behind e _ _ p
      (weaken (e p) _ _ (λ r g. same_first (times m e) (times n e) _ r.1 (times-alike m n r.1 g.1 (omega arith) (omega arith))) (h p a))

-- past the limit every count of expressions is refused alike
pub deep-alike : (d m n : ℕ) (p : Place) → p.cells ≤ most_cells → most_cells < m → most_cells < n → times m (deep d) p ≡ times n (deep d) p
deep-alike d m n p a b c = times-alike (deep d) (counts-deep d) m n p a (omega arith) (omega arith)

-- the arguments of a call
pub call-alike : (w : Word) (l d m n : ℕ) (p : Place) → p.cells ≤ most_cells → most_cells < m → most_cells < n
    → operands (call_head w m) l (deep d) p ≡ operands (call_head w n) l (deep d) p
unfolding operands
call-alike w l d m n p a b c = same_first (times m (deep d)) (times n (deep d)) _ p (deep-alike d m n p a b c)

-- the values of an inserted row
pub row-alike : (l m n : ℕ) (p : Place) → p.cells ≤ most_cells → most_cells < m → most_cells < n → row_body l m p ≡ row_body l n p
unfolding row_body expression
row-alike l m n p a b c = same_first (times m expression) (times n expression) _ p (deep-alike most_depth m n p a b c)

-- the key position of a table
pub key-alike : (l m n : ℕ) (cs : List Column) (p : Place) → length cs ≤ most_table_columns → most_cells < m → most_cells < n → key_fits l m cs p ≡ key_fits l n cs p
unfolding key_fits
key-alike l m n cs p a b c = rw (le-ltb m (length cs) (omega arith), le-ltb n (length cs) (omega arith), key_fits)

-- THE CAP
abbrev pub cap : ℕ → ℕ
cap n = min (suc most_cells) n

pub count-cap : (w : Word) → count_field w ≡ map_option cap (decimal w.bytes)
unfolding count_field
count-cap w = refl

capped : {A : Type 0} (f : ℕ → A) → ((m n : ℕ) → most_cells < m → most_cells < n → f m ≡ f n) → (n : ℕ) → f (cap n) ≡ f n
capped f h n = go (dec_le n most_cells)
  where
    go : Dec (n ≤ most_cells) → f (cap n) ≡ f n
    go (yes k) = let e : cap n ≡ n = omega arith in rw e
    go (no k) = h (cap n) n (omega arith) (omega arith)

-- The cap changes nothing: for the arguments of a call, the values of a row, the key position of a table.
pub call-capped : (w : Word) (l d n : ℕ) (p : Place) → p.cells ≤ most_cells → operands (call_head w (cap n)) l (deep d) p ≡ operands (call_head w n) l (deep d) p
call-capped w l d n p a = capped (λ k. operands (call_head w k) l (deep d) p) (λ m n b c. call-alike w l d m n p a b c) n

pub row-capped : (l n : ℕ) (p : Place) → p.cells ≤ most_cells → row_body l (cap n) p ≡ row_body l n p
row-capped l n p a = capped (λ k. row_body l k p) (λ m n b c. row-alike l m n p a b c) n

pub key-capped : (l n : ℕ) (cs : List Column) (p : Place) → length cs ≤ most_table_columns → key_fits l (cap n) cs p ≡ key_fits l n cs p
key-capped l n cs p a = capped (λ k. key_fits l k cs p) (λ m n b c. key-alike l m n cs p a b c) n
