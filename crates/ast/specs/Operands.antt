-- A tree is its root and its operands: those of the tree at a row stand from the next row on, each behind the rows of the
-- one before. What walks the tree at a row goes by these laws and not by the kinds.
use Rattle.std.specs.Prelude.{ℕ, zero, suc, ◌+◌, ◌*◌, ◌-◌, ◌<◌, ◌≤◌, ◌≡◌, refl, Bool, true, false, List, [], ◌∷◌, ltb, length}
use Rattle.std.proofs.Common.{sub-one, arith, sym, ap, ◌∙◌, ltb-true, ltb-false}
use Rattle.std.proofs.Math.Option.{none, some}
use Rattle.std.proofs.Math.ListN.{get_or-eq_default}
use Rattle.rules.specs.Lists.{Bytes}
use Rattle.rules.specs.Places.{word_at}
use Rattle.rules.specs.Ast.{Expr, star, column, literal, call, unary, binary, is, Exprs, nil, cons}
use Rattle.numbers.specs.Codes.{coded, or_least, count_from, coded-map, coded-beside, coded-least, coded-at, coded-below, least_kept}
use Rattle.numbers.specs.Values.{value_at}
use Rattle.ast.specs.Table.{row_size, at, rows_at, unary_at, binary_at, arguments_at, tree_by, star_at}
use Rattle.ast.specs.Table.{root_at, tree_at}
use Rattle.ast.specs.Behind.{behind-step}

unfoldable pub operands_of : Expr → Exprs
operands_of (star l) = nil
operands_of (column l t n) = nil
operands_of (literal l v) = nil
operands_of (call l n as') = as'
operands_of (unary l o a) = cons a nil
operands_of (binary l o a b) = cons a (cons b nil)
operands_of (is l a v) = cons a nil

-- a record's kind, by the table's numbers
unfoldable pub kind_of : Expr → ℕ
kind_of (star l) = 1
kind_of (column l none n) = 2
kind_of (column l (some t) n) = 3
kind_of (call l n as') = 4
kind_of (unary l o a) = 5
kind_of (binary l o a b) = 6
kind_of (is l a v) = 7
kind_of (literal l v) = 8

-- the root, with a star for each operand
unfoldable pub cut_all : Exprs → Exprs
cut_all nil = nil
cut_all (cons a as') = cons (star 0) (cut_all as')

unfoldable pub cut : Expr → Expr
cut (star l) = star l
cut (column l t n) = column l t n
cut (literal l v) = literal l v
cut (call l n as') = call l n (cut_all as')
cut (unary l o a) = unary l o (star 0)
cut (binary l o a b) = binary l o (star 0) (star 0)
cut (is l a v) = is l (star 0) v

-- IN THE TABLE
-- the kind of the record at a row; a star where the number is no kind
unfoldable pub kind_at : List ℕ → ℕ → ℕ
kind_at t r = or_least 1 8 (at t r 0)

-- how many operands it has
unfoldable pub operands_at : List ℕ → ℕ → ℕ
operands_at t r = coded 0 (0 ∷ 0 ∷ 0 ∷ at t r 3 ∷ 1 ∷ 2 ∷ 1 ∷ 0 ∷ []) 1 (at t r 0)

pub kind-at : (f : ℕ → Expr) (c q : Bytes) (t : List ℕ) (r : ℕ) → kind_of (tree_by f c q t r) ≡ kind_at t r
unfolding tree_by kind_of kind_at count_from
kind-at f c q t r = coded-map kind_of _ _ 1 (at t r 0) ∙ coded-least 7 1 (at t r 0)

pub operands-at : (f : ℕ → Expr) (c q : Bytes) (t : List ℕ) (r : ℕ) → operands_of (tree_by f c q t r) ≡ arguments_at f t (operands_at t r) (suc r)
unfolding tree_by operands_of operands_at arguments_at
operands-at f c q t r = coded-map operands_of _ _ 1 (at t r 0) ∙ sym (coded-map (λ n. arguments_at f t n (suc r)) _ _ 1 (at t r 0))

cut_all_lem : (f : ℕ → Expr) (c q : Bytes) (t : List ℕ) (n r : ℕ) → cut_all (arguments_at f t n r) ≡ arguments_at star_at t n r
unfolding cut_all arguments_at star_at
cut_all_lem f c q t zero r = refl
cut_all_lem f c q t (suc n) r = ap (cons (star 0)) (cut_all_lem f c q t n (r + rows_at t r))

-- the root alone
pub cut_at : (f : ℕ → Expr) (c q : Bytes) (t : List ℕ) (r : ℕ) → cut (tree_by f c q t r) ≡ root_at c q t r
unfolding tree_by cut root_at star_at
cut_at f c q t r = coded-map cut _ _ 1 (at t r 0) ∙ rw (cut_all_lem f c q t (at t r 3) (suc r))

-- trees of one row with the same operands are the same
alike : (f g : ℕ → Expr) (c q : Bytes) (t : List ℕ) (r : ℕ) → operands_of (tree_by f c q t r) ≡ operands_of (tree_by g c q t r) → tree_by f c q t r ≡ tree_by g c q t r
unfolding tree_by operands_of
alike f g c q t r = coded-beside (λ a b. operands_of a ≡ operands_of b → a ≡ b) _ _ _ _ 1 (at t r 0) (λ e. refl) (λ e. refl, (λ e. refl, (λ e. refl, (λ e. cc, (λ e. cc, (λ e. cc, (λ e. cc, (λ e. refl, tt))))))))

pub tree-same : (f g : ℕ → Expr) (c q : Bytes) (t : List ℕ) (r : ℕ) → arguments_at f t (operands_at t r) (suc r) ≡ arguments_at g t (operands_at t r) (suc r) → tree_by f c q t r ≡ tree_by g c q t r
tree-same f g c q t r e = alike f g c q t r (operands-at f c q t r ∙ e ∙ sym (operands-at g c q t r))

-- BY KIND
-- a kind other than the star's is the number at the row
kind-number : (t : List ℕ) (r k : ℕ) → kind_at t r ≡ suc (suc k) → at t r 0 ≡ 1 + suc k
unfolding kind_at
kind-number t r k h = least_kept 1 8 (at t r 0) (suc (suc k)) h (λ e. omega arith) ∙ omega arith

module _ (f : ℕ → Expr) (c q : Bytes) (t : List ℕ) (r : ℕ) where
  pub tree-column : kind_at t r ≡ 2 → tree_by f c q t r ≡ column (at t r 1) none (word_at c q (at t r 4) (at t r 5))
  unfolding tree_by
  tree-column h = coded-at _ _ 1 1 (at t r 0) (kind-number t r 0 h)

  pub tree-qualified : kind_at t r ≡ 3 → tree_by f c q t r ≡ column (at t r 1) (some (word_at c q (at t r 6) (at t r 7))) (word_at c q (at t r 4) (at t r 5))
  unfolding tree_by
  tree-qualified h = coded-at _ _ 2 1 (at t r 0) (kind-number t r 1 h)

  pub tree-call : kind_at t r ≡ 4 → tree_by f c q t r ≡ call (at t r 1) (word_at c q (at t r 4) (at t r 5)) (arguments_at f t (at t r 3) (suc r))
  unfolding tree_by
  tree-call h = coded-at _ _ 3 1 (at t r 0) (kind-number t r 2 h)

  pub tree-unary : kind_at t r ≡ 5 → tree_by f c q t r ≡ unary (at t r 1) (unary_at (at t r 3)) (f (suc r))
  unfolding tree_by
  tree-unary h = coded-at _ _ 4 1 (at t r 0) (kind-number t r 3 h)

  pub tree-binary : kind_at t r ≡ 6 → tree_by f c q t r ≡ binary (at t r 1) (binary_at (at t r 3)) (f (suc r)) (f (suc r + rows_at t (suc r)))
  unfolding tree_by
  tree-binary h = coded-at _ _ 5 1 (at t r 0) (kind-number t r 4 h)

  pub tree_is : kind_at t r ≡ 7 → tree_by f c q t r ≡ is (at t r 1) (f (suc r)) (value_at c q (at t r 3) (at t r 4) (at t r 5))
  unfolding tree_by
  tree_is h = coded-at _ _ 6 1 (at t r 0) (kind-number t r 5 h)

  pub tree-literal : kind_at t r ≡ 8 → tree_by f c q t r ≡ literal (at t r 1) (value_at c q (at t r 3) (at t r 4) (at t r 5))
  unfolding tree_by
  tree-literal h = coded-at _ _ 7 1 (at t r 0) (kind-number t r 6 h)

module _ (t : List ℕ) (r : ℕ) where
  pub operands-call : kind_at t r ≡ 4 → operands_at t r ≡ at t r 3
  unfolding operands_at
  operands-call h = coded-at _ _ 3 1 (at t r 0) (kind-number t r 2 h)

  pub operands-unary : kind_at t r ≡ 5 → operands_at t r ≡ 1
  unfolding operands_at
  operands-unary h = coded-at _ _ 4 1 (at t r 0) (kind-number t r 3 h)

  pub operands-binary : kind_at t r ≡ 6 → operands_at t r ≡ 2
  unfolding operands_at
  operands-binary h = coded-at _ _ 5 1 (at t r 0) (kind-number t r 4 h)

  pub operands-is : kind_at t r ≡ 7 → operands_at t r ≡ 1
  unfolding operands_at
  operands-is h = coded-at _ _ 6 1 (at t r 0) (kind-number t r 5 h)

-- a record of no other kind has operands
pub no-operands : (t : List ℕ) (r : ℕ) → (kind_at t r ≡ 4 → ⊥) → (kind_at t r ≡ 5 → ⊥) → (kind_at t r ≡ 6 → ⊥) → (kind_at t r ≡ 7 → ⊥) → operands_at t r ≡ 0
unfolding kind_at operands_at count_from
no-operands t r = rw (← coded-least 7 1 (at t r 0))
    (coded-beside None 0 1 _ (count_from 1 8) 1 (at t r 0) none (none, (none, (none, ((λ a b c d. absurd (a refl)), ((λ a b c d. absurd (b refl)), ((λ a b c d. absurd (c refl)), ((λ a b c d. absurd (d refl)), (none, tt)))))))))
  where
    None : ℕ → ℕ → Type 0
    None n k = (k ≡ 4 → ⊥) → (k ≡ 5 → ⊥) → (k ≡ 6 → ⊥) → (k ≡ 7 → ⊥) → n ≡ 0

    none : {k : ℕ} → None 0 k
    none a b c d = refl

-- WALKING THE ROWS
pub arguments-none : (f : ℕ → Expr) (t : List ℕ) (n r : ℕ) → n ≤ 0 → arguments_at f t n r ≡ nil
unfolding arguments_at
arguments-none f t zero r h = refl
arguments-none f t (suc n) r h = absurd (omega arith)

-- the first of n expressions, and the others behind its rows
pub arguments-more : (f : ℕ → Expr) (t : List ℕ) (n r : ℕ) → 0 < n → arguments_at f t n r ≡ cons (f r) (arguments_at f t (n - 1) (r + rows_at t r))
unfolding arguments_at
arguments-more f t zero r h = absurd (omega arith)
arguments-more f t (suc n) r h = rw (sub-one (suc n))

-- outside the table every number is 0, and a number other than 0 stands inside
pub outside : (t : List ℕ) (r k : ℕ) → length t ≤ row_size * r + k → at t r k ≡ 0
unfolding at
outside t r k h = get_or-eq_default t 0 h

-- a row there is a star
pub tree-outside : (f : ℕ → Expr) (c q : Bytes) (t : List ℕ) (r : ℕ) → length t ≤ r → tree_by f c q t r ≡ star 0
unfolding tree_by
tree-outside f c q t r h = coded-below _ _ 1 (at t r 0) (omega (arith, outside t r 0 (omega arith)))
    ∙ rw (outside t r 1 (omega arith))

pub operands-outside : (t : List ℕ) (r : ℕ) → length t ≤ r → operands_at t r ≡ 0
unfolding operands_at
operands-outside t r h = coded-below _ _ 1 (at t r 0) (omega (arith, outside t r 0 (omega arith)))

-- of expressions from row r on, only what is read from r on matters
arguments-behind : (f g : ℕ → Expr) (t : List ℕ) (n r : ℕ) → ((p : ℕ) → r ≤ p → f p ≡ g p)
    → arguments_at f t n r ≡ arguments_at g t n r
unfolding arguments_at
arguments-behind f g t zero r same = refl
arguments-behind f g t (suc n) r same =
    rw (same r (omega arith), arguments-behind f g t n (r + rows_at t r) (λ p l. same p (omega arith)))

-- the tree at a row is its root and the trees at its operands' rows, in every table and at every row
pub tree-at : (c q : Bytes) (t : List ℕ) (r : ℕ) → tree_at c q t r ≡ tree_by (tree_at c q t) c q t r
unfolding tree_at
tree-at c q t r = behind-step (λ f. tree_by f c q t) (star 0) (length t)
    (λ f g r same. tree-same f g c q t r (arguments-behind f g t (operands_at t r) (suc r)
    (λ p l. same p (omega arith)))) (λ f r h. tree-outside f c q t r h) r

pub inside : (t : List ℕ) (r k : ℕ) → (at t r k ≡ 0 → ⊥) → row_size * r + k < length t
inside t r k ne = pick (ltb (row_size * r + k) (length t)) refl
  where
    pick : (b : Bool) → ltb (row_size * r + k) (length t) ≡ b → row_size * r + k < length t
    pick true e = ltb-true _ _ e
    pick false e = absurd (ne (outside t r k (ltb-false _ _ e)))

-- so does a row with operands, and its next row is a number of 64 bits
pub operands-inside : (t : List ℕ) (r : ℕ) → (operands_at t r ≡ 0 → ⊥) → row_size * r < length t
unfolding operands_at
operands-inside t r ne = omega (arith, inside t r 0 (λ e. ne (coded-below 0 _ 1 (at t r 0) (omega arith))))
