-- The column to hide for an expression: of the parent's with the labels xs, the matches ms and the tables ts, which a child
-- with the labels ys, the matches ns and the tables us lacks.
use Rattle.std.specs.Prelude as std
use Rattle.std.specs.Prelude.{ℕ, ◌<◌, Bool, true, false, not, List, Result, Ok, Err}
use Rattle.std.specs.Bool.{then_some}
use Rattle.std.specs.Option.{is_some}
use Rattle.std.specs.Result.{is_ok, result_ok}
use native.Mathlib.Omega.{arith}
use Rattle.std.proofs.Math.Path.{◌≡◌, refl, sym, ap}
use Rattle.std.proofs.Common.{◌∙◌}
use Rattle.std.proofs.Math.Option.{Option, none, some}
use mathlib.Core.Logic.{◌⊎◌, inl, inr}
use Rattle.std.proofs.Math.ListN.{length}
use Rattle.rules.specs.Lists.{Bytes}
use Rattle.rules.specs.Lines.{Word}
use Rattle.rules.specs.Places.{word_at}
use Rattle.rules.specs.Ast.{Expr}
use Rattle.rules.specs.Views.{as_column, ColumnName}
use Rattle.rules.specs.Scope as rules
use Rattle.rules.specs.Scope.{matched, match_at}
use Rattle.rules.specs.Hidden.{position, lacking, lacking_column, to_hide}
use Rattle.ast.specs.Table.{tree_at}
use Rattle.ast.specs.Operands.{kind_at}
use Rattle.ast.specs.Row.{number_of, tree_of, row-tree, column-row, qualified-row}
use Rattle.ast.specs.Row.{name_address, name_length, qualifier_address, qualifier_length}
use Rattle.ast.specs.declared.row.Kind.{Kind}
use Rattle.ast.specs.declared.row.Kind.TheVariants as K
use Rattle.scope.specs.Labels.{columns-length}
use Rattle.scope.specs.Scopes.{matches_of, scope_from}
use Rattle.scope.specs.Lookup.{found_of, qualifier_of, Looked, lookup-below}
use Rattle.numbers.specs.Options.{option_of}
use Rattle.scope.specs.Matches.{matched-from, matched-below}
use Rattle.numbers.specs.declared.refusals.Reason.{Reason}
use Rattle.text.specs.declared.places.Place.{Place}
use Rattle.build_expression.specs.Builds.{scope_at}

-- CONTRACTS
module _ (c q : Bytes) (xs ms ts ys ns us : List ℕ) where
  -- for a name w, under a table's o or not
  pub record NameLacking (o : Option Word) (w : Word) (x : std.Option ℕ) : Type 0 where
    pub is : (e : ℕ → Expr) (h k : ℕ) → option_of x ≡ lacking
        (position (rules.lookup (scope_from e c q xs ms ts h) o w)) (position (rules.lookup (scope_from e c q ys ns us k) o w))

  -- for an expression that may be a column's name
  pub record ColumnLacking (a : Expr) (x : std.Option ℕ) : Type 0 where
    pub is : (e : ℕ → Expr) (h k : ℕ)
        → option_of x ≡ lacking_column (scope_from e c q xs ms ts h) (scope_from e c q ys ns us k) (as_column a)

pub record Lacking (c q : Bytes) (t xs ms ts ys ns us : List ℕ) (r : ℕ) (x : std.Option ℕ) : Type 0 where
  pub is : (h k : ℕ) → option_of x ≡ to_hide (scope_at c q t xs ms ts h) (scope_at c q t ys ns us k) (tree_at c q t r)

-- WHAT THE CHILD LACKS
lacking-nothing : (o : Option ℕ) → none ≡ lacking none o
unfolding lacking
lacking-nothing none = refl
lacking-nothing (some j) = refl

-- nothing in the parent; something, where the child has nothing
pub lacks-nothing : {x : std.Option ℕ} (o p : Option ℕ) → option_of x ≡ o → x ≡ std.None → none ≡ lacking o p
lacks-nothing o p e g = lacking-nothing p ∙ ap (λ (u : Option ℕ). lacking u p) (sym (ap option_of g) ∙ e)

pub lacks-some : {x : std.Option ℕ} (y : std.Option ℕ) (b : Bool) (o p : Option ℕ) (i : ℕ) → option_of x ≡ o → option_of y ≡ p
    → x ≡ std.Some i → is_some y ≡ not b → option_of (then_some b i) ≡ lacking o p
unfolding lacking
lacks-some y b o p i e f g h = rw (← e, g, ← f) (go b y h)
  where
    go : (b : Bool) (y : std.Option ℕ) → is_some y ≡ not b → option_of (then_some b i) ≡ lacking (some i) (option_of y)
    go true std.None z = refl
    go false (std.Some j) z = refl
    go true (std.Some j) z = cc
    go false std.None z = cc

-- NAMES
module _ {c q : Bytes} {xs ms ts : List ℕ} {o : Option Word} {w : Word} {u : Result ℕ Reason}
    (l : Looked c q xs ms ts o w u) where
  -- where the name stands, if it does
  looked-at : (e : ℕ → Expr) (h : ℕ) → option_of (result_ok u) ≡ position (rules.lookup (scope_from e c q xs ms ts h) o w)
  unfolding position found_of
  looked-at e h = go u ∙ ap position (sym (l.is e h))
    where
      go : (r : Result ℕ Reason) → option_of (result_ok r) ≡ position (found_of r)
      go (Ok i) = refl
      go (Err r) = refl

module _ {c q : Bytes} {xs ms ts ys ns us : List ℕ} {o : Option Word} {w : Word} {u : Result ℕ Reason}
    (l : Looked c q xs ms ts o w u) where
  pub name-nothing : result_ok u ≡ std.None → NameLacking c q xs ms ts ys ns us o w std.None
  name-nothing g = record { is = λ e h k. lacks-nothing _ _ (looked-at l e h) g }

  pub name-lacking : {v : Result ℕ Reason} (b : Bool) {i : ℕ} → Looked c q ys ns us o w v → result_ok u ≡ std.Some i
      → is_ok v ≡ not b → NameLacking c q xs ms ts ys ns us o w (then_some b i)
  name-lacking {v} b {i} m g n = record {
    is = λ e h k. lacks-some (result_ok v) b _ _ i (looked-at l e h) (looked-at m e k) g (known v ∙ n);
  }
    where
      known : (v : Result ℕ Reason) → is_some (result_ok v) ≡ is_ok v
      known (Ok i) = refl
      known (Err r) = refl

-- BY THE KIND OF A ROW
-- kinds other than a column's name
abbrev pub Unnamed : Kind → Type 0
Unnamed k = (k ≡ K.Star) ⊎ ((k ≡ K.Call) ⊎ ((k ≡ K.Unary) ⊎ ((k ≡ K.Binary) ⊎ ((k ≡ K.Is) ⊎ (k ≡ K.Literal)))))

unnamed-tree : (c q : Bytes) (t : List ℕ) (r : ℕ) {k : Kind} → Unnamed k
    → as_column (tree_of (tree_at c q t) k c q t r) ≡ none
unfolding tree_of as_column
unnamed-tree c q t r (inl e) = rw e
unnamed-tree c q t r (inr (inl e)) = rw e
unnamed-tree c q t r (inr (inr (inl e))) = rw e
unnamed-tree c q t r (inr (inr (inr (inl e)))) = rw e
unnamed-tree c q t r (inr (inr (inr (inr (inl e))))) = rw e
unnamed-tree c q t r (inr (inr (inr (inr (inr e))))) = rw e

module _ {c q : Bytes} {xs ms ts ys ns us : List ℕ} (t : List ℕ) (r : ℕ) (k : Kind) (h : number_of k ≡ kind_at t r) where
  module _ {a n : ℕ} {x : std.Option ℕ} (ea : a ≡ name_address t r) (en : n ≡ name_length t r) where
    pub column-plain : k ≡ K.Column → NameLacking c q xs ms ts ys ns us (qualifier_of c q std.None) (word_at c q a n) x
        → ColumnLacking c q xs ms ts ys ns us (tree_at c q t r) x
    unfolding lacking_column as_column qualifier_of
    column-plain e f = record {
      is = λ g i j. (rw (ea, en) at (f.is g i j))
          ∙ sym (ap (λ (b : Expr). lacking_column (scope_from g c q xs ms ts i) (scope_from g c q ys ns us j) (as_column b))
          (column-row c q t r k h e));
    }

    pub column-qualified : {p : Place} → p.address ≡ qualifier_address t r → p.length ≡ qualifier_length t r → k ≡ K.Qualified
        → NameLacking c q xs ms ts ys ns us (qualifier_of c q (std.Some p)) (word_at c q a n) x
        → ColumnLacking c q xs ms ts ys ns us (tree_at c q t r) x
    unfolding lacking_column as_column qualifier_of
    column-qualified eb em e f = record {
      is = λ g i j. (rw (ea, en, eb, em) at (f.is g i j))
          ∙ sym (ap (λ (b : Expr). lacking_column (scope_from g c q xs ms ts i) (scope_from g c q ys ns us j) (as_column b))
          (qualified-row c q t r k h e));
    }

  -- anything else
  pub column-none : Unnamed k → ColumnLacking c q xs ms ts ys ns us (tree_at c q t r) std.None
  unfolding lacking_column
  column-none e = record {
    is = λ g i j. sym (ap (lacking_column (scope_from g c q xs ms ts i) (scope_from g c q ys ns us j))
        (ap as_column (row-tree c q t r k h) ∙ unnamed-tree c q t r e));
  }

-- A MATCH OR ELSE A NAME
matches-both : (c q : Bytes) (t xs ms ts ys ns us : List ℕ) (r h k : ℕ) (o : Option ℕ)
    → o ≡ lacking (match_at (matches_of (tree_at c q t) 0 ms) (tree_at c q t r))
    (match_at (matches_of (tree_at c q t) 0 ns) (tree_at c q t r))
    → lacking (matched (scope_at c q t xs ms ts h) (tree_at c q t r)) (matched (scope_at c q t ys ns us k) (tree_at c q t r)) ≡ o
matches-both c q t xs ms ts ys ns us r h k o m = rw (
  matched-from (tree_at c q t) c q xs ms ts h (tree_at c q t r),
  matched-from (tree_at c q t) c q ys ns us k (tree_at c q t r),
) (sym m)

module _ {c q : Bytes} {t xs ms ts ys ns us : List ℕ} {r : ℕ} where
  pub lacking-match : {x : std.Option ℕ} {i : ℕ} → option_of x
      ≡ lacking (match_at (matches_of (tree_at c q t) 0 ms) (tree_at c q t r))
      (match_at (matches_of (tree_at c q t) 0 ns) (tree_at c q t r))
      → x ≡ std.Some i → Lacking c q t xs ms ts ys ns us r (std.Some i)
  unfolding to_hide
  lacking-match {x} {i} m g = record { is = λ h k. rw (to_hide, matches-both c q t xs ms ts ys ns us r h k (some i) (sym (ap option_of g) ∙ m)) }

  pub lacking-column : {x y : std.Option ℕ} → option_of x
      ≡ lacking (match_at (matches_of (tree_at c q t) 0 ms) (tree_at c q t r))
      (match_at (matches_of (tree_at c q t) 0 ns) (tree_at c q t r))
      → x ≡ std.None → ColumnLacking c q xs ms ts ys ns us (tree_at c q t r) y → Lacking c q t xs ms ts ys ns us r y
  unfolding to_hide
  lacking-column {x} {y} m g f = record {
    is = λ h k. rw (to_hide, matches-both c q t xs ms ts ys ns us r h k none (sym (ap option_of g) ∙ m)) (f.is (tree_at c q t) h k);
  }

-- THE COLUMN IS ONE OF THE PARENT'S
lacking-own : (o p : Option ℕ) (i : ℕ) → lacking o p ≡ some i → o ≡ some i
unfolding lacking
lacking-own o none i e = e
lacking-own none (some j) i e = e
lacking-own (some k) (some j) i e = grind arith

position_at : (f : rules.Found) (i : ℕ) → position f ≡ some i → f ≡ rules.at i
unfolding position
position_at (rules.at j) i e = cc
position_at (rules.missing n) i e = grind arith

module _ (c q : Bytes) (xs ms ts : List ℕ) (e : ℕ → Expr) (child : rules.Scope) (a : Expr) {i : ℕ} where
  column-below : (o : Option ColumnName) → lacking_column (scope_from e c q xs ms ts 0) child o ≡ some i → i < length xs
  unfolding lacking_column scope_from rules.width
  column-below none g = grind arith
  column-below (some n) g = rw columns-length at (lookup-below (scope_from e c q xs ms ts 0) n.table n.name i
      (position_at _ i (lacking-own _ _ i g)))

  hide-below : length ms ≡ length xs → to_hide (scope_from e c q xs ms ts 0) child a ≡ some i → i < length xs
  unfolding to_hide
  hide-below l = go (lacking (matched (scope_from e c q xs ms ts 0) a) (matched child a)) refl
    where
      go : (o : Option ℕ) → lacking (matched (scope_from e c q xs ms ts 0) a) (matched child a) ≡ o
          → ◌≡◌ {A = Option ℕ} (elim o [
            | some j ↦ some j
            | none ↦ lacking_column (scope_from e c q xs ms ts 0) child (as_column a)
          ]) (some i)
          → i < length xs
      go none z g = column-below (as_column a) g
      go (some j) z g =
          let y : j ≡ i = cc in
          omega (
            arith,
            l,
            y,
            matched-below e a ms {r = std.Some j} j
                (sym (sym (matched-from e c q xs ms ts 0 a) ∙ lacking-own _ _ j z)) refl,
          )

pub lacking-below : {c q : Bytes} {t xs ms ts ys ns us : List ℕ} {r : ℕ} {x : std.Option ℕ} {i : ℕ}
    → Lacking c q t xs ms ts ys ns us r x → x ≡ std.Some i → length ms ≡ length xs → i < length xs
lacking-below {c} {q} {t} {xs} {ms} {ts} {ys} {ns} {us} {r} k e l =
    hide-below c q xs ms ts (tree_at c q t) (scope_at c q t ys ns us 0) (tree_at c q t r) l
    (sym (k.is 0 0) ∙ ap option_of e)
