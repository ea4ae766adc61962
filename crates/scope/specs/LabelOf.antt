-- The label that an expression passes on: that of a column name which is found, else none.
use Rattle.std.specs.Prelude.{ℕ, ◌≤◌, ◌<◌, ◌≡◌, refl, List, length, get_or, Result, Ok, Err}
use Rattle.std.specs.Prelude as std
use Rattle.std.proofs.Common.{arith, ◌∙◌}
use Rattle.std.proofs.Math.Path.{ap, sym}
use Rattle.std.proofs.Math.Option.{Option, none, some}
use Rattle.rules.specs.Lists.{Bytes}
use Rattle.rules.specs.Lines.{Word}
use Rattle.rules.specs.Places.{word_at}
use Rattle.rules.specs.Ast.{Expr}
use Rattle.rules.specs.Views.{as_column, ColumnName}
use Rattle.rules.specs.Plan.{nameless}
use Rattle.rules.specs.Scope as rules
use Rattle.rules.specs.Scope.{label_of, item_label, found_label}
use Rattle.ast.specs.Table.{tree_at}
use Rattle.ast.specs.Operands.{kind_at}
use Rattle.ast.specs.Row.{number_of, tree_of, row-tree, column-row, qualified-row}
use Rattle.ast.specs.Row.{name_address, name_length, qualifier_address, qualifier_length}
use Rattle.ast.specs.declared.row.Kind.{Kind}
use Rattle.ast.specs.declared.row.Kind.TheVariants as K
use Rattle.scope.specs.Labels.{slot_of, packed, Fits, label_at, label-nameless, label-alias}
use Rattle.scope.specs.Slots.{Below, below_at}
use Rattle.scope.specs.Scopes.{scope_from}
use Rattle.scope.specs.Lookup.{found_of, qualifier_of, Looked}
use Rattle.scope.specs.Project.{label-found}
use Rattle.numbers.specs.declared.refusals.Reason.{Reason}
use Rattle.text.specs.declared.places.Place.{Place}

-- the label of what was found among the labels xs, 0 for nothing
unfoldable pub found_number : List ℕ → rules.Found → ℕ
found_number xs (rules.at i) = get_or xs i 0
found_number xs (rules.missing n) = 0

-- the label that an expression passes on from a scope s with the labels xs
unfoldable pub passed_number : List ℕ → rules.Scope → Expr → ℕ
passed_number xs s e = elim (as_column e) [
  | some n ↦ found_number xs (rules.lookup s n.table n.name)
  | none ↦ 0
]

-- l is the label of a name looked up among the labels xs over the tables ts, to whose columns ms are matched
pub record LabelFound (c q : Bytes) (xs ms ts : List ℕ) (o : Option Word) (w : Word) (l : ℕ) : Type 0 where
  pub is : (e : ℕ → Expr) (h : ℕ) → l ≡ found_number xs (rules.lookup (scope_from e c q xs ms ts h) o w)

-- l is the label that the expression x passes on from there
pub record Passed (c q : Bytes) (xs ms ts : List ℕ) (x : Expr) (l : ℕ) : Type 0 where
  pub is : (e : ℕ → Expr) (h : ℕ) → l ≡ passed_number xs (scope_from e c q xs ms ts h) x

-- WHAT IT MEANS
found-label : (e : ℕ → Expr) (c q : Bytes) (xs ms ts : List ℕ) (h : ℕ) (f : rules.Found)
    → label_at c q ts (found_number xs f) ≡ found_label (scope_from e c q xs ms ts h) f
unfolding found_number found_label
found-label e c q xs ms ts h (rules.at i) = sym (label-found e c q xs ms ts h i)
found-label e c q xs ms ts h (rules.missing n) = label-nameless c q ts 0 refl

-- it is the rules' label
pub passed-label : (e : ℕ → Expr) (c q : Bytes) (xs ms ts : List ℕ) (h : ℕ) (x : Expr)
    → label_at c q ts (passed_number xs (scope_from e c q xs ms ts h) x) ≡ label_of (scope_from e c q xs ms ts h) x
unfolding passed_number label_of
passed-label e c q xs ms ts h x = go (as_column x)
  where
    go : (o : Option ColumnName)
        → label_at c q ts (elim o [
          | some n ↦ found_number xs (rules.lookup (scope_from e c q xs ms ts h) n.table n.name)
          | none ↦ 0
        ])
        ≡ elim o [
          | some n ↦ found_label (scope_from e c q xs ms ts h)
              (rules.lookup (scope_from e c q xs ms ts h) n.table n.name)
          | none ↦ nameless
        ]
    go none = label-nameless c q ts 0 refl
    go (some n) = found-label e c q xs ms ts h (rules.lookup (scope_from e c q xs ms ts h) n.table n.name)

found-slot : (n : ℕ) {xs : List ℕ} (f : rules.Found) → Below n xs → slot_of (found_number xs f) ≤ n
unfolding found_number
found-slot n (rules.at i) b = below_at i b
found-slot n (rules.missing m) b = omega arith

-- of one of the scope's tables, or of none
pub passed-slot : (n : ℕ) (xs : List ℕ) (s : rules.Scope) (x : Expr) → Below n xs → slot_of (passed_number xs s x) ≤ n
unfolding passed_number
passed-slot n xs s x b = go (as_column x)
  where
    go : (o : Option ColumnName)
        → slot_of (elim o [ some m ↦ found_number xs (rules.lookup s m.table m.name) | none ↦ 0 ]) ≤ n
    go none = omega arith
    go (some m) = found-slot n (rules.lookup s m.table m.name) b

-- THE LABEL OF AN ITEM
-- with an alias it is that
pub item-alias : (c q : Bytes) (s : rules.Scope) (ts : List ℕ) (x : Expr) (a n : ℕ) → Fits (word_at c q a n)
    → 0 < length (word_at c q a n).bytes → item_label s x (some (word_at c q a n)) ≡ label_at c q ts (packed 0 a n)
unfolding item_label
item-alias c q s ts x a n f l = sym (label-alias c q ts a n f l)

-- WHAT WAS FOUND
module _ {c q : Bytes} {ls ms ts : List ℕ} {o : Option Word} {w : Word} {r : Result ℕ Reason} (k : Looked c q ls ms ts o w r) where
  pub found_at : {i x : ℕ} → r ≡ Ok i → x ≡ get_or ls i 0 → LabelFound c q ls ms ts o w x
  unfolding found_number found_of
  found_at e g = record { is = λ f h. g ∙ sym (ap (found_number ls) (k.is f h ∙ ap found_of e)) }

  pub found_none : {reason : Reason} → r ≡ Err reason → LabelFound c q ls ms ts o w 0
  unfolding found_number found_of
  found_none e = record { is = λ f h. sym (ap (found_number ls) (k.is f h ∙ ap found_of e)) }

-- BY THE KIND OF A ROW
module _ {c q : Bytes} {xs ms ts : List ℕ} (t : List ℕ) (r : ℕ) (k : Kind) (h : number_of k ≡ kind_at t r) where
  -- a name, or a name under a table's, whose label l is
  module _ {a n l : ℕ} (ea : a ≡ name_address t r) (en : n ≡ name_length t r) where
    pub passed-column : k ≡ K.Column → LabelFound c q xs ms ts (qualifier_of c q std.None) (word_at c q a n) l
        → Passed c q xs ms ts (tree_at c q t r) l
    unfolding passed_number as_column qualifier_of
    passed-column e f = record {
      is = λ g j. (rw (ea, en) at (f.is g j))
          ∙ sym (ap (passed_number xs (scope_from g c q xs ms ts j)) (column-row c q t r k h e));
    }

    pub passed-qualified : {p : Place} → p.address ≡ qualifier_address t r → p.length ≡ qualifier_length t r → k ≡ K.Qualified
        → LabelFound c q xs ms ts (qualifier_of c q (std.Some p)) (word_at c q a n) l → Passed c q xs ms ts (tree_at c q t r) l
    unfolding passed_number as_column qualifier_of
    passed-qualified eb em e f = record {
      is = λ g j. (rw (ea, en, eb, em) at (f.is g j))
          ∙ sym (ap (passed_number xs (scope_from g c q xs ms ts j)) (qualified-row c q t r k h e));
    }

  -- anything else
  pub passed_none : (v : Kind) → k ≡ v → as_column (tree_of (tree_at c q t) v c q t r) ≡ none
      → Passed c q xs ms ts (tree_at c q t r) 0
  unfolding passed_number
  passed_none v e o =
      let w : tree_at c q t r ≡ tree_of (tree_at c q t) v c q t r =
      row-tree c q t r k h ∙ ap (λ (i : Kind). tree_of (tree_at c q t) i c q t r) e in
      record {
        is = λ g j. sym (ap (passed_number xs (scope_from g c q xs ms ts j)) w ∙ rw (passed_number, o));
      }

  pub passed-other : (k ≡ K.Column → ⊥) → (k ≡ K.Qualified → ⊥) → Passed c q xs ms ts (tree_at c q t r) 0
  unfolding tree_of as_column
  passed-other f g = go k refl
    where
      go : (v : Kind) → k ≡ v → Passed c q xs ms ts (tree_at c q t r) 0
      go K.Column e = absurd (f e)
      go K.Qualified e = absurd (g e)
      go K.Star e = passed_none K.Star e refl
      go K.Call e = passed_none K.Call e refl
      go K.Unary e = passed_none K.Unary e refl
      go K.Binary e = passed_none K.Binary e refl
      go K.Is e = passed_none K.Is e refl
      go K.Literal e = passed_none K.Literal e refl
