-- Hidden columns: what building them needs, and what it gives.
use Rattle.std.specs.Prelude.{ℕ, ◌+◌, ◌-◌, ◌≤◌, ◌≡◌, List, [], ◌∷◌, ◌++◌, map, length, take, Result, MatchResult}
use Rattle.rules.specs.Refusals.{limit_passed}
use Rattle.rules.specs.Limits.{most_cells, most_columns}
use Rattle.rules.specs.Lists.{Bytes}
use Rattle.rules.specs.Ast.{size}
use Rattle.rules.specs.Sizes.{total}
use Rattle.rules.specs.Hidden.{HiddenColumn, Hidden, hidden_of}
use Rattle.rules.specs.BuildSelect.{later_of}
use Rattle.numbers.specs.Reasons.{named}
use Rattle.numbers.specs.declared.refusals.Refusal.{Refusal}
use Rattle.ast.specs.Table.{table_size, tree_at}
use Rattle.scope.specs.Slots.{Below}
use Rattle.scope.specs.Scopes.{scope_of, table_numbers, Valid}
use Rattle.scope.specs.declared.Scope.{Scope}
use Rattle.statement.specs.Access.{select_at}
use Rattle.build_expression.specs.Builds.{scope_at}

-- The parent has a match for each label, and labels of its own tables; the child has nothing hidden and the same tables, and
-- there is a place for each position.
pub record Passable (cells labels matches tables : List ℕ) (child : Scope) (positions : List ℕ) : Type 0 where
  pub valid : Valid child
  pub shown : child.hidden ≡ 0
  pub as_many : length matches ≡ length labels
  pub slots : Below (length tables) labels
  pub same_tables : table_numbers child ≡ tables
  pub same_count : child.count ≡ length tables
  pub places : length positions ≡ most_columns
  pub table : length cells ≡ table_size

pub record Hideable (c q : Bytes) (cells parts labels matches tables : List ℕ) (child : Scope) (positions : List ℕ) : Type 0 where
  pub passable : Passable cells labels matches tables child positions
  pub few : (froms : List ℕ) → total size (later_of (select_at c q cells froms parts)) ≤ most_cells

-- the hidden columns g of the rules: the scope x has them, and their positions in the parent are the first numbers
pub record Hides (c q : Bytes) (cells : List ℕ) (g : Hidden) (positions : List ℕ) (x : Scope) : Type 0 where
  pub is : scope_of (tree_at c q cells) c q x ≡ g.scope
  pub numbers : map (λ (d : HiddenColumn). d.position) g.columns ≡ take x.hidden positions
  pub count : length g.columns ≡ x.hidden

-- hidden behind a child are the columns of g
pub record Passed (c q : Bytes) (cells : List ℕ) (child : Scope) (g : Hidden) (positions : List ℕ) (x : Scope) : Type 0 where
  pub valid : Valid x
  pub width : x.width ≡ child.width + x.hidden
  pub hides : Hides c q cells g positions x

-- refused: one more than a child of width w has room for, at the line of the record that calls for it
pub record Exceeds (g : Hidden) (w : ℕ) (x : Refusal) : Type 0 where
  pub before : List HiddenColumn
  pub one : HiddenColumn
  pub behind : List HiddenColumn
  pub columns : g.columns ≡ before ++ (one ∷ behind)
  pub room : length before ≡ most_columns - w
  pub is : x ≡ record { reason = named limit_passed; line = one.line }

-- what is hidden behind a child is g: all of it, or it has no room for all
pub record HiddenAs (c q : Bytes) (cells : List ℕ) (child : Scope) (g : Hidden) (positions positions' : List ℕ)
    (r : Result Scope Refusal) : Type 0 where
  pub kept : length positions' ≡ length positions
  pub is : MatchResult r (Passed c q cells child g positions') (Exceeds g child.width)

-- a child before anything is hidden
abbrev pub shown_of : Bytes → Bytes → List ℕ → Scope → Hidden
shown_of c q cells child = record { scope = scope_of (tree_at c q cells) c q child; columns = [] }

-- over a parent with the labels xs, the matches ms and the tables ts, whatever FROM is and whatever the parent hides
pub record HiddenBuilt (c q : Bytes) (cells parts xs ms ts : List ℕ) (child : Scope) (positions positions' : List ℕ)
    (r : Result Scope Refusal) : Type 0 where
  pub is : (froms : List ℕ) (h : ℕ) → HiddenAs c q cells child
      (hidden_of (scope_at c q cells xs ms ts h) (later_of (select_at c q cells froms parts)) (shown_of c q cells child))
      positions positions' r
