-- The scope that the numbers stand for, whatever they are.
use Rattle.std.specs.Prelude.{ℕ, zero, suc, ◌-◌, ◌≤◌, ◌≡◌, refl, List, [], ◌∷◌, ◌++◌, length, get_or, take}
use Rattle.std.proofs.Common.{arith, ap}
use Rattle.rules.specs.Limits.{most_columns, most_from_tables}
use Rattle.rules.specs.Lists.{Bytes}
use Rattle.rules.specs.Ast.{Expr}
use Rattle.rules.specs.Plan.{Label}
use Rattle.rules.specs.Lines.{Word}
use Rattle.rules.specs.Scope as rules
use Rattle.scope.specs.Labels.{tables_of, columns_of}
use Rattle.scope.specs.Slots.{Below}
use Rattle.scope.specs.declared.Scope.{Scope}

-- what is matched to the columns from the i-th on, by numbers that are 0 or 1 + a row: e gives the expression of a row
unfoldable pub matches_of : (ℕ → Expr) → ℕ → List ℕ → List rules.Match
matches_of e i [] = []
matches_of e i (zero ∷ ms) = matches_of e (suc i) ms
matches_of e i (suc r ∷ ms) = record { expr = e r; column = i } ∷ matches_of e (suc i) ms

-- a column that nothing is matched to
pub no-match : (e : ℕ → Expr) (i : ℕ) (ms : List ℕ) → matches_of e i (ms ++ (0 ∷ [])) ≡ matches_of e i ms
unfolding matches_of
no-match e i [] = refl
no-match e i (zero ∷ ms) = no-match e (suc i) ms
no-match e i (suc r ∷ ms) = ap (λ l. record { expr = e r; column = i } ∷ l) (no-match e (suc i) ms)

-- n positions from i on
unfoldable pub up_to : ℕ → ℕ → List ℕ
up_to i zero = []
up_to i (suc n) = i ∷ up_to (suc i) n

-- Columns by their labels xs, what is matched to each, and tables, the last h columns hidden: over the expressions e of
-- rows, the catalog c and the statement q.
unfoldable pub scope_from : (ℕ → Expr) → Bytes → Bytes → List ℕ → List ℕ → List ℕ → ℕ → rules.Scope
scope_from e c q xs ms ts h = record {
  columns = columns_of c q ts xs;
  tables = tables_of c q ts;
  aggregates = matches_of e 0 ms;
  hidden = up_to (length xs - h) h;
}

-- the numbers in use
abbrev pub labels_of : Scope → List ℕ
labels_of s = take s.width s.labels

abbrev pub table_numbers : Scope → List ℕ
table_numbers s = take s.count s.tables

unfoldable pub scope_of : (ℕ → Expr) → Bytes → Bytes → Scope → rules.Scope
scope_of e c q s = scope_from e c q (labels_of s) (take s.width s.matches) (table_numbers s) s.hidden

-- it has room, and its labels' tables are its own: every scope that is made is so
pub record Valid (s : Scope) : Type 0 where
  pub width : s.width ≤ most_columns
  pub tables : s.count ≤ most_from_tables
  pub slots : Below s.count (labels_of s)
  pub labels-room : length s.labels ≡ most_columns
  pub matches-room : length s.matches ≡ most_columns
  pub tables-room : length s.tables ≡ most_from_tables

-- nothing is matched and nothing is hidden, as in FROM
pub record Plain (s : Scope) : Type 0 where
  pub unmatched : (k : ℕ) → get_or s.matches k 0 ≡ 0
  pub shown : s.hidden ≡ 0

-- the rules' scope of columns and tables alone
abbrev pub plain_scope : List Label → List Word → rules.Scope
plain_scope cs ts = record { columns = cs; tables = ts; aggregates = []; hidden = [] }

none-matched : (e : ℕ → Expr) (i n : ℕ) (ms : List ℕ) → ((k : ℕ) → get_or ms k 0 ≡ 0) → matches_of e i (take n ms) ≡ []
unfolding matches_of
none-matched e i zero ms h = refl
none-matched e i (suc n) [] h = refl
none-matched e i (suc n) (zero ∷ ms) h = none-matched e (suc i) n ms (λ k. h (suc k))
none-matched e i (suc n) (suc m ∷ ms) h = absurd (let z : suc m ≡ 0 = h 0 in omega arith)

pub plain-scope : (e : ℕ → Expr) (c q : Bytes) (s : Scope) → Plain s
    → scope_of e c q s ≡ plain_scope (columns_of c q (table_numbers s) (labels_of s)) (tables_of c q (table_numbers s))
unfolding scope_of scope_from up_to
plain-scope e c q s p = rw (none-matched e 0 s.width s.matches p.unmatched, p.shown)
