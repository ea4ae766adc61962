-- A catalog's table as a scope: the labels made so far.
use Rattle.std.specs.Prelude.{ℕ, zero, suc, ◌+◌, ◌≤◌, ◌<◌, min, ◌≡◌, refl, List, [], ◌∷◌, ◌++◌, map, length, get_or, take, set, replicate}
use Rattle.std.proofs.Common.{arith, add-one, ap, sym, ◌∙◌, length-set, take-suc-set, take_all}
use Rattle.std.proofs.Math.Option.{none, some}
use Rattle.rules.specs.Limits.{most_columns, most_from_tables}
use Rattle.rules.specs.Lists.{Bytes, entry_after}
use Rattle.rules.specs.Lines.{Word}
use Rattle.rules.specs.Ast.{Expr}
use Rattle.rules.specs.Schema.{Column, Table}
use Rattle.rules.specs.Plan.{Label, qualified}
use Rattle.rules.specs.Places.{word_at}
use Rattle.rules.specs.Scope as rules
use Rattle.schema.specs.Layout.{table_at}
use Rattle.schema.specs.Search as schema
use Rattle.scope.specs.Labels.{packed, Fits, label-packed}
use Rattle.scope.specs.Labels.{name-packed, name_at, tables_of, columns_of, label_at}
use Rattle.std.proofs.lemmas.List.{map-append}
use Rattle.scope.specs.Labels.{columns-append}
use Rattle.scope.specs.Slots.{Below, none, below-append, below_one}
use Rattle.scope.specs.Scopes.{scope_of, Valid, Plain, plain-scope}
use Rattle.scope.specs.declared.Scope.{Scope}

-- a table as catalogs have them: a scope has room for its columns, a label for each of their names
pub record TableFits (t : Table) : Type 0 where
  pub few : length t.columns ≤ most_columns
  pub names : (j : ℕ) (x : Column) → entry_after j t.columns ≡ some x → Fits x.name

-- the scope r of the i-th table of the numbers s, under the name that is the n bytes at a
pub record FromTable (s : List ℕ) (i a n : ℕ) (r : Scope) : Type 0 where
  pub valid : Valid r
  pub plain : Plain r
  pub one : r.count ≡ 1
  pub is : (e : ℕ → Expr) (c q : Bytes) → Fits (word_at c q a n) → TableFits (table_at c q s i)
      → scope_of e c q r ≡ rules.from_table (word_at c q a n) (table_at c q s i)

-- the labels of columns, under a table's name
unfoldable pub labelled : Word → List Column → List Label
labelled w cs = map (λ (x : Column). qualified w x.name) cs

-- j labels are stored
pub record Storing (s : List ℕ) (i j : ℕ) (xs : List ℕ) : Type 0 where
  pub room : length xs ≡ most_columns
  pub slots : Below 1 (take j xs)
  pub made : (c q : Bytes) (w : ℕ) → TableFits (table_at c q s i)
      → columns_of c q (w ∷ []) (take j xs) ≡ labelled (name_at c q w) (take j (table_at c q s i).columns)

pub storing-begin : (s : List ℕ) (i : ℕ) (xs : List ℕ) → length xs ≡ most_columns → Storing s i 0 xs
unfolding columns_of labelled
storing-begin s i xs h = record { room = h; slots = none; made = λ c q w f. refl }

-- the j-th column
pub record ColumnThere (cs : List Column) (j : ℕ) : Type 0 where
  pub column : Column
  pub there : entry_after j cs ≡ some column
  pub next : take (suc j) cs ≡ take j cs ++ (column ∷ [])

column-there : (cs : List Column) (j : ℕ) → j < length cs → ColumnThere cs j
unfolding entry_after
column-there [] j h = absurd (omega arith)
column-there (x ∷ cs) zero h = record { column = x; there = refl; next = refl }
column-there (x ∷ cs) (suc j) h =
    let r : ColumnThere cs j = column-there cs j (omega arith) in
    record { column = r.column; there = r.there; next = ap (λ l. x ∷ l) r.next }

-- one label more
pub storing-more : {s : List ℕ} {i j : ℕ} {xs : List ℕ} {k : ℕ} (a n v : ℕ) → Storing s i j xs → j < most_columns
    → ((c q : Bytes) → k ≡ length (table_at c q s i).columns) → j < k
    → ((c q : Bytes) → word_at c q a n ≡ schema.name_at c q (table_at c q s i).columns j)
    → v ≡ packed 1 a n → Storing s i (j + 1) (set xs j v)
unfolding labelled columns_of schema.name_at
storing-more {s} {i} {j} {xs} {k} a n v t h ek g en ev =
    let l : j < length xs = omega (arith, t.room) in
    record {
      room = length-set xs j v ∙ t.room;
      slots = rw (add-one j, take-suc-set xs j v l) (below-append t.slots (below_one (rw ev (omega arith))));
      made =
          λ c q w f. rw (add-one j, take-suc-set xs j v l)
          (columns-append c q (w ∷ []) (take j xs) (v ∷ []) ∙ label c q w f);
    }
  where
    label : (c q : Bytes) (w : ℕ) → TableFits (table_at c q s i)
        → columns_of c q (w ∷ []) (take j xs) ++ columns_of c q (w ∷ []) (v ∷ [])
        ≡ labelled (name_at c q w) (take (suc j) (table_at c q s i).columns)
    label c q w f =
        let y : j < length (table_at c q s i).columns = omega (arith, ek c q) in
        let x : ColumnThere (table_at c q s i).columns j = column-there (table_at c q s i).columns j y in
        let z : word_at c q a n ≡ x.column.name = en c q ∙ rw (schema.name_at, x.there) in
        let fit : Fits (word_at c q a n) = rw z (f.names j x.column x.there) in
        let l : label_at c q (w ∷ []) v ≡ qualified (name_at c q w) x.column.name =
        rw (ev, ← z) (label-packed c q (w ∷ []) 0 a n fit) in
        rw (t.made c q w f, l, x.next)
        (sym (map-append (λ (x : Column). qualified (name_at c q w) x.name) (take j (table_at c q s i).columns)
        (x.column ∷ [])))

pub zeros : (n k : ℕ) → ◌≡◌ {A = ℕ} (get_or (replicate n 0) k 0) 0
zeros zero k = refl
zeros (suc n) zero = refl
zeros (suc n) (suc k) = zeros n k

-- all labels are stored
pub storing-end : {s : List ℕ} {i j k w a n v : ℕ} {xs : List ℕ} (ts : List ℕ) → length (v ∷ ts) ≡ most_from_tables
    → Storing s i j xs → ((c q : Bytes) → k ≡ length (table_at c q s i).columns) → w ≡ min k most_columns → j ≤ w → w ≤ j
    → v ≡ packed 0 a n
    → FromTable s i a n
    (record { labels = xs; matches = replicate most_columns 0; tables = v ∷ ts; width = w; count = 1; hidden = 0 })
unfolding rules.from_table tables_of labelled
storing-end {s} {i} {j} {k} {w} {a} {n} {v} {xs} ts z t ek ew l m ev =
    let r : Scope =
    record { labels = xs; matches = replicate most_columns 0; tables = v ∷ ts; width = w; count = 1; hidden = 0 } in
    let p : Plain r = record { unmatched = zeros most_columns; shown = refl } in
    let ej : j ≡ w = omega arith in
    record {
      valid = record {
        width = omega arith;
        tables = omega arith;
        slots = rw (← ej) t.slots;
        labels-room = t.room;
        matches-room = refl;
        tables-room = z;
      };
      plain = p;
      one = refl;
      is = λ e c q f g.
          let ec : take w (table_at c q s i).columns ≡ (table_at c q s i).columns =
          take_all w _ (omega (arith, ek c q, g.few)) in
          let en : name_at c q v ≡ word_at c q a n = rw ev (name-packed c q 0 a n f) in
          plain-scope e c q r p ∙ (rw (← ej, t.made c q v g, ej, ec, en));
    }
