-- Two scopes merged: the other's labels and tables behind one's own.
use Rattle.std.specs.Prelude.{ℕ, suc, ◌+◌, ◌≤◌, ◌<◌, ◌≡◌, List, [], ◌∷◌, ◌++◌, map, length, get_or, set, take, drop}
use Rattle.std.proofs.Common.{arith, add-one, add-zero, ap, ◌∙◌, append_assoc, append-nil, take_all, length-set, length-take-le, length-append, length-drop, take_at, take-suc-set, take-suc}
use Rattle.std.proofs.lemmas.List.{map-append}
use Rattle.rules.specs.Limits.{most_columns, most_from_tables}
use Rattle.rules.specs.Lists.{Bytes}
use Rattle.rules.specs.Ast.{Expr}
use Rattle.rules.specs.Scope as rules
use Rattle.scope.specs.Labels.{slot_count, slot_of, tables_of, columns_of, columns-append, tables-append}
use Rattle.scope.specs.Slots.{shifted, below-append, below_wider, below-shifted, below_at}
use Rattle.scope.specs.Slots.{shifted-columns, kept-columns}
use Rattle.scope.specs.Scopes.{scope_of, Valid, Plain, plain_scope, plain-scope, labels_of, table_numbers}
use Rattle.scope.specs.declared.Scope.{Scope}

-- scopes of FROM that there is room for together
pub record Mergeable (s o : Scope) : Type 0 where
  pub valid : Valid s
  pub plain : Plain s
  pub other : Valid o
  pub other-plain : Plain o
  pub width : s.width + o.width ≤ most_columns
  pub tables : s.count + o.count ≤ most_from_tables

pub record Merged (s o r : Scope) : Type 0 where
  pub valid : Valid r
  pub plain : Plain r
  pub count : r.count ≡ s.count + o.count
  pub is : (e : ℕ → Expr) (c q : Bytes) → scope_of e c q r ≡ rules.merge (scope_of e c q s) (scope_of e c q o)

-- j numbers of xs, each through f, are stored in ls behind the n of l
pub record Appending (f : ℕ → ℕ) (m : ℕ) (l : List ℕ) (n : ℕ) (xs : List ℕ) (j : ℕ) (ls : List ℕ) : Type 0 where
  pub room : length ls ≡ m
  pub stored : take (n + j) ls ≡ take n l ++ map f (take j xs)

-- the slot of the j-th of the other's labels
pub slot_at : {s o : Scope} → Mergeable s o → (j : ℕ) → slot_of (get_or (labels_of o) j 0) + s.count < slot_count
slot_at m j = omega (arith, m.tables, below_at j m.other.slots)

-- all are stored
pub merged : {s o : Scope} {j : ℕ} (r : Scope) → Mergeable s o
    → Appending (shifted s.count) most_columns s.labels s.width (labels_of o) j r.labels → j ≤ length (labels_of o)
    → length (labels_of o) ≤ j
    → r.tables ≡ take s.count s.tables ++ (table_numbers o ++ drop (s.count + length (table_numbers o)) s.tables) → r.matches ≡ s.matches → r.hidden ≡ s.hidden → r.width ≡ s.width + o.width
    → r.count ≡ s.count + o.count → Merged s o r
unfolding rules.merge rules.shift
merged {s} {o} {j} r m a h g b em eh ew ec =
    let many : length (labels_of o) ≡ o.width =
    length-take-le o.width o.labels (omega (arith, m.other.width, m.other.labels-room)) in
    let all : take j (labels_of o) ≡ labels_of o = take_all j (labels_of o) g in
    let z : s.width + o.width ≡ s.width + j = omega arith in
    let p : Plain r = record { unmatched = rw em m.plain.unmatched; shown = eh ∙ m.plain.shown } in
    let el : labels_of r ≡ labels_of s ++ map (shifted s.count) (labels_of o) = rw (ew, z, ← all) a.stored in
    let ln : length (table_numbers s) ≡ s.count =
    length-take-le s.count s.tables (omega (arith, m.valid.tables-room, m.valid.tables)) in
    let lo : length (table_numbers o) ≡ o.count =
    length-take-le o.count o.tables (omega (arith, m.other.tables-room, m.other.tables)) in
    let lt : length (table_numbers s ++ table_numbers o) ≡ s.count + o.count =
    omega (arith, length-append (table_numbers s) (table_numbers o), ln, lo) in
    let et : table_numbers r ≡ table_numbers s ++ table_numbers o =
    rw (ec, b, ← append_assoc (table_numbers s) (table_numbers o) (drop (s.count + length (table_numbers o)) s.tables))
    (take_at (table_numbers s ++ table_numbers o) (drop (s.count + length (table_numbers o)) s.tables) (s.count + o.count) lt) in
    record {
      valid = record {
        width = omega (arith, m.width);
        tables = omega (arith, m.tables);
        slots = rw (el, ec)
            (below-append (below_wider (omega arith) m.valid.slots) (below-shifted s.count m.other.slots));
        labels-room = a.room;
        matches-room = ap length em ∙ m.valid.matches-room;
        tables-room = rw b (omega (
          arith,
          length-append (table_numbers s) (table_numbers o ++ drop (s.count + length (table_numbers o)) s.tables),
          length-append (table_numbers o) (drop (s.count + length (table_numbers o)) s.tables),
          length-drop (s.count + length (table_numbers o)) s.tables,
          ln,
          lo,
          m.tables,
          m.valid.tables-room,
        ));
      };
      plain = p;
      count = ec;
      is =
          λ e c q. plain-scope e c q r p ∙ whole c q el et ln
          ∙ (rw (plain-scope e c q s m.plain, plain-scope e c q o m.other-plain));
    }
  where
    whole : (c q : Bytes) → labels_of r ≡ labels_of s ++ map (shifted s.count) (labels_of o)
        → table_numbers r ≡ table_numbers s ++ table_numbers o → length (table_numbers s) ≡ s.count
        → plain_scope (columns_of c q (table_numbers r) (labels_of r)) (tables_of c q (table_numbers r))
        ≡ plain_scope (columns_of c q (table_numbers s) (labels_of s) ++ columns_of c q (table_numbers o) (labels_of o))
        (tables_of c q (table_numbers s) ++ tables_of c q (table_numbers o))
    whole c q el et ln =
        let k : columns_of c q (table_numbers s ++ table_numbers o) (map (shifted s.count) (labels_of o))
        ≡ columns_of c q (table_numbers o) (labels_of o) =
        rw ln at (shifted-columns c q (table_numbers s) (table_numbers o) (labels_of o)) in
        let j : columns_of c q (table_numbers s ++ table_numbers o) (labels_of s)
        ≡ columns_of c q (table_numbers s) (labels_of s) =
        kept-columns c q (table_numbers s) (table_numbers o) (rw ln m.valid.slots) in
        rw (el, et, columns-append, tables-append, k, j)

-- NUMBERS STORED ONE BY ONE
pub appending-begin : (f : ℕ → ℕ) (m : ℕ) (l : List ℕ) (n : ℕ) (xs : List ℕ) → length l ≡ m → Appending f m l n xs 0 l
appending-begin f m l n xs h = record { room = h; stored = rw (add-zero n, append-nil) }

pub appending-more : {f : ℕ → ℕ} {m : ℕ} {l : List ℕ} {n : ℕ} {xs : List ℕ} {j : ℕ} {ls : List ℕ} {v : ℕ}
    → Appending f m l n xs j ls → n + j < m → j < length xs → v ≡ f (get_or xs j 0)
    → Appending f m l n xs (j + 1) (set ls (n + j) v)
appending-more {f} {m} {l} {n} {xs} {j} {ls} {v} a h g e =
    let k : n + j < length ls = omega (arith, a.room) in
    let z : n + suc j ≡ suc (n + j) = omega arith in
    let y : map f (take j xs ++ (get_or xs j 0 ∷ [])) ≡ map f (take j xs) ++ (f (get_or xs j 0) ∷ []) =
    map-append f (take j xs) (get_or xs j 0 ∷ []) in
    record {
      room = length-set ls (n + j) v ∙ a.room;
      stored = rw (add-one j, z, take-suc-set ls (n + j) v k, a.stored, take-suc xs j 0 g, y, e)
          (append_assoc (take n l) (map f (take j xs)) (f (get_or xs j 0) ∷ []));
    }
