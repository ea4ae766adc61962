-- The whole catalog, by a loop over its tables.
use Rattle.std.specs.Prelude.{ℕ, suc, ◌+◌, ◌*◌, ◌-◌, ◌≤◌, ◌<◌, ◌≡◌, true, false, ltb, length, set, Result, Ok, Err}
use native.Mathlib.Omega.{arith}
use Rattle.std.proofs.Common.{add-one, ◌∙◌, lt-ltb, le-ltb}
use Rattle.std.proofs.Math.Path.{sym, ap}
use mathlib.Core.List.{List, [], ◌∷◌, ◌++◌, append-nil}
use Rattle.std.proofs.Math.ListN.{get_or}
use Rattle.std.proofs.Math.Seq.{get_or-set_same}
use Rattle.rules.specs.Refusals.{catalog, Answer, ok, refused}
use Rattle.rules.specs.Limits.{most_bytes, most_tables, most_table_columns}
use Rattle.rules.specs.Lists.{Bytes}
use Rattle.rules.specs.Schema.{Catalog}
use Rattle.rules.specs.Reader.{Place, start, turns, value_of}
use Rattle.rules.specs.ReadCatalog.{tables, read_catalog}
use Rattle.text.specs.Reading.{place-start, place_end}
use Rattle.schema.specs.Layout.{table_start, column_start, table_at, tables_at, catalog_at}
use Rattle.schema.specs.Records.{Position, here, names}
use Rattle.text.specs.Answers.{limit_at, prefixed, prefixed-none, prefixed-twice}
use Rattle.numbers.specs.Kept.{kept_set}
use Rattle.schema.specs.Room.{least_column, numbers_for}
use Rattle.schema.specs.Store.{Ranges, tables-kept, tables_more}
use Rattle.schema.specs.Tables.{TableReady, TableDone, TableMoves, TableRead, tables_from}
use Rattle.schema.specs.declared.read.Run.{Run}
use Rattle.numbers.specs.declared.refusals.Reason.TheVariants.{LimitPassed}
use Rattle.numbers.specs.declared.refusals.Refusal as code
use Rattle.numbers.specs.Reasons.{reason_of, told}

-- the catalog that was read: the one that the numbers s stand for
unfoldable pub catalog_of : Bytes → Bytes → List ℕ → Result (Unit {0}) code.Refusal → Answer Catalog
catalog_of t q s (Ok u) = ok (catalog_at t q s)
catalog_of t q s (Err w) = refused (told catalog w)

-- the rules' answer, 3 with no line where the text is too long
unfoldable pub catalog_answer : Bytes → Answer Catalog
catalog_answer t = elim (ltb most_bytes (length t)) [ true ↦ limit_at catalog 0 | false ↦ read_catalog t ]

pub too_long : (t q : Bytes) (s : List ℕ) → most_bytes < length t → catalog_of t q s (Err (record { reason = LimitPassed; line = 0 })) ≡ catalog_answer t
unfolding catalog_of catalog_answer limit_at reason_of
too_long t q s h = sym (rw (catalog_answer, lt-ltb most_bytes (length t) h))

pub not-too-long : (t q : Bytes) (s : List ℕ) (r : Result (Unit {0}) code.Refusal) → length t ≤ most_bytes → catalog_of t q s r ≡ read_catalog t → catalog_of t q s r ≡ catalog_answer t
unfolding catalog_answer
not-too-long t q s r h e = e ∙ sym (rw (catalog_answer, le-ltb most_bytes (length t) h))

-- n tables are read, whose columns lie before the f-th, and the next may stand at p
pub record TableLoop (t : Bytes) (p l n f : ℕ) (s : List ℕ) : Type 0 where
  pub is : (q : Bytes) → prefixed (tables_at t q s 0 n) (tables (suc (length t) - n) n (names t s n) (here t p l)) ≡ tables (suc (length t)) 0 [] (here t 0 1)
  pub passed : n ≤ p
  pub place : Position t p
  pub line : l ≤ p + 1
  pub room : numbers_for (length t) ≤ length s
  pub behind : least_column * f ≤ p
  pub most : n ≤ most_tables
  pub first : f ≤ most_table_columns * n
  pub ranges : Ranges s n f

pub tables-begin : (t : Bytes) (s : List ℕ) → length t ≤ most_bytes → numbers_for (length t) ≤ length s → TableLoop t 0 1 0 0 s
unfolding tables_at names
tables-begin t s h g =
    let z : suc (length t) - 0 ≡ suc (length t) = omega arith in
    record {
      is = λ q. prefixed-none _ ∙ rw z;
      passed = omega arith;
      place = record { short = h; within = omega arith };
      line = omega arith;
      room = g;
      behind = omega arith;
      most = omega arith;
      first = omega arith;
      ranges = record { end = λ i l. absurd (omega arith) };
    }

-- what the rules read from the text's first line on is the catalog
whole : (t : Bytes) → read_catalog t ≡ value_of (tables (suc (length t)) 0 [] (here t 0 1))
unfolding read_catalog turns start
whole t = ap (λ p. value_of (tables (suc (length t)) 0 [] p)) (place-start catalog t)

-- the text has ended
nothing_left_lem : (p : Place) (fuel n : ℕ) (ns : List Bytes) → p.left ≡ [] → tables (suc fuel) n ns p ≡ ok ([], p)
unfolding tables
nothing_left_lem p fuel n ns e = rw (tables, e) (ap (λ b. ok ([], record { text = p.text; left = b; address = p.address; line = p.line; cells = p.cells; tables = p.tables })) e)

module _ {t : Bytes} {p l n f : ℕ} {s : List ℕ} (h : TableLoop t p l n f s) where
  turn : suc (length t) - n ≡ suc (suc (length t) - (n + 1))
  turn = omega (arith, h.passed, h.place.within)

  pub table-ready : p < length t → TableReady t s p l n f
  table-ready m = record { place = h.place; more = m; line = h.line; room = h.room; behind = h.behind; most = h.most; first = h.first; ranges = h.ranges }

  tables-past : length t ≤ p → (fuel : ℕ) → tables (suc fuel) n (names t s n) (here t p l) ≡ ok ([], here t p l)
  tables-past m fuel = nothing_left_lem (here t p l) fuel n _ (place_end catalog t p l 0 0 m)

  pub tables_end : length t ≤ p → (q : Bytes) → catalog_of t q (set s 0 n) (Ok tt) ≡ read_catalog t
  unfolding catalog_of catalog_at value_of prefixed
  tables_end m q =
      let e : get_or (set s 0 n) 0 0 ≡ n = get_or-set_same s 0 n 0 (omega (arith, h.room)) in
      let k : tables_at t q (set s 0 n) 0 n ≡ tables_at t q s 0 n = tables-kept h.ranges (kept_set s 0 n 1 (table_start n) (omega arith)) t q (kept_set s 0 n 161 (column_start f) (omega arith)) 0 n (omega arith) in
      let x : ok (tables_at t q s 0 n ++ [], here t p l) ≡ tables (suc (length t)) 0 [] (here t 0 1) = (rw (turn, tables-past m) at (h.is q)) in
      rw (e, k) (ap ok (sym (append-nil (tables_at t q s 0 n))) ∙ ap value_of x ∙ sym (whole t))

  module _ {s' : List ℕ} {r : Result Run code.Refusal} (g : TableRead t p l n f s s' r) where
    pub tables-refused : {w : code.Refusal} → r ≡ Err w → (q : Bytes) → catalog_of t q s' (Err w) ≡ read_catalog t
    unfolding catalog_of tables_from prefixed value_of
    tables-refused {w} z q =
        let x : refused (told catalog w) ≡ tables (suc (length t)) 0 [] (here t 0 1) = (rw (turn, ← g.says q (suc (length t) - (n + 1)), z) at (h.is q)) in
        ap value_of x ∙ sym (whole t)

    module _ {e l' m : ℕ} (z : r ≡ Ok (record { at = record { position = e; line = l' }; count = m })) where
      pub table_done : TableDone t p n f s s' e l' m
      unfolding TableMoves
      table_done = rw z at g.moves

      pub tables-on : length s' ≡ length s → TableLoop t e l' (n + 1) (f + m) s'
      unfolding tables_from
      tables-on k = record {
        is = λ q. rw (add-one n, tables_more t q s' 0 n) (sym (prefixed-twice _ _ _) ∙ go q);
        passed = omega (arith, h.passed, table_done.moved);
        place = record { short = h.place.short; within = table_done.within };
        line = table_done.line;
        room = rw k h.room;
        behind = omega (arith, h.behind, table_done.moved);
        most = omega (arith, table_done.tables);
        first = omega (arith, h.first, table_done.columns);
        ranges = rw (add-one n) table_done.ranges;
      }
        where
          zeroth : 0 + n ≡ n
          zeroth = omega arith

          go : (q : Bytes) → prefixed (tables_at t q s' 0 n) (prefixed (table_at t q s' (0 + n) ∷ []) (tables (suc (length t) - suc n) (suc n) (names t s' (suc n)) (here t e l'))) ≡ tables (suc (length t)) 0 [] (here t 0 1)
          go q = rw (zeroth, table_done.same q) (rw (turn, ← g.says q (suc (length t) - (n + 1)), z, add-one n) at (h.is q))
