-- A table with its columns: what the rules make of the one that stands here and of the rest, and what stands in the numbers.
use Rattle.std.specs.Prelude.{ℕ, suc, ◌+◌, ◌*◌, ◌≤◌, ◌<◌, Bool, List, [], ◌∷◌, length, get_or, set, drop, Result, Ok, Err, Some, None}
use Rattle.std.specs.Prelude as std
use Rattle.std.proofs.Common.{arith, ◌∙◌}
use Rattle.std.proofs.Math.Decide.{dec_lt}
use Rattle.std.proofs.Math.Path.{◌≡◌, refl, sym, ap}
use Rattle.std.proofs.Math.Bool.{true, false}
use Rattle.std.proofs.Math.Option.{Option, none, some}
use Rattle.std.proofs.lemmas.List.Edits.{sets}
use borrow.Author.Tests.{lt-ltb, le-ltb}
use Rattle.rules.specs.Refusals.{catalog, wrong_record, limit_passed, Refusal, Answer, ok, refused}
use Rattle.rules.specs.Limits.{most_tables, most_table_columns}
use Rattle.rules.specs.Lists.{Bytes}
use Rattle.rules.specs.Lines.{Word, bytes}
use Rattle.rules.specs.Schema.{Column, Table}
use Rattle.rules.specs.Reader.{Place, at, rest, next, stop, turns, record_within}
use Rattle.rules.specs.ReadCatalog.{table_fields, key_fits, tables}
use Rattle.rules.specs.Places.{bytes_at, word_at}
use Rattle.text.specs.Lines.{line_end, line-moves}
use Rattle.text.specs.Reading.{place, place-next, place-more, place-length}
use Rattle.schema.specs.Layout.{table_start, column_start, columns_at, table_at, tables_at}
use Rattle.schema.specs.Records.{Position, here, names, table_here, table_said, TableEnds, TableLine}
use Rattle.text.specs.Answers.{bind_ok, bind-no, then_ok, then-no, within-wrong, within-limit, within-ok, prefixed, give-first}
use Rattle.schema.specs.Search.{columns-length}
use Rattle.numbers.specs.Kept.{Kept, kept-part, kept_on, kept_sets, kept-sets-behind}
use Rattle.numbers.specs.Stores.{Stored, stored-first, stored-sets}
use Rattle.schema.specs.Room.{least_column, numbers_for}
use Rattle.schema.specs.Store.{columns-kept, Ranges, names-kept, ranges-kept, tables-kept}
use Rattle.schema.specs.Columns.{columns, ColumnReady, line-position}
use Rattle.schema.specs.ColumnRuns.{columns_of, ColumnsMove, turns_at, ColumnsRead}
use Rattle.schema.specs.declared.record.TableRecord.{TableRecord}
use Rattle.numbers.specs.declared.refusals.Reason.TheVariants.{WrongRecord, LimitPassed}
use Rattle.numbers.specs.declared.refusals.Refusal as code
use Rattle.numbers.specs.Reasons.{reason_of, told}
use Rattle.schema.specs.declared.read.Run.{Run}

-- THE RULES
here-some : (ns : List Bytes) (p : Place) (h : Word × ℕ) → table_here ns p ≡ some h → (at (bytes "table") p ≡ true) × (table_fields ns (rest p) ≡ some h)
unfolding table_here
here-some ns p h e = go (at (bytes "table") p) refl
  where
    go : (b : Bool) → at (bytes "table") p ≡ b → (at (bytes "table") p ≡ true) × (table_fields ns (rest p) ≡ some h)
    go false z = absurd (let x : none ≡ some h = (rw (table_here, z) at e) in grind arith)
    go true z = (z, rw (table_here, z) at e)

module _ (k l : ℕ) (cs : List Column) (p : Place) where
  key_fits_lem : k < length cs → key_fits l k cs p ≡ ok (tt, p)
  unfolding key_fits
  key_fits_lem h = rw (key_fits, lt-ltb k (length cs) h)

  key-past : length cs ≤ k → key_fits l k cs p ≡ refused (record { reason = wrong_record; text = p.text; line = l })
  unfolding key_fits
  key-past h = rw (key_fits, le-ltb k (length cs) h)

-- some text is left
module _ (p : Place) (fuel n : ℕ) (ns : List Bytes) (x : ℕ) (xs : Bytes) (left : p.left ≡ x ∷ xs) where
  tables-wrong : table_here ns p ≡ none → tables (suc fuel) n ns p ≡ stop wrong_record p
  unfolding tables table_here stop
  tables-wrong e = go (at (bytes "table") p) refl
    where
      go : (b : Bool) → at (bytes "table") p ≡ b → tables (suc fuel) n ns p ≡ stop wrong_record p
      go false z = rw (tables, left, z)
      go true z = rw (tables, left, z) (bind-no _ _ p _ (within-wrong (table_fields ns) n most_tables p (rw (table_here, z) at e)))

  module _ (w : Word) (k : ℕ) (e : table_here ns p ≡ some (w, k)) where
    tables-limit : most_tables ≤ n → tables (suc fuel) n ns p ≡ stop limit_passed p
    unfolding tables stop
    tables-limit l = rw (tables, left, (here-some ns p _ e).0) (bind-no _ _ p _ (within-limit (table_fields ns) n most_tables p (w, k) (here-some ns p _ e).1 l))

    module _ (l : n < most_tables) where
      begun : record_within (table_fields ns) n most_tables p ≡ ok ((p.line, (w, k)), next p)
      begun = within-ok (table_fields ns) n most_tables p (w, k) (here-some ns p _ e).1 l

      tables-no : (r : Refusal) → columns (suc (length (next p).left)) 0 (next p) ≡ refused r → tables (suc fuel) n ns p ≡ refused r
      unfolding tables turns columns
      tables-no r h = rw (tables, left, (here-some ns p _ e).0) (bind_ok _ _ p _ _ begun ∙ bind-no _ _ (next p) r h)

      module _ (cs : List Column) (p' : Place) (h : columns (suc (length (next p).left)) 0 (next p) ≡ ok (cs, p')) where
        tables-key : length cs ≤ k → tables (suc fuel) n ns p ≡ refused (record { reason = wrong_record; text = p'.text; line = p.line })
        unfolding tables turns columns
        tables-key g = rw (tables, left, (here-some ns p _ e).0) (bind_ok _ _ p _ _ begun ∙ bind_ok _ _ (next p) cs p' h ∙ then-no _ _ p' _ (key-past k p.line cs p' g))

        tables-on : k < length cs → tables (suc fuel) n ns p ≡ prefixed (record { name = w; key = k; columns = cs } ∷ []) (tables fuel (suc n) (w.bytes ∷ ns) p')
        unfolding tables turns columns
        tables-on g = rw (tables, left, (here-some ns p _ e).0) (bind_ok _ _ p _ _ begun ∙ bind_ok _ _ (next p) cs p' h ∙ then_ok _ _ p' tt p' (key_fits_lem k p.line cs p' g) ∙ give-first _ _ p')

-- ONE TABLE
-- A table may stand at p, on line l, behind n of them, whose columns lie before the f-th.
pub record TableReady (t : Bytes) (s : List ℕ) (p l n f : ℕ) : Type 0 where
  pub place : Position t p
  pub more : p < length t
  pub line : l ≤ p + 1
  pub room : numbers_for (length t) ≤ length s
  pub behind : least_column * f ≤ p
  pub most : n ≤ most_tables
  pub first : f ≤ most_table_columns * n
  pub ranges : Ranges s n f

-- what reading has come to: the tables behind this one
unfoldable pub tables_from : Bytes → Bytes → List ℕ → ℕ → ℕ → Result Run code.Refusal → Answer (List Table × Place)
tables_from t q s n fuel (Ok r) = prefixed (table_at t q s n ∷ []) (tables fuel (suc n) (names t s (suc n)) (here t r.at.position r.at.line))
tables_from t q s n fuel (Err w) = refused (told catalog w)

pub record TableDone (t : Bytes) (p n f : ℕ) (s s' : List ℕ) (e l m : ℕ) : Type 0 where
  pub moved : p + least_column * m < e
  pub within : e ≤ length t
  pub line : l ≤ e + 1
  pub columns : m ≤ most_table_columns
  pub tables : n < most_tables
  pub ranges : Ranges s' (suc n) (f + m)
  pub same : (q : Bytes) → tables_at t q s' 0 n ≡ tables_at t q s 0 n

unfoldable pub TableMoves : Bytes → ℕ → ℕ → ℕ → List ℕ → List ℕ → Result Run code.Refusal → Type 0
TableMoves t p n f s s' (Ok r) = TableDone t p n f s s' r.at.position r.at.line r.count
TableMoves t p n f s s' (Err w) = Unit

pub record TableRead (t : Bytes) (p l n f : ℕ) (s s' : List ℕ) (r : Result Run code.Refusal) : Type 0 where
  pub says : (q : Bytes) (fuel : ℕ) → tables_from t q s' n fuel r ≡ tables (suc fuel) n (names t s n) (here t p l)
  pub moves : TableMoves t p n f s s' r

module _ {t : Bytes} {s : List ℕ} {p l n f : ℕ} (w : TableReady t s p l n f) {c : std.Option TableRecord} (h : TableLine t s n p c) where
  left : (here t p l).left ≡ get_or t p 0 ∷ drop (p + 1) t
  left = place-more catalog t p l 0 0 w.more

  pub table-wrong : c ≡ None → TableRead t p l n f s s (Err (record { reason = WrongRecord; line = l }))
  unfolding tables_from TableMoves table_said reason_of stop place
  table-wrong z = record { says = λ q fuel. sym (tables-wrong _ fuel n _ _ _ left (sym (h.says q l) ∙ ap (table_said t q) z)); moves = tt }

  module _ {a b k e : ℕ} (z : c ≡ Some (record { name = record { address = a; length = b }; key = k; next = e })) where
    said : (q : Bytes) → table_here (names t s n) (here t p l) ≡ some (word_at t q a b, k)
    unfolding table_said
    said q = sym (h.says q l) ∙ ap (table_said t q) z

    -- a name of the catalog is the same whatever the statement
    name-bytes : (q : Bytes) → (word_at t q a b).bytes ≡ bytes_at t t a b
    unfolding word_at
    name-bytes q =
        let x : ◌≡◌ {A = Option (Word × ℕ)} (some (word_at t q a b, k)) (some (word_at t t a b, k)) = sym (said q) ∙ said t in
        let y : ◌≡◌ {A = Word × ℕ} (word_at t q a b, k) (word_at t t a b, k) = cc in
        ap (λ v. v.0.bytes) y

    ends : e ≡ line_end t p
    unfolding TableEnds
    ends = rw z at h.next

    moved : p < e
    moved = omega (arith, line-moves t p w.more, ends)

    pub table-limit : most_tables ≤ n → TableRead t p l n f s s (Err (record { reason = LimitPassed; line = l }))
    unfolding tables_from TableMoves reason_of stop place
    table-limit g = record { says = λ q fuel. sym (tables-limit _ fuel n _ _ _ left _ _ (said q) g); moves = tt }

    module _ (g : n < most_tables) where
      pub columns-ready : ColumnReady t s e (l + 1) f 0
      columns-ready = record {
        place = line-position t p e w.place ends;
        line = omega (arith, moved, w.line);
        room = w.room;
        behind = omega (arith, w.behind, moved);
        first = omega (arith, w.first);
        most = omega arith;
      }

      module _ {s₁ : List ℕ} {r : Result Run code.Refusal} (j : ColumnsRead t e (l + 1) f s s₁ r) where
        columns-said : (q : Bytes) (x : Result Run code.Refusal) → r ≡ x → columns (suc (length (next (here t p l)).left)) 0 (next (here t p l)) ≡ columns_of t q s₁ f x
        unfolding turns_at
        columns-said q x y = rw (place-next catalog t p l 0 0, ← ends, place-length catalog t e (l + 1) 0 0) (sym (j.says q) ∙ ap (columns_of t q s₁ f) y)

        pub table-columns-refused : {w : code.Refusal} → r ≡ Err w → TableRead t p l n f s s₁ (Err w)
        unfolding tables_from TableMoves columns_of
        table-columns-refused y = record { says = λ q fuel. sym (tables-no _ fuel n _ _ _ left _ _ (said q) g _ (columns-said q _ y)); moves = tt }

        module _ {p' l' m : ℕ} (y : r ≡ Ok (record { at = record { position = p'; line = l' }; count = m })) where
          columns-done : (q : Bytes) → columns (suc (length (next (here t p l)).left)) 0 (next (here t p l)) ≡ ok (columns_at t q s₁ f m, here t p' l')
          unfolding columns_of
          columns-done q = columns-said q _ y

          columns-moved : (e + least_column * m ≤ p') × (p' ≤ length t) × (l' ≤ p' + 1) × (m ≤ most_table_columns)
          unfolding ColumnsMove
          columns-moved = rw y at j.moves

          pub table-key : m ≤ k → TableRead t p l n f s s₁ (Err (record { reason = WrongRecord; line = l }))
          unfolding tables_from TableMoves reason_of place
          table-key v = record { says = λ q fuel. sym (tables-key _ fuel n _ _ _ left _ _ (said q) g _ _ (columns-done q) (rw (columns-length t q s₁ f m) v)); moves = tt }

          module _ (v : k < m) {s₃ : List ℕ} {i : ℕ} (ei : i ≡ table_start n) (n₁ : length s₁ ≡ length s) (five : s₃ ≡ sets s₁ i (a ∷ b ∷ k ∷ f ∷ m ∷ [])) where
            stands : Stored s₃ i (a ∷ b ∷ k ∷ f ∷ m ∷ [])
            stands = rw five (stored-sets s₁ i (a ∷ b ∷ k ∷ f ∷ m ∷ []) (omega (arith, w.room)))

            -- the tables before this one, and all columns
            before : Kept 1 (table_start n) s s₃
            before = kept_on (kept-part 1 (table_start n) j.kept (omega arith) (omega arith)) (rw five (kept-sets-behind s₁ i (a ∷ b ∷ k ∷ f ∷ m ∷ []) 1 (table_start n) (omega arith)))

            behind : (x : ℕ) → Kept 161 x s₁ s₃
            behind x = rw five (kept_sets s₁ i (a ∷ b ∷ k ∷ f ∷ m ∷ []) 161 x (omega arith))

            stored : (q : Bytes) → table_at t q s₃ n ≡ record { name = word_at t q a b; key = k; columns = columns_at t q s₁ f m }
            unfolding table_at
            stored q =
                let d₀ = stored-first stands in
                let d₁ = stands.at 1 (omega arith) in
                let d₂ = stands.at 2 (omega arith) in
                let d₃ = stands.at 3 (omega arith) in
                rw (← ei, d₀, d₁, d₂, d₃, stands.at 4 (omega arith), columns-kept t q (f + m) f m (behind (column_start (f + m))) (omega arith))

            all-names : (q : Bytes) → (word_at t q a b).bytes ∷ names t s n ≡ names t s₃ (suc n)
            unfolding names
            all-names q =
                let d₀ = stored-first stands in
                let d₁ = stands.at 1 (omega arith) in
                rw (← ei, d₀, d₁, names-kept w.ranges before t n (omega arith), name-bytes q)

            all-ranges : Ranges s₃ (suc n) (f + m)
            all-ranges = record { end = λ x u. elim (dec_lt x n) [ yes o ↦ omega (arith, (ranges-kept w.ranges before).end x (omega (arith, o))) | no o ↦ this x (omega (arith, o, u)) ] }
              where
                this : (x : ℕ) → x ≡ n → get_or s₃ (table_start x + 3) 0 + get_or s₃ (table_start x + 4) 0 ≤ f + m
                this x o =
                    let d₃ = stands.at 3 (omega arith) in
                    rw (o, ← ei, d₃, stands.at 4 (omega arith)) (omega arith)

            pub table-read : TableRead t p l n f s s₃ (Ok (record { at = record { position = p'; line = l' }; count = m }))
            unfolding tables_from TableMoves
            table-read = record {
              says = λ q fuel. sym (tables-on _ fuel n _ _ _ left _ _ (said q) g _ _ (columns-done q) (rw (columns-length t q s₁ f m) v) ∙ (rw (stored q, ← all-names q)));
              moves = record {
                moved = omega (arith, moved, columns-moved.0);
                within = columns-moved.1;
                line = columns-moved.2;
                columns = columns-moved.3;
                tables = g;
                ranges = all-ranges;
                same = λ q. tables-kept w.ranges before t q (kept_on (kept-part 161 (column_start f) j.kept (omega arith) (omega arith)) (behind (column_start f))) 0 n (omega arith);
              };
            }
