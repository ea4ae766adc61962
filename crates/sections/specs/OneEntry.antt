-- One entry of a section: what the rules make of the record that stands here and of the rest, and what stands in the numbers.
use Rattle.std.specs.Prelude.{ℕ, suc, ◌+◌, ◌*◌, ◌≤◌, ◌<◌, ◌≡◌, true, false, List, [], ◌∷◌, Result, Ok, Err, Some, None}
use native.Mathlib.Omega.{arith}
use Rattle.std.proofs.Math.Path.{refl, ap}
use Rattle.std.proofs.Common.{sym, ◌∙◌}
use Rattle.std.specs.Prelude as std
use Rattle.std.proofs.Math.Option.{Option, none, some}
use Rattle.std.proofs.Math.ListN.{length}
use Rattle.std.proofs.lemmas.List.Edits.{sets}
use Rattle.rules.specs.Refusals.{statement, wrong_record, limit_passed, Refusal, ok, refused}
use Rattle.rules.specs.Lists.{Bytes}
use Rattle.rules.specs.Ast.{Exprs}
use Rattle.rules.specs.Reader.{Place, at, rest, next, stop}
use Rattle.rules.specs.ReadExpression.{times, expression}
use Rattle.ast.specs.Table.{row_size, table_size, arguments_at, tree_at}
use Rattle.text.specs.Answers.{bind_ok, bind-no, within-wrong, within-limit, within-ok, prefixed, give-first}
use Rattle.text.specs.Lines.{line_end, line-moves, line-most}
use Rattle.text.specs.Reading.{place, place-next}
use Rattle.read_expression.specs.Reading.{here, Position, Took, Given, Rows}
use Rattle.entries.specs.Entries.{EntryHead, Entry, keyword_of, most_of, fields_of, name_of, entries}
use Rattle.sections.specs.Layout.{start_of, numbers, entry_at}
use Rattle.entries.specs.Heads.{last_name, numbers_of, Entered, IsHead}
use Rattle.numbers.specs.Kept.{Kept, kept-sets-behind}
use Rattle.numbers.specs.Stores.{Stored, stored-sets, stored-kept}
use Rattle.read_expression.proofs.Rows.{rows-kept, rows_back}
use Rattle.read_expression.specs.Times.{times-count}
use Rattle.sections.specs.Kinds.{entry-within, keyword-inside}
use Rattle.sections.specs.Store.{entry_numbers, entry-twelve, entry-back}
use Rattle.entries.specs.declared.Head.{Head}
use Rattle.numbers.specs.declared.refusals.Reason.TheVariants.{LimitPassed}
use Rattle.numbers.specs.declared.refusals.Refusal as code
use Rattle.numbers.specs.Reasons.{reason_of, told}
use Rattle.read_expression.specs.declared.reading.Cursor.{Cursor}
use Rattle.text.specs.declared.places.Place as places
use Rattle.sections.specs.declared.Run.{Run}

-- THE RULES
module _ (kind fuel n : ℕ) (b : Option Bytes) (p : Place) where
  pub entries-end : at (keyword_of kind) p ≡ false → entries kind (suc fuel) n b p ≡ ok ([], p)
  unfolding entries
  entries-end e = rw (entries, e)

  module _ (s : at (keyword_of kind) p ≡ true) where
    entries-wrong : fields_of kind b (rest p) ≡ none → entries kind (suc fuel) n b p ≡ stop wrong_record p
    unfolding entries stop
    entries-wrong e = rw (entries, s) (bind-no _ _ p _ (within-wrong (fields_of kind b) n (most_of kind) p e))

    module _ (h : EntryHead) (e : fields_of kind b (rest p) ≡ some h) where
      entries-limit : most_of kind ≤ n → entries kind (suc fuel) n b p ≡ stop limit_passed p
      unfolding entries stop
      entries-limit l = rw (entries, s) (bind-no _ _ p _ (within-limit (fields_of kind b) n (most_of kind) p h e l))

      module _ (l : n < most_of kind) where
        entries-no : (r : Refusal) → times h.expressions expression (next p) ≡ refused r → entries kind (suc fuel) n b p ≡ refused r
        unfolding entries
        entries-no r x = rw (entries, s) (bind_ok _ _ p _ _ (within-ok (fields_of kind b) n (most_of kind) p h e l) ∙ bind-no _ _ (next p) r x)

        entries-on : (es : Exprs) (q : Place) → times h.expressions expression (next p) ≡ ok (es, q)
            → entries kind (suc fuel) n b p ≡ prefixed (record { line = p.line; head = h; exprs = es } ∷ []) (entries kind fuel (suc n) (name_of h) q)
        unfolding entries
        entries-on es q x = rw (entries, s)
            (bind_ok _ _ p _ _ (within-ok (fields_of kind b) n (most_of kind) p h e l) ∙ bind_ok _ _ (next p) es q x ∙ give-first _ _ q)

-- ONE ENTRY
-- where the n-th entry of a section starts
unfoldable pub entry_start : ℕ → ℕ → ℕ
entry_start kind n = start_of kind + 1 + 12 * n

-- the n-th entry may stand at p, on line l, behind c rows
pub record EntryReady (t : Bytes) (p l c kind n : ℕ) : Type 0 where
  pub position : Position t p l c
  pub kinds : kind ≤ 11
  pub most : n ≤ most_of kind

-- its numbers lie in the parts
pub entry-room : {t : Bytes} {p l c kind n : ℕ} → EntryReady t p l c kind n → n < most_of kind → (parts : List ℕ) → length parts ≡ numbers → {i : ℕ} → i ≡ entry_start kind n → i + 12 ≤ length parts
unfolding entry_start
entry-room {t} {p} {l} {c} {kind} {n} w m parts g e = omega (arith, g, entry-within kind w.kinds n m, e)

-- an entry that was read, behind one named b, and the name of it
pub record EntryTook (t : Bytes) (p l c kind n : ℕ) (b : Option Bytes) (cells cells' parts parts' : List ℕ) (k p' l' c' : ℕ) (b' : Option Bytes) : Type 0 where
  pub value : Entry
  pub is : (fuel : ℕ) → entries kind (suc fuel) n b (here t p l c k) ≡ prefixed (value ∷ []) (entries kind fuel (suc n) b' (here t p' l' c' k))
  pub position : Position t p' l' c'
  pub moved : p < p'
  pub more : c ≤ c'
  pub few : n < most_of kind
  pub stands : (cells'' parts'' : List ℕ) → Kept 0 (row_size * c') cells' cells''
      → Kept (entry_start kind n) (entry_start kind (suc n)) parts' parts'' → (b : Bytes)
      → entry_at b t cells'' parts'' (entry_start kind n) ≡ value
  pub cells-kept : Kept 0 (row_size * c) cells cells'
  pub parts-kept : Kept 0 (entry_start kind n) parts parts'

-- no entry: nothing was written
pub record EntryEnds (t : Bytes) (p l c kind n : ℕ) (b : Option Bytes) (cells cells' parts parts' : List ℕ) (k : ℕ) : Type 0 where
  pub is : (fuel : ℕ) → entries kind (suc fuel) n b (here t p l c k) ≡ ok ([], here t p l c k)
  pub cells_same : cells' ≡ cells
  pub parts_same : parts' ≡ parts

-- what an answer says of the entry that may stand here
unfoldable pub EntryRead : (t : Bytes) (p l c kind n : ℕ) (last : std.Option places.Place) (cells cells' parts parts' : List ℕ) (k : ℕ) → Result (std.Option Run) code.Refusal → Type 0
EntryRead t p l c kind n last cells cells' parts parts' k (Ok (Some e)) =
    (e.count ≡ n + 1) × EntryTook t p l c kind n (last_name t last) cells cells' parts parts' k e.at.position e.at.line e.at.rows (last_name t e.last)
EntryRead t p l c kind n last cells cells' parts parts' k (Ok None) = EntryEnds t p l c kind n (last_name t last) cells cells' parts parts' k
EntryRead t p l c kind n last cells cells' parts parts' k (Err w) = (fuel : ℕ) → entries kind (suc fuel) n (last_name t last) (here t p l c k) ≡ refused (told statement w)

-- the twelve numbers of the entry, by those of its record
numbers_as : {t : Bytes} {kind : ℕ} {b : Option Bytes} {p : Place} {r : Head} (v : Entered t kind b p r) (l c : ℕ) → entry_numbers l c v.head ≡ l ∷ r.expressions ∷ c ∷ numbers_of r
unfolding entry_numbers
numbers_as {t} {kind} {b} {p} {r} v l c = ap (λ xs. l ∷ v.head.expressions ∷ c ∷ xs) v.numbers ∙ ap (λ n. l ∷ n ∷ c ∷ numbers_of r) (sym v.expressions)

entered-twelve : {t : Bytes} {kind : ℕ} {b : Option Bytes} {p : Place} {r : Head} (v : Entered t kind b p r) (l c : ℕ) → length (l ∷ r.expressions ∷ c ∷ numbers_of r) ≡ 12
entered-twelve v l c = sym (ap length (numbers_as v l c)) ∙ entry-twelve l c v.head

module _ {t : Bytes} {p l c kind n : ℕ} (cells parts : List ℕ) (w : EntryReady t p l c kind n) (last : std.Option places.Place) {said : Result (std.Option Head) code.Refusal}
    (h : (l' c' k : ℕ) → IsHead t kind (last_name t last) l (here t p l' c' k) said) where
  pub entry-end : said ≡ Ok None → (k : ℕ) → EntryRead t p l c kind n last cells cells parts parts k (Ok None)
  unfolding EntryRead
  entry-end e k = record { is = λ fuel. entries-end kind fuel n _ _ ((h l c k).missing e); cells_same = refl; parts_same = refl }

  pub entry-wrong : (x : code.Refusal) → said ≡ Err x → (k : ℕ) → EntryRead t p l c kind n last cells cells parts parts k (Err x)
  unfolding EntryRead reason_of stop place
  entry-wrong x e k fuel = let y = (h l c k).wrong x e in rw y.0 (entries-wrong kind fuel n _ _ y.1 y.2)

  module _ {r : Head} (z : said ≡ Ok (Some r)) where
    entered : (k : ℕ) → Entered t kind (last_name t last) (here t p l c k) r
    entered k = (h l c k).entered r z

    pub entry-limit : most_of kind ≤ n → (k : ℕ) → EntryRead t p l c kind n last cells cells parts parts k (Err (record { reason = LimitPassed; line = l }))
    unfolding EntryRead reason_of stop place
    entry-limit m k fuel = let x = entered k in entries-limit kind fuel n _ _ x.stands x.head x.is m

    module _ (m : n < most_of kind) {e : ℕ} (ee : e ≡ line_end t p) where
      moved : p < e
      moved = omega (arith, ee, line-moves t p (keyword-inside kind w.kinds t p l c 0 (entered 0).stands))

      pub entry_next : Position t e (l + 1) c × (r.expressions ≤ 513)
      entry_next = (
        record { short = w.position.short; within = omega (arith, ee, line-most t p, w.position.within); line = omega (arith, moved, w.position.line); rows = w.position.rows },
        (entered 0).few,
      )

      at_next : (k : ℕ) → next (here t p l c k) ≡ here t e (l + 1) c k
      at_next k = place-next statement t p l c k ∙ ap (λ x. here t x (l + 1) c k) (sym ee)

      module _ (cells' : List ℕ) where
        read_as : (k : ℕ) (x : Result Cursor code.Refusal) → Given (times r.expressions expression) (Rows t c cells cells') t e (l + 1) c k x
            → Given (times (entered k).head.expressions expression) (Rows t c cells cells') t e (l + 1) c k x
        read_as k x g = rw (entered k).expressions at g

        pub entry-refused : (x : code.Refusal) → ((k : ℕ) → Given (times r.expressions expression) (Rows t c cells cells') t e (l + 1) c k (Err x))
            → (k : ℕ) → EntryRead t p l c kind n last cells cells' parts parts k (Err x)
        unfolding EntryRead Given
        entry-refused x g k fuel =
            let v = entered k in
            entries-no kind fuel n _ _ v.stands v.head v.is m _ (ap (times v.head.expressions expression) (at_next k) ∙ read_as k (Err x) (g k))

        module _ (q : Cursor) (g : (k : ℕ) → Given (times r.expressions expression) (Rows t c cells cells') t e (l + 1) c k (Ok q)) where
          took : (k : ℕ) → Took (times (entered k).head.expressions expression) (Rows t c cells cells' q.rows) t e
              (l + 1) c k q.position q.line q.rows
          unfolding Given
          took k = read_as k (Ok q) (g k)

          start-next : entry_start kind n + 12 ≡ entry_start kind (suc n)
          unfolding entry_start
          start-next = omega arith

          module _ {i : ℕ} (ei : i ≡ entry_start kind n) {parts' : List ℕ} (v : parts' ≡ sets parts i (l ∷ r.expressions ∷ c ∷ numbers_of r)) (cl : length cells ≡ table_size) (pl : length parts ≡ numbers) where
            u : parts' ≡ sets parts (entry_start kind n) (l ∷ r.expressions ∷ c ∷ numbers_of r)
            u = v ∙ ap (λ j. sets parts j (l ∷ r.expressions ∷ c ∷ numbers_of r)) ei

            stored : (k : ℕ) → Stored parts' (entry_start kind n) (entry_numbers l c (entered k).head)
            stored k = rw (u, numbers_as (entered k) l c) (stored-sets parts (entry_start kind n) (l ∷ r.expressions ∷ c ∷ numbers_of r) (rw (entered-twelve (entered k) l c) (entry-room w m parts pl refl)))

            pub entry-took : (k : ℕ) → EntryRead t p l c kind n last cells cells' parts parts' k (Ok (Some (record { at = q; count = n + 1; last = r.name })))
            unfolding EntryRead place
            entry-took k =
                let d = entered k in
                let x = took k in
                let es = x.value in
                let entry : Entry = record { line = l; head = d.head; exprs = es } in (
                  refl,
                  record {
                    value = entry;
                    is = λ fuel. entries-on kind fuel n _ _ d.stands d.head d.is m es _ (ap (times d.head.expressions expression) (at_next k) ∙ x.is)
                        ∙ ap (λ z. prefixed (entry ∷ []) (entries kind fuel (suc n) z (here t q.position q.line q.rows k))) (sym d.last);
                    position = x.position;
                    moved = omega (arith, moved, x.moved);
                    more = x.more;
                    few = m;
                    stands = λ cells'' parts'' α β b.
                        let f : Kept (entry_start kind n) (entry_start kind n + length (entry_numbers l c d.head)) parts' parts'' = rw (entry-twelve l c d.head, start-next) β in
                        let z' = rows_back x.holds cl x.position.rows cells'' α b in
                        let z = times-count d.head.expressions expression _ _ es x.is in
                        entry-back b t cells'' parts'' (entry_start kind n) l c d.head (d.named b) (d.refers b)
                        (stored-kept _ _ f (omega arith) (omega arith) (stored k)) es (ap (λ z. arguments_at (tree_at b t cells'') cells'' z c) (sym z)
                        ∙ z');
                    cells-kept = rows-kept x.holds;
                    parts-kept = rw u (kept-sets-behind parts (entry_start kind n) (l ∷ r.expressions ∷ c ∷ numbers_of r) 0 (entry_start kind n) (omega arith));
                  },
                )
