-- A whole section, by a loop over its entries.
use Prim.Native.Nat.{ℕ, suc, ◌+◌, ◌*◌, ◌-◌, ◌≤◌, ◌<◌}
use native.Mathlib.Omega.{arith}
use Rattle.std.proofs.Common.{add-one, ◌∙◌}
use Rattle.std.specs.Prelude.{◌≡◌, refl, true, false, set, Ok, Err, Some, None}
use Rattle.std.specs.Prelude as std
use Rattle.std.proofs.Math.Path.{sym, ap}
use mathlib.Core.List.{List, [], ◌∷◌, ◌++◌, append-nil}
use Rattle.std.proofs.Math.Option.{Option, none}
use Rattle.std.proofs.Math.ListN.{length, get_or, length-append}
use Rattle.std.proofs.Math.Seq.{get_or-set_same}
use Rattle.rules.specs.Refusals.{statement, ok}
use Rattle.rules.specs.Lists.{Bytes}
use Rattle.rules.specs.Reader.{give}
use Rattle.text.specs.Answers.{prefixed, prefixed-none, prefixed-twice}
use Rattle.text.specs.Reading.{place-length}
use Rattle.read_expression.specs.Reading.{here, Position, Took, Given}
use Rattle.entries.specs.Entries.{Entry, most_of, is_once, entries, turns_of, section}
use Rattle.sections.specs.Layout.{start_of, numbers, entries_at, section_at}
use Rattle.entries.specs.Heads.{last_name}
use Rattle.sections.specs.Terms.{end_of, SectionRead}
use Rattle.sections.specs.Kinds.{end-within, turns-once, turns_more, turns-some}
use Rattle.numbers.specs.Kept.{Kept, kept-part, kept_on, kept_set, kept-all, kept-first, kept-set-behind}
use Rattle.ast.specs.Table.{row_size}
use Rattle.sections.specs.Store.{entries-more}
use Rattle.sections.specs.OneEntry.{entry_start, EntryReady, EntryTook, EntryRead}
use Rattle.numbers.specs.declared.refusals.Refusal as code
use Rattle.text.specs.declared.places.Place as places
use Rattle.sections.specs.declared.Run.{Run}

-- the turns that the rules take from p on
unfoldable pub turns_at : Bytes → ℕ → ℕ → ℕ
turns_at t kind p = turns_of kind (length t - p)

section-turns : (t : Bytes) (kind p l c k : ℕ) → section kind (here t p l c k) ≡ entries kind (turns_at t kind p) 0 none (here t p l c k)
unfolding section turns_at
section-turns t kind p l c k = rw (place-length statement t p l c k)

-- THE ENTRIES READ SO FAR
-- n entries, from p₀ and row c₀ on to p and row c
pub record EntriesRead (t : Bytes) (p₀ c₀ kind : ℕ) (cells₀ parts₀ : List ℕ) (p l c n : ℕ) (cells parts : List ℕ) (xs : List Entry) : Type 0 where
  pub count : length xs ≡ n
  pub most : n ≤ most_of kind
  pub position : Position t p l c
  pub moved : p₀ + n ≤ p
  pub more : c₀ ≤ c
  pub stands : (cells'' parts'' : List ℕ) → Kept 0 (row_size * c) cells cells''
      → Kept (start_of kind + 1) (entry_start kind n) parts parts'' → (b : Bytes)
      → entries_at b t cells'' parts'' (start_of kind + 1) n ≡ xs
  pub cells-kept : Kept 0 (row_size * c₀) cells₀ cells
  pub parts-kept : Kept 0 (start_of kind) parts₀ parts

none_read : (t : Bytes) (p l c kind : ℕ) (cells parts : List ℕ) → Position t p l c → EntriesRead t p c kind cells parts p l c 0 cells parts []
unfolding entries_at
none_read t p l c kind cells parts w = record {
  count = refl;
  most = omega arith;
  position = w;
  moved = omega arith;
  more = omega arith;
  stands = λ cells'' parts'' α β b. refl;
  cells-kept = kept-all 0 _ cells;
  parts-kept = kept-all 0 _ parts;
}

module _ {t : Bytes} {p₀ c₀ kind : ℕ} {cells₀ parts₀ : List ℕ} {p l c n : ℕ} {cells parts : List ℕ} {xs : List Entry}
    (h : EntriesRead t p₀ c₀ kind cells₀ parts₀ p l c n cells parts xs) where
  -- one more
  one-read : {name name' : Option Bytes} {cells' parts' : List ℕ} {k p' l' c' : ℕ} (g : EntryTook t p l c kind n name cells cells' parts parts' k p' l' c' name')
      → EntriesRead t p₀ c₀ kind cells₀ parts₀ p' l' c' (n + 1) cells' parts' (xs ++ (g.value ∷ []))
  unfolding entry_start
  one-read {name} {name'} {cells'} {parts'} {k} {p'} {l'} {c'} g =
      let s = start_of kind in
      record {
        count = length-append xs (g.value ∷ []) ∙ ap (λ i. i + 1) h.count;
        most = omega (arith, g.few);
        position = g.position;
        moved = omega (arith, h.moved, g.moved);
        more = omega (arith, h.more, g.more);
        stands = λ cells'' parts'' α β b.
            let α' = kept_on g.cells-kept
            (kept-first (row_size * c) α (omega (arith, g.more))) in
            let β' = kept_on (kept-part (s + 1) (entry_start kind n) g.parts-kept (omega arith) (omega arith)) (kept-part (s + 1) (entry_start kind n) β (omega arith) (omega arith)) in
            let first = h.stands cells'' parts'' α' β' b in
            let second = g.stands cells'' parts'' α (kept-part (entry_start kind n) (entry_start kind (suc n)) β (omega arith) (omega arith)) b in
            rw (add-one n, entries-more b t cells'' parts'' (s + 1) n, first, second);
        cells-kept = kept_on h.cells-kept
            (kept-first (row_size * c₀) g.cells-kept (omega (arith, h.more)));
        parts-kept = kept_on h.parts-kept (kept-first s g.parts-kept (omega arith));
      }

  -- all are read, and their number is stored
  all_read : {l₀ k s : ℕ} → section kind (here t p₀ l₀ c₀ k) ≡ ok (xs, here t p l c k) → kind ≤ 11 → length parts ≡ numbers → s ≡ start_of kind
      → Took (section kind) (SectionRead t kind c₀ cells₀ cells parts₀ (set parts s n) c) t p₀ l₀ c₀ k p l c
  unfolding section_at entry_start end_of
  all_read {l₀} {k} {s} e g m z =
      let inside : start_of kind < end_of kind = omega arith in
      let fits : start_of kind < length parts = omega (arith, end-within kind g) in
      let behind : entry_start kind n ≤ end_of kind = omega (arith, h.most) in
      rw z (record {
        value = xs;
        is = e;
        position = h.position;
        moved = omega (arith, h.moved);
        more = h.more;
        holds = record {
          is = λ cells'' parts'' α β b.
              let d : get_or parts'' (start_of kind) 0 ≡ n = β.same (start_of kind) (omega arith) inside ∙ get_or-set_same parts (start_of kind) n 0 fits in
              let f = kept_on (kept_set parts (start_of kind) n (start_of kind + 1) (entry_start kind n) (omega arith)) (kept-part (start_of kind + 1) (entry_start kind n) β (omega arith) behind) in
              rw d (h.stands cells'' parts'' α f b);
          most = omega (arith, h.count, h.most);
          cells-kept = h.cells-kept;
          parts-kept = kept_on h.parts-kept (kept-set-behind parts (start_of kind) n 0 (start_of kind) (omega arith));
        };
      })

-- THE LOOP
-- n entries are read from p₀ on, the last one with this name, and the next may stand at p
pub record SectionLoop (t : Bytes) (p₀ l₀ c₀ kind : ℕ) (cells₀ parts₀ : List ℕ) (k p l c n : ℕ) (last : std.Option places.Place) (cells parts : List ℕ) : Type 0 where
  pub value : List Entry
  pub read : EntriesRead t p₀ c₀ kind cells₀ parts₀ p l c n cells parts value
  pub is : prefixed value (entries kind (turns_at t kind p₀ - n) n (last_name t last) (here t p l c k)) ≡ section kind (here t p₀ l₀ c₀ k)
  pub turn : n < turns_at t kind p₀

pub section-begin : (t : Bytes) (p l c kind : ℕ) (cells parts : List ℕ) → Position t p l c → (k : ℕ) → SectionLoop t p l c kind cells parts k p l c 0 None cells parts
unfolding turns_at last_name
section-begin t p l c kind cells parts w k =
    let z : turns_at t kind p - 0 ≡ turns_at t kind p = omega arith in
    record {
      value = [];
      read = none_read t p l c kind cells parts w;
      is = prefixed-none _ ∙ rw z (sym (section-turns t kind p l c k));
      turn = turns-some kind (length t - p);
    }

module _ {t : Bytes} {p₀ l₀ c₀ kind : ℕ} {cells₀ parts₀ : List ℕ} {p l c n : ℕ} {last : std.Option places.Place} {cells parts : List ℕ}
    (h : (k : ℕ) → SectionLoop t p₀ l₀ c₀ kind cells₀ parts₀ k p l c n last cells parts) where
  pub section-ready : kind ≤ 11 → EntryReady t p l c kind n
  section-ready g = record { position = (h 0).read.position; kinds = g; most = (h 0).read.most }

  left : turns_at t kind p₀ - n ≡ suc (turns_at t kind p₀ - (n + 1))
  left = omega (arith, (h 0).turn)

  rest : (k : ℕ) → prefixed (h k).value (entries kind (suc (turns_at t kind p₀ - (n + 1))) n (last_name t last) (here t p l c k)) ≡ section kind (here t p₀ l₀ c₀ k)
  rest k = rw left at (h k).is

  module _ (cells' parts' : List ℕ) where
    pub section-refused : (w : code.Refusal) → ((k : ℕ) → EntryRead t p l c kind n last cells cells' parts parts' k (Err w))
        → (k : ℕ) → Given (section kind) (SectionRead t kind c₀ cells₀ cells' parts₀ parts') t p₀ l₀ c₀ k (Err w)
    unfolding Given EntryRead prefixed
    section-refused w g k = sym (rw (g k (turns_at t kind p₀ - (n + 1))) at (rest k))

    -- no entry stands there: their number is stored
    pub section-end : kind ≤ 11 → length parts' ≡ numbers → {s : ℕ} → s ≡ start_of kind
        → ((k : ℕ) → EntryRead t p l c kind n last cells cells' parts parts' k (Ok None))
        → (k : ℕ) → Given (section kind) (SectionRead t kind c₀ cells₀ cells' parts₀ (set parts' s n)) t p₀ l₀ c₀ k (Ok (record { position = p; line = l; rows = c }))
    unfolding Given EntryRead prefixed
    section-end m f z g k =
        let x = g k in
        let y : ok ((h k).value ++ [], here t p l c k) ≡ section kind (here t p₀ l₀ c₀ k) = (rw (x.is (turns_at t kind p₀ - (n + 1))) at (rest k)) in
        rw (x.cells_same, x.parts_same) (all_read (h k).read (sym y ∙ ap (λ v. ok (v, here t p l c k)) (append-nil (h k).value)) m (ap length (sym x.parts_same) ∙ f) z)

    module _ (e : Run) (g : (k : ℕ) → EntryRead t p l c kind n last cells cells' parts parts' k (Ok (Some e))) where
      took : (k : ℕ) → EntryTook t p l c kind n (last_name t last) cells cells' parts parts' k e.at.position e.at.line e.at.rows (last_name t e.last)
      unfolding EntryRead
      took k = (g k).1

      counted : e.count ≡ n + 1
      unfolding EntryRead
      counted = (g 0).0

      pub entry-moved : (p < e.at.position) × (e.at.position ≤ length t) × (n < most_of kind)
      entry-moved = ((took 0).moved, (took 0).position.within, (took 0).few)

      behind : (k : ℕ) → prefixed ((h k).value ++ ((took k).value ∷ [])) (entries kind (turns_at t kind p₀ - (n + 1)) (n + 1) (last_name t e.last) (here t e.at.position e.at.line e.at.rows k)) ≡ section kind (here t p₀ l₀ c₀ k)
      behind k =
          let x = rw ((took k).is (turns_at t kind p₀ - (n + 1)), ← add-one n) at (rest k) in
          sym (prefixed-twice (h k).value ((took k).value ∷ []) (entries kind (turns_at t kind p₀ - (n + 1)) (n + 1) (last_name t e.last) (here t e.at.position e.at.line e.at.rows k))) ∙ x

      -- a clause has one entry
      pub section-once : is_once kind ≡ true → kind ≤ 11 → length parts' ≡ numbers → {s : ℕ} → s ≡ start_of kind
          → (k : ℕ) → Given (section kind) (SectionRead t kind c₀ cells₀ cells' parts₀ (set parts' s e.count)) t p₀ l₀ c₀ k (Ok e.at)
      unfolding Given turns_at prefixed entries give
      section-once o m f z k =
          let xs = (h k).value ++ ((took k).value ∷ []) in
          let u : turns_at t kind p₀ ≡ 1 = turns-once kind (length t - p₀) o in
          let v : turns_at t kind p₀ - (n + 1) ≡ 0 = omega (arith, u) in
          let y : ok (xs ++ [], here t e.at.position e.at.line e.at.rows k) ≡ section kind (here t p₀ l₀ c₀ k) = (rw v at (behind k)) in
          rw counted (all_read (one-read (h k).read (took k)) (sym y ∙ ap (λ w. ok (w, here t e.at.position e.at.line e.at.rows k)) (append-nil xs)) m f z)

      pub section-on : is_once kind ≡ false → (k : ℕ) → SectionLoop t p₀ l₀ c₀ kind cells₀ parts₀ k e.at.position e.at.line e.at.rows e.count e.last cells' parts'
      unfolding turns_at
      section-on o k = rw counted (record {
        value = (h k).value ++ ((took k).value ∷ []);
        read = one-read (h k).read (took k);
        is = behind k;
        turn = let u : turns_at t kind p₀ ≡ suc (length t - p₀) = turns_more kind (length t - p₀) o in
            omega (arith, u, (h 0).read.moved, (took 0).moved, (took 0).position.within);
      })
