-- What reading a column comes to, where it takes the fewest bytes of its default's line at least.
use Rattle.std.specs.Prelude.{ℕ, suc, ◌+◌, ◌≤◌, ◌<◌, ◌≡◌, Bool, List, [], ◌∷◌, length, refl, Result, Ok, Err, Some, None}
use Rattle.std.specs.Prelude as std
use native.Mathlib.Omega.{arith}
use Rattle.std.proofs.Math.Path.{sym, ap}
use Rattle.std.proofs.Common.{◌∙◌}
use Rattle.std.proofs.Math.Option.{Option, none, some}
use Rattle.std.proofs.lemmas.List.Edits.{sets}
use Rattle.rules.specs.Refusals.{catalog}
use Rattle.rules.specs.Limits.{most_table_columns}
use Rattle.rules.specs.Lists.{Bytes}
use Rattle.rules.specs.Lines.{Word}
use Rattle.rules.specs.Schema.{Value}
use Rattle.rules.specs.Reader.{line_here, next, stop, one_of, literals, key_of, rest_of}
use Rattle.rules.specs.ReadCatalog.{default_records, column_body}
use Rattle.rules.specs.Places.{word_at}
use Rattle.text.specs.Lines.{line_end, line-most}
use Rattle.text.specs.Reading.{place, place-next}
use Rattle.schema.specs.Layout.{column_start, column_of}
use Rattle.schema.specs.Records.{Position, here, default_said, column_here, column_said, ColumnEnds, ColumnLine}
use Rattle.text.specs.Answers.{prefixed}
use Rattle.numbers.specs.Kept.{kept-all, kept-sets-behind}
use Rattle.numbers.specs.Stores.{Stored, stored-first, stored-sets, sets-append}
use Rattle.rules.specs.Area.{flag, type_code}
use Rattle.numbers.specs.Datatypes.{type_of}
use Rattle.numbers.specs.declared.datatypes.DataType.{DataType}
use Rattle.numbers.specs.Values.{is_one, type_at, type-back, flag-back, default_of}
use Rattle.numbers.specs.declared.refusals.Reason.TheVariants.{WrongRecord, LimitPassed}
use Rattle.numbers.specs.declared.refusals.Refusal as code
use Rattle.numbers.specs.Reasons.{reason_of}
use Rattle.schema.specs.declared.record.ColumnRecord.{ColumnRecord}
use Rattle.numbers.specs.Literals.{given_numbers}
use Rattle.numbers.specs.Literals.{given as numbers-given}
use Rattle.numbers.specs.declared.literals.Literal.{Literal}
use Rattle.schema.specs.Room.{least_line, least_default, least_column, column_fits, column-bytes, field_bytes, Closed, line-size, named-short, default-short, field-most}
use Rattle.schema.specs.Columns.{columns, columns-end, columns-wrong, columns-limit, columns-no, columns-on, body-no, body_ok, ColumnReady, columns_from, ColumnMoves, ColumnRead, line-position}

default-least : (r : List Word) (d : Option Value) → one_of (default_records literals) r ≡ some d → Closed r × (least_default ≤ field_bytes r)
unfolding one_of key_of rest_of field_bytes
default-least [] d h = let g = named-short (default_records literals) [] [] d default-short h in absurd (omega (arith, g.1))
default-least (w ∷ r) d h =
    let g = named-short (default_records literals) w.bytes r d default-short h in
    (λ l. absurd (omega (arith, g.0)), omega (arith, g.1, field-most r))

pub default-bytes : (t : Bytes) (p l : ℕ) (d : Option Value) → one_of (default_records literals) (line_here (here t p l)) ≡ some d → p + least_default ≤ line_end t p
default-bytes t p l d h = let g = default-least (line_here (here t p l)) d h in line-size t p l least_default g.0 g.1

module _ {t : Bytes} {s : List ℕ} {p l f n : ℕ} (w : ColumnReady t s p l f n) {c : Result (std.Option ColumnRecord) code.Refusal} (h : ColumnLine t p l c) where
  says-as : (q : Bytes) (d : Result (std.Option ColumnRecord) code.Refusal) → c ≡ d → column_here (here t p l) ≡ column_said t q d
  says-as q d z = sym (h.says q l) ∙ ap (column_said t q) z

  pub column-end : c ≡ Ok None → ColumnRead t p l f n s s (Ok None)
  unfolding columns_from ColumnMoves column_said
  column-end z = record { says = λ q fuel. sym (columns-end _ fuel n (says-as q _ z)); kept = kept-all _ _ s; moves = tt }

  pub column-wrong : {w : code.Refusal} → c ≡ Err w → ColumnRead t p l f n s s (Err w)
  unfolding columns_from ColumnMoves ColumnEnds column_said reason_of stop place
  column-wrong {w} z = let e : w ≡ record { reason = WrongRecord; line = l } = rw z at h.next in rw e record { says = λ q fuel. sym (columns-wrong _ fuel n none (says-as q _ z) refl); kept = kept-all _ _ s; moves = tt }

  module _ {a m e : ℕ} {datatype : DataType} {nullable : Bool}
      (z : c ≡ Ok (Some (record { name = record { address = a; length = m }; datatype = datatype; nullable = nullable; next = e }))) where
    abbrev k : ℕ
    k = type_code (type_of datatype)

    abbrev u : ℕ
    u = flag nullable

    said : (q : Bytes) → column_here (here t p l) ≡ some (some (word_at t q a m, type_at k, is_one u))
    unfolding column_said
    said q = says-as q _ z ∙ rw (type-back (type_of datatype), flag-back nullable)

    ends : e ≡ line_end t p
    unfolding ColumnEnds
    ends = rw z at h.next

    pub column-next : Position t e
    column-next = line-position t p e w.place ends

    moved : p + least_line ≤ e
    moved = omega (arith, column-bytes t p l _ (said []), ends)

    at_next : next (here t p l) ≡ here t e (l + 1)
    at_next = place-next catalog t p l 0 0 ∙ ap (λ x. here t x (l + 1)) (sym ends)

    pub column-limit : most_table_columns ≤ n → ColumnRead t p l f n s s (Err (record { reason = LimitPassed; line = l }))
    unfolding columns_from ColumnMoves reason_of stop place
    column-limit g = record { says = λ q fuel. sym (columns-limit _ fuel n _ (said q) _ refl g); kept = kept-all _ _ s; moves = tt }

    module _ (g : n < most_table_columns) (d : std.Option (std.Option Literal)) (given : (q : Bytes) (i : ℕ) → default_said t q d ≡ one_of (default_records literals) (line_here (here t e i))) where
      pub column-default : d ≡ None → ColumnRead t p l f n s s (Err (record { reason = WrongRecord; line = l + 1 }))
      unfolding columns_from ColumnMoves reason_of stop place default_said
      column-default y = record {
        says = λ q fuel. sym (columns-no _ fuel n _ (said q) _ refl g _ (ap (column_body l _) at_next ∙ body-no l _ (here t e (l + 1)) (sym (given q (l + 1)) ∙ ap (default_said t q) y)));
        kept = kept-all _ _ s;
        moves = tt;
      }

      module _ {b : std.Option Literal} (o : d ≡ Some b) where
        abbrev x : ℕ
        x = (numbers-given b).kind

        abbrev y : ℕ
        y = (numbers-given b).first

        abbrev v : ℕ
        v = (numbers-given b).second

        given-as : (q : Bytes) → one_of (default_records literals) (line_here (here t e (l + 1))) ≡ some (default_of t q x y v)
        unfolding default_said
        given-as q = sym (given q (l + 1)) ∙ ap (default_said t q) o ∙ ap some (sym ((numbers-given b).value t q))

        ended : (p + least_column ≤ line_end t e) × (line_end t e ≤ length t)
        ended = (omega (arith, moved, default-bytes t e (l + 1) _ (given-as [])), omega (arith, line-most t e, column-next.within))

        pub column-room : column_start (suc (f + n)) ≤ length s
        column-room = column_fits (f + n) w.room (omega (arith, w.first)) (omega (arith, w.behind, ended.0, ended.1))

        module _ {s₁ s₂ : List ℕ} {i : ℕ} (ei : i ≡ column_start (f + n)) (e₁ : s₁ ≡ sets s i (a ∷ m ∷ k ∷ u ∷ [])) (n₁ : length s₁ ≡ length s) (e₂ : s₂ ≡ sets s₁ (i + 4) (given_numbers b)) where
          eight : s₂ ≡ sets s i (a ∷ m ∷ k ∷ u ∷ x ∷ y ∷ v ∷ 0 ∷ [])
          eight = e₂ ∙ rw (e₁, (numbers-given b).is) (sym (sets-append (a ∷ m ∷ k ∷ u ∷ []) (x ∷ y ∷ v ∷ 0 ∷ []) s i))

          stands : Stored s₂ i (a ∷ m ∷ k ∷ u ∷ x ∷ y ∷ v ∷ 0 ∷ [])
          stands = rw eight (stored-sets s i (a ∷ m ∷ k ∷ u ∷ x ∷ y ∷ v ∷ 0 ∷ []) (omega (arith, column-room)))

          stored : (q : Bytes) → column_of t q s₂ i ≡ record { name = word_at t q a m; type = type_at k; nullable = is_one u; default = default_of t q x y v }
          unfolding column_of
          stored q =
              rw (
                stored-first stands,
                stands.at 1 (omega arith),
                stands.at 2 (omega arith),
                stands.at 3 (omega arith),
                stands.at 4 (omega arith),
                stands.at 5 (omega arith),
                stands.at 6 (omega arith),
              )

          pub column-read : {e₃ : ℕ} → e₃ ≡ line_end t e → ColumnRead t p l f n s s₂ (Ok (Some e₃))
          unfolding columns_from ColumnMoves place
          column-read {e₃} z₃ = record {
            says = λ q fuel. sym (columns-on _ fuel n _ (said q) _ refl g _ _ (ap (column_body l _) at_next ∙ body_ok l _ (here t e (l + 1)) _ (given-as q)) ∙ goes_on q fuel);
            kept = rw eight (kept-sets-behind s i (a ∷ m ∷ k ∷ u ∷ x ∷ y ∷ v ∷ 0 ∷ []) 0 (column_start (f + n)) (omega arith));
            moves = (g, omega (arith, ended.0), omega (arith, ended.1));
          }
            where
              after : next (here t e (l + 1)) ≡ here t e₃ (l + 2)
              after = place-next catalog t e (l + 1) 0 0 ∙ (let b : l + 1 + 1 ≡ l + 2 = omega arith in rw (b, z₃))

              goes_on : (q : Bytes) (fuel : ℕ) → prefixed (record { name = word_at t q a m; type = type_at k; nullable = is_one u; default = default_of t q x y v } ∷ []) (columns fuel (suc n) (next (here t e (l + 1))))
                  ≡ prefixed (column_of t q s₂ (column_start (f + n)) ∷ []) (columns fuel (suc n) (here t e₃ (l + 2)))
              goes_on q fuel = rw (← ei, stored q, after)
