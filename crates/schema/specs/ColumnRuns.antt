-- All columns of a table, by a loop over them.
use Rattle.std.specs.Prelude.{ℕ, suc, ◌+◌, ◌*◌, ◌-◌, ◌≤◌, ◌<◌, ◌≡◌, List, length, Option, Result, Ok, Err, Some, None}
use Rattle.std.proofs.Common.{arith, add-one, sym, ◌∙◌, append-nil}
use Rattle.std.proofs.Math.Path.{ap}
use Rattle.rules.specs.Refusals.{catalog, Answer, ok, refused}
use Rattle.rules.specs.Limits.{most_table_columns}
use Rattle.rules.specs.Lists.{Bytes}
use Rattle.rules.specs.Schema.{Column}
use Rattle.rules.specs.Reader.{Place}
use Rattle.schema.specs.Layout.{column_start, columns_at}
use Rattle.schema.specs.Records.{here}
use Rattle.text.specs.Answers.{prefixed, prefixed-none, prefixed-twice}
use Rattle.numbers.specs.Kept.{Kept, kept-all, kept-part, kept_on}
use Rattle.schema.specs.Room.{least_column}
use Rattle.schema.specs.Store.{columns-kept, columns-more}
use Rattle.schema.specs.Columns.{columns, columns_from, ColumnReady, ColumnMoves, ColumnRead}
use Rattle.numbers.specs.declared.refusals.Refusal as code
use Rattle.numbers.specs.Reasons.{told}
use Rattle.schema.specs.declared.read.Run.{Run}

-- the columns that were read, the first of them the f-th of all
unfoldable pub columns_of : Bytes → Bytes → List ℕ → ℕ → Result Run code.Refusal → Answer (List Column × Place)
columns_of t q s f (Ok r) = ok (columns_at t q s f r.count, here t r.at.position r.at.line)
columns_of t q s f (Err w) = refused (told catalog w)

unfoldable pub ColumnsMove : Bytes → ℕ → Result Run code.Refusal → Type 0
ColumnsMove t p (Ok r) = (p + least_column * r.count ≤ r.at.position) × (r.at.position ≤ length t) × (r.at.line ≤ r.at.position + 1) × (r.count ≤ most_table_columns)
ColumnsMove t p (Err w) = Unit

-- every column takes a line, so as many turns as there are bytes left are enough
unfoldable pub turns_at : Bytes → ℕ → ℕ
turns_at t p = suc (length t - p)

pub record ColumnsRead (t : Bytes) (p l f : ℕ) (s s' : List ℕ) (r : Result Run code.Refusal) : Type 0 where
  pub says : (q : Bytes) → columns_of t q s' f r ≡ columns (turns_at t p) 0 (here t p l)
  pub kept : Kept 0 (column_start f) s s'
  pub moves : ColumnsMove t p r

-- n columns are read from p₀ on, and the next may stand at p
pub record ColumnLoop (t : Bytes) (p₀ l₀ f : ℕ) (s₀ : List ℕ) (p l n : ℕ) (s : List ℕ) : Type 0 where
  pub is : (q : Bytes) → prefixed (columns_at t q s f n) (columns (turns_at t p₀ - n) n (here t p l)) ≡ columns (turns_at t p₀) 0 (here t p₀ l₀)
  pub passed : p₀ + least_column * n ≤ p
  pub kept : Kept 0 (column_start f) s₀ s
  pub ready : ColumnReady t s p l f n

pub columns-begin : (t : Bytes) (p l f : ℕ) (s : List ℕ) → ColumnReady t s p l f 0 → ColumnLoop t p l f s p l 0 s
unfolding columns_at
columns-begin t p l f s w =
    let z : turns_at t p - 0 ≡ turns_at t p = omega arith in
    record { is = λ q. prefixed-none _ ∙ rw z; passed = omega arith; kept = kept-all _ _ s; ready = w }

module _ {t : Bytes} {p₀ l₀ f : ℕ} {s₀ : List ℕ} {p l n : ℕ} {s s' : List ℕ} {r : Result (Option ℕ) code.Refusal}
    (h : ColumnLoop t p₀ l₀ f s₀ p l n s) (g : ColumnRead t p l f n s s' r) where
  turn : turns_at t p₀ - n ≡ suc (turns_at t p₀ - (n + 1))
  unfolding turns_at
  turn = omega (arith, h.passed, h.ready.place.within)

  same-columns : (q : Bytes) → columns_at t q s' f n ≡ columns_at t q s f n
  same-columns q = columns-kept t q (f + n) f n (kept-part 161 (column_start (f + n)) g.kept (omega arith) (omega arith)) (omega arith)

  rest : (q : Bytes) → prefixed (columns_at t q s' f n) (columns_from t q s' p l f n (turns_at t p₀ - (n + 1)) r) ≡ columns (turns_at t p₀) 0 (here t p₀ l₀)
  rest q = rw (same-columns q, g.says q (turns_at t p₀ - (n + 1)), ← turn) (h.is q)

  all-kept : Kept 0 (column_start f) s₀ s'
  all-kept = kept_on h.kept (kept-part 0 (column_start f) g.kept (omega arith) (omega arith))

  rest-as : (x : Result (Option ℕ) code.Refusal) → r ≡ x → (q : Bytes) → prefixed (columns_at t q s' f n) (columns_from t q s' p l f n (turns_at t p₀ - (n + 1)) x) ≡ columns (turns_at t p₀) 0 (here t p₀ l₀)
  rest-as x e q = rw e at (rest q)

  pub columns-end : r ≡ Ok None → ColumnsRead t p₀ l₀ f s₀ s' (Ok (record { at = record { position = p; line = l }; count = n }))
  unfolding columns_of ColumnsMove columns_from prefixed
  columns-end e = record {
    says = λ q. ap (λ x. ok (x, here t p l)) (sym (append-nil _)) ∙ rest-as _ e q;
    kept = all-kept;
    moves = (omega (arith, h.passed), h.ready.place.within, h.ready.line, h.ready.most);
  }

  pub columns-refused : {w : code.Refusal} → r ≡ Err w → ColumnsRead t p₀ l₀ f s₀ s' (Err w)
  unfolding columns_of ColumnsMove columns_from prefixed
  columns-refused e = record { says = rest-as _ e; kept = all-kept; moves = tt }

  module _ {e : ℕ} (z : r ≡ Ok (Some e)) where
    pub column-moved : (n < most_table_columns) × (p + least_column ≤ e) × (e ≤ length t)
    unfolding ColumnMoves
    column-moved = rw z at g.moves

    pub columns-on : length s' ≡ length s → ColumnLoop t p₀ l₀ f s₀ e (l + 2) (n + 1) s'
    unfolding columns_from
    columns-on k = record {
      is = λ q. rw (add-one n, columns-more t q s' f n) (sym (prefixed-twice _ _ _) ∙ (rw (add-one n) at (rest-as _ z q)));
      passed = omega (arith, h.passed, column-moved.1);
      kept = all-kept;
      ready = record {
        place = record { short = h.ready.place.short; within = column-moved.2 };
        line = omega (arith, h.ready.line, column-moved.1);
        room = rw k h.ready.room;
        behind = omega (arith, h.ready.behind, column-moved.1);
        first = h.ready.first;
        most = omega (arith, column-moved.0);
      };
    }
