-- Closing a join: its predicate, if it has one, and its row.
use Prim.Native.Nat.{ℕ, suc, ◌+◌, ◌*◌}
use Rattle.std.proofs.Common.{arith}
use Rattle.std.proofs.Math.Numerals.{add-one}
use Rattle.std.specs.Prelude.{◌≡◌, refl, true, false, List, [], ◌∷◌, length, Ok, Err}
use Rattle.std.proofs.Math.Path.{sym, ap}
use Rattle.std.proofs.Math.Option.{none, some}
use Rattle.std.proofs.lemmas.List.Edits.{sets}
use Rattle.rules.specs.Refusals.{Refusal, refused}
use Rattle.rules.specs.Lists.{Bytes}
use Rattle.rules.specs.Ast.{nil, cons}
use Rattle.rules.specs.Reader.{optional}
use Rattle.rules.specs.ReadExpression.{times, expression}
use Rattle.numbers.specs.Kept.{kept-all}
use Rattle.ast.specs.Table.{row_size, table_size}
use Rattle.read_expression.specs.Reading.{here, Position, Given, Took, Rows}
use Rattle.from.specs.Layout.{predicate_at}
use Rattle.read_expression.proofs.Rows.{rows-kept, tree-back}
use Rattle.from.specs.Rules.{optional-as, single, single-no, without}
use Rattle.from.specs.Rows.{sides_before}
use Rattle.from.specs.Numbers.{number_of}
use Rattle.from.specs.Trees.{Closed}
use Rattle.from.specs.declared.Open.{Open}
use Rattle.numbers.specs.declared.refusals.Refusal as code
use Rattle.read_expression.specs.declared.reading.Cursor.{Cursor}

module _ (t : Bytes) (p l c n : ℕ) (v : Open) (cells rows : List ℕ) where
  -- none follows
  pub bare-closed : v.on ≡ false → Position t p l c → (s : ℕ) → s ≡ sides_before rows n → (rows' : List ℕ)
      → rows' ≡ sets rows (row_size * n) (number_of v.kind ∷ v.line ∷ 0 ∷ 0 ∷ 0 ∷ 0 ∷ 0 ∷ s ∷ [])
      → (k : ℕ) → Given (optional v.on expression) (Closed t c n v cells cells rows rows') t p l c k (Ok (record { position = p; line = l; rows = c }))
  unfolding Given predicate_at
  bare-closed h w s y rows' e k = record {
    value = none;
    is = rw h (without expression (here t p l c k));
    position = w;
    moved = omega arith;
    more = omega arith;
    holds = record { number = 0; written = rw (← y) e; stands = λ cells'' g b. refl; cells-kept = kept-all 0 _ _ };
  }

  module _ (one : v.on ≡ true) (cells' rows' : List ℕ) where
    refuses : (k : ℕ) (x : Refusal) → times 1 expression (here t p l c k) ≡ refused x → optional v.on expression (here t p l c k) ≡ refused x
    refuses k x e = optional-as expression (here t p l c k) (sym one) (single-no expression (here t p l c k) x e)

    pub predicate-refused : (w : code.Refusal) → ((k : ℕ) → Given (times 1 expression) (Rows t c cells cells') t p l c k (Err w))
        → (k : ℕ) → Given (optional v.on expression) (Closed t c n v cells cells' rows rows') t p l c k (Err w)
    unfolding Given
    predicate-refused w g k = refuses k _ (g k)

    -- one was read
    module _ (q : Cursor) (g : (k : ℕ) → Given (times 1 expression) (Rows t c cells cells') t p l c k (Ok q)) where
      took : (k : ℕ) → Took (times 1 expression) (Rows t c cells cells' q.rows) t p l c k q.position q.line q.rows
      unfolding Given
      took k = g k

      pub predicate-closed : length cells ≡ table_size → (s : ℕ) → s ≡ sides_before rows n
          → rows' ≡ sets rows (row_size * n) (number_of v.kind ∷ v.line ∷ (c + 1) ∷ 0 ∷ 0 ∷ 0 ∷ 0 ∷ s ∷ [])
          → (k : ℕ) → Given (optional v.on expression) (Closed t c n v cells cells' rows rows') t p l c k (Ok q)
      unfolding Given predicate_at
      predicate-closed h s u e k =
          let w = took k in
          let i = single expression (here t p l c k) w.value (here t q.position q.line q.rows k) w.is in
          let rs : Rows t c cells cells' q.rows (cons i.expr nil) = (rw i.one at w.holds) in
          record {
            value = some i.expr;
            is = optional-as expression (here t p l c k) (sym one) i.is;
            position = w.position;
            moved = w.moved;
            more = w.more;
            holds = record {
              number = suc c;
              written = rw (← add-one c, ← u) e;
              stands = λ cells'' y b. ap some (tree-back rs h w.position.rows cells'' y b);
              cells-kept = rows-kept rs;
            };
          }
