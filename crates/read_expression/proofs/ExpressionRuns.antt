-- What the reader of expressions has at each of its answers: the rules' reading so far, and the rows written.
use Rattle.std.specs.Prelude.{ℕ, suc, ◌+◌, ◌*◌, ◌-◌, ◌≤◌, ◌<◌, ◌≡◌, List, [], ◌∷◌, ◌++◌, length, Result, Ok, Err, Some, None}
use Rattle.std.proofs.Common.{arith, add-zero, sym, ◌∙◌, append-nil, length-append}
use Rattle.std.proofs.Math.Path.{refl, ap}
use Rattle.std.proofs.Math.Option.{some}
use Rattle.std.proofs.lemmas.List.Edits.{sets}
use Rattle.rules.specs.Refusals.{Text, statement, Refusal, ok, refused}
use Rattle.rules.specs.Limits.{most_bytes, most_cells}
use Rattle.rules.specs.Lists.{Bytes}
use Rattle.rules.specs.Schema.{Value}
use Rattle.rules.specs.Ast.{Expr, is, Exprs, nil, cons, size, size_all}
use Rattle.rules.specs.Reader.{Read, base_address, line_here, one_of, literals, literal_here}
use Rattle.rules.specs.ReadExpression.{Head, is_head, heads, times, operands, deep}
use Rattle.rules.specs.Area.{value_numbers}
use Rattle.text.specs.Lines.{line_end}
use Rattle.text.specs.Reading.{place, text_of}
use Rattle.numbers.specs.Values.{ValueFits}
use Rattle.std.specs.Prelude as std
use Rattle.literal.specs.Records.{IsLiteral, literal-none, literal-some}
use Rattle.numbers.specs.Literals.{kind_number}
use Rattle.numbers.specs.declared.literals.Literal.{Literal}
use Rattle.numbers.specs.Stores.{sets-in-front}
use Rattle.ast.specs.Table.{row_size}
use Rattle.numbers.specs.declared.refusals.Reason.TheVariants.{WrongRecord, LimitPassed}
use Rattle.numbers.specs.declared.refusals.Refusal as code
use Rattle.read_expression.specs.declared.reading.Cursor.{Cursor}
use Rattle.ast.specs.Row.{number_of}
use Rattle.ast.specs.declared.row.Kind.TheVariants as K
use Rattle.read_expression.specs.declared.heads.Row.{Row}
use Rattle.read_expression.specs.Encode.{head_numbers, is_numbers, arity, row_of, encode, encode_all}
use Rattle.read_expression.proofs.Encoded.{encode-length}
use Rattle.read_expression.specs.Fits.{Fits, FitsAll}
use Rattle.read_expression.specs.RowOf.{RowIs, RowOf}
use Rattle.read_expression.specs.Reading.{here, Position, Took, Given, Rows, IsRow}
use Rattle.read_expression.specs.RecordHere.{row-of-none, row-of-some, row-of-is, row-of-not-is, head-inside, literal-inside, position-next, line-passed, literal-wrong, literal-read, deep-wrong, deep-full, deep-cut, deep-read}
use Rattle.read_expression.specs.Times.{joined, joined-none, before, before-none, before-twice, times-end, times-no, times-on, times-count}
use Rattle.read_expression.specs.Given.{given-done, given-refused, gives-done, gives-refused, gives-wrong, gives-limit}
use Rattle.read_expression.proofs.Rows.{rows_none, rows_join}
use Rattle.read_expression.proofs.Built.{build, built, operands-ok, operands-no, is-wrong, is_read, one_ok, is-built}

-- EXPRESSIONS IN A ROW
-- n are to be read from row c₀ on, and those before row c are read
pub record Loop (t : Bytes) (e : Read Expr) (n p₀ l₀ c₀ : ℕ) (cells₀ : List ℕ) (k p l c left : ℕ)
    (cells : List ℕ) : Type 0 where
  pub so_far : Exprs
  pub is : times n e (here t p₀ l₀ c₀ k) ≡ before so_far (times left e (here t p l c k))
  pub rows : Rows t c₀ cells₀ cells c so_far
  pub position : Position t p l c
  pub moved : p₀ ≤ p

pub loop-start : {t : Bytes} {e : Read Expr} {n p l c : ℕ} {cells : List ℕ} {k : ℕ} → Position t p l c
    → Loop t e n p l c cells k p l c n cells
loop-start {cells = cells} w = record { so_far = nil; is = sym (before-none _); rows = rows_none cells; position = w; moved = omega arith }

module _ {t : Bytes} {e : Read Expr} {n p₀ l₀ c₀ : ℕ} {cells₀ : List ℕ} {k p l c left : ℕ} {cells : List ℕ}
    (h : Loop t e n p₀ l₀ c₀ cells₀ k p l c left cells) where
  pub loop-end : left ≤ 0 → Given (times n e) (Rows t c₀ cells₀ cells) t p₀ l₀ c₀ k (Ok (record { position = p; line = l; rows = c }))
  unfolding before
  loop-end z = gives-done _ _ _ _ _ _ _ p l c (record {
    value = h.so_far;
    is = h.is ∙ ap (before h.so_far) (times-end left e _ (omega arith)) ∙ rw (joined-none h.so_far);
    position = h.position;
    moved = h.moved;
    more = omega (arith, h.rows.rows);
    holds = h.rows;
  })

  pub loop-refused : 0 < left → (H : ℕ → Expr → Type 0) (cells' : List ℕ) (w : code.Refusal) → Given e H t p l c k (Err w) → Given (times n e) (Rows t c₀ cells₀ cells') t p₀ l₀ c₀ k (Err w)
  unfolding before
  loop-refused z H cells' w g = gives-refused _ _ _ _ _ _ _ w (h.is ∙ ap (before h.so_far) (times-no left e _ z _ (given-refused _ H _ _ _ _ _ w g)))

  pub loop-on : (cells' : List ℕ) → 0 < left → (a : Cursor) → Given e (λ c' a. Rows t c cells cells' c' (cons a nil)) t p l c k (Ok a)
      → Loop t e n p₀ l₀ c₀ cells₀ k a.position a.line a.rows (left - 1) cells'
  loop-on cells' z a g =
      let w = given-done _ _ _ _ _ _ _ a g in
      record {
        so_far = joined h.so_far (cons w.value nil);
        is = h.is ∙ ap (before h.so_far) (times-on left e _ z w.value _ w.is) ∙ before-twice h.so_far (cons w.value nil) _;
        rows = rows_join h.rows w.holds;
        position = w.position;
        moved = omega (arith, h.moved, w.moved);
      }

-- THE ROW OF AN `IS`
is-numbers : (l n : ℕ) (v : Value) {k a b : ℕ} → value_numbers v ≡ k ∷ a ∷ b ∷ 0 ∷ [] → 7 ∷ l ∷ n ∷ k ∷ a ∷ b ∷ 0 ∷ 0 ∷ [] ≡ row_of l n (is_numbers v)
unfolding row_of is_numbers
is-numbers l n v e = rw e

module _ {t : Bytes} (p l d k : ℕ) {r : std.Option Literal} (s : (x : Text) (l c n : ℕ) → base_address x ≡ most_bytes → IsLiteral most_bytes t (one_of literals (line_here (place x t p l c n))) r) where
  pub is-row-wrong : (H : ℕ → Value → Type 0) → r ≡ std.None → Given literal_here H t p l d k (Err (record { reason = WrongRecord; line = l }))
  unfolding base_address
  is-row-wrong H z = gives-wrong _ H _ _ _ _ _ l (literal-wrong t p l d k (literal-none (s statement l d k refl) z))

  pub is_row : (c line : ℕ) {q : ℕ} (v : Literal) (cells : List ℕ) {cells' : List ℕ} → Position t p l d → r ≡ std.Some v → q ≡ line_end t p
      → cells' ≡ sets cells (row_size * c) (7 ∷ line ∷ (d - c) ∷ kind_number v.kind ∷ v.first ∷ v.second ∷ 0 ∷ 0 ∷ [])
      → Given literal_here (IsRow t c d line cells cells') t p l d k (Ok (record { position = q; line = l + 1; rows = d }))
  unfolding base_address text_of
  is_row c line {q} x cells w z f e =
      let v = literal-some x (s statement l d k refl) z in
      let i = literal-inside t p l d k v.0 v.1 in
      gives-done _ _ _ _ _ _ _ q (l + 1) d (record {
        value = v.0;
        is = literal-read t p l d k v.0 v.1 f;
        position = position-next w i f w.rows;
        moved = line-passed t i f;
        more = omega arith;
        holds = record {
          written = e ∙ ap (sets cells (row_size * c)) (is-numbers line (d - c) v.0 v.2);
          rows = refl;
          fits = λ b. v.3 statement refl b t refl;
        };
      })

-- ONE EXPRESSION
-- a row stored after those of its operands
row_first : (c : ℕ) (row xs : List ℕ) (s s₁ s₂ : List ℕ) → length row ≡ 8 → s₁ ≡ sets s (row_size * (c + 1)) xs
    → s₂ ≡ sets s₁ (row_size * c) row → s₂ ≡ sets s (row_size * c) (row ++ xs)
row_first c row xs s s₁ s₂ n e f =
    let g : row_size * (c + 1) ≡ row_size * c + length row = omega arith in
    f ∙ rw (e, g) (sets-in-front row xs s (row_size * c))

head-row : (l : ℕ) {n m k o a b x y : ℕ} {xs : List ℕ} → xs ≡ k ∷ o ∷ a ∷ b ∷ x ∷ y ∷ [] → n ≡ m → row_of l n xs ≡ k ∷ l ∷ m ∷ o ∷ a ∷ b ∷ x ∷ y ∷ []
unfolding row_of
head-row l e f = rw (e, f)

-- the rows of one expression
rows-one : {t : Bytes} {c c' : ℕ} {s s' : List ℕ} {e : Expr} → s' ≡ sets s (row_size * c) (encode e) → c' ≡ c + size e
    → ((b : Bytes) → Fits b t e) → Rows t c s s' c' (cons e nil)
unfolding encode_all size_all FitsAll
rows-one {e = e} w n f = record { written = rw (append-nil (encode e)) w; rows = rw (add-zero (size e)) n; fits = λ b. (f b, tt) }

row-of-one : {t : Bytes} {c c' : ℕ} {s s' : List ℕ} {e : Expr} → Rows t c s s' c' (cons e nil)
    → (s' ≡ sets s (row_size * c) (encode e)) × (c' ≡ c + size e) × ((b : Bytes) → Fits b t e)
unfolding encode_all size_all FitsAll
row-of-one {e = e} r = (rw (append-nil (encode e)) at r.written, rw (add-zero (size e)) at r.rows, λ b. (r.fits b).0)

is-fits : (b t : Bytes) (l : ℕ) (a : Expr) (v : Value) → Fits b t a → ValueFits b t v → Fits b t (is l a v)
unfolding Fits
is-fits b t l a v f g = (f, g)

is-length : (l : ℕ) (a : Expr) (v : Value) → length (row_of l (suc (size a)) (is_numbers v)) ≡ 8
unfolding size
is-length l a v = omega (arith, encode-length (is l a v), encode-length a, ap length (is-built l a v), length-append (row_of l (suc (size a)) (is_numbers v)) (encode a))

-- where the operands stand
pub operands-position : {t : Bytes} {p l c q : ℕ} {row : Row} → Position t p l c → ((l c k : ℕ) → RowOf t (one_of heads (line_here (here t p l c k))) (Some row)) → c < most_cells → q ≡ line_end t p
    → Position t q (l + 1) (c + 1)
operands-position {t} {p} {l} {c} w s m f = let h = row-of-some (s l c 0) in position-next w (head-inside t p l c 0 h.0 h.1) f (omega arith)

module _ {t : Bytes} (p l c k d : ℕ) (H : ℕ → Expr → Type 0) where
  pub no_record : ((l c k : ℕ) → RowOf t (one_of heads (line_here (here t p l c k))) None) → Given (deep d) H t p l c k (Err (record { reason = WrongRecord; line = l }))
  no_record s = gives-wrong _ _ _ _ _ _ _ l (deep-wrong t p l c k d (row-of-none (s l c k)))

  module _ {row : Row} (s : (l c k : ℕ) → RowOf t (one_of heads (line_here (here t p l c k))) (Some row)) where
    pub no_room : most_cells ≤ c → Given (deep d) H t p l c k (Err (record { reason = LimitPassed; line = l }))
    no_room m = let h = row-of-some (s l c k) in gives-limit _ _ _ _ _ _ _ l (deep-full t p l c k d h.0 h.1 m)

    pub too-deep : c < most_cells → d ≡ 0 → Given (deep d) H t p l c k (Err (record { reason = LimitPassed; line = l }))
    too-deep m e = let h = row-of-some (s l c k) in gives-limit _ _ _ _ _ _ _ l (deep-cut t p l c k d h.0 h.1 m e)

    -- its operands are read
    module _ (m : c < most_cells) (y : d ≡ 0 → ⊥) {q : ℕ} (f : q ≡ line_end t p) where
      operands-refused : (x : Refusal) → times row.operands (deep (d - 1)) (here t q (l + 1) (c + 1) k) ≡ refused x → deep d (here t p l c k) ≡ refused x
      operands-refused x e =
          let h = row-of-some (s l c k) in
          deep-read t p l c k d h.0 h.1 m y f ∙ operands-no h.0 l (deep (d - 1)) _ x (ap (λ n. times n (deep (d - 1)) (here t q (l + 1) (c + 1) k)) (sym h.2.many) ∙ e)

      pub operands-no-more : (G : ℕ → Exprs → Type 0) (w : code.Refusal) → Given (times row.operands (deep (d - 1))) G t q (l + 1) (c + 1) k (Err w) → Given (deep d) H t p l c k (Err w)
      operands-no-more G w g = gives-refused _ _ _ _ _ _ _ w (operands-refused _ (given-refused _ G _ _ _ _ _ w g))

module _ {t : Bytes} (p l c k : ℕ) {row : Row} (s : (l c k : ℕ) → RowOf t (one_of heads (line_here (here t p l c k))) (Some row)) (d : ℕ) (m : c < most_cells)
    (y : d ≡ 0 → ⊥) {q : ℕ} (f : q ≡ line_end t p) (cells cells₁ : List ℕ) (p₁ l₁ c₁ : ℕ)
    (g : Given (times row.operands (deep (d - 1))) (Rows t (c + 1) cells cells₁) t q (l + 1) (c + 1) k (Ok (record { position = p₁; line = l₁; rows = c₁ }))) where
  h : (x : Head) × (one_of heads (line_here (here t p l c k)) ≡ some x) × RowIs t x row
  h = row-of-some (s l c k)

  took : Took (times row.operands (deep (d - 1))) (Rows t (c + 1) cells cells₁ c₁) t q (l + 1) (c + 1) k p₁ l₁ c₁
  took = given-done _ _ _ _ _ _ _ _ g

  many : times (arity h.0) (deep (d - 1)) (here t q (l + 1) (c + 1) k) ≡ ok (took.value, here t p₁ l₁ c₁ k)
  many = ap (λ n. times n (deep (d - 1)) (here t q (l + 1) (c + 1) k)) (sym h.2.many) ∙ took.is

  passed : p ≤ q
  passed = line-passed t (head-inside t p l c k h.0 h.1) f

  pub deep-done : (cells₂ : List ℕ) → (row.kind ≡ K.Is → ⊥)
      → cells₂ ≡ sets cells₁ (row_size * c)
      (number_of row.kind ∷ l ∷ (c₁ - c) ∷ row.code ∷ row.a ∷ row.b ∷ row.c ∷ row.d ∷ [])
      → Given (deep d) (λ c' e. Rows t c cells cells₂ c' (cons e nil)) t p l c k (Ok (record { position = p₁; line = l₁; rows = c₁ }))
  deep-done cells₂ n e =
      let other = row-of-not-is h.0 h.2 n in
      let b = built h.0 l took.value other (times-count _ _ _ _ _ many) in
      let rows = took.holds in
      let same : suc (size_all took.value) ≡ c₁ - c = omega (arith, rows.rows) in
      let row_is : row_of l (suc (size_all took.value)) (head_numbers h.0) ≡ number_of row.kind ∷ l ∷ (c₁ - c) ∷ row.code ∷ row.a ∷ row.b ∷ row.c ∷ row.d ∷ [] = head-row l h.2.is same in
      gives-done _ _ _ _ _ _ _ p₁ l₁ c₁ (record {
        value = build h.0 l took.value;
        is = deep-read t p l c k d h.0 h.1 m y f ∙ operands-ok h.0 l (deep (d - 1)) _ _ took.value other many;
        position = took.position;
        moved = omega (arith, passed, took.moved);
        more = omega (arith, took.more);
        holds = rows-one
            (row_first c (number_of row.kind ∷ l ∷ (c₁ - c) ∷ row.code ∷ row.a ∷ row.b ∷ row.c ∷ row.d ∷ [])
            (encode_all took.value) cells cells₁ cells₂ refl rows.written e
            ∙ ap (sets cells (row_size * c)) (sym (b.rows ∙ ap (λ x. x ++ encode_all took.value) row_is)))
            (omega (arith, rows.rows, b.size))
            (λ b'. b.fits b' t (h.2.fits b') (rows.fits b'));
      })

  -- the operand of an `is`
  module _ (i : row.kind ≡ K.Is) where
    is-head : h.0 ≡ is_head
    is-head = row-of-is h.0 h.2 i

    operand : (a : Expr) × (took.value ≡ cons a nil) × (deep (d - 1) (here t q (l + 1) (c + 1) k) ≡ ok (a, here t p₁ l₁ c₁ k))
    operand = one_ok (deep (d - 1)) (here t q (l + 1) (c + 1) k) _ _ (ap (λ n. times n (deep (d - 1)) (here t q (l + 1) (c + 1) k)) (sym one) ∙ many)
      where
        one : arity h.0 ≡ 1
        one = unfold arity in rw is-head

    reads : deep d (here t p l c k) ≡ operands is_head l (deep (d - 1)) (here t q (l + 1) (c + 1) k)
    reads = deep-read t p l c k d h.0 h.1 m y f ∙ ap (λ x. operands x l (deep (d - 1)) (here t q (l + 1) (c + 1) k)) is-head

    is-took : (cells₂ : List ℕ) (p₂ l₂ c₂ : ℕ) → Took literal_here (IsRow t c c₁ l cells₁ cells₂ c₂) t p₁ l₁ c₁ k p₂ l₂ c₂
        → Took (deep d) (λ e. Rows t c cells cells₂ c₂ (cons e nil)) t p l c k p₂ l₂ c₂
    is-took cells₂ p₂ l₂ c₂ v =
        let a = operand.0 in
        let rows : Rows t (c + 1) cells cells₁ c₁ (cons a nil) = rw operand.1 at took.holds in
        let one = row-of-one rows in
        let same : c₁ - c ≡ suc (size a) = omega (arith, one.1) in
        record {
          value = is l a v.value;
          is = reads ∙ is_read (deep (d - 1)) _ l _ a operand.2 v.value _ v.is;
          position = v.position;
          moved = omega (arith, passed, took.moved, v.moved);
          more = omega (arith, took.more, v.more);
          holds = rows-one
              (row_first c (row_of l (suc (size a)) (is_numbers v.value)) (encode a) cells cells₁ cells₂
              (is-length l a v.value) one.0 (v.holds.written
              ∙ ap (λ n. sets cells₁ (row_size * c) (row_of l n (is_numbers v.value))) same)
              ∙ ap (sets cells (row_size * c)) (sym (is-built l a v.value)))
              (unfold size in omega (arith, one.1, v.holds.rows))
              (λ b. is-fits b t l a v.value (one.2 b) (v.holds.fits b));
        }

    pub deep_is : (cells₂ : List ℕ) (r₂ : Result Cursor code.Refusal) → Given literal_here (IsRow t c c₁ l cells₁ cells₂) t p₁ l₁ c₁ k r₂
        → Given (deep d) (λ c' e. Rows t c cells cells₂ c' (cons e nil)) t p l c k r₂
    deep_is cells₂ (Err w) v = gives-refused _ _ _ _ _ _ _ w (reads ∙ is-wrong (deep (d - 1)) _ l _ operand.0 operand.2 _ (given-refused _ _ _ _ _ _ _ w v))
    deep_is cells₂ (Ok a) v = gives-done _ _ _ _ _ _ _ a.position a.line a.rows (is-took cells₂ a.position a.line a.rows (given-done _ _ _ _ _ _ _ a v))

-- A LEAF
module _ {t : Bytes} (p l c k : ℕ) {row : Row} (s : (l c k : ℕ) → RowOf t (one_of heads (line_here (here t p l c k))) (Some row)) (d : ℕ) (o : row.operands ≡ 0) where
  no-is : row.kind ≡ K.Is → ⊥
  unfolding arity
  no-is i =
      let h = row-of-some (s l c k) in
      let e : row.operands ≡ 1 = h.2.many ∙ rw (row-of-is h.0 h.2 i) in
      omega (arith, e, o)

  -- a record without operands
  pub leaf-done : Position t p l c → c < most_cells → (d ≡ 0 → ⊥) → {q : ℕ} → q ≡ line_end t p → (cells cells' : List ℕ)
      → cells' ≡ sets cells (row_size * c) (number_of row.kind ∷ l ∷ 1 ∷ row.code ∷ row.a ∷ row.b ∷ row.c ∷ row.d ∷ [])
      → Given (deep d) (λ c' e. Rows t c cells cells' c' (cons e nil)) t p l c k (Ok (record { position = q; line = l + 1; rows = c + 1 }))
  leaf-done w m y {q} f cells cells' e =
      let one : c + 1 - c ≡ 1 = omega arith in
      let g : Given (times row.operands (deep (d - 1))) (Rows t (c + 1) cells cells) t q (l + 1) (c + 1) k (Ok (record { position = q; line = l + 1; rows = c + 1 })) = loop-end (loop-start (operands-position w s m f)) (omega (arith, o)) in
      deep-done p l c k s d m y f cells cells q (l + 1) (c + 1) g cells' no-is (rw one e)
