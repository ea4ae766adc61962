-- The whole statement: what the rules answer, and the numbers that stand for it.
use Rattle.std.specs.Prelude.{ℕ, ◌≤◌, ◌<◌, ◌≡◌, refl, Bool, true, false, ltb, length, get_or, drop, Result, Ok, Err, Some, None}
use Rattle.std.proofs.Common.{arith, ◌∙◌, drop_of_length-le}
use Rattle.std.proofs.Math.Decide.{dec_lt}
use Rattle.std.proofs.Math.Path.{sym, ap}
use mathlib.Core.List.{List, [], ◌∷◌}
use Rattle.std.proofs.Math.Option.{none, some}
use Rattle.std.proofs.lemmas.List.Edits.{sets, sets-eq}
use borrow.Author.Tests.{lt-ltb, le-ltb}
use Rattle.rules.specs.Refusals.{statement, wrong_record, Answer, ok, refused}
use Rattle.rules.specs.Limits.{most_bytes}
use Rattle.rules.specs.Lists.{Bytes, same, named}
use Rattle.rules.specs.Lines.{Word, bytes, fields, empty}
use Rattle.rules.specs.Ast.{Statement}
use Rattle.rules.specs.Sizes.{statement_size}
use Rattle.rules.specs.Places.{word_at}
use Rattle.rules.specs.Reader.{stop, fit, key_of, rest_of, line_here, one_of, apply, ◌>>=◌, line_number, value_of}
use Rattle.rules.specs.ReadStatement.{StatementHead, select_head, create_head, drop_head, delete_head, insert_head, update_head, other_head, statement_heads, statement_here, statement_records, read_statement}
use Rattle.text.specs.Lines.{line_end, line-moves, line-most}
use Rattle.text.specs.Reading.{place, place-start, place-next}
use Rattle.text.specs.Answers.{wrong_at, limit_at, bind_ok, bind-no}
use Rattle.numbers.specs.Codes.{coded-map}
use Rattle.rules.specs.Area.{flag}
use Rattle.numbers.specs.Values.{is_one, flag-back}
use Rattle.numbers.specs.Kept.{Kept}
use Rattle.read_expression.specs.Reading.{here, Position}
use Rattle.statement.specs.Layout.{statement_at}
use Rattle.statement.specs.Bodies.{sections_of}
use Rattle.statement.specs.RulesBodies.{records-are, statement-cells}
use Rattle.statement.specs.Stays.{SectionsStay}
use Rattle.statement.specs.Kinds.{number_of}
use Rattle.statement.specs.Access.{kind_number, kind_of}
use Rattle.statement.specs.Access.{name_or}
use Rattle.statement.specs.FirstRecord.{head_of, first_said}
use Rattle.statement.specs.BodyReads.{body_at, BodyTook, BodyBy}
use Rattle.statement.specs.EndRecord.{ended, WholeRead}
use Rattle.statement.specs.declared.first.First.{First}
use Rattle.numbers.specs.declared.refusals.Refusal as code
use Rattle.numbers.specs.declared.refusals.Reason.TheVariants.{WrongRecord, LimitPassed}
use Rattle.numbers.specs.Reasons.{reason_of, told}
use Rattle.read_expression.specs.declared.reading.Cursor.{Cursor}
use Rattle.statement.specs.declared.access.Kind.{Kind}
use Rattle.statement.specs.declared.access.Kind.TheVariants as K

-- the statement that was read: the one that the numbers stand for, of the catalog b and the statement t
unfoldable pub statement_of : (b t : Bytes) (cells froms parts : List ℕ) → Result ℕ code.Refusal → Answer Statement
statement_of b t cells froms parts (Ok n) = ok (statement_at b t cells froms parts)
statement_of b t cells froms parts (Err w) = refused (told statement w)

-- the rules' answer, 3 with no line where the text is too long
unfoldable pub statement_answer : Bytes → Answer Statement
statement_answer t = elim (ltb most_bytes (length t)) [ true ↦ limit_at statement 0 | false ↦ read_statement t ]

-- how many expression cells a statement that was read has
unfoldable pub Counts : ℕ → Result ℕ code.Refusal → Type 0
Counts m (Ok n) = n ≡ m
Counts m (Err w) = Unit {0}

-- what is stored behind the rows of a SELECT that was read changes none of its sections
unfoldable pub SelectStays : (t : Bytes) (cells parts : List ℕ) → Result ℕ code.Refusal → Type 0
SelectStays t cells parts (Ok n) = K.Select ≡ kind_of (kind_number parts) → SectionsStay t cells parts
SelectStays t cells parts (Err w) = Unit {0}

-- what the outcome says
abbrev pub Answers : (t : Bytes) (cells froms parts : List ℕ) → Result ℕ code.Refusal → Type 0
Answers t cells froms parts r = ((b : Bytes) → statement_of b t cells froms parts r ≡ statement_answer t) × ((b : Bytes) → Counts (statement_size (statement_at b t cells froms parts)) r) × SelectStays t cells parts r

pub too_long : (t : Bytes) (cells froms parts : List ℕ) → most_bytes < length t → Answers t cells froms parts (Err (record { reason = LimitPassed; line = 0 }))
unfolding statement_of statement_answer Counts SelectStays limit_at reason_of
too_long t cells froms parts h = (λ b. sym (rw (statement_answer, lt-ltb most_bytes (length t) h)), λ b. tt, tt)

-- a statement by its kind, its line, its name and its flag
statement-body : (b t : Bytes) (cells froms parts : List ℕ) (kind line a n flag : ℕ) → get_or parts 0 0 ≡ kind → get_or parts 1 0 ≡ line → get_or parts 2 0 ≡ a → get_or parts 3 0 ≡ n → get_or parts 4 0 ≡ flag
    → statement_at b t cells froms parts ≡ body_at b t cells froms parts (head_of kind (word_at b t a n) (is_one flag)) line
unfolding statement_at head_of
statement-body b t cells froms parts kind line a n flag e₀ e₁ e₂ e₃ e₄ = rw (e₀, e₁, e₂, e₃, e₄) (unfold body_at in sym (coded-map (λ h. body_at b t cells froms parts h line) _ _ 1 kind))

-- a first record, by its kind
unfoldable head_by : Word → Bool → Kind → StatementHead
head_by n y K.Select = select_head
head_by n y K.Create = create_head n
head_by n y K.Drop = drop_head n y
head_by n y K.Delete = delete_head n
head_by n y K.Insert = insert_head n
head_by n y K.Update = update_head n
head_by n y K.Other = other_head

select-head : (k : ℕ) (n : Word) (y : Bool) → K.Select ≡ kind_of k → head_of k n y ≡ select_head
unfolding head_of head_by kind_of
select-head k n y e = sym (coded-map (head_by n y) _ _ 1 k) ∙ ap (head_by n y) (sym e)

-- THE FIRST RECORD
module _ (t : Bytes) where
  -- what the rules read from the first line on
  answer-is : length t ≤ most_bytes → statement_answer t ≡ value_of (statement_records (here t 0 1 0 0))
  unfolding statement_answer read_statement
  answer-is h = rw (statement_answer, le-ltb most_bytes (length t) h) (ap (λ p. value_of (statement_records p)) (place-start statement t))

  begun : statement_records (here t 0 1 0 0) ≡ (statement_here >>= λ h. sections_of h 1 >>= ended) (here t 0 1 0 0)
  unfolding ended
  begun = records-are (here t 0 1 0 0) ∙ bind_ok line_number _ _ 1 (here t 0 1 0 0) (unfold line_number place in refl)

  first-wrong : one_of statement_heads (line_here (here t 0 1 0 0)) ≡ none → statement_records (here t 0 1 0 0) ≡ wrong_at statement 1
  unfolding wrong_at
  first-wrong e = begun ∙ bind-no statement_here _ _ (record { reason = wrong_record; text = statement; line = 1 }) (unfold statement_here fit stop in rw e (unfold place in refl))

  first-right : (h : StatementHead) → one_of statement_heads (line_here (here t 0 1 0 0)) ≡ some h → statement_records (here t 0 1 0 0) ≡ (sections_of h 1 >>= ended) (here t (line_end t 0) 2 0 0)
  first-right h e = begun ∙ bind_ok statement_here _ _ h (here t (line_end t 0) 2 0 0) (unfold statement_here fit in rw e (ap (λ q. ok (h, q)) (place-next statement t 0 1 0 0)))

  -- an empty text has none
  no_text : length t ≤ 0 → one_of statement_heads (line_here (here t 0 1 0 0)) ≡ none
  unfolding one_of apply named key_of rest_of line_here place fields empty bytes same statement_heads
  no_text h = rw (drop_of_length-le t h)

-- a first record that does not fit
pub wrong_first : (t : Bytes) → ((c : Bytes) → first_said c t None ≡ one_of statement_heads (line_here (here t 0 1 0 0))) → length t ≤ most_bytes
    → (cells froms parts : List ℕ) → Answers t cells froms parts (Err (record { reason = WrongRecord; line = 1 }))
unfolding first_said statement_of Counts SelectStays wrong_at reason_of value_of
wrong_first t g short cells froms parts = (λ b. sym (answer-is t short ∙ ap value_of (first-wrong t (sym (g b)))), λ b. tt, tt)

module _ (t : Bytes) (f : First) (g : (c : Bytes) → first_said c t (Some f) ≡ one_of statement_heads (line_here (here t 0 1 0 0))) (short : length t ≤ most_bytes) where
  -- what it says, of the catalog b
  abbrev head : Bytes → StatementHead
  head b = head_of (number_of f.kind) (word_at b t (name_or f.name).address (name_or f.name).length) f.if_exists

  head-is : (b : Bytes) → one_of statement_heads (line_here (here t 0 1 0 0)) ≡ some (head b)
  unfolding first_said
  head-is b = sym (g b)

  some-text : 0 < length t
  some-text = elim (dec_lt 0 (length t)) [
    | yes y ↦ y
    | no y ↦ absurd (let x = sym (head-is []) ∙ no_text t (omega (arith, y)) in grind arith)
  ]

  pub second-line : Position t (line_end t 0) 2 0
  second-line = record { short = short; within = omega (arith, line-most t 0); line = omega (arith, line-moves t 0 some-text); rows = omega arith }

  -- THE NUMBERS
  module _ (cells' froms' parts parts₁ parts' : List ℕ) (w : parts₁ ≡ sets parts 0 (number_of f.kind ∷ 1 ∷ (name_or f.name).address ∷ (name_or f.name).length ∷ flag f.if_exists ∷ [])) (room : 5 ≤ length parts) where
    module _ (k : Kept 0 8 parts₁ parts') where
      first : (i : ℕ) → i < 5 → get_or parts' i 0 ≡ get_or (number_of f.kind ∷ 1 ∷ (name_or f.name).address ∷ (name_or f.name).length ∷ flag f.if_exists ∷ drop 5 parts) i 0
      first i l = k.same i (omega arith) (omega arith) ∙ ap (λ s. get_or s i 0) (w ∙ sets-eq (number_of f.kind ∷ 1 ∷ (name_or f.name).address ∷ (name_or f.name).length ∷ flag f.if_exists ∷ []) parts 0 room)

      header_is : (b : Bytes) → statement_at b t cells' froms' parts' ≡ body_at b t cells' froms' parts' (head b) 1
      header_is b = rw (flag-back f.if_exists) at (statement-body b t cells' froms' parts' _ _ _ _ _ (first 0 (omega arith)) (first 1 (omega arith)) (first 2 (omega arith)) (first 3 (omega arith)) (first 4 (omega arith)))

      kind-is : kind_number parts' ≡ number_of f.kind
      kind-is = first 0 (omega arith)

    module _ (p : ℕ) (line : p ≡ line_end t 0) where
      head-by : (r : Result Cursor code.Refusal) → ((n : Word) (y : Bool) → WholeRead t (head_of (number_of f.kind) n y) p cells' froms' parts₁ parts' r) → (b : Bytes) → WholeRead t (head b) (line_end t 0) cells' froms' parts₁ parts' r
      head-by r whole b = rw line at (whole (word_at b t (name_or f.name).address (name_or f.name).length) f.if_exists)

      come : (b : Bytes) → statement_records (here t 0 1 0 0) ≡ (sections_of (head b) 1 >>= ended) (here t (line_end t 0) 2 0 0)
      come b = first-right t _ (head-is b)

      pub statement-refused : (w : code.Refusal) → ((n : Word) (y : Bool) → WholeRead t (head_of (number_of f.kind) n y) p cells' froms' parts₁ parts' (Err w)) → Answers t cells' froms' parts' (Err w)
      unfolding statement_of Counts SelectStays BodyBy value_of
      statement-refused w whole = (λ b. sym (answer-is t short ∙ ap value_of (come b ∙ head-by (Err w) whole b)), λ b. tt, tt)

      module _ (q : Cursor) (whole : (n : Word) (y : Bool) → WholeRead t (head_of (number_of f.kind) n y) p cells' froms' parts₁ parts' (Ok q)) where
        took : (b : Bytes) → BodyTook (sections_of (head b) 1 >>= ended) t (head b) (line_end t 0) cells' froms' parts₁ parts' q.position q.line q.rows
        unfolding BodyBy
        took b = head-by (Ok q) whole b

        value-is : (b : Bytes) → statement_at b t cells' froms' parts' ≡ (took b).value
        value-is b = header_is (took b).kept b ∙ (took b).stand b

        records : (b : Bytes) → statement_records (here t 0 1 0 0) ≡ ok ((took b).value, here t q.position q.line q.rows (took b).tables)
        records b = come b ∙ (took b).is

        pub statement-read : Answers t cells' froms' parts' (Ok q.rows)
        unfolding statement_of Counts SelectStays value_of
        statement-read = (
          λ b. ap ok (value-is b) ∙ sym (answer-is t short ∙ ap value_of (records b)),
          λ b. statement-cells t _ q.position q.line q.rows _ (records b) ∙ ap statement_size (sym (value-is b)),
          λ e. (took []).sections (select-head (number_of f.kind) _ _ (e ∙ ap kind_of (kind-is (took []).kept))),
        )
