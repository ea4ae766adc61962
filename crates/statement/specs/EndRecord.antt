-- The record `end`, with nothing behind it.
use Rattle.std.specs.Prelude.{ℕ, ◌+◌, ◌-◌, ◌≤◌, ◌<◌, ◌≡◌, Bool, true, false, length, take, drop, Result, Ok, Err}
use Rattle.std.proofs.Common.{arith, ◌∙◌, drop_of_length-le}
use Rattle.std.proofs.Math.Decide.{dec_lt}
use Rattle.std.proofs.Math.Path.{refl, sym, ap}
use mathlib.Core.List.{List, [], ◌∷◌}
use Rattle.std.proofs.Math.Option.{none, some}
use Rattle.rules.specs.Refusals.{statement, wrong_record, ok}
use Rattle.rules.specs.Lists.{Bytes, same}
use Rattle.rules.specs.Lines.{bytes, fields, empty}
use Rattle.rules.specs.Ast.{Statement}
use Rattle.rules.specs.Reader.{Place, Read, give, stop, fit, next, at, key, key_of, rest, line_here, ◌>>=◌, ◌>>◌, record', no_field, nothing_left}
use Rattle.rules.specs.ReadStatement.{StatementHead}
use Rattle.text.specs.Lines.{nth_field, line-moves, line-most, Fields}
use Rattle.text.specs.Reading.{place, place-next, place_end, place-more, at-is, rest-none, rest-other}
use Rattle.text.specs.Records.{no-field}
use Rattle.text.specs.Answers.{wrong_at, bind_ok, bind-no, then_ok, then-no}
use Rattle.text.specs.declared.Line.{Line}
use Rattle.read_expression.specs.Reading.{here, Position, Given}
use Rattle.statement.specs.Bodies.{sections_of}
use Rattle.statement.specs.BodyReads.{BodyTook, BodyBy, BodyRead}
use Rattle.numbers.specs.declared.refusals.Refusal as code
use Rattle.numbers.specs.declared.refusals.Reason.TheVariants.{WrongRecord}
use Rattle.numbers.specs.Reasons.{reason_of}
use Rattle.read_expression.specs.declared.reading.Cursor.{Cursor}

-- `end`, and the statement s
unfoldable pub ended : Statement → Read Statement
ended s = do
  record' (bytes "end") no_field
  nothing_left
  give s

abbrev pub Is : Statement → ℕ → Statement → Type 0
Is s c v = v ≡ s

-- the statement with its `end`
abbrev pub WholeRead : (t : Bytes) (h : StatementHead) (p : ℕ) (cells' froms' parts parts' : List ℕ) → Result Cursor code.Refusal → Type 0
WholeRead t h p cells' froms' parts parts' r = BodyBy (sections_of h 1 >>= ended) t h p cells' froms' parts parts' r

-- THE RULES
module _ (s : Statement) (p : Place) where
  ended-missing : at (bytes "end") p ≡ false → ended s p ≡ stop wrong_record p
  unfolding ended record' stop
  ended-missing e = then-no _ _ p _ (rw (record', e))

  ended-fields : at (bytes "end") p ≡ true → no_field (rest p) ≡ none → ended s p ≡ stop wrong_record p
  unfolding ended record' fit stop
  ended-fields e f = then-no _ _ p _ (rw (record', e, f))

  module _ (e : at (bytes "end") p ≡ true) (f : no_field (rest p) ≡ some tt) where
    past : ended s p ≡ (nothing_left >> give s) (next p)
    unfolding ended record' fit
    past = then_ok _ _ p tt (next p) (rw (record', e, f))

    ended-more : (x : ℕ) (xs : Bytes) → (next p).left ≡ x ∷ xs → ended s p ≡ stop wrong_record (next p)
    unfolding nothing_left stop
    ended-more x xs h = past ∙ then-no _ _ (next p) _ (rw (nothing_left, h))

    ended-done : (next p).left ≡ [] → ended s p ≡ ok (s, next p)
    unfolding nothing_left give
    ended-done h = past ∙ then_ok nothing_left (give s) (next p) tt (next p) (nothing (next p) h)
      where
        nothing : (q : Place) → q.left ≡ [] → nothing_left q ≡ ok (tt, q)
        nothing q h = rw (nothing_left, h) (ap (λ b. ok (tt, record { text = q.text; left = b; address = q.address; line = q.line; cells = q.cells; tables = q.tables })) h)

-- behind the end of the text no record stands
end-inside : (t : Bytes) (p l c k : ℕ) → at (bytes "end") (here t p l c k) ≡ true → p < length t
unfolding at key key_of line_here place fields empty same bytes
end-inside t p l c k e = elim (dec_lt p (length t)) [
  | yes y ↦ y
  | no y ↦ absurd (let m : length t ≤ p = omega (arith, y) in let x : false ≡ true = (rw (drop_of_length-le t m) at e) in grind arith)
]

-- BY POSITION
-- f is the line at p
module _ (t : Bytes) (s : Statement) (p l c k : ℕ) (h : Position t p l c) (f : Line) (g : Fields t p f) (b : Bool) (e : b ≡ same (take (nth_field f.fields 0).length (drop (nth_field f.fields 0).start t)) (bytes "end")) where
  end-at : at (bytes "end") (here t p l c k) ≡ b
  end-at = at-is statement t p l c k f g (bytes "end") ∙ sym e

  pub end-missing : b ≡ false → Given (ended s) (Is s) t p l c k (Err (record { reason = WrongRecord; line = l }))
  unfolding Given reason_of stop place
  end-missing z = ended-missing s _ (end-at ∙ z)

  pub end-fields : b ≡ true → (f.count ≡ 1 → ⊥) → Given (ended s) (Is s) t p l c k (Err (record { reason = WrongRecord; line = l }))
  unfolding Given reason_of stop place
  end-fields z n = ended-fields s _ (end-at ∙ z) (no-field _ (rest-other statement t p l c k f g 0 (omega arith) n))

  module _ (z : b ≡ true) (n : f.count ≡ 1) where
    alone : no_field (rest (here t p l c k)) ≡ some tt
    unfolding no_field
    alone = rw (rest-none statement t p l c k f g n)

    behind : next (here t p l c k) ≡ here t f.next (l + 1) c k
    behind = place-next statement t p l c k ∙ rw g.next

    pub end_more : f.next < length t → Given (ended s) (Is s) t p l c k (Err (record { reason = WrongRecord; line = l + 1 }))
    unfolding Given wrong_at reason_of
    end_more m = ended-more s _ (end-at ∙ z) alone _ _ (ap (λ q. q.left) behind ∙ place-more statement t f.next (l + 1) c k m) ∙ ap (stop wrong_record) behind ∙ at-line
      where
        at-line : stop {A = Statement} wrong_record (here t f.next (l + 1) c k) ≡ wrong_at statement (l + 1)
        at-line = unfold stop wrong_at place in refl

    pub end-done : length t ≤ f.next → Given (ended s) (Is s) t p l c k (Ok (record { position = f.next; line = l + 1; rows = c }))
    unfolding Given
    end-done m =
        let i = end-inside t p l c k (end-at ∙ z) in
        let moves : p < f.next = rw g.next (line-moves t p i) in
        let most : f.next ≤ p + (length t - p) = rw g.next (line-most t p) in
        record {
          value = s;
          is = ended-done s _ (end-at ∙ z) alone (ap (λ q. q.left) behind ∙ place_end statement t f.next (l + 1) c k m) ∙ ap (λ q. ok (s, q)) behind;
          position = record { short = h.short; within = omega (arith, h.within, most); line = omega (arith, h.line, moves); rows = h.rows };
          moved = omega (arith, moves);
          more = omega arith;
          holds = refl;
        }

-- THE WHOLE
module _ (t : Bytes) (h : StatementHead) (p : ℕ) (cells' froms' parts parts' : List ℕ) where
  pub whole-refused : (w : code.Refusal) → BodyRead t h p cells' froms' parts parts' (Err w) → WholeRead t h p cells' froms' parts parts' (Err w)
  unfolding BodyBy
  whole-refused w b = bind-no (sections_of h 1) ended _ _ b

  module _ (q : Cursor) (b : BodyRead t h p cells' froms' parts parts' (Ok q)) where
    body : BodyTook (sections_of h 1) t h p cells' froms' parts parts' q.position q.line q.rows
    unfolding BodyBy
    body = b

    pub body-position : Position t q.position q.line q.rows
    body-position = body.position

    pub whole-read : (r' : Result Cursor code.Refusal) → ((s : Statement) (k : ℕ) → Given (ended s) (Is s) t q.position q.line q.rows k r') → WholeRead t h p cells' froms' parts parts' r'
    whole-read r' g = go r' (g body.value body.tables)
      where
        come : (sections_of h 1 >>= ended) (here t p 2 0 0) ≡ ended body.value (here t q.position q.line q.rows body.tables)
        come = bind_ok (sections_of h 1) ended _ _ _ body.is

        go : (r' : Result Cursor code.Refusal) → Given (ended body.value) (Is body.value) t q.position q.line q.rows body.tables r' → WholeRead t h p cells' froms' parts parts' r'
        go (Err w) g = unfold BodyBy in come ∙ (unfold Given in g)
        go (Ok z) g = unfold BodyBy Given in record {
          value = g.value;
          tables = body.tables;
          is = come ∙ g.is;
          position = g.position;
          stand = λ b. body.stand b ∙ sym g.holds;
          kept = body.kept;
          sections = body.sections;
        }
