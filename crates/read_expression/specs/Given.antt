-- A reader's answer taken apart, by what it is.
use Rattle.std.specs.Prelude.{ℕ, ◌≡◌, Ok, Err}
use Rattle.rules.specs.Refusals.{statement, refused}
use Rattle.rules.specs.Lists.{Bytes}
use Rattle.rules.specs.Reader.{Read}
use Rattle.text.specs.Answers.{wrong_at, limit_at}
use Rattle.numbers.specs.declared.refusals.Reason.TheVariants.{WrongRecord, LimitPassed}
use Rattle.numbers.specs.declared.refusals.Refusal.{Refusal}
use Rattle.numbers.specs.Reasons.{reason_of, told}
use Rattle.read_expression.specs.declared.reading.Cursor.{Cursor}
use Rattle.read_expression.specs.Reading.{here, Took, Given}

module _ {A : Type 0} (m : Read A) (H : ℕ → A → Type 0) (t : Bytes) (p l c k : ℕ) where
  pub given-done : (a : Cursor) → Given m H t p l c k (Ok a) → Took m (H a.rows) t p l c k a.position a.line a.rows
  unfolding Given
  given-done a g = g

  pub given-refused : (w : Refusal) → Given m H t p l c k (Err w) → m (here t p l c k) ≡ refused (told statement w)
  unfolding Given
  given-refused w g = g

  pub gives-done : (p' l' c' : ℕ) → Took m (H c') t p l c k p' l' c' → Given m H t p l c k (Ok (record { position = p'; line = l'; rows = c' }))
  unfolding Given
  gives-done p' l' c' w = w

  pub gives-refused : (w : Refusal) → m (here t p l c k) ≡ refused (told statement w) → Given m H t p l c k (Err w)
  unfolding Given
  gives-refused w e = e

  pub gives-wrong : (x : ℕ) → m (here t p l c k) ≡ wrong_at statement x → Given m H t p l c k (Err (record { reason = WrongRecord; line = x }))
  unfolding Given wrong_at reason_of
  gives-wrong x e = e

  pub gives-limit : (x : ℕ) → m (here t p l c k) ≡ limit_at statement x → Given m H t p l c k (Err (record { reason = LimitPassed; line = x }))
  unfolding Given limit_at reason_of
  gives-limit x e = e
