-- `literal_at`: by the keyword and the number of fields.
use Rattle.std.specs.Prelude.{ℕ, ◌≤◌, ◌≡◌, ◌≢◌, List, [], ◌∷◌, length, take, drop, Option}
use Rattle.std.proofs.Common.{refl, arith}
use borrow.Author.Tests.{ne_eqb}
use Rattle.rules.specs.Limits.{most_bytes}
use Rattle.rules.specs.Refusals.{Text}
use Rattle.rules.specs.Lists.{Bytes, map_option}
use Rattle.rules.specs.Reader.{base_address, line_here, one_of, literals}
use Rattle.rules.specs.Lines.{bytes}
use Rattle.rules.specs.Area.{value_numbers}
use Rattle.numbers.specs.Literals.{kind_number}
use Rattle.numbers.specs.Values.{ValueFits, LiteralFits}
use Rattle.numbers.specs.declared.literals.Literal.{Literal}
use Rattle.text.specs.declared.Line.{Line}
use Rattle.text.specs.Fields.{Inside, inside-field}
use Rattle.text.specs.Lines.{nth_field, field, Fields}
use Rattle.text.specs.Reading.{place}
use Rattle.text.specs.Words.{find, words_of}
use Rattle.text.specs.Packed.{Packed, find_number, Apart, find_none, packed-word}
use Rattle.text.specs.Tables.{literal-table}
use Rattle.literal.specs.Records.{literal_by, IsLiteral, literal-as, no-literal-as, literal-words, literal-null, literal-null-not, literal-field, literal-not, flag-field}
use Rattle.literal.specs.Records.{int-some, int-none, float-some, float-none, text-some, no-literal}
use Rattle.literal.proofs.record.literal_at.Goals as goal

-- the keyword's number in the table
module _ {x : Bytes} {r : ℕ} (p : Packed x r) where
  at : (k : ℕ) → find_number (6114014574 ∷ 6114209634 ∷ 24407657 ∷ 1599362526310 ∷ 6249014644 ∷ []) r ≡ k
      → k ≡ find (words_of (bytes "null bool int float text ")) x
  at k e = packed-word _ _ _ _ k literal-table p e

-- a record of one field, by the keyword's number
by-field : {base : ℕ} {v : Bytes} {o : Option Literal} (x : Text) (t : Bytes) (p l d k : ℕ) {y : Line} → Fields t p y → {r : ℕ}
    → Packed (take (nth_field y.fields 0).length (drop (nth_field y.fields 0).start t)) r → (n : ℕ)
    → find_number (6114014574 ∷ 6114209634 ∷ 24407657 ∷ 1599362526310 ∷ 6249014644 ∷ []) r ≡ n → y.count ≡ 2
    → IsLiteral base v (literal_by n (field (base_address x) t (nth_field y.fields 1).start (nth_field y.fields 1).length)) o
    → IsLiteral base v (one_of literals (line_here (place x t p l d k))) o
by-field x t p l d k f w n e m = literal-as (literal-field x t p l d k _ f n _ literal-words (at w n e) m)

-- its field lies inside the text
first-inside : {t : Bytes} {p : ℕ} {y : Line} → Fields t p y → length t ≤ most_bytes → p ≤ length t → y.count ≡ 2
    → Inside t (nth_field y.fields 1).start (nth_field y.fields 1).length
first-inside f h g m = inside-field _ _ _ f 1 h g (omega arith)

behind : (n : ℕ) (ns : List ℕ) (r : ℕ) → (r ≡ n → ⊥) → find_number (n ∷ ns) r ≢ 0
unfolding find_number
behind n ns r h e = omega (arith, rw (find_number, ne_eqb r n h) at e)

pub returns-in-1 : goal.returns-in-1
unfolding bytes find_number map_option value_numbers kind_number LiteralFits ValueFits
returns-in-1 c = λ x l d k b. literal-as (literal-null x _ _ l d k _ c.requires.fields _ _ literal-words (at (rw c.field.ensures at c.packed-word.ensures) 0 (rw c.if-word-eq-NULL.true)) refl c.in-1.is) (record { is = refl; fits = λ k e c q f. tt })

pub returns-in_default : goal.returns-in_default
unfolding bytes find_number
returns-in_default c = λ x l d k b. no-literal-as _ _ (literal-null-not x _ _ l d k _ c.requires.fields _ _ literal-words (at (rw c.field.ensures at c.packed-word.ensures) 0 (rw c.if-word-eq-NULL.true)) refl (λ e. omega (arith, e)))

pub returns-then-f-ne2 : goal.returns-then-f-ne2
unfolding bytes
returns-then-f-ne2 c = λ x l d k b. no-literal-as _ _ (literal-not x _ _ l d k _ c.requires.fields _ _ literal-words (at (rw c.field.ensures at c.packed-word.ensures) _ refl) (behind _ _ _ c.if-word-eq-NULL.false) c.if-f-ne2.true)

pub returns-in-6114209634 : goal.returns-in-6114209634
unfolding bytes find_number
returns-in-6114209634 c = λ x l d k b. by-field x _ _ l d k c.requires.fields (rw c.field.ensures at c.packed-word.ensures) 1 (rw c.in-6114209634.is) c.if-f-ne2.false (rw b (literal-as (flag-field _ _ _ _) (rw c.field-value.ensures at (c.flag.ensures c.args.base c.args.t.now))))

pub returns-in_err-int-in-24407657 : goal.returns-in_err-int-in-24407657
unfolding bytes find_number field
returns-in_err-int-in-24407657 c = λ x l d k b. by-field x _ _ l d k c.requires.fields (rw c.field.ensures at c.packed-word.ensures) 2 (rw c.in-24407657.is) c.if-f-ne2.false (rw (b, c.from_residual.ensures) (no-literal-as _ _ (int-none _ (rw c.field-value.ensures at c.in_err-int-in-24407657.ensures))))

pub returns-in_ok-int-in-24407657 : goal.returns-in_ok-int-in-24407657
unfolding bytes find_number field
returns-in_ok-int-in-24407657 c = λ x l d k b. by-field x _ _ l d k c.requires.fields (rw c.field.ensures at c.packed-word.ensures) 2 (rw c.in-24407657.is) c.if-f-ne2.false (rw b (int-some _ _ _ _ _ (rw c.field-value.ensures at c.in_ok-int-in-24407657.ensures) (omega arith) c.of_bits.ensures))

pub returns-in_err-float-in-1599362526310 : goal.returns-in_err-float-in-1599362526310
unfolding bytes find_number field
returns-in_err-float-in-1599362526310 c = λ x l d k b. by-field x _ _ l d k c.requires.fields (rw c.field.ensures at c.packed-word.ensures) 3 (rw c.in-1599362526310.is) c.if-f-ne2.false (rw (b, c.from_residual-in_err-float-in-1599362526310.ensures) (no-literal-as _ _ (float-none _ (rw c.field-value.ensures at c.in_err-float-in-1599362526310.ensures))))

pub returns-in_ok-float-in-1599362526310 : goal.returns-in_ok-float-in-1599362526310
unfolding bytes find_number field
returns-in_ok-float-in-1599362526310 c = λ x l d k b. by-field x _ _ l d k c.requires.fields (rw c.field.ensures at c.packed-word.ensures) 3 (rw c.in-1599362526310.is) c.if-f-ne2.false (rw b (float-some _ _ _ _ _ (rw c.field-value.ensures at c.in_ok-float-in-1599362526310.ensures) c.of_bits-in-1599362526310.ensures))

pub returns-in-6249014644 : goal.returns-in-6249014644
unfolding bytes find_number
returns-in-6249014644 c = λ x l d k b. by-field x _ _ l d k c.requires.fields (rw c.field.ensures at c.packed-word.ensures) 4 (rw c.in-6249014644.is) c.if-f-ne2.false
    (rw b (text-some _ _ _ _ _ (first-inside c.requires.fields c.requires.inside.0 c.requires.inside.1 c.if-f-ne2.false) (refl, refl, refl)))

pub returns-in_default-word : goal.returns-in_default-word
unfolding bytes Apart
returns-in_default-word c = λ x l d k b. by-field x _ _ l d k c.requires.fields (rw c.field.ensures at c.packed-word.ensures) 5
    (find_none _ _ (c.if-word-eq-NULL.false, (λ e. omega (arith, e), (λ e. omega (arith, e), (λ e. omega (arith, e), (λ e. omega (arith, e), tt)))))) c.if-f-ne2.false (no-literal-as _ _ (no-literal _ _ (omega arith)))

pub overflow_cast-result : goal.overflow_cast-result
overflow_cast-result c = omega (arith, first-inside c.requires.fields c.requires.inside.0 c.requires.inside.1 c.if-f-ne2.false, c.requires.inside)

pub overflow_cast-result-in-6249014644 : goal.overflow_cast-result-in-6249014644
overflow_cast-result-in-6249014644 c = omega (arith, first-inside c.requires.fields c.requires.inside.0 c.requires.inside.1 c.if-f-ne2.false, c.requires.inside)

pub overflow_add-result : goal.overflow_add-result
overflow_add-result c = omega (arith, first-inside c.requires.fields c.requires.inside.0 c.requires.inside.1 c.if-f-ne2.false, c.requires.inside)
