-- What the record of a literal says: its kind and two numbers, by its keyword and its field.
use Rattle.std.specs.Prelude.{◌≡◌, ℕ, zero, suc, ◌+◌, ◌-◌, ◌/◌, ◌%◌, ◌^◌, ◌<◌, ◌≤◌, Bool, List, [], ◌∷◌, map, length, take, drop, ◌≢◌, slice_index}
use Rattle.std.specs.Prelude as std
use Rattle.std.specs.Option.{option_map}
use Rattle.std.proofs.Common.{arith, Bor, ◌∙◌}
use Rattle.std.proofs.Math.Path.{refl, sym, ap}
use Rattle.std.proofs.Math.Option.{Option, none, some}
use Rattle.rules.specs.Refusals.{Text}
use Rattle.rules.specs.Lists.{Bytes, map_option, named}
use Rattle.rules.specs.Lines.{Word, bytes}
use Rattle.rules.specs.Lines as Lines
use Rattle.rules.specs.Schema.{Value, null, bool}
use Rattle.rules.specs.Reader.{base_address, rest, line_here, apply, one_of, no_field, one_field, word, flags, literals}
use Rattle.rules.specs.Area.{halves, flag, span, value_numbers}
use Rattle.numbers.specs.Bits.{signed, bits-signed}
use Rattle.numbers.specs.Values.{WordFits, ValueFits, LiteralFits}
use Rattle.text.specs.declared.Line.{Line}
use Rattle.text.specs.Lines.{nth_field, field, Fields}
use Rattle.text.specs.Beside.{beside, beside-named}
use Rattle.text.specs.Words.{find, words_of, push, keys, nth, nth-none}
use Rattle.text.specs.Reading.{place, text_of, field_of, one-of, rest-none, rest-one, rest-other}
use Rattle.text.specs.Records.{no-field, one_field_lem}
use Rattle.text.specs.Fields.{Inside, field-length, field_at}
use Rattle.numbers.specs.Options.{option_of}
use Rattle.numbers.specs.Literals.{kind_number, literal_numbers}
use Rattle.numbers.specs.declared.literals.Literal.{Literal}
use Rattle.numbers.specs.declared.literals.LiteralKind.TheVariants as L

-- r is the literal of a record of the text t, whose bytes have the addresses from base on, or there is none
pub record IsLiteral (base : ℕ) (t : Bytes) (v : Option Value) (r : std.Option Literal) : Type 0 where
  pub is : map_option value_numbers v ≡ map_option literal_numbers (option_of r)
  pub fits : (k : Text) → base_address k ≡ base → (c q : Bytes) → text_of k c q ≡ t → LiteralFits c q v

-- a literal by its keyword's number and its one field
unfoldable pub literal_by : ℕ → Word → Option Value
literal_by k w = apply (nth literals k) (w ∷ [])

pub literal-as : {base : ℕ} {t : Bytes} {g h : Option Value} {r : std.Option Literal} → g ≡ h → IsLiteral base t h r → IsLiteral base t g r
literal-as e s = rw e s

pub literal-none : {base : ℕ} {t : Bytes} {v : Option Value} {r : std.Option Literal} → IsLiteral base t v r → r ≡ std.None → v ≡ none
unfolding map_option
literal-none {v = none} s e = refl
literal-none {v = some x} s e = absurd (cc (s.is, e))

pub literal-some : {base : ℕ} {t : Bytes} {v : Option Value} {r : std.Option Literal} (l : Literal) → IsLiteral base t v r → r ≡ std.Some l
    → (x : Value) × (v ≡ some x) × (value_numbers x ≡ literal_numbers l) × ((k : Text) → base_address k ≡ base → (c q : Bytes) → text_of k c q ≡ t → ValueFits c q x)
unfolding map_option LiteralFits
literal-some {v = none} l s e = absurd (cc (s.is, e))
literal-some {v = some x} l s e = (x, refl, cc (s.is, e), s.fits)

pub no-literal-as : (base : ℕ) (t : Bytes) {v : Option Value} → v ≡ none → IsLiteral base t v std.None
unfolding map_option LiteralFits
no-literal-as base t e = rw e (record { is = refl; fits = λ k e c q f. tt })

-- BY THE KEYWORD AND THE FIELD
module _ (base : ℕ) (t : Bytes) (w : Word) (r : Literal) where
  pub int-some : (v : ℕ) → map_option signed (some v) ≡ Lines.integer w.bytes → v < 2 ^ 64 → r ≡ record { kind = L.Int; first = v % 2 ^ 32; second = v / 2 ^ 32 } → IsLiteral base t (literal_by 2 w) (std.Some r)
  unfolding literal_by literals nth apply one_field map_option
  int-some v e l g = let b = bits-signed v l in rw (← e) (record { is = unfold value_numbers halves kind_number in rw (g, b); fits = λ k e c q f. unfold LiteralFits ValueFits in ap signed b })

  pub float-some : (v : ℕ) → some v ≡ Lines.float w.bytes → r ≡ record { kind = L.Float; first = v % 2 ^ 32; second = v / 2 ^ 32 } → IsLiteral base t (literal_by 3 w) (std.Some r)
  unfolding literal_by literals nth apply one_field map_option
  float-some v e g = rw (← e) (record { is = unfold value_numbers halves kind_number in rw g; fits = λ k e c q f. unfold LiteralFits ValueFits in tt })

module _ (w : Word) where
  pub int-none : map_option {A = ℕ} signed none ≡ Lines.integer w.bytes → literal_by 2 w ≡ none
  unfolding literal_by literals nth apply one_field map_option
  int-none e = rw (← e)

  pub float-none : none ≡ Lines.float w.bytes → literal_by 3 w ≡ none
  unfolding literal_by literals nth apply one_field map_option
  float-none e = rw (← e)

  pub no-literal : (k : ℕ) → 5 ≤ k → literal_by k w ≡ none
  unfolding literal_by apply
  no-literal k h = rw (nth-none literals k (unfold literals in h))

pub flag-words : keys flags ≡ words_of (bytes "t f ")
unfolding flags keys words_of push bytes
flag-words = refl

module _ (x : Bytes) (es : List (Bor (List ℕ) × Bool)) (e : map (λ x. (x.0.now, x.1)) es ≡ flags) {o : std.Option Bool}
    (h : o ≡ beside es x) where
  flag_is : named flags x ≡ option_of o
  flag_is = sym (rw h (whole (beside es x) ∙ beside-named (λ b. b) x es ∙ ap (λ w. named w x) e))
    where
      whole : (o : std.Option Bool) → option_of o ≡ option_of (option_map (λ b. b) o)
      whole (std.Some b) = refl
      whole std.None = refl

  pub flag-none : o ≡ std.None → map_option bool (named flags x) ≡ none
  unfolding map_option
  flag-none g = rw (flag_is, g)

  pub flag-some : (base : ℕ) (t : Bytes) (b : Bool) (r : Literal) → o ≡ std.Some b → (r.kind ≡ L.Bool) × (r.first ≡ flag b) × (r.second ≡ 0)
      → IsLiteral base t (map_option bool (named flags x)) (std.Some r)
  unfolding map_option
  flag-some base t b r g y = rw (flag_is, g) (record {
    is = unfold value_numbers kind_number in rw (y.0, y.1, y.2);
    fits = λ k e c q f. unfold LiteralFits ValueFits in tt;
  })

module _ (base : ℕ) (t : Bytes) (a n : ℕ) where
  -- a flag by its bytes
  pub flag-field : literal_by 1 (field base t a n) ≡ map_option bool (named flags (take n (drop a t)))
  unfolding literal_by literals nth apply one_field word field
  flag-field = refl

  text-fits : Inside t a n → (k : Text) → base_address k ≡ base → (c q : Bytes) → text_of k c q ≡ t → WordFits c q (field base t a n)
  unfolding WordFits field
  text-fits i k e c q f = rw (field-length t a n i, ← e) (sym (field_at t a n i k c q f))

  pub text-some : (r : Literal) → Inside t a n → (r.kind ≡ L.Text) × (r.first ≡ base + a) × (r.second ≡ n) → IsLiteral base t (literal_by 4 (field base t a n)) (std.Some r)
  unfolding literal_by literals nth apply one_field map_option
  text-some r i g = record {
    is = unfold value_numbers span field kind_number in rw (field-length t a n i, g.0, g.1, g.2);
    fits = λ k e c q f. unfold LiteralFits ValueFits in text-fits i k e c q f;
  }

-- BY THE LINE
pub literal-words : keys literals ≡ words_of (bytes "null bool int float text ")
unfolding literals keys words_of push bytes
literal-words = refl

-- r is the line at p
module _ (x : Text) (t : Bytes) (p l c n : ℕ) (r : Line) (f : Fields t p r) where
  module _ (k : ℕ) (words : Bytes) (e : keys literals ≡ words_of words) (h : k ≡ find (words_of words) (take (nth_field r.fields 0).length (drop (nth_field r.fields 0).start t))) where
    literal-is : one_of literals (line_here (place x t p l c n)) ≡ apply (nth literals k) (rest (place x t p l c n))
    literal-is = one-of x t p l c n r f literals words k e h

    pub literal-null : k ≡ 0 → r.count ≡ 1 → one_of literals (line_here (place x t p l c n)) ≡ some null
    unfolding literals nth apply no_field map_option
    literal-null z m = literal-is ∙ rw (z, rest-none x t p l c n r f m)

    pub literal-null-not : k ≡ 0 → (r.count ≢ 1) → one_of literals (line_here (place x t p l c n)) ≡ none
    unfolding literals nth apply map_option
    literal-null-not z m = literal-is ∙ rw (z, no-field _ (rest-other x t p l c n r f 0 (omega arith) m))

    pub literal-field : r.count ≡ 2 → one_of literals (line_here (place x t p l c n)) ≡ literal_by k (field (base_address x) t (nth_field r.fields 1).start (nth_field r.fields 1).length)
    unfolding literal_by field_of
    literal-field m = literal-is ∙ ap (apply (nth literals k)) (rest-one x t p l c n r f m)

    pub literal-not : (k ≢ 0) → (r.count ≢ 2) → one_of literals (line_here (place x t p l c n)) ≡ none
    literal-not z m = literal-is ∙ go k z _ (rest-other x t p l c n r f 1 (omega arith) m)
      where
        go : (k : ℕ) → (k ≢ 0) → (ws : List Word) → (length ws ≢ 1) → apply (nth literals k) ws ≡ none
        go zero z ws o = absurd (z refl)
        go (suc zero) z ws o = unfold literals nth apply in one_field_lem _ ws o
        go (suc (suc zero)) z ws o = unfold literals nth apply in one_field_lem _ ws o
        go (suc (suc (suc zero))) z ws o = unfold literals nth apply in one_field_lem _ ws o
        go (suc (suc (suc (suc zero)))) z ws o = unfold literals nth apply in one_field_lem _ ws o
        go (suc (suc (suc (suc (suc k))))) z ws o = unfold literals nth apply in refl
