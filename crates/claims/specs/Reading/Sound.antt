-- Readers of values and names with a property, where the fields of every line give it.
use Rattle.std.specs.Prelude.{ℕ, ◌≤◌, ◌≡◌, Bool, ◌&&◌, List, length}
use Rattle.std.proofs.Math.Path.{refl}
use Rattle.std.proofs.Math.Bool.{true, false}
use Rattle.std.proofs.Math.Option.{Option, none, some}
use Rattle.std.proofs.Math.Dec.{leb, leb→le}
use Rattle.rules.specs.Limits.{most_name_bytes}
use Rattle.rules.specs.Lists.{Bytes}
use Rattle.rules.specs.Lines.{Word}
use Rattle.rules.specs.Schema.{Value, text}
use Rattle.rules.specs.Reader.{Place, Read, give, ◌>>=◌, ◌>>◌, line_here, next, rest, line_number, one_of, name, record', many, turns}
use Rattle.rules.specs.ReadExpression.{counted}
use Rattle.rules.specs.ReadStatement.{tabled}
use Rattle.claims.specs.Answers.{Any, All, Given, weaken, all-every}
use Rattle.claims.specs.Lists.{given-some}
use Rattle.claims.specs.Values.Outcomes.{Kept}
use Rattle.claims.specs.Values.Values.{Fits, fits_kept}
use Rattle.claims.specs.Reading.Rules.{Reads, reads_then, reads-next, reads-give, reads-record, reads-run}
use Rattle.claims.specs.Reading.Fields.{Makes, field-rest, makes-one_of}

-- 1 to 64 bytes
unfoldable pub IsName : Word → Type 0
IsName w = (1 ≤ length w.bytes) × (length w.bytes ≤ most_name_bytes)

-- The fields of the line at a place with I have F, and reading goes on to such places; a name that is such a field has N, and
-- a text that is one has Q, as operators keep it.
pub record Sound (F : Word → Type 0) (Q : Value → Type 0) (N : Word → Type 0) (I : Place → Type 0) : Type 0 where
  pub kept : Kept Q
  pub texts : (w : Word) → F w → Q (text w)
  pub names : (w : Word) → F w → IsName w → N w
  pub fields : (p : Place) → I p → All F (line_here p)
  pub next : (p : Place) → I p → I (next p)
  pub counted : (p : Place) → I p → I (counted p)
  pub tabled : (p : Place) → I p → I (tabled p)

-- a reader that gives values with Q, and leads from places with I to such
abbrev pub Gives : {A : Type 0} → (Place → Type 0) → Read A → (A → Type 0) → Type 0
Gives I m Q = Reads I m (λ p a q. Q a × I q)

module _ {F : Word → Type 0} {Q : Value → Type 0} {N : Word → Type 0} {I : Place → Type 0} (s : Sound F Q N I) where
  -- whatever the names
  pub any-names : Sound F Q Any I
  any-names = record {
    kept = s.kept;
    texts = s.texts;
    names = λ w h i. tt;
    fields = s.fields;
    next = s.next;
    counted = s.counted;
    tabled = s.tabled;
  }

  -- a field that is a name
  pub name-has : (w : Word) → F w → Given N (name w)
  unfolding name IsName Given
  name-has w h = go (leb 1 (length w.bytes)) (leb (length w.bytes) most_name_bytes) refl refl
    where
      go : (a b : Bool) → leb 1 (length w.bytes) ≡ a → leb (length w.bytes) most_name_bytes ≡ b → Given N (elim (a && b) [ true ↦ some w | false ↦ none ])
      go true true d e = s.names w h (leb→le 1 (length w.bytes) (rw d tt), leb→le (length w.bytes) most_name_bytes (rw e tt))
      go true false d e = tt
      go false true d e = tt
      go false false d e = tt

  pub gives_then : {A B : Type 0} (m : Read A) (f : A → Read B) (R : A → Type 0) (T : B → Type 0) → Gives I m R → ((a : A) → R a → Gives I (f a) T) → Gives I (m >>= f) T
  gives_then m f R T h k p i = reads_then m f p _ _ (h p i) λ a q g. k a g.0 q g.1

  pub gives-next : {A B : Type 0} (m : Read A) (n : Read B) (R : A → Type 0) (T : B → Type 0) → Gives I m R → ((a : A) → R a → Gives I n T) → Gives I (m >> n) T
  gives-next m n R T h k p i = reads-next m n p _ _ (h p i) λ a q g. k a g.0 q g.1

  pub gives-give : {A : Type 0} (a : A) (R : A → Type 0) → R a → Gives I (give a) R
  gives-give a R h p i = reads-give a p _ (h, i)

  pub gives_line : Gives I line_number Any
  unfolding line_number
  gives_line p i = (tt, i)

  -- RECORDS
  -- the record here, by a table of keywords
  pub one_of-given : {A : Type 0} (R : A → Type 0) (es : List (Bytes × (List Word → Option A))) → All (λ e. Makes F e.1 R) es
      → (p : Place) → I p → Given R (one_of es (line_here p))
  one_of-given R es h p i = makes-one_of F R es h (line_here p) (s.fields p i)

  pub one_of-has : {A : Type 0} (R : A → Type 0) (es : List (Bytes × (List Word → Option A))) → All (λ e. Makes F e.1 R) es
      → (p : Place) → I p → (a : A) → one_of es (line_here p) ≡ some a → R a
  one_of-has R es h p i = given-some R (one_of es (line_here p)) (one_of-given R es h p i)

  pub rest_has : {A : Type 0} (R : A → Type 0) (f : List Word → Option A) → Makes F f R → (p : Place) → I p → (a : A) → f (rest p) ≡ some a → R a
  unfolding rest
  rest_has R f h p i = given-some R (f (rest p)) (h (rest p) (field-rest F (line_here p) (s.fields p i)))

  -- a record of which nothing is kept
  pub gives-record : {A : Type 0} (k : Bytes) (f : List Word → Option A) → Gives I (record' k f) Any
  gives-record k f p i = reads-record k f p _ λ a e. (tt, s.next p i)

  -- the records of a kind, each with what follows it, and no more than the most
  pub gives-few : {H A : Type 0} (k : Bytes) (f : List Word → Option H) (most : ℕ) (body : ℕ → H → Read A) (R : H → Type 0) (T : A → Type 0)
      → Makes F f R → ((l : ℕ) (h : H) → R h → Gives I (body l h) T) → Gives I (turns λ n. many k f most body n 0) (λ as'. All T as' × (length as' ≤ most))
  unfolding All
  gives-few k f most body R T m h p i = weaken (turns (λ n. many k f most body n 0) p) _ _ (λ r g. ((g.0.0, g.1), g.0.1))
      (reads-run k f most body I (λ p a q. T a) (λ p as' q. All T as' × I q)
      (λ p g i e. h p.line g (rest_has R f m p i g e) (next p) (s.next p i)) (λ p i. (tt, i)) (λ p q r a as' e g. ((e, g.0), g.1)) p i)

  pub gives-many : {H A : Type 0} (k : Bytes) (f : List Word → Option H) (most : ℕ) (body : ℕ → H → Read A) (R : H → Type 0) (T : A → Type 0)
      → Makes F f R → ((l : ℕ) (h : H) → R h → Gives I (body l h) T) → Gives I (turns λ n. many k f most body n 0) (All T)
  gives-many k f most body R T m h p i = weaken (turns (λ n. many k f most body n 0) p) _ _ (λ r g. (g.0.0, g.1)) (gives-few k f most body R T m h p i)

-- any place: its literals fit 64 bits, and its names have 1 to 64 bytes
pub any-line : Sound Any Fits IsName Any
unfolding Fits
any-line = record {
  kept = fits_kept;
  texts = λ w h. tt;
  names = λ w h i. i;
  fields = λ p h. all-every Any (λ w. tt) (line_here p);
  next = λ p h. tt;
  counted = λ p h. tt;
  tabled = λ p h. tt;
}
