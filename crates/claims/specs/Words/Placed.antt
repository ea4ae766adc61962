-- Every word of an accepted catalog and of an accepted statement stands in its text, and every name has 1 to 64 bytes.
use Rattle.std.specs.Prelude.{ℕ, ◌-◌, ◌≤◌, ◌≡◌, refl, List, length}
use Rattle.std.proofs.Common.{arith}
use Rattle.rules.specs.Refusals.{ok}
use Rattle.rules.specs.Limits.{most_bytes}
use Rattle.rules.specs.Lists.{Bytes}
use Rattle.rules.specs.Lines.{Word}
use Rattle.rules.specs.Schema.{Value, text, Catalog}
use Rattle.rules.specs.Reader.{start, base_address}
use Rattle.rules.specs.ReadStatement.{read_statement}
use Rattle.rules.specs.ReadCatalog.{read_catalog}
use Rattle.rules.specs.Entry.{plan_of}
use Rattle.claims.specs.Answers.{Ensures, All}
use Rattle.claims.specs.Values.Outcomes.{Kept}
use Rattle.claims.specs.Values.Values.{Fits}
use Rattle.claims.specs.Reading.Has.{ExprHas, TableHas, StatementHas}
use Rattle.claims.specs.Reading.Sound.{IsName, Sound, any-line}
use Rattle.claims.specs.Reading.Lines.{running}
use Rattle.claims.specs.Reading.Expression.{gives-expression}
use Rattle.claims.specs.Reading.Statement.{statement-has}
use Rattle.claims.specs.Reading.Catalog.{catalog-has}
use Rattle.claims.specs.Building.Has.{PlanHas}
use Rattle.claims.specs.Building.Statements.{planned}
use Rattle.claims.specs.Words.Places.{Placed}
use Rattle.claims.specs.Words.Lines.{Stands, Left, stands, placed-catalog, placed-statement}
use Rattle.claims.specs.Words.Lists.{itself, value_words, WordedValue}

-- operators make no text
pub words-kept : (t : Word → List Word) (P : Word → Type 0) → Kept (WordedValue t P)
unfolding value_words All
words-kept t P =
    record { nulls = tt; truths = λ a. tt; within = λ z h. tt; remainders = λ m n h. tt; floats = λ b h. tt }

-- at the start all is left
pub whole-left : (t : Bytes) (b : ℕ) → Left t b b t
unfolding Left
whole-left t b = let e : b - b ≡ 0 = omega arith in (omega arith, rw e refl)

-- READING TWO TEXTS, the catalog within its length
module _ (c q : Bytes) (Q : Value → Type 0) (N : Word → Type 0) (kept : Kept Q)
    (texts : (w : Word) → Placed c q w → Q (text w)) (names : (w : Word) → Placed c q w → IsName w → N w) where
  -- a text whose words are placed
  text-sound : (t : Bytes) (b : ℕ) → ((w : Word) → Stands t b w → Placed c q w)
      → Sound (Stands t b) Q N (λ p. Left t b p.address p.left)
  text-sound t b k = running (stands t b) kept (λ w h. texts w (k w h)) λ w h i. names w (k w h) i

  catalog-sound : length c ≤ most_bytes → Sound (Stands c 0) Q N (λ p. Left c 0 p.address p.left)
  catalog-sound l = text-sound c 0 (placed-catalog c q l)

  statement-sound : Sound (Stands q most_bytes) Q N (λ p. Left q most_bytes p.address p.left)
  statement-sound = text-sound q most_bytes (placed-statement c q)

  -- and their plan
  pub placed-planned : length c ≤ most_bytes → (ts : Catalog) → read_catalog c ≡ ok ts
      → Ensures (plan_of c q) (PlanHas Q N ts)
  unfolding start base_address
  placed-planned l = planned (catalog-sound l) statement-sound c q (whole-left c 0) (whole-left q most_bytes)

-- WORDS
-- a text at its address
abbrev pub PlacedValue : Bytes → Bytes → Value → Type 0
PlacedValue c q v = WordedValue itself (Placed c q) v

-- the words of an accepted catalog stand in it
pub catalog-placed : (c q : Bytes) → length c ≤ most_bytes
    → Ensures (read_catalog c) (All (TableHas (PlacedValue c q) (Placed c q)))
unfolding value_words All start base_address
catalog-placed c q l =
    catalog-has (catalog-sound c q _ (Placed c q) (words-kept itself (Placed c q)) (λ w h. (h, tt)) (λ w h i. h) l) c
    (whole-left c 0)

-- those of an accepted statement stand in it
pub statement-placed : (c q : Bytes)
    → Ensures (read_statement q) (StatementHas (ExprHas (PlacedValue c q) (Placed c q)) (Placed c q))
unfolding value_words All start base_address
statement-placed c q =
    let s = statement-sound c q (PlacedValue c q) (Placed c q) (words-kept itself (Placed c q)) (λ w h. (h, tt))
    (λ w h i. h) in
    statement-has s _ (gives-expression s) q (whole-left q most_bytes)

-- their literals fit 64 bits, and their names have 1 to 64 bytes
pub catalog-names : (c : Bytes) → Ensures (read_catalog c) (All (TableHas Fits IsName))
catalog-names c = catalog-has any-line c tt

pub statement-names : (q : Bytes) → Ensures (read_statement q) (StatementHas (ExprHas Fits IsName) IsName)
statement-names q = statement-has any-line _ (gives-expression any-line) q tt
