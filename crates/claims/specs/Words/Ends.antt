-- Every word of an accepted plan, an empty text too, ends within the addresses of the two texts.
use Rattle.std.specs.Prelude.{ℕ, ◌+◌, ◌≤◌, ◌≡◌, length}
use Rattle.std.proofs.Common.{arith}
use Rattle.rules.specs.Refusals.{ok}
use Rattle.rules.specs.Limits.{most_bytes}
use Rattle.rules.specs.Lists.{Bytes}
use Rattle.rules.specs.Lines.{Word, empty}
use Rattle.rules.specs.Schema.{Value, Catalog}
use Rattle.rules.specs.Reader.{start, base_address}
use Rattle.rules.specs.ReadCatalog.{read_catalog}
use Rattle.rules.specs.Entry.{plan_of}
use Rattle.claims.specs.Answers.{Ensures, All}
use Rattle.claims.specs.Values.Outcomes.{Kept}
use Rattle.claims.specs.Values.Values.{Fits, fits_kept}
use Rattle.claims.specs.Reading.Lines.{Running, running}
use Rattle.claims.specs.Building.Has.{PlanHas}
use Rattle.claims.specs.Building.Statements.{planned}
use Rattle.claims.specs.Words.Lists.{itself, value_words, WordedValue, plan_words}
use Rattle.claims.specs.Words.PlacedPlan.{planned-words}

-- the end of the statement's addresses, which stand behind the catalog's
abbrev pub end_address : ℕ
end_address = 131072

-- a word ends by there
unfoldable pub Ends : Word → Type 0
Ends w = w.start + length w.bytes ≤ end_address

-- every field ends by an address where what is left of its text does
pub ending-by : (m : ℕ) → Running (λ o xs. o + length xs ≤ m) (λ w. w.start + length w.bytes ≤ m)
unfolding empty
ending-by m =
    record { rest = λ o x xs h. omega arith; empties = λ o xs h. omega arith; longer = λ o x xs w h e g. omega arith }

ending : Running (λ o xs. o + length xs ≤ end_address) Ends
unfolding Ends
ending = ending-by end_address

-- a value within 64 bits, whose word has a property
abbrev pub FitsWorded : (Word → Type 0) → Value → Type 0
FitsWorded P v = Fits v × WordedValue itself P v

-- a value within 64 bits, whose word ends by there
abbrev pub EndsValue : Value → Type 0
EndsValue v = FitsWorded Ends v

-- operators keep it
pub fits-worded-kept : (P : Word → Type 0) → Kept (FitsWorded P)
unfolding Fits value_words All
fits-worded-kept P = record {
  nulls = (tt, tt);
  truths = λ a. (tt, tt);
  within = λ z h. (h, tt);
  remainders = λ m n h. (fits_kept.remainders m n h.0, tt);
  floats = λ b h. (h, tt);
}

-- the values and names of an accepted plan
pub plan-ends : (c q : Bytes) → length c ≤ most_bytes → length q ≤ most_bytes → (ts : Catalog) → read_catalog c ≡ ok ts
    → Ensures (plan_of c q) (PlanHas EndsValue Ends ts)
unfolding Fits value_words All start base_address
plan-ends c q l m =
    let s = running ending (fits-worded-kept Ends) (λ w h. (tt, (h, tt))) (λ w h i. h) in planned s s c q (omega arith) (omega arith)

-- its words
pub words-end : (c q : Bytes) → length c ≤ most_bytes → length q ≤ most_bytes
    → Ensures (plan_of c q) (λ p. All Ends (plan_words p))
words-end c q l m = planned-words EndsValue Ends itself (λ v h. h.1) c q (plan-ends c q l m)
