-- Every word of an accepted plan stands in its text, and every name of it has 1 to 64 bytes.
use Rattle.std.specs.Prelude.{◌≤◌, ◌≡◌, List, length}
use Rattle.rules.specs.Refusals.{ok}
use Rattle.rules.specs.Limits.{most_bytes}
use Rattle.rules.specs.Lists.{Bytes}
use Rattle.rules.specs.Lines.{Word}
use Rattle.rules.specs.Schema.{Value, null, bool, int, float, text, Catalog}
use Rattle.rules.specs.ReadCatalog.{read_catalog}
use Rattle.rules.specs.Cells.{plan_expressions}
use Rattle.rules.specs.Entry.{plan_of}
use Rattle.claims.specs.Answers.{Ensures, ensures, ensured, weaken, All, all-weaken}
use Rattle.claims.specs.Lists.{all_none}
use Rattle.claims.specs.Reading.Sound.{IsName}
use Rattle.claims.specs.Building.Has.{PlanHas}
use Rattle.claims.specs.Area.Accepted.{catalog-read}
use Rattle.claims.specs.Area.ProperPlan.{plan-proper}
use Rattle.claims.specs.Values.Values.{Fits}
use Rattle.claims.specs.Words.Places.{Placed}
use Rattle.claims.specs.Words.Lists.{itself, nothing, plan_node_names, value_words, built_words, plan_words_by}
use Rattle.claims.specs.Words.Lists.{plan_words, plan_names}
use Rattle.claims.specs.Words.Parts.{plan-words, words-node_names, words-expressions}
use Rattle.claims.specs.Words.Placed.{words-kept, placed-planned, PlacedValue}

-- from what a plan's values and names have to its words
pub planned-words : (Q : Value → Type 0) (N : Word → Type 0) (t : Word → List Word)
    → ((v : Value) → Q v → All N (value_words t v)) → (c q : Bytes)
    → ((ts : Catalog) → read_catalog c ≡ ok ts → Ensures (plan_of c q) (PlanHas Q N ts))
    → Ensures (plan_of c q) (λ p. All N (plan_words_by t p))
planned-words Q N t k c q h = ensures (plan_of c q) _ λ p e.
    let ts = catalog-read c q p e in
    plan-words Q N ts.0 t k p (ensured (plan_of c q) _ (h ts.0 ts.1) p e)

-- the words of an accepted plan stand in the texts
pub plan-placed : (c q : Bytes) → length c ≤ most_bytes → Ensures (plan_of c q) (λ p. All (Placed c q) (plan_words p))
unfolding value_words All
plan-placed c q l =
    planned-words (PlacedValue c q) (Placed c q) itself (λ v h. h) c q
    (placed-planned c q _ _ (words-kept itself (Placed c q)) (λ w h. (h, tt)) (λ w h i. h) l)

no_names : (v : Value) → Fits v → All IsName (value_words nothing v)
unfolding value_words
no_names null h = all_none IsName
no_names (bool b) h = all_none IsName
no_names (int n) h = all_none IsName
no_names (float b) h = all_none IsName
no_names (text w) h = all_none IsName

-- its names have 1 to 64 bytes
pub plan-names : (c q : Bytes) → Ensures (plan_of c q) (λ p. All IsName (plan_names p))
plan-names c q = planned-words Fits IsName nothing no_names c q (plan-proper c q)

-- a word of at least one byte
unfoldable pub NotEmpty : Word → Type 0
NotEmpty w = 1 ≤ length w.bytes

-- the names of an accepted plan's node stand in the texts
pub node_names-placed : (c q : Bytes) → length c ≤ most_bytes
    → Ensures (plan_of c q) (λ p. All (Placed c q) (plan_node_names p))
node_names-placed c q l = weaken (plan_of c q) _ _ (words-node_names itself (Placed c q)) (plan-placed c q l)

-- and none of them is empty
pub node_names-not_empty : (c q : Bytes) → Ensures (plan_of c q) (λ p. All NotEmpty (plan_node_names p))
unfolding IsName NotEmpty
node_names-not_empty c q = weaken (plan_of c q) _ _
    (λ p h. all-weaken IsName NotEmpty (λ w g. g.0) (plan_node_names p) (words-node_names nothing IsName p h))
    (plan-names c q)

-- the words of its expressions stand in the texts
pub expressions-placed : (c q : Bytes) → length c ≤ most_bytes
    → Ensures (plan_of c q) (λ p. All (λ x. All (Placed c q) (built_words itself x)) (plan_expressions p))
expressions-placed c q l = weaken (plan_of c q) _ _ (words-expressions itself (Placed c q)) (plan-placed c q l)
