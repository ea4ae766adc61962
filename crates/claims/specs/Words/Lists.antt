-- The words of a plan: its names, and for each text what t says that it counts for.
use Rattle.std.specs.Prelude.{List, [], ◌∷◌, ◌++◌}
use Rattle.rules.specs.Lists.{given}
use Rattle.rules.specs.Lines.{Word}
use Rattle.rules.specs.Schema.{Value, null, bool, int, float, text}
use Rattle.rules.specs.Plan.{Built, Node, Made, Plan}
use Rattle.rules.specs.Plan as P
use Rattle.rules.specs.Cells.{plan_expressions}
use Rattle.claims.specs.Answers.{All, all_append, all_left, all_right}

-- the words of all entries
unfoldable pub words_of : {A : Type 0} → (A → List Word) → List A → List Word
words_of f [] = []
words_of f (a ∷ as') = f a ++ words_of f as'

-- all of them have a property where those of each entry do
pub all_words : {A : Type 0} (Q : Word → Type 0) (f : A → List Word) (as' : List A) → All (λ a. All Q (f a)) as'
    → All Q (words_of f as')
unfolding words_of All
all_words Q f [] h = tt
all_words Q f (a ∷ as') h = all_append Q (f a) (words_of f as') h.0 (all_words Q f as' h.1)

-- those of each entry have it where all do
pub words-all : {A : Type 0} (Q : Word → Type 0) (f : A → List Word) (as' : List A) → All Q (words_of f as')
    → All (λ a. All Q (f a)) as'
unfolding words_of All
words-all Q f [] h = tt
words-all Q f (a ∷ as') h =
    (all_left Q (f a) (words_of f as') h, words-all Q f as' (all_right Q (f a) (words_of f as') h))

-- the names in a node: of its scanned tables, and the aliases of those and of its items
unfoldable pub node_names : {E : Type 0} → Node E → List Word
node_names (P.scan t a x) = t.name ∷ given a
node_names (P.values rs) = []
node_names (P.join a b x o) = node_names a ++ node_names b
node_names (P.filter n x) = node_names n
node_names (P.aggregate n gs fs) = node_names n
node_names (P.project n xs) = node_names n ++ words_of (λ x. given x.1) xs
node_names (P.order n xs) = node_names n
node_names (P.offset n k) = node_names n
node_names (P.limit n k) = node_names n
node_names (P.remap n ts) = node_names n

-- those of a plan's node
unfoldable pub plan_node_names : {E : Type 0} → Plan E → List Word
plan_node_names (P.select n) = node_names n
plan_node_names (P.delete t n) = node_names n
plan_node_names (P.insert t m n) = node_names n
plan_node_names (P.update t n xs) = node_names n
plan_node_names (P.create n k cs) = []
plan_node_names (P.drop n y) = []

-- what a text counts for
abbrev pub itself : Word → List Word
itself w = w ∷ []

abbrev pub nothing : Word → List Word
nothing w = []

module _ (t : Word → List Word) where
  unfoldable pub value_words : Value → List Word
  value_words null = []
  value_words (bool b) = []
  value_words (int n) = []
  value_words (float b) = []
  value_words (text w) = t w

  unfoldable pub built_words : Built → List Word
  built_words (P.constant v) = value_words v
  built_words (P.column i) = []
  built_words (P.unary o a) = built_words a
  built_words (P.binary o a b) = built_words a ++ built_words b
  built_words (P.is a v) = built_words a ++ value_words v

  -- a created column's name, its reference and its default's
  unfoldable pub made_words : Made → List Word
  made_words c = c.name ∷ (given c.reference ++ words_of value_words (given c.default))

  -- those of the table that a statement names
  unfoldable pub table_words : {E : Type 0} → Plan E → List Word
  table_words (P.select n) = []
  table_words (P.delete t n) = t.name ∷ []
  table_words (P.insert t m n) = t.name ∷ []
  table_words (P.update t n xs) = t.name ∷ []
  table_words (P.create n k cs) = n ∷ words_of made_words cs
  table_words (P.drop n y) = n ∷ []

  -- those of a plan: its node's names, its expressions' words and those of its own table
  unfoldable pub plan_words_by : Plan Built → List Word
  plan_words_by p = plan_node_names p ++ (words_of built_words (plan_expressions p) ++ table_words p)

-- the words of a value have a property
abbrev pub WordedValue : (Word → List Word) → (Word → Type 0) → Value → Type 0
WordedValue t Q v = All Q (value_words t v)

-- all words, names and texts
abbrev pub plan_words : Plan Built → List Word
plan_words p = plan_words_by itself p

-- the names: all words but the texts
abbrev pub plan_names : Plan Built → List Word
plan_names p = plan_words_by nothing p
