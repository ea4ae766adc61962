-- The names and values that the fields of a record say have their properties.
use mathlib.Core.List.{List, [], ◌∷◌}
use Rattle.std.proofs.Math.Option.{Option, some}
use Rattle.rules.specs.Lists.{Bytes}
use Rattle.rules.specs.Lines.{Word}
use Rattle.rules.specs.Lines as Lines
use Rattle.rules.specs.Schema.{Value}
use Rattle.rules.specs.Reader.{Place, name, word, count_field, no_field, one_field, both, two_fields, optional_name, name_alias, literals}
use Rattle.rules.specs.ReadColumn.{datatypes, nullables, column_fields, flagged, nullness, new_column_fields}
use Rattle.rules.specs.ReadExpression.{Head, star_head, is_head, column_head, value_head, call_head, unary_head, binary_head, operators, call_fields, value_heads, heads}
use Rattle.rules.specs.ReadExpression as E
use Rattle.claims.specs.Answers.{Any, All, Given}
use Rattle.claims.specs.Lists.{given-every, given-map, given-mapped}
use Rattle.claims.specs.Reading.Fields.{Makes, given_both, given-then, given-past, given-named, makes_one, makes_two}
use Rattle.claims.specs.Reading.Literals.{literals-make}
use Rattle.claims.specs.Reading.Sound.{Sound, name-has}

-- the literal of an expression's record has Q, and its names N
unfoldable pub HeadHas : (Value → Type 0) → (Word → Type 0) → Head → Type 0
HeadHas Q N star_head = Unit {0}
HeadHas Q N is_head = Unit {0}
HeadHas Q N (column_head q n) = Given N q × N n
HeadHas Q N (value_head v) = Q v
HeadHas Q N (call_head n k) = N n
HeadHas Q N (unary_head o) = Unit {0}
HeadHas Q N (binary_head o) = Unit {0}

module _ {F : Word → Type 0} {Q : Value → Type 0} {N : Word → Type 0} {I : Place → Type 0} (s : Sound F Q N I) where
  -- NAMES
  pub makes-name : Makes F (one_field name) N
  makes-name = makes_one F name N (name-has s)

  pub makes-optional_name : Makes F optional_name (Given N)
  unfolding optional_name All Given
  makes-optional_name [] h = tt
  makes-optional_name (w ∷ []) h = given-map some N (Given N) (λ v g. g) (name w) (name-has s w h.0)
  makes-optional_name (w ∷ (v ∷ r)) h = tt

  pub makes-name_alias : Makes F name_alias (λ r. N r.0 × Given N r.1)
  unfolding name_alias All Given
  makes-name_alias [] h = tt
  makes-name_alias (w ∷ r) h = given_both N (Given N) (name w) (optional_name r) (name-has s w h.0) (makes-optional_name r h.1)

  -- a name and another field
  pub makes-name_and : {A : Type 0} (f : Word → Option A) → Makes F (two_fields name f) (λ r. N r.0 × Any r.1)
  makes-name_and f = makes_two F name f N Any (name-has s) λ w g. given-every Any (λ a. tt) (f w)

  -- EXPRESSIONS
  pub makes-literals : All (λ e. Makes F e.1 Q) literals
  makes-literals = literals-make F Q s.kept s.texts

  abbrev Headed : Head → Type 0
  Headed h = HeadHas Q N h

  makes-operators : Makes F (one_field (word operators)) Headed
  unfolding word operators All HeadHas
  makes-operators = makes_one F (word operators) Headed λ w h. given-named Headed operators w.bytes
      (tt, (tt, (tt, (tt, (tt, (tt, (tt, (tt, (tt, (tt, (tt, (tt, (tt, (tt, (tt, (tt, (tt, (tt, (tt, (tt, tt))))))))))))))))))))

  makes-column : Makes F E.column_fields Headed
  unfolding E.column_fields All Given HeadHas
  makes-column [] h = tt
  makes-column (w ∷ []) h = given-map _ N Headed (λ n g. (tt, g)) (name w) (name-has s w h.0)
  makes-column (w ∷ (v ∷ [])) h = given-map _ _ Headed (λ r g. g) (both (name w) (name v)) (given_both N N (name w) (name v) (name-has s w h.0) (name-has s v h.1.0))
  makes-column (w ∷ (v ∷ (u ∷ r))) h = tt

  makes-call : Makes F call_fields Headed
  unfolding call_fields HeadHas
  makes-call r h = given-map _ _ Headed (λ q g. g.0) (two_fields name count_field r) (makes-name_and count_field r h)

  makes-values : (es : List (Bytes × (List Word → Option Value))) → All (λ e. Makes F e.1 Q) es → All (λ e. Makes F e.1 Headed) (value_heads es)
  unfolding value_heads All HeadHas
  makes-values [] h = tt
  makes-values (e ∷ es) h = (λ r g. given-map value_head Q Headed (λ v k. k) (e.1 r) (h.0 r g), makes-values es h.1)

  pub makes-heads : All (λ e. Makes F e.1 (HeadHas Q N)) heads
  unfolding heads All HeadHas
  makes-heads = (makes-operators, (makes-column, (makes-call, (λ r h. given-mapped _ Headed (λ u. tt) (no_field r), makes-values literals makes-literals))))

  -- COLUMNS
  -- of the catalog
  pub makes-column_fields : Makes F column_fields (λ r. N r.0)
  unfolding column_fields All Given
  makes-column_fields [] h = tt
  makes-column_fields (n ∷ []) h = tt
  makes-column_fields (n ∷ (u ∷ [])) h = tt
  makes-column_fields (n ∷ (u ∷ (v ∷ []))) h = given-then N _ (name n) _ (name-has s n h.0) λ w g. given-past _ (word datatypes u) _ λ d. given-past _ (word nullables v) _ λ b. g
  makes-column_fields (n ∷ (u ∷ (v ∷ (x ∷ r)))) h = tt

  -- and of CREATE
  pub makes-new_column : Makes F new_column_fields (λ c. N c.name × Given N c.reference)
  unfolding new_column_fields All Given
  makes-new_column [] h = tt
  makes-new_column (n ∷ []) h = tt
  makes-new_column (n ∷ (u ∷ [])) h = tt
  makes-new_column (n ∷ (u ∷ (k ∷ []))) h = tt
  makes-new_column (n ∷ (u ∷ (k ∷ (v ∷ [])))) h = tt
  makes-new_column (n ∷ (u ∷ (k ∷ (v ∷ (q ∷ []))))) h = tt
  makes-new_column (n ∷ (u ∷ (k ∷ (v ∷ (q ∷ (i ∷ [])))))) h = tt
  makes-new_column (n ∷ (u ∷ (k ∷ (v ∷ (q ∷ (i ∷ (d ∷ r))))))) h =
      given-then N _ (name n) _ (name-has s n h.0) λ w g. given-past _ (word datatypes u) _ λ a. given-past _ (flagged (Lines.bytes "pk") k) _ λ b. given-past _ (word nullness v) _ λ c.
      given-past _ (flagged (Lines.bytes "unique") q) _ λ e. given-past _ (flagged (Lines.bytes "index") i) _ λ f. given-past _ (flagged (Lines.bytes "default") d) _ λ j.
      given-then _ _ (optional_name r) _ (makes-optional_name r h.1.1.1.1.1.1.1) λ x m. (g, m)
