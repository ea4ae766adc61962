-- The labels of items over a scope, by their numbers.
use Rattle.std.specs.Prelude.{ℕ, zero, suc, ◌≤◌, ◌<◌, ◌≡◌, Bool, true, false, eqb, ltb, take}
use Rattle.std.specs.Prelude as std
use Rattle.std.proofs.Common.{arith, sym, ap, ◌∙◌, ltb-true, ltb-false, eqb-true}
use Rattle.std.proofs.Math.Path.{refl}
use mathlib.Core.List.{List, [], ◌∷◌, map}
use Rattle.std.proofs.Math.Option.{Option, none, some}
use Rattle.std.proofs.Math.ListN.{length}
use Rattle.std.proofs.lemmas.Bool.{eqb-false}
use Rattle.rules.specs.Limits.{most_bytes}
use Rattle.rules.specs.Lists.{Bytes}
use Rattle.rules.specs.Lines.{Word}
use Rattle.rules.specs.Places.{bytes_at, word_at}
use Rattle.rules.specs.Area.{span, option_span}
use Rattle.rules.specs.Ast.{Item}
use Rattle.rules.specs.Scope.{item_label}
use Rattle.claims.specs.Answers.{All, Given}
use Rattle.text.specs.Places.{bytes-catalog, bytes-statement}
use Rattle.text.specs.declared.places.Place.{Place}
use Rattle.ast.specs.Table.{tree_at}
use Rattle.ast.specs.Names.{option_name}
use Rattle.scope.specs.Labels.{slot_of, slot-packed, Fits, label_at, columns_of}
use Rattle.scope.specs.Slots.{Below, none, more}
use Rattle.scope.specs.Scopes.{labels_of, table_numbers}
use Rattle.scope.specs.declared.Scope.{Scope}
use Rattle.scope.specs.LabelOf.{passed-label, passed-slot, item-alias}
use Rattle.build_expression.specs.Builds.{scope_at}
use Rattle.build_projection.specs.Stars.{starred_at}
use Rattle.build_projection.specs.Items.{entry_item, item_of}
use Rattle.build_projection.specs.Aliases.{row_of, alias_address, alias_length, item-tree, alias-span}
use Rattle.build_projection.specs.Labels.{label_number, number_passed, number-alias}
use Rattle.build_projection.specs.declared.items.Item as listed
use Rattle.build_projection.specs.declared.items.Item.TheVariants as I

-- an alias that a label has room for: every name of a statement that was read is one
pub record AliasFits (w : Word) : Type 0 where
  pub fits : Fits w
  pub least : 0 < length w.bytes

abbrev pub AliasesFit : List Item → Type 0
AliasesFit is' = All (λ (i : Item). Given AliasFits i.alias) is'

-- the labels of items over a scope
abbrev pub item_labels : Bytes → Bytes → List ℕ → List ℕ → Scope → List listed.Item → List ℕ
item_labels c q t parts s items =
    map (label_number c q t parts (labels_of s) (take s.width s.matches) (table_numbers s)) items

-- ALIASES
take_again : (n : ℕ) (l : Bytes) → take (length (take n l)) l ≡ take n l
take_again zero l = refl
take_again (suc n) [] = refl
take_again (suc n) (x ∷ l) = ap (λ r. x ∷ r) (take_again n l)

-- as many bytes as there are
bytes-again : (c q : Bytes) (a n : ℕ) → bytes_at c q a (length (bytes_at c q a n)) ≡ bytes_at c q a n
bytes-again c q a n = go (ltb a most_bytes) refl
  where
    go : (b : Bool) → ltb a most_bytes ≡ b → bytes_at c q a (length (bytes_at c q a n)) ≡ bytes_at c q a n
    go true e =
        let l : a < most_bytes = ltb-true _ _ e in
        rw (bytes-catalog c q a n l) (bytes-catalog c q a _ l ∙ take_again n _)
    go false e =
        let l : most_bytes ≤ a = ltb-false _ _ e in
        rw (bytes-statement c q a n l) (bytes-statement c q a _ l ∙ take_again n _)

-- a name is the word at its place
name-word : (c q : Bytes) (o : std.Option Place) (w : Word) → option_name c q o ≡ some w → w ≡ word_at c q w.start (length w.bytes)
unfolding option_name word_at
name-word c q std.None w h = grind arith
name-word c q (std.Some p) w h =
    let e : word_at c q p.address p.length ≡ w = cc in
    rw (← e) (ap (λ (b : Bytes). record { bytes = b; start = p.address }) (sym (bytes-again c q p.address p.length)))

alias-word : (c q : Bytes) (t parts : List ℕ) (x : listed.Item) (w : Word) → (item_of c q t parts x).alias ≡ some w
    → w ≡ word_at c q w.start (length w.bytes)
unfolding item_of entry_item starred_at
alias-word c q t parts (I.Entry k) w h = name-word c q _ w h
alias-word c q t parts (I.Starred r) w h = grind arith

-- WHAT THE NUMBERS MEAN
module _ (c q : Bytes) (t parts xs ms ts : List ℕ) where
  label-one : (x : listed.Item) → Given AliasFits (item_of c q t parts x).alias
      → item_label (scope_at c q t xs ms ts 0) (item_of c q t parts x).expr (item_of c q t parts x).alias
      ≡ label_at c q ts (label_number c q t parts xs ms ts x)
  unfolding item_label Given option_span span
  label-one x f = go (item_of c q t parts x).alias refl f (alias-span c q t parts x)
    where
      go : (o : Option Word) → (item_of c q t parts x).alias ≡ o → Given AliasFits o
          → option_span (item_of c q t parts x).alias ≡ alias_address parts x ∷ alias_length c q parts x ∷ []
          → item_label (scope_at c q t xs ms ts 0) (item_of c q t parts x).expr o
          ≡ label_at c q ts (label_number c q t parts xs ms ts x)
      go none e g s =
          let y : 0 ∷ 0 ∷ [] ≡ alias_address parts x ∷ alias_length c q parts x ∷ [] = rw e at s in
          let z : alias_length c q parts x ≡ 0 = cc in
          rw (item-tree c q t parts x, number_passed c q t parts xs ms ts x z)
          (sym (passed-label (tree_at c q t) c q xs ms ts 0 (tree_at c q t (row_of parts x))))
      go (some w) e g s =
          let y : w.start ∷ length w.bytes ∷ [] ≡ alias_address parts x ∷ alias_length c q parts x ∷ [] = rw e at s in
          let a : w.start ≡ alias_address parts x = cc in
          let n : length w.bytes ≡ alias_length c q parts x = cc in
          let k : w ≡ word_at c q w.start (length w.bytes) = alias-word c q t parts x w e in
          rw (number-alias c q t parts xs ms ts x (λ z. omega (arith, z, n, g.least)), ← a, ← n)
          (ap (λ (v : Word). item_label (scope_at c q t xs ms ts 0) (item_of c q t parts x).expr (some v)) k
          ∙ item-alias c q (scope_at c q t xs ms ts 0) ts (item_of c q t parts x).expr w.start (length w.bytes)
          (rw (← k) g.fits) (rw (← k) g.least))

  pub labels-are : (items : List listed.Item) → AliasesFit (map (item_of c q t parts) items)
      → map (λ (i : Item). item_label (scope_at c q t xs ms ts 0) i.expr i.alias) (map (item_of c q t parts) items)
      ≡ columns_of c q ts (map (label_number c q t parts xs ms ts) items)
  unfolding columns_of All
  labels-are [] f = refl
  labels-are (x ∷ items) f = rw (label-one x f.0, labels-are items f.1)

  -- each of one of the scope's tables, or of none
  label-slot : (n : ℕ) (x : listed.Item) → Below n xs → slot_of (label_number c q t parts xs ms ts x) ≤ n
  label-slot n x b = go (eqb (alias_length c q parts x) 0) refl
    where
      go : (k : Bool) → eqb (alias_length c q parts x) 0 ≡ k → slot_of (label_number c q t parts xs ms ts x) ≤ n
      go true e = rw (number_passed c q t parts xs ms ts x (eqb-true _ _ e)) (passed-slot n xs _ (tree_at c q t (row_of parts x)) b)
      go false e =
          let z = slot-packed 0 (alias_address parts x) (alias_length c q parts x) in
          rw (number-alias c q t parts xs ms ts x (eqb-false _ _ e), z) (omega arith)

  pub labels-below : (n : ℕ) (items : List listed.Item) → Below n xs → Below n (map (label_number c q t parts xs ms ts) items)
  labels-below n [] b = none
  labels-below n (x ∷ items) b = more (label-slot n x b) (labels-below n items b)

-- THE ROWS
pub rows_are : (c q : Bytes) (t parts : List ℕ) (items : List listed.Item)
    → map (λ (i : Item). i.expr) (map (item_of c q t parts) items) ≡ map (tree_at c q t) (map (row_of parts) items)
rows_are c q t parts [] = refl
rows_are c q t parts (x ∷ items) = rw (item-tree c q t parts x, rows_are c q t parts items)
