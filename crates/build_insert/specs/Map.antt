-- INSERT's column map: the column's position for each value, in a slice, and the names that give it.
use Prim.Native.Nat.{ℕ, zero, suc, ◌+◌, ◌≤◌, ◌<◌}
use native.Mathlib.Omega.{arith}
use Rattle.std.proofs.Common.{add-one, sym, ◌∙◌, length-set, length-take-le, get_or-set_same, get_or-set_other, get_or-take}
use Rattle.std.specs.Prelude as std
use Rattle.std.specs.Prelude.{◌≡◌, Bool, true, false, ◌||◌, eqb, set, get_or, take, Result, Ok, Err, Some, None, IfSome}
use Rattle.std.specs.List.{list_any}
use Rattle.std.proofs.Math.Path.{refl, ap}
use mathlib.Core.List.{List, [], ◌∷◌, ◌++◌}
use Rattle.std.proofs.Math.Option.{Option, none, some}
use Rattle.std.proofs.Math.ListN.{length, drop, drop_of_length-le}
use Rattle.rules.specs.Refusals.{Reason, Answer, ok, refuse, unknown_insert_column, repeated_insert_column}
use Rattle.rules.specs.Lists.{Bytes, any}
use Rattle.rules.specs.Places.{bytes_at, word_at}
use Rattle.rules.specs.Schema.{Column, column_at}
use Rattle.rules.specs.Ast.{Named}
use Rattle.rules.specs.Plan.{cindex, vindex, Mapping}
use Rattle.rules.specs.BuildStatement.{same_position, mapped, table_position, map_from, column_map}
use Rattle.claims.specs.Answers.{Given}
use Rattle.appends.specs.Answers.{bind_ok, bind-refused}
use Rattle.appends.specs.Statements.Insert.{map-unknown, map-repeated, map-step, map-done}
use Rattle.schema.specs.Layout.{table_at}
use Rattle.schema.specs.Search.{found_of}
use Rattle.sections.specs.Layout.{section_at}
use Rattle.sections.specs.Access.{columns_kind, name_kind, numbers_at, after-drop}
use Rattle.sections.specs.declared.entry.Entry.{Entry}
use Rattle.statement.specs.Layout.{map_entries, to_named, to_names}
use Rattle.text.specs.declared.places.Place.{Place}
use Rattle.statement.specs.Access.{name_or}
use Rattle.statement.specs.EntryAccess.{word_of, map-length, named-at, names-none, names-some}
use Rattle.numbers.specs.Reasons.{named}
use Rattle.numbers.specs.declared.refusals.Reason.TheVariants as Re
use Rattle.numbers.specs.declared.refusals.Refusal.{Refusal}
use Rattle.plan.specs.Steps.{RefusedWith, refused-at}

-- n mappings from the i-th value on, by their columns' positions
unfoldable pub mappings : List ℕ → ℕ → ℕ → List Mapping
mappings ps i zero = []
mappings ps i (suc n) = record { column = cindex (get_or ps i 0); value = vindex i } ∷ mappings ps (suc i) n

pub mappings-last : (ps : List ℕ) (i n : ℕ)
    → mappings ps i (suc n) ≡ mappings ps i n ++ (record { column = cindex (get_or ps (i + n) 0); value = vindex (i + n) } ∷ [])
unfolding mappings
mappings-last ps i zero = let z : i + 0 ≡ i = omega arith in rw z
mappings-last ps i (suc n) = let z : i + suc n ≡ suc i + n = omega arith in rw z
    (ap (λ ms. record { column = cindex (get_or ps i 0); value = vindex i } ∷ ms) (mappings-last ps (suc i) n))

mappings-set : (ps : List ℕ) (k x i n : ℕ) → i + n ≤ k → mappings (set ps k x) i n ≡ mappings ps i n
unfolding mappings
mappings-set ps k x i zero h = refl
mappings-set ps k x i (suc n) h = rw (get_or-set_other ps k i x 0 (omega arith), mappings-set ps k x (suc i) n (omega arith))

mappings-below : (ps : List ℕ) (n i k : ℕ) → i + k ≤ n → mappings (take n ps) i k ≡ mappings ps i k
unfolding mappings
mappings-below ps n i zero h = refl
mappings-below ps n i (suc k) h = rw (get_or-take n ps i 0 (omega arith), mappings-below ps n (suc i) k (omega arith))

-- those of the first n values
pub mappings-first : (ps : List ℕ) (n : ℕ) → n ≤ length ps → mappings (take n ps) 0 (length (take n ps)) ≡ mappings ps 0 n
mappings-first ps n h = rw (length-take-le n ps h) (mappings-below ps n 0 n (omega arith))

-- the map of columns that may be given, a value each
unfoldable pub given_map : std.Option (List ℕ) → Option (List Mapping)
given_map None = none
given_map (Some ps) = some (mappings ps 0 (length ps))

-- WHETHER A COLUMN IS IN THE MAP
module _ (c : ℕ) where
  mapped-behind : (p : ℕ) (ps : List ℕ) (i n : ℕ)
      → mapped (cindex c) (mappings (p ∷ ps) (suc i) n) ≡ mapped (cindex c) (mappings ps i n)
  unfolding mapped any mappings same_position
  mapped-behind p ps i zero = refl
  mapped-behind p ps i (suc n) =
      ap (λ (b : Bool). elim (eqb (get_or ps i 0) c) [ true ↦ true | false ↦ b ]) (mapped-behind p ps (suc i) n)

  pub mapped-all : (ps : List ℕ) → list_any (λ y. eqb y c) ps ≡ mapped (cindex c) (mappings ps 0 (length ps))
  unfolding mapped any mappings same_position
  mapped-all [] = refl
  mapped-all (p ∷ ps) = go (eqb p c)
      ∙ ap (λ (b : Bool). elim (eqb p c) [ true ↦ true | false ↦ b ])
      (mapped-all ps ∙ sym (mapped-behind p ps 0 (length ps)))
    where
      go : (b : Bool) → (b || list_any (λ y. eqb y c) ps) ≡ elim b [ true ↦ true | false ↦ list_any (λ y. eqb y c) ps ]
      go true = refl
      go false = refl

  -- among the first n values
  pub mapped-first : (ps : List ℕ) (n : ℕ) → n ≤ length ps
      → mapped (cindex c) (mappings (take n ps) 0 (length (take n ps))) ≡ mapped (cindex c) (mappings ps 0 n)
  mapped-first ps n h = ap (mapped (cindex c)) (mappings-first ps n h)

-- THE NAMES
-- the columns of the i-th table
abbrev pub columns_of : Bytes → Bytes → List ℕ → ℕ → List Column
columns_of c q tables i = (table_at c q tables i).columns

-- no map, or that of the first n values
unfoldable pub map_of : List ℕ → std.Option ℕ → Option (List Mapping)
map_of ps None = none
map_of ps (Some n) = some (mappings ps 0 n)

-- it is that of the first n numbers alone
pub map-of : (ps : List ℕ) {m : std.Option ℕ} (n : ℕ) → m ≡ Some n → IfSome m (λ k. k ≤ length ps)
    → given_map (Some (take n ps)) ≡ map_of ps m
unfolding given_map map_of
map-of ps n e h = rw e (ap some (mappings-first ps n (rw e at h)))

pub map-of-none : (ps : List ℕ) {m : std.Option ℕ} → m ≡ None → given_map None ≡ map_of ps m
unfolding given_map map_of
map-of-none ps e = rw e refl

-- the map, or a refusal
unfoldable pub MapsAs : Answer (Option (List Mapping)) → List ℕ → Result (std.Option ℕ) Refusal → Type 0
MapsAs a ps (Ok m) = a ≡ ok (map_of ps m)
MapsAs a ps (Err w) = RefusedWith a w

-- the numbers ps are lent for it, and ps' are left
pub record Maps (a : Answer (Option (List Mapping))) (ps ps' : List ℕ) (r : Result (std.Option ℕ) Refusal) : Type 0 where
  pub kept : length ps' ≡ length ps
  pub is : MapsAs a ps' r

-- a map that there is
abbrev pub given_result : Result ℕ Refusal → Result (std.Option ℕ) Refusal
given_result (Ok n) = Ok (Some n)
given_result (Err w) = Err w

-- there is a place for each name
abbrev pub NamesFit : Option (List Named) → List ℕ → Type 0
NamesFit ns ps = Given (λ (xs : List Named). length xs ≤ length ps) ns

-- the names, and those of a statement that has a `columns`
abbrev pub names_at : Bytes → Bytes → List ℕ → List ℕ → List Named
names_at c q cells parts = map_entries to_named (section_at c q cells parts name_kind)

abbrev pub given_names : Bytes → Bytes → List ℕ → List ℕ → Option (List Named)
given_names c q cells parts = to_names (section_at c q cells parts columns_kind) (section_at c q cells parts name_kind)

module _ (c q : Bytes) (cells parts : List ℕ) (cs : List Column) where
  abbrev names : List Named
  names = names_at c q cells parts

  abbrev named_of : Entry → Named
  named_of e = record { line = e.line; name = word_of c q e }

  abbrev map : Answer (List Mapping)
  map = map_from cs names 0 []

  abbrev whole : Answer (Option (List Mapping))
  whole = column_map cs (some names)

  whole-ok : (ms : List Mapping) → map ≡ ok ms → whole ≡ ok (some ms)
  unfolding column_map
  whole-ok ms e = bind_ok map _ ms e

  whole-refused : (k : Reason) (l : ℕ) → map ≡ refuse k l → whole ≡ refuse k l
  unfolding column_map refuse
  whole-refused k l e = bind-refused map _ _ e

  -- the first v names are mapped
  pub record MapSoFar (ps₀ ps : List ℕ) (v : ℕ) : Type 0 where
    pub same : length ps ≡ length ps₀
    pub few : v ≤ length (section_at c q cells parts name_kind)
    pub left : map ≡ map_from cs (drop v names) v (mappings ps 0 v)

  pub map-none : (ps : List ℕ) → MapSoFar ps ps 0
  unfolding mappings
  map-none ps = record { same = refl; few = omega arith; left = refl }

  module _ {ps₀ ps : List ℕ} {v : ℕ} (p : MapSoFar ps₀ ps v) where
    pub map-all : (n : ℕ) → n ≡ length (section_at c q cells parts name_kind) → n ≤ v → v ≤ length (section_at c q cells parts name_kind)
        → Maps whole ps₀ ps (Ok (Some n))
    unfolding MapsAs map_of
    map-all n e h l =
        let z : drop v names ≡ [] = drop_of_length-le names {i = v}
        (omega (arith, map-length to_named (section_at c q cells parts name_kind), e, h)) in
        let y : v ≡ n = omega (arith, h, l, e) in
        record {
          kept = p.same;
          is = whole-ok (mappings ps 0 n)
              (p.left ∙ ap (λ ns. map_from cs ns v (mappings ps 0 v)) z ∙ map-done cs v _ ∙ ap (λ k. ok (mappings ps 0 k)) y);
        }

    module _ (e : Entry) (x : e ≡ numbers_at parts name_kind v) (n : ℕ) (y : n ≡ length (section_at c q cells parts name_kind)) (l : v < n)
        (p₁ : Place) (s : p₁ ≡ name_or e.name) (r : std.Option ℕ) (f : found_of r ≡ column_at 0 cs (bytes_at c q p₁.address p₁.length)) where
      here : map ≡ map_from cs (named_of e ∷ drop (suc v) names) v (mappings ps 0 v)
      here = p.left ∙ ap (λ ns. map_from cs ns v (mappings ps 0 v))
          (after-drop v names (named_of e) (named-at c q cells parts name_kind v e x (omega (arith, y, l))))

      pub name-unknown : r ≡ std.None
          → Maps whole ps₀ ps (Err (record { reason = Re.UnknownInsertColumn; line = e.line }))
      unfolding MapsAs table_position found_of word_at named
      name-unknown g =
          let z : table_position cs (word_of c q e) ≡ none = rw (table_position, ← s, ← f, g) in
          record {
            kept = p.same;
            is = refused-at unknown_insert_column e.line Re.UnknownInsertColumn e.line
                (whole-refused unknown_insert_column e.line
                (here ∙ map-unknown cs (named_of e) (drop (suc v) names) v (mappings ps 0 v) z)) refl refl;
          }

      module _ (j : ℕ) (g : r ≡ std.Some j) where
        position : table_position cs (word_of c q e) ≡ some (cindex j)
        unfolding table_position found_of word_at
        position = rw (table_position, ← s, ← f, g)

        -- b says whether the column is among those of the first v values
        module _ (b : Bool) (m : b ≡ mapped (cindex j) (mappings ps 0 v)) where
          pub name-repeated : b ≡ true → Maps whole ps₀ ps (Err (record { reason = Re.RepeatedInsertColumn; line = e.line }))
          unfolding MapsAs named
          name-repeated t =
              record {
                kept = p.same;
                is = refused-at repeated_insert_column e.line Re.RepeatedInsertColumn e.line
                    (whole-refused repeated_insert_column e.line
                    (here ∙ map-repeated cs (named_of e) (drop (suc v) names) v (mappings ps 0 v) (cindex j) position
                    (sym m ∙ t))) refl refl;
              }

          pub name-mapped : b ≡ false → v < length ps → {ps' : List ℕ} → ps' ≡ set ps v j → MapSoFar ps₀ ps' (v + 1)
          name-mapped t h w = rw w (record {
            same = length-set ps v j ∙ p.same;
            few = omega (arith, y, l);
            left = rw (add-one v) (here
                ∙ map-step cs (named_of e) (drop (suc v) names) v (mappings ps 0 v) (cindex j) position (sym m ∙ t)
                ∙ ap (map_from cs (drop (suc v) names) (suc v)) (sym stored));
          })
            where
              stored : mappings (set ps v j) 0 (suc v)
                  ≡ mappings ps 0 v ++ (record { column = cindex j; value = vindex v } ∷ [])
              stored =
                  let z : 0 + v ≡ v = omega arith in
                  mappings-last (set ps v j) 0 v ∙ rw (z, mappings-set ps v j 0 v (omega arith), get_or-set_same ps v j 0 h)

-- THE STATEMENT'S MAP
module _ (c q : Bytes) (cells parts : List ℕ) (cs : List Column) (n : ℕ)
    (e : n ≡ length (section_at c q cells parts columns_kind)) where
  pub map-missing : n ≡ 0 → (ps : List ℕ) → Maps (column_map cs (given_names c q cells parts)) ps ps (Ok None)
  unfolding MapsAs map_of column_map
  map-missing z ps =
      let y = names-none (section_at c q cells parts columns_kind) (section_at c q cells parts name_kind) (sym e ∙ z) in
      record { kept = refl; is = ap (column_map cs) y }

  module _ (z : n ≡ 0 → ⊥) where
    given : given_names c q cells parts ≡ some (names_at c q cells parts)
    given = names-some (section_at c q cells parts columns_kind) (section_at c q cells parts name_kind) (λ y. z (e ∙ y))

    pub names-fit : (ps : List ℕ) → NamesFit (given_names c q cells parts) ps
        → length (section_at c q cells parts name_kind) ≤ length ps
    unfolding Given
    names-fit ps h =
        let l : length (names_at c q cells parts) ≤ length ps = rw given at h in
        omega (arith, l, map-length to_named (section_at c q cells parts name_kind))

    pub map-given : {ps ps' : List ℕ} {r : Result (std.Option ℕ) Refusal}
        → Maps (column_map cs (some (names_at c q cells parts))) ps ps' r
        → Maps (column_map cs (given_names c q cells parts)) ps ps' r
    map-given h = rw given h
