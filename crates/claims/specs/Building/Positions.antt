-- The positions of an INSERT's column map and of a CREATE's key are within what they count.
use Rattle.std.specs.Prelude.{ℕ, suc, ◌+◌, ◌≤◌, ◌<◌, ◌≡◌, List, [], ◌∷◌, ◌++◌, length}
use Rattle.std.proofs.Common.{arith, length-append}
use Rattle.std.proofs.Math.Option.{Option, none, some}
use Rattle.rules.specs.Refusals.{no_primary_key, multiple_primary_keys, unknown_insert_column, repeated_insert_column}
use Rattle.rules.specs.Lists.{Bytes, same}
use Rattle.rules.specs.Lines.{Word}
use Rattle.rules.specs.Schema.{Column, column_at}
use Rattle.rules.specs.Ast.{Named, NewColumn}
use Rattle.rules.specs.Plan.{TablePosition, cindex, ValuePosition, vindex, Mapping}
use Rattle.rules.specs.BuildStatement.{mapped, table_position, map_column, map_from, column_map, KeyColumn, key_columns, primary_key}
use Rattle.claims.specs.Answers.{Ensures, then, weaken, refusing, All, Given, all_append, all-weaken}
use Rattle.claims.specs.Cases.{either_way, guarded}

-- INSERT
column_at-below : (cs : List Column) (i w : ℕ) (n : Bytes) → i + length cs ≤ w → Given (λ j. j < w) (column_at i cs n)
unfolding column_at Given
column_at-below [] i w n h = tt
column_at-below (c ∷ cs) i w n h = either_way (Given (λ j. j < w)) (same c.name.bytes n) _ _ (omega arith) (column_at-below cs (suc i) w n (omega arith))

unfoldable pub ColumnBelow : ℕ → TablePosition → Type 0
ColumnBelow w (cindex i) = i < w

unfoldable pub ValueBelow : ℕ → ValuePosition → Type 0
ValueBelow n (vindex j) = j < n

-- a map from positions below w to positions below its length
abbrev pub Mapped : ℕ → List Mapping → Type 0
Mapped w m = All (λ (e : Mapping). ColumnBelow w e.column × ValueBelow (length m) e.value) m

value-rises : (n k : ℕ) (v : ValuePosition) → n ≤ k → ValueBelow n v → ValueBelow k v
unfolding ValueBelow
value-rises n k (vindex j) h g = omega arith

position-below : (cs : List Column) (n : Word) → Given (ColumnBelow (length cs)) (table_position cs n)
unfolding table_position Given ColumnBelow
position-below cs n = go (column_at 0 cs n.bytes) (column_at-below cs 0 (length cs) n.bytes (omega arith))
  where
    go : (o : Option ℕ) → Given (λ j. j < length cs) o
        → Given (ColumnBelow (length cs)) (elim o [ some i ↦ some (cindex i) | none ↦ none ])
    go none h = tt
    go (some i) h = h

column-mapped : (w l : ℕ) (o : Option TablePosition) (m : List Mapping) → Given (ColumnBelow w) o → Mapped w m
    → Ensures (map_column l o (vindex (length m)) m) (λ r. (length r ≡ suc (length m)) × Mapped w r)
unfolding map_column Given All ValueBelow
column-mapped w l none m h g = refusing unknown_insert_column l _
column-mapped w l (some c) m h g =
    let e : length (m ++ (record { column = c; value = vindex (length m) } ∷ [])) ≡ suc (length m) = simp length-append (omega arith) in
    guarded (mapped c m) repeated_insert_column l _ _ λ u.
    (e, rw e (all_append _ m _ (all-weaken _ _ (λ x k. (k.0, value-rises (length m) _ x.value (omega arith) k.1)) m g) ((h, omega arith), tt)))

-- the map goes on by as many entries as names
pub from-mapped : (cs : List Column) (ns : List Named) (m : List Mapping) → Mapped (length cs) m
    → Ensures (map_from cs ns (length m) m) (λ r. (length r ≡ length m + length ns) × Mapped (length cs) r)
unfolding map_from
from-mapped cs [] m h = (omega arith, h)
from-mapped cs (n ∷ ns) m h =
    then (map_column n.line (table_position cs n.name) (vindex (length m)) m) _ _ _
    (column-mapped (length cs) n.line _ m (position-below cs n.name) h) λ r g.
    rw (← g.0) (weaken (map_from cs ns (length r) r) _ _ (λ x k. (omega (arith, k.0, g.0), k.1)) (from-mapped cs ns r g.1))

-- a column map takes positions of the table's columns to those of as many values
pub columns-mapped : (cs : List Column) (ns : Option (List Named)) → Ensures (column_map cs ns) (Given (Mapped (length cs)))
unfolding column_map Given All
columns-mapped cs none = tt
columns-mapped cs (some ns) = then (map_from cs ns 0 []) _ _ _ (from-mapped cs ns [] tt) λ m h. h.1

-- CREATE
keys_below : (cs : List NewColumn) (i w : ℕ) → i + length cs ≤ w → All (λ (k : KeyColumn). k.position < w) (key_columns i cs)
unfolding key_columns All
keys_below [] i w h = tt
keys_below (c ∷ cs) i w h = let g = keys_below cs (suc i) w (omega arith) in either_way (All (λ (k : KeyColumn). k.position < w)) c.key _ _ (omega arith, g) g

only_below : (w l : ℕ) (ks : List KeyColumn) → All (λ (k : KeyColumn). k.position < w) ks → Ensures (primary_key l ks) (λ k. k < w)
unfolding primary_key All
only_below w l [] h = refusing no_primary_key l _
only_below w l (k ∷ []) h = h.0
only_below w l (k ∷ (m ∷ r)) h = refusing multiple_primary_keys m.line _

-- a key is the position of a column
pub key_below : (l : ℕ) (cs : List NewColumn) → Ensures (primary_key l (key_columns 0 cs)) (λ k. k < length cs)
key_below l cs = only_below (length cs) l (key_columns 0 cs) (keys_below cs 0 (length cs) (omega arith))
