-- The own numbers of INSERT: its table's name, and its column map behind it.
use Rattle.std.specs.Prelude.{ℕ, zero, suc, ◌+◌, ◌*◌, ◌≤◌, ◌<◌, ◌≡◌, refl, get_or, replicate}
use Rattle.std.proofs.Common.{arith, add-one, sym, ap, ◌∙◌}
use mathlib.Core.List.{List, [], ◌∷◌, ◌++◌, map}
use Rattle.std.proofs.Math.Option.{Option, none, some}
use Rattle.std.proofs.Math.ListN.{length}
use Rattle.std.proofs.lemmas.List.{length-replicate}
use Rattle.rules.specs.Lists.{concat}
use Rattle.rules.specs.Schema.{Table}
use Rattle.rules.specs.Plan.{Node, cindex, vindex, Mapping}
use Rattle.rules.specs.Plan as P
use Rattle.rules.specs.Area.{span, option_number, mapping_numbers, own_numbers}
use Rattle.claims.specs.Room.Nodes.{map_room, mappings-room}
use Rattle.plan.specs.Layout.{own_size, mapping_size, nodes_size}
use Rattle.plan.specs.Pushed.{Pushed, pushed-none}
use Rattle.plan.specs.Places.{place_numbers}
use Rattle.plan.specs.declared.nodes.Nodes.{Nodes}
use Rattle.text.specs.declared.places.Place.{Place}
use Rattle.plan.specs.Own.{inserting, mappings-on, mapping-one, insert-mappings, insert-plain, insert-mapped}
use Rattle.build_insert.specs.Map.{mappings, mappings-last, given_map}
use Rattle.std.specs.Prelude as std
use Rattle.std.specs.Prelude.{Some, None}

-- the numbers of a map's mappings
abbrev pub map_numbers_of : List Mapping → List ℕ
map_numbers_of ms = concat (map mapping_numbers ms)

-- how many own numbers there are
unfoldable pub own_count : Option (List Mapping) → ℕ
own_count none = own_size
own_count (some ms) = own_size + mapping_size * length ms

pub own-count : (o : Option (List Mapping)) → 2 + map_room o ≡ own_count o
unfolding own_count map_room
own-count none = refl
own-count (some ms) = omega arith

-- there is room for them
pub record MapFits (o : Option (List Mapping)) (s : Nodes) : Type 0 where
  pub numbers : s.used + own_count o ≤ length s.numbers.now
  pub all : length s.numbers.now ≡ nodes_size

-- MAPPINGS
pub mappings-length : (ps : List ℕ) (i n : ℕ) → length (mappings ps i n) ≡ n
unfolding mappings
mappings-length ps i zero = refl
mappings-length ps i (suc n) = ap suc (mappings-length ps (suc i) n)

-- those of the first v values are pushed
pub record PutSoFar (ps : List ℕ) (v : ℕ) (s t : Nodes) : Type 0 where
  pub numbers : Pushed (map_numbers_of (mappings ps 0 v)) s t

pub put-none : (ps : List ℕ) (s : Nodes) → s.used ≤ length s.numbers.now → PutSoFar ps 0 s s
unfolding mappings concat
put-none ps s h = record { numbers = pushed-none s h }

module _ {ps : List ℕ} {v : ℕ} {s t : Nodes} (p : PutSoFar ps v s t) where
  pub put-room : (n : ℕ) → v < n → s.used + mapping_size * n ≤ length s.numbers.now
      → t.used + mapping_size ≤ length t.numbers.now
  put-room n l h = omega (
    arith,
    l,
    h,
    p.numbers.kept.all,
    p.numbers.appended.next,
    mappings-room (mappings ps 0 v),
    mappings-length ps 0 v,
  )

  pub put-more : {u : Nodes} (x : ℕ) → x ≡ get_or ps v 0
      → Pushed (mapping_numbers (record { column = cindex x; value = vindex v })) t u → PutSoFar ps (v + 1) s u
  put-more x e a =
      let z : 0 + v ≡ v = omega arith in
      let y : mappings ps 0 (suc v) ≡ mappings ps 0 v ++ (record { column = cindex x; value = vindex v } ∷ []) =
      mappings-last ps 0 v ∙ rw (z, e) in
      rw (add-one v) (record {
        numbers = rw y (mappings-on (mappings ps 0 v) (record { column = cindex x; value = vindex v } ∷ []) p.numbers
            (mapping-one (record { column = cindex x; value = vindex v }) a));
      })

  pub put_all : (n : ℕ) → v ≤ n → n ≤ v → Pushed (map_numbers_of (mappings ps 0 n)) s t
  put_all n l h = let z : n ≡ v = omega arith in rw z p.numbers

-- ALL
-- a table whose name is at a place
abbrev named : Place → Table
named p = record { name = record { bytes = replicate p.length 0; start = p.address }; key = 0; columns = [] }

named-span : (p : Place) → span (named p).name ≡ place_numbers p
unfolding span
named-span p = rw (length-replicate {A = ℕ} p.length 0)

-- what is pushed for a name
abbrev pub Inserting : Place → ℕ → Nodes → Nodes → Type 0
Inserting p x s t = (b : Table) → span b.name ≡ place_numbers p → Pushed (inserting b x []) s t

head-size : (t : Table) (x : ℕ) → length (inserting t x []) ≡ own_size
unfolding inserting span concat
head-size t x = refl

own-least : (o : Option (List Mapping)) → own_size ≤ own_count o
unfolding own_count
own-least none = omega arith
own-least (some ms) = omega arith

module _ (m : std.Option (List ℕ)) {s : Nodes} (f : MapFits (given_map m) s) (p : Place) where
  pub own-head-room : s.used + own_size ≤ length s.numbers.now
  own-head-room = omega (arith, own-least (given_map m), f.numbers)

  pub own-missing : {t : Nodes} → m ≡ None → Inserting p (option_number none) s t → (b : Table) (d : Node ℕ)
      → span b.name ≡ place_numbers p → Pushed (own_numbers (P.insert b (given_map m) d)) s t
  unfolding given_map option_number
  own-missing e h b d g = rw e (insert-plain b d (h b g))

  module _ (ps : List ℕ) (e : m ≡ Some ps) where
    own-mapped-all : s.used + (own_size + mapping_size * length ps) ≤ length s.numbers.now
    unfolding given_map own_count
    own-mapped-all =
        let z : s.used + own_count (given_map m) ≤ length s.numbers.now = f.numbers in
        let y : s.used + (own_size + mapping_size * length (mappings ps 0 (length ps))) ≤ length s.numbers.now = rw e at z in
        omega (arith, y, mappings-length ps 0 (length ps))

    -- how many columns there are can be said
    pub own-small : length ps + 1 < 4294967296
    own-small = omega (arith, own-mapped-all, f.all)

    module _ {t : Nodes} (h : Inserting p (option_number (some (length ps))) s t) where
      pub own-mappings-room : t.used + mapping_size * length ps ≤ length t.numbers.now
      own-mappings-room =
          let x = h (named p) (named-span p) in
          omega (
            arith,
            own-mapped-all,
            x.appended.next,
            x.kept.all,
            head-size (named p) (option_number (some (length ps))),
          )

      pub own-mapped : {u : Nodes} → Pushed (map_numbers_of (mappings ps 0 (length ps))) t u → (b : Table) (d : Node ℕ)
          → span b.name ≡ place_numbers p → Pushed (own_numbers (P.insert b (given_map m) d)) s u
      unfolding given_map option_number
      own-mapped g b d z =
          rw e (insert-mapped b d (length ps + 1) (mappings ps 0 (length ps))
          (ap (λ x. x + 1) (sym (mappings-length ps 0 (length ps))))
          (insert-mappings b (length ps + 1) [] (mappings ps 0 (length ps)) (h b z) g))

-- those of some table
pub some-own : (o : Option (List Mapping)) (p : Place) {s t : Nodes}
    → ((b : Table) (d : Node ℕ) → span b.name ≡ place_numbers p → Pushed (own_numbers (P.insert b o d)) s t)
    → Pushed (own_numbers (P.insert (named p) o (P.values []))) s t
some-own o p h = h (named p) (P.values []) (named-span p)
