-- The parts of a record: rows, groups, functions, items, keys and targets, pushed behind those before them.
use Rattle.std.specs.Prelude.{ℕ, ◌+◌, ◌-◌, ◌≡◌, Bool, length}
use native.Mathlib.Omega.{arith}
use Rattle.std.proofs.Math.Path.{refl}
use Rattle.std.proofs.Common.{sym}
use mathlib.Core.List.{List, [], ◌∷◌, ◌++◌, map, append_assoc, append-nil}
use Rattle.std.proofs.Math.Option.{Option}
use Rattle.std.proofs.Math.ListN.{take}
use Rattle.rules.specs.Lines.{Word}
use Rattle.rules.specs.Plan.{Aggregate}
use Rattle.rules.specs.Nodes.{values, aggregate, project, order, remap}
use Rattle.rules.specs.Area.{option_number, row_numbers, function_numbers, item_numbers, key_numbers}
use Rattle.rules.specs.Area.{sized, record_numbers}
use Rattle.std.proofs.lemmas.List.{map-append}
use Rattle.plan.specs.Layout.{aggregate_head, groups_place}
use Rattle.plan.specs.Pushed.{Pushed, Stored, pushed-on, pushed-as, pushed-count}
use Rattle.plan.specs.declared.nodes.Nodes.{Nodes}
use Rattle.plan.specs.Records.{unsized, opened}

-- NUMBERS of several, one behind the other
rows_append : (rs ss : List (List ℕ)) → row_numbers (rs ++ ss) ≡ row_numbers rs ++ row_numbers ss
unfolding row_numbers
rows_append [] ss = refl
rows_append (r ∷ rs) ss = rw (rows_append rs ss, append_assoc)

functions-append : (fs gs : List (Aggregate × ℕ)) → function_numbers (fs ++ gs) ≡ function_numbers fs ++ function_numbers gs
unfolding function_numbers
functions-append [] gs = refl
functions-append (f ∷ fs) gs = rw (functions-append fs gs)

items-append : (xs ys : List (ℕ × Option Word)) → item_numbers (xs ++ ys) ≡ item_numbers xs ++ item_numbers ys
unfolding item_numbers
items-append [] ys = refl
items-append (x ∷ xs) ys = rw (items-append xs ys, append_assoc)

keys-append : (xs ys : List (ℕ × Bool)) → key_numbers (xs ++ ys) ≡ key_numbers xs ++ key_numbers ys
unfolding key_numbers
keys-append [] ys = refl
keys-append (x ∷ xs) ys = rw (keys-append xs ys)

targets-append : (xs ys : List (Option ℕ)) → map option_number (xs ++ ys) ≡ map option_number xs ++ map option_number ys
targets-append xs ys = map-append option_number xs ys

-- PARTS behind parts, as a loop pushes them
module _ {s t u : Nodes} where
  -- a row's length, then its roots
  pub row-whole : (r : List ℕ) → Pushed (length r ∷ []) s t → Pushed r t u
      → Pushed (row_numbers (r ∷ [])) s u
  unfolding row_numbers
  row-whole r a b = rw append-nil (pushed-on a b)

  pub rows_on : (rs ss : List (List ℕ)) → Pushed (row_numbers rs) s t → Pushed (row_numbers ss) t u
      → Pushed (row_numbers (rs ++ ss)) s u
  rows_on rs ss a b = pushed-as (sym (rows_append rs ss)) (pushed-on a b)

  pub functions-on : (fs gs : List (Aggregate × ℕ)) → Pushed (function_numbers fs) s t
      → Pushed (function_numbers gs) t u → Pushed (function_numbers (fs ++ gs)) s u
  functions-on fs gs a b = pushed-as (sym (functions-append fs gs)) (pushed-on a b)

  pub items-on : (xs ys : List (ℕ × Option Word)) → Pushed (item_numbers xs) s t
      → Pushed (item_numbers ys) t u → Pushed (item_numbers (xs ++ ys)) s u
  items-on xs ys a b = pushed-as (sym (items-append xs ys)) (pushed-on a b)

  pub keys_on : (xs ys : List (ℕ × Bool)) → Pushed (key_numbers xs) s t → Pushed (key_numbers ys) t u
      → Pushed (key_numbers (xs ++ ys)) s u
  keys_on xs ys a b = pushed-as (sym (keys-append xs ys)) (pushed-on a b)

  pub targets-on : (xs ys : List (Option ℕ)) → Pushed (map option_number xs) s t
      → Pushed (map option_number ys) t u → Pushed (map option_number (xs ++ ys)) s u
  targets-on xs ys a b = pushed-as (sym (targets-append xs ys)) (pushed-on a b)

-- PARTS behind those of an open record; with none before, all of its parts
module _ {s t u : Nodes} where
  pub values-rows : (rs ss : List (List ℕ)) → Pushed (opened (values rs)) s t → Pushed (row_numbers ss) t u
      → Pushed (opened (values (rs ++ ss))) s u
  unfolding opened unsized record_numbers sized
  values-rows rs ss a b = pushed-as (rw (rows_append rs ss)) (pushed-on a b)

  pub project-items : (n : ℕ) (xs ys : List (ℕ × Option Word)) → Pushed (opened (project n xs)) s t
      → Pushed (item_numbers ys) t u → Pushed (opened (project n (xs ++ ys))) s u
  unfolding opened unsized record_numbers sized
  project-items n xs ys a b = pushed-as (rw (items-append xs ys)) (pushed-on a b)

  pub order-keys : (n : ℕ) (xs ys : List (ℕ × Bool)) → Pushed (opened (order n xs)) s t
      → Pushed (key_numbers ys) t u → Pushed (opened (order n (xs ++ ys))) s u
  unfolding opened unsized record_numbers sized
  order-keys n xs ys a b = pushed-as (rw (keys-append xs ys)) (pushed-on a b)

  pub remap-targets : (n : ℕ) (xs ys : List (Option ℕ)) → Pushed (opened (remap n xs)) s t
      → Pushed (map option_number ys) t u → Pushed (opened (remap n (xs ++ ys))) s u
  unfolding opened unsized record_numbers sized
  remap-targets n xs ys a b = pushed-as (rw (targets-append xs ys)) (pushed-on a b)

  pub aggregate-functions : (n : ℕ) (gs : List ℕ) (fs hs : List (Aggregate × ℕ))
      → Pushed (opened (aggregate n gs fs)) s t → Pushed (function_numbers hs) t u
      → Pushed (opened (aggregate n gs (fs ++ hs))) s u
  unfolding opened unsized record_numbers sized
  aggregate-functions n gs fs hs a b =
      pushed-as (rw (functions-append fs hs, append_assoc)) (pushed-on a b)

-- THE GROUPS of an aggregate, which are counted when all are pushed
-- the numbers so far with the groups gs, not counted
unfoldable pub grouping : ℕ → List ℕ → List ℕ
grouping n gs = opened (aggregate n [] []) ++ gs

pub groups-on : (n : ℕ) (gs : List ℕ) {s t u : Nodes} → Pushed (opened (aggregate n [] [])) s t
    → Pushed gs t u → Pushed (grouping n gs) s u
unfolding grouping
groups-on n gs a b = pushed-on a b

pub groups-ended : (n : ℕ) (gs : List ℕ) {s t u : Nodes} → Pushed (grouping n gs) s t
    → Stored (s.used + groups_place) (t.used - (s.used + aggregate_head)) t u → Pushed (opened (aggregate n gs [])) s u
unfolding grouping opened unsized record_numbers sized function_numbers
groups-ended n gs {s} a e =
    let z : s.used + groups_place + 1 ≡ s.used + aggregate_head = omega arith in
    let xs = take groups_place (opened (aggregate n [] [])) in
    rw append-nil (pushed-count xs gs 0 (s.used + groups_place) a refl (rw z e))
