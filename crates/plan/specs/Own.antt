-- The statement's own numbers, from what is pushed: an insert's map, an update's sets, a create's columns.
use Rattle.std.specs.Prelude.{ℕ, ◌+◌, ◌≡◌, refl, length}
use Rattle.std.proofs.Common.{sym}
use mathlib.Core.List.{List, [], ◌∷◌, ◌++◌, map, append-nil}
use Rattle.std.proofs.Math.Option.{none, some}
use Rattle.rules.specs.Lists.{concat}
use Rattle.rules.specs.Lines.{Word}
use Rattle.rules.specs.Schema.{Table}
use Rattle.rules.specs.Plan.{Node, Mapping, Made}
use Rattle.rules.specs.Plan as P
use Rattle.rules.specs.Area.{span, flag, option_span, type_code, mapping_numbers, map_numbers, set_numbers, default_numbers}
use Rattle.rules.specs.Area.{made_numbers, own_numbers}
use Rattle.appends.specs.Area.{concat-append}
use Rattle.plan.specs.Pushed.{Pushed, pushed-on, pushed-as}
use Rattle.plan.specs.declared.nodes.Nodes.{Nodes}

-- the numbers so far of an insert with the number x of columns and the map ms, of an update with c sets, of a create
-- with c columns
unfoldable pub inserting : Table → ℕ → List Mapping → List ℕ
inserting t x ms = span t.name ++ (x ∷ concat (map mapping_numbers ms))

unfoldable pub updating : Table → ℕ → List (ℕ × ℕ) → List ℕ
updating t c xs = span t.name ++ (t.key ∷ c ∷ set_numbers xs)

unfoldable pub creating : Word → ℕ → ℕ → List Made → List ℕ
creating w key c ms = span w ++ (key ∷ c ∷ concat (map made_numbers ms))

-- a created column but for its default
unfoldable pub column_numbers : Made → List ℕ
column_numbers c =
    span c.name ++ (type_code c.type ∷ flag c.nullable ∷ flag c.unique ∷ flag c.index ∷ option_span c.reference)

sets-append : (xs ys : List (ℕ × ℕ)) → set_numbers (xs ++ ys) ≡ set_numbers xs ++ set_numbers ys
unfolding set_numbers
sets-append [] ys = refl
sets-append (x ∷ xs) ys = rw (sets-append xs ys)

-- PARTS behind parts, as a loop pushes them
module _ {s t u : Nodes} where
  pub mappings-on : (ms ns : List Mapping) → Pushed (concat (map mapping_numbers ms)) s t
      → Pushed (concat (map mapping_numbers ns)) t u → Pushed (concat (map mapping_numbers (ms ++ ns))) s u
  mappings-on ms ns x y = pushed-as (sym (concat-append mapping_numbers ms ns)) (pushed-on x y)

  pub sets-on : (xs ys : List (ℕ × ℕ)) → Pushed (set_numbers xs) s t → Pushed (set_numbers ys) t u
      → Pushed (set_numbers (xs ++ ys)) s u
  sets-on xs ys x y = pushed-as (sym (sets-append xs ys)) (pushed-on x y)

  pub column-whole : (c : Made) → Pushed (column_numbers c) s t → Pushed (default_numbers c.default) t u
      → Pushed (made_numbers c) s u
  unfolding column_numbers made_numbers span
  column-whole c x y = pushed-on x y

  pub columns-on : (ms ns : List Made) → Pushed (concat (map made_numbers ms)) s t
      → Pushed (concat (map made_numbers ns)) t u → Pushed (concat (map made_numbers (ms ++ ns))) s u
  columns-on ms ns x y = pushed-as (sym (concat-append made_numbers ms ns)) (pushed-on x y)

-- one mapping, one column
module _ {s u : Nodes} where
  pub mapping-one : (m : Mapping) → Pushed (mapping_numbers m) s u
      → Pushed (concat (map mapping_numbers (m ∷ []))) s u
  unfolding concat
  mapping-one m x = rw append-nil x

  pub column-one : (m : Made) → Pushed (made_numbers m) s u → Pushed (concat (map made_numbers (m ∷ []))) s u
  unfolding concat
  column-one m x = rw append-nil x

-- BEHIND THE HEAD; with none before, all of them
module _ {s t u : Nodes} where
  pub insert-mappings : (b : Table) (c : ℕ) (ms ns : List Mapping) → Pushed (inserting b c ms) s t
      → Pushed (concat (map mapping_numbers ns)) t u → Pushed (inserting b c (ms ++ ns)) s u
  unfolding inserting span
  insert-mappings b c ms ns x y = pushed-as (rw (concat-append mapping_numbers ms ns)) (pushed-on x y)

  pub update-sets : (b : Table) (c : ℕ) (xs ys : List (ℕ × ℕ)) → Pushed (updating b c xs) s t
      → Pushed (set_numbers ys) t u → Pushed (updating b c (xs ++ ys)) s u
  unfolding updating span
  update-sets b c xs ys x y = pushed-as (rw (sets-append xs ys)) (pushed-on x y)

  pub create-columns : (w : Word) (key c : ℕ) (ms ns : List Made) → Pushed (creating w key c ms) s t
      → Pushed (concat (map made_numbers ns)) t u → Pushed (creating w key c (ms ++ ns)) s u
  unfolding creating span
  create-columns w key c ms ns x y = pushed-as (rw (concat-append made_numbers ms ns)) (pushed-on x y)

-- ALL
module _ {s u : Nodes} where
  pub insert-plain : (b : Table) (p : Node ℕ) → Pushed (inserting b 0 []) s u
      → Pushed (own_numbers (P.insert b none p)) s u
  unfolding inserting own_numbers map_numbers concat
  insert-plain b p x = x

  pub insert-mapped : (b : Table) (p : Node ℕ) (c : ℕ) (ms : List Mapping) → c ≡ length ms + 1
      → Pushed (inserting b c ms) s u → Pushed (own_numbers (P.insert b (some ms) p)) s u
  unfolding inserting own_numbers map_numbers
  insert-mapped b p c ms e x = pushed-as (rw e) x

  pub update-whole : (b : Table) (p : Node ℕ) (c : ℕ) (xs : List (ℕ × ℕ)) → c ≡ length xs
      → Pushed (updating b c xs) s u → Pushed (own_numbers (P.update b p xs)) s u
  unfolding updating own_numbers
  update-whole b p c xs e x = pushed-as (rw e) x

  pub create-whole : (w : Word) (key c : ℕ) (ms : List Made) → c ≡ length ms → Pushed (creating w key c ms) s u
      → Pushed (own_numbers (P.create w key ms)) s u
  unfolding creating own_numbers
  create-whole w key c ms e x = pushed-as (rw e) x
