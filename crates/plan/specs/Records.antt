-- Node records one behind the other, and the records whose length is stored when all of their parts are.
use Rattle.std.specs.Prelude.{ℕ, ◌+◌, ◌-◌, ◌≤◌, ◌≡◌, refl, List, [], ◌∷◌, ◌++◌, length}
use Rattle.std.proofs.Common.{arith, sym, append-nil}
use Rattle.rules.specs.Lists.{concat}
use Rattle.rules.specs.Nodes.{NodeRecord, scan, values, join, filter, aggregate, project, order, offset, limit, remap}
use Rattle.rules.specs.Area.{halves, sized, item_numbers, key_numbers, record_numbers}
use Rattle.appends.specs.Area.{records_numbers, records-numbers-append, records-numbers-one}
use Rattle.plan.specs.Layout.{record_head, length_place, nodes_size}
use Rattle.plan.specs.Kinds.{node_number}
use Rattle.plan.specs.declared.nodes.Kind.TheVariants as N
use Rattle.plan.specs.Pushed.{Pushed, Stored, Countable, pushed-on, pushed-as, pushed-count}
use Rattle.plan.specs.declared.nodes.Nodes.{Nodes}

-- RECORDS
-- one more
pub records-on : (rs : List NodeRecord) (r : NodeRecord) {s t u : Nodes}
    → Pushed (records_numbers rs) s t → Pushed (record_numbers r) t u
    → Pushed (records_numbers (rs ++ (r ∷ []))) s u
records-on rs r a b = pushed-as (sym (records-numbers-one rs r)) (pushed-on a b)

-- several more
pub records-append : (rs ss : List NodeRecord) {s t u : Nodes} → Pushed (records_numbers rs) s t
    → Pushed (records_numbers ss) t u → Pushed (records_numbers (rs ++ ss)) s u
records-append rs ss a b = pushed-as (sym (records-numbers-append rs ss)) (pushed-on a b)

pub records-first : (r : NodeRecord) {s t : Nodes} → Pushed (record_numbers r) s t
    → Pushed (records_numbers (r ∷ [])) s t
unfolding records_numbers concat
records-first r a = pushed-as (sym (append-nil (record_numbers r))) a

-- an offset or a limit by its kind
unfoldable pub rows_numbers : ℕ → ℕ → ℕ → List ℕ
rows_numbers kind source n = sized kind (source ∷ halves n)

-- OPEN RECORDS
-- numbers of a record with its length not known
unfoldable pub unsized : List ℕ → List ℕ
unsized [] = []
unsized (c ∷ []) = c ∷ []
unsized (c ∷ n ∷ r) = c ∷ 0 ∷ r

unfoldable pub opened : NodeRecord → List ℕ
opened r = unsized (record_numbers r)

-- a record of a kind over a source, with no part
abbrev pub over_numbers : ℕ → ℕ → List ℕ
over_numbers c n = c ∷ 0 ∷ n ∷ []

-- by the kind, what is begun is a projection, an order or a remap with no part
module _ {n : ℕ} {s t : Nodes} where
  pub opened-project : Pushed (over_numbers (node_number N.Project) n) s t → Pushed (opened (project n [])) s t
  unfolding opened unsized record_numbers sized item_numbers
  opened-project a = a

  pub opened-order : Pushed (over_numbers (node_number N.Order) n) s t → Pushed (opened (order n [])) s t
  unfolding opened unsized record_numbers sized key_numbers
  opened-order a = a

  pub opened-remap : Pushed (over_numbers (node_number N.Remap) n) s t → Pushed (opened (remap n [])) s t
  unfolding opened unsized record_numbers sized
  opened-remap a = a

-- the length stored, the record is whole
sized-ended : (c : ℕ) (r : List ℕ) {s t u : Nodes} → Pushed (c ∷ 0 ∷ r) s t
    → Stored (s.used + length_place) (t.used - (s.used + record_head)) t u → Pushed (sized c r) s u
unfolding sized
sized-ended c r {s} a e =
    let z : s.used + length_place + 1 ≡ s.used + record_head = omega arith in
    pushed-count (c ∷ []) r 0 (s.used + length_place) a refl (rw z e)

pub ended : (r : NodeRecord) {s t u : Nodes} → Pushed (opened r) s t
    → Stored (s.used + length_place) (t.used - (s.used + record_head)) t u → Pushed (record_numbers r) s u
unfolding opened unsized record_numbers sized
ended (scan t a x) h e = sized-ended _ _ h e
ended (values rs) h e = sized-ended _ _ h e
ended (join a b x o) h e = sized-ended _ _ h e
ended (filter n x) h e = sized-ended _ _ h e
ended (aggregate n gs fs) h e = sized-ended _ _ h e
ended (project n xs) h e = sized-ended _ _ h e
ended (order n xs) h e = sized-ended _ _ h e
ended (offset n x) h e = sized-ended _ _ h e
ended (limit n x) h e = sized-ended _ _ h e
ended (remap n ts) h e = sized-ended _ _ h e

-- its head stands among the numbers in use
pub opened-head : (r : NodeRecord) {s t : Nodes} → Pushed (opened r) s t → (s.used + record_head ≤ t.used) × (t.used ≤ length t.numbers.now)
unfolding opened unsized record_numbers sized
opened-head (scan t b x) h = let a = h.appended in (omega (arith, a.next), omega (arith, a.fits, a.all))
opened-head (values rs) h = let a = h.appended in (omega (arith, a.next), omega (arith, a.fits, a.all))
opened-head (join b d x o) h = let a = h.appended in (omega (arith, a.next), omega (arith, a.fits, a.all))
opened-head (filter n x) h = let a = h.appended in (omega (arith, a.next), omega (arith, a.fits, a.all))
opened-head (aggregate n gs fs) h = let a = h.appended in (omega (arith, a.next), omega (arith, a.fits, a.all))
opened-head (project n xs) h = let a = h.appended in (omega (arith, a.next), omega (arith, a.fits, a.all))
opened-head (order n xs) h = let a = h.appended in (omega (arith, a.next), omega (arith, a.fits, a.all))
opened-head (offset n x) h = let a = h.appended in (omega (arith, a.next), omega (arith, a.fits, a.all))
opened-head (limit n x) h = let a = h.appended in (omega (arith, a.next), omega (arith, a.fits, a.all))
opened-head (remap n ts) h = let a = h.appended in (omega (arith, a.next), omega (arith, a.fits, a.all))

-- where a length may be stored
pub opened-room : (r : NodeRecord) {s t : Nodes} → Pushed (opened r) s t → t.used ≤ nodes_size
    → Countable (s.used + length_place) t
opened-room r h l = let a = opened-head r h in (omega (arith, a.0), a.1, l)
