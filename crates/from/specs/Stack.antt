-- The stack of open joins, the innermost last.
use Rattle.std.specs.Prelude as std
use Rattle.std.specs.Prelude.{ℕ, ◌+◌, ◌-◌, ◌≤◌, ◌<◌, ◌≡◌, Bool, true, false, List, [], ◌∷◌, length, get_or, set}
use Rattle.std.proofs.Common.{arith, get_or-set_same, get_or-set_other}
use Rattle.rules.specs.Ast.{Join, From}
use Rattle.from.specs.Records.{join_number}
use Rattle.from.specs.Numbers.{number_of}
use Rattle.from.specs.Rules.{Frame, first, second}
use Rattle.from.specs.declared.Open.{Open}
use Rattle.from.specs.declared.OpenJoins.{OpenJoins}
use Rattle.from.specs.declared.row.Kind.TheVariants as K

-- an open join as the stack keeps it
pub record IsOpen (l : ℕ) (j : Join) (o b : Bool) (v : Open) : Type 0 where
  pub line : v.line ≡ l
  pub kind : number_of v.kind ≡ join_number j
  pub on : v.on ≡ o
  pub left : v.left_read ≡ b

unfoldable pub StandsFor : Open → Frame → Type 0
StandsFor v (first l j o) = IsOpen l j o false v
StandsFor v (second l j o a) = IsOpen l j o true v

-- what stands nowhere in a stack
abbrev pub unused : Open
unused = record { line = 0; kind = K.Table; on = false; left_read = false }

-- the open joins that a stack holds
unfoldable pub Holds : List Open → List Frame → Type 0
Holds s [] = Unit {0}
Holds s (f ∷ fs) = StandsFor (get_or s (length fs) unused) f × Holds s fs

-- THE STACK ITSELF
-- one join more is open
pub record Pushed (v : Open) (o o' : OpenJoins) : Type 0 where
  pub same : o'.joins.ghost_name ≡ o.joins.ghost_name
  pub joins : o'.joins.now ≡ set o.joins.now o.count v
  pub count : o'.count ≡ o.count + 1

-- the innermost join is closed, where one is open
pub record Closes (v : Open) (o o' : OpenJoins) : Type 0 where
  pub same : o'.joins.ghost_name ≡ o.joins.ghost_name
  pub some : o.count ≡ 0 → ⊥
  pub value : v ≡ get_or o.joins.now (o.count - 1) unused
  pub joins : o'.joins.now ≡ o.joins.now
  pub count : o'.count ≡ o.count - 1

unfoldable pub Popped : OpenJoins → OpenJoins → std.Option Open → Type 0
Popped o o' std.None = o.count ≡ 0
Popped o o' (std.Some v) = Closes v o o'

module _ (o o' : OpenJoins) {x : std.Option Open} (h : Popped o o' x) where
  pub popped-none : x ≡ std.None → o.count ≡ 0
  unfolding Popped
  popped-none e = rw e at h

  pub popped_some : {v : Open} → x ≡ std.Some v → Closes v o o'
  unfolding Popped
  popped_some e = rw e at h

-- the left sides that were read, the innermost first
unfoldable pub lefts : List Frame → List From
lefts [] = []
lefts (first l j o ∷ fs) = lefts fs
lefts (second l j o a ∷ fs) = a ∷ lefts fs

-- the innermost one
pub innermost : (s : List Open) {v : Open} {d : ℕ} (f : Frame) (fs : List Frame) → v ≡ get_or s d unused → d ≡ length fs
    → Holds s (f ∷ fs) → StandsFor v f
unfolding Holds
innermost s f fs e z h = rw (e, z) h.0

-- STORES
holds-set : (s : List Open) (i : ℕ) (v : Open) (fs : List Frame) → length fs ≤ i → Holds s fs → Holds (set s i v) fs
unfolding Holds
holds-set s i v [] h g = tt
holds-set s i v (f ∷ fs) h g =
    (rw (get_or-set_other s i (length fs) v unused (λ e. omega (arith, e))) g.0, holds-set s i v fs (omega arith) g.1)

pub holds-push : (s : List Open) (d : ℕ) (v : Open) (f : Frame) (fs : List Frame) → d ≡ length fs → d < length s → StandsFor v f
    → Holds s fs → Holds (set s d v) (f ∷ fs)
unfolding Holds
holds-push s d v f fs z h e g =
    (rw (← z, get_or-set_same s d v unused h) e, holds-set s d v fs (omega arith) g)
