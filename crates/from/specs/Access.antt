-- FROM's rows by name, and the tree at a row by its kind: in all rows and at every row.
use Prim.Native.Nat.{ℕ, zero, suc, ◌-◌, ◌≤◌, ◌<◌}
use Rattle.std.proofs.Common.{arith, sub-one, sym, ap, ◌∙◌}
use Rattle.std.proofs.Math.Decide.{dec_lt}
use Rattle.std.specs.Prelude.{◌≡◌, refl, List, [], ◌∷◌}
use Rattle.std.proofs.Math.Option.{Option, none, some}
use Rattle.rules.specs.Lists.{Bytes}
use Rattle.rules.specs.Places.{word_at}
use Rattle.rules.specs.Ast.{Expr, cross, inner, left, right, From, table, join}
use Rattle.ast.specs.Table.{at, tree_at}
use Rattle.rules.specs.Area.{option_number}
use Rattle.numbers.specs.Options.{option_of}
use Rattle.numbers.specs.Codes.{coded}
use Rattle.ast.specs.Names.{name_at}
use Rattle.numbers.specs.Codes.{coded-at, coded-below, coded-above}
use Rattle.from.specs.Layout.{left_at, predicate_at, from_at}
use Rattle.from.specs.declared.row.Kind.{Kind}
use Rattle.from.specs.declared.row.Kind.TheVariants as K
use Rattle.std.specs.Prelude as std

-- NUMBERS
module _ (froms : List ℕ) (r : ℕ) where
  abbrev pub line_at : ℕ
  line_at = at froms r 1

  -- 0 where a join has no predicate, else one more than the predicate's row
  abbrev pub predicate_number : ℕ
  predicate_number = at froms r 2

  abbrev pub name_address : ℕ
  name_address = at froms r 3

  abbrev pub name_length : ℕ
  name_length = at froms r 4

  abbrev pub alias_address : ℕ
  alias_address = at froms r 5

  abbrev pub alias_length : ℕ
  alias_length = at froms r 6

-- PREDICATES
unfoldable pub predicate_row : ℕ → std.Option ℕ
predicate_row zero = std.None
predicate_row (suc r) = std.Some r

unfoldable pub predicate_of : Bytes → Bytes → List ℕ → std.Option ℕ → Option Expr
predicate_of b q cells std.None = none
predicate_of b q cells (std.Some r) = some (tree_at b q cells r)

pub predicate-at : (b q : Bytes) (cells : List ℕ) (x : ℕ) → predicate_at b q cells x ≡ predicate_of b q cells (predicate_row x)
unfolding predicate_at predicate_of predicate_row
predicate-at b q cells zero = refl
predicate-at b q cells (suc r) = refl

pub predicate-none : (x : ℕ) → x ≡ 0 → std.None ≡ predicate_row x
unfolding predicate_row
predicate-none zero h = refl
predicate-none (suc x) h = absurd (omega (arith, h))

pub predicate-some : (x : ℕ) → (x ≡ 0 → ⊥) → std.Some (x - 1) ≡ predicate_row x
unfolding predicate_row
predicate-some zero h = absurd (h refl)
predicate-some (suc x) h = rw (sub-one (suc x))

pub predicate-before : (x : ℕ) (o : std.Option ℕ) → option_number (option_of o) ≡ x → o ≡ predicate_row x
unfolding predicate_row option_number
predicate-before zero std.None h = refl
predicate-before zero (std.Some r) h = absurd (omega (arith, h))
predicate-before (suc x) std.None h = absurd (omega (arith, h))
predicate-before (suc x) (std.Some r) h = let e : r ≡ x = omega (arith, h) in rw e

-- KINDS
-- the kind by its number
unfoldable pub kind_of : ℕ → Kind
kind_of k = coded K.Right (K.Table ∷ K.Cross ∷ K.Inner ∷ K.Left ∷ K.Right ∷ []) 1 k

-- the kind of a row; the first has no sides
unfoldable pub kind_at : List ℕ → ℕ → Kind
kind_at froms zero = K.Table
kind_at froms (suc r) = kind_of (at froms (suc r) 0)

pub kind-first : (froms : List ℕ) (r : ℕ) → r ≡ 0 → K.Table ≡ kind_at froms r
unfolding kind_at
kind-first froms zero h = refl
kind-first froms (suc r) h = absurd (omega arith)

pub kind-behind : (froms : List ℕ) (r : ℕ) → (r ≡ 0 → ⊥) → kind_of (at froms r 0) ≡ kind_at froms r
unfolding kind_at
kind-behind froms zero h = absurd (h refl)
kind-behind froms (suc r) h = refl

pub kind-by : (froms : List ℕ) (r k : ℕ) (x : Kind) → (r ≡ 0 → ⊥) → k ≡ at froms r 0 → x ≡ kind_of k
    → x ≡ kind_at froms r
kind-by froms r k x h e z = z ∙ ap kind_of e ∙ kind-behind froms r h

above : (m k : ℕ) → m ≤ k → (k ≡ m → ⊥) → suc m ≤ k
above m k h ne = omega arith

-- a number of no other kind is a right join's
pub kind-rest : (k : ℕ) → (k ≡ 1 → ⊥) → (k ≡ 2 → ⊥) → (k ≡ 3 → ⊥) → (k ≡ 4 → ⊥) → K.Right ≡ kind_of k
unfolding kind_of
kind-rest k a b c d = sym (elim (dec_lt k 1) [
  | yes y ↦ coded-below _ _ 1 k y
  | no y ↦ let five = above 4 k (above 3 k (above 2 k (above 1 k (omega (arith, y)) a) b) c) d in
      elim (dec_lt 5 k) [
        | yes z ↦ coded-above _ _ 1 k z
        | no z ↦ coded-at _ _ 4 1 k (omega (arith, z, five))
      ]
])

-- TREES
module _ (b q : Bytes) (cells froms : List ℕ) where
  -- what a row of a kind stands for, with the sides u and v
  unfoldable pub row_of : Kind → ℕ → From → From → From
  row_of K.Table r u v = table (line_at froms r) (word_at b q (name_address froms r) (name_length froms r))
      (name_at b q (alias_address froms r) (alias_length froms r))
  row_of K.Cross r u v = join (line_at froms r) cross u v
      (predicate_of b q cells (predicate_row (predicate_number froms r)))
  row_of K.Inner r u v = join (line_at froms r) inner u v
      (predicate_of b q cells (predicate_row (predicate_number froms r)))
  row_of K.Left r u v = join (line_at froms r) left u v
      (predicate_of b q cells (predicate_row (predicate_number froms r)))
  row_of K.Right r u v = join (line_at froms r) right u v
      (predicate_of b q cells (predicate_row (predicate_number froms r)))

  -- a join's sides: the tree at `left_at`, and that at the row before
  abbrev pub left_side : ℕ → From
  left_side r = from_at b q cells froms (left_at froms r)

  abbrev pub right_side : ℕ → From
  right_side r = from_at b q cells froms (r - 1)

-- a join is not in the first row
pub join-behind : (froms : List ℕ) (r : ℕ) → (kind_at froms r ≡ K.Table → ⊥) → 0 < r
unfolding kind_at
join-behind froms zero h = absurd (h refl)
join-behind froms (suc r) h = omega arith
