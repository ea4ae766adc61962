-- A row of FROM: a table, or a join with the rows of its sides in the order in which they are built.
use Rattle.std.specs.Prelude.{ℕ, ◌-◌, ◌<◌, ◌≤◌, ◌≡◌, Bool, List, Option, Some, MatchOption}
use Rattle.std.proofs.Common.{arith, ap, ◌∙◌}
use Rattle.std.proofs.Math.Path.{refl, sym}
use mathlib.Core.Logic.{◌⊎◌, inl, inr}
use Rattle.std.proofs.Math.Bool.{true, false}
use Rattle.std.proofs.lemmas.Bool.{false≢true}
use denote.Enum.Bare.{sameb}
use Rattle.rules.specs.Lists.{Bytes}
use Rattle.rules.specs.Ast.{Join, cross, inner, left, right, From}
use Rattle.rules.specs.Ast as Ast
use Rattle.rules.specs.BuildFrom.{is_outer, is_right}
use Rattle.from.specs.Layout.{left_at, from_at}
use Rattle.from.specs.Roots.{left_by, first-most}
use Rattle.from.specs.Access.{line_at, kind_at, row_of, left_side, right_side, join-behind}
use Rattle.from.proofs.RowKinds.{from-kind}
use Rattle.from.specs.contracts.row.Kind.{the_type}
use Rattle.from.specs.declared.row.Kind.{Kind}
use Rattle.from.specs.declared.row.Kind.TheVariants as K
use Rattle.build_from.specs.Tables.{table_row}
use Rattle.build_from.specs.Predicates.{predicate_in}
use Rattle.build_from.specs.declared.rows.Sides.{Sides}

-- the join of a kind
unfoldable pub join_of : Kind → Join
join_of K.Table = cross
join_of K.Cross = cross
join_of K.Inner = inner
join_of K.Left = left
join_of K.Right = right

unfoldable pub join_at : List ℕ → ℕ → Join
join_at froms r = join_of (kind_at froms r)

-- of the sides f and g the one that is built first, and the other: where it is a right join, the right one is first
unfoldable pub first_of : {A : Type 0} → Bool → A → A → A
first_of false f g = f
first_of true f g = g

unfoldable pub second_of : {A : Type 0} → Bool → A → A → A
second_of false f g = g
second_of true f g = f

-- a join whose first side is in row x and whose second one in row y
pub record SideRows (froms : List ℕ) (r x y : ℕ) : Type 0 where
  pub join : kind_at froms r ≡ K.Table → ⊥
  pub first-before : x < r
  pub second-before : y < r
  pub first : x ≡ first_of (is_right (join_at froms r)) (left_at froms r) (r - 1)
  pub second : y ≡ second_of (is_right (join_at froms r)) (left_at froms r) (r - 1)

-- row r is a table, or a join with these sides
pub record SidesAt (froms : List ℕ) (r : ℕ) (o : Option Sides) : Type 0 where
  pub is : MatchOption o (kind_at froms r ≡ K.Table) (λ s. SideRows froms r s.first s.second)

-- KINDS
abbrev pub is_join : Kind → Bool
is_join K.Table = false
is_join K.Cross = true
is_join K.Inner = true
is_join K.Left = true
is_join K.Right = true

abbrev pub outer_kind : Kind → Bool
outer_kind K.Table = false
outer_kind K.Cross = false
outer_kind K.Inner = false
outer_kind K.Left = true
outer_kind K.Right = true

abbrev pub right_kind : Kind → Bool
right_kind K.Table = false
right_kind K.Cross = false
right_kind K.Inner = false
right_kind K.Left = false
right_kind K.Right = true

outer-is : (k : Kind) → is_outer (join_of k) ≡ outer_kind k
unfolding is_outer join_of
outer-is K.Table = refl
outer-is K.Cross = refl
outer-is K.Inner = refl
outer-is K.Left = refl
outer-is K.Right = refl

right_is : (k : Kind) → is_right (join_of k) ≡ right_kind k
unfolding is_right join_of
right_is K.Table = refl
right_is K.Cross = refl
right_is K.Inner = refl
right_is K.Left = refl
right_is K.Right = refl

no_table : (k : Kind) → is_join k ≡ true → k ≡ K.Table → ⊥
no_table k h e = false≢true (sym (ap is_join e) ∙ h)

-- joins whose left side is built first
pub in-order : {k : Kind} → (k ≡ K.Cross) ⊎ ((k ≡ K.Inner) ⊎ (k ≡ K.Left)) → (is_join k ≡ true) × (right_kind k ≡ false)
in-order (inl e) = (rw e, rw e)
in-order (inr (inl e)) = (rw e, rw e)
in-order (inr (inr e)) = (rw e, rw e)

-- by a kind of join
pub plain-kind : (k : Kind) → (k ≡ K.Left → ⊥) → (k ≡ K.Right → ⊥) → false ≡ outer_kind k
plain-kind K.Table f g = refl
plain-kind K.Cross f g = refl
plain-kind K.Inner f g = refl
plain-kind K.Left f g = absurd (f refl)
plain-kind K.Right f g = absurd (g refl)

pub outer-joins : {k : Kind} → (k ≡ K.Left) ⊎ (k ≡ K.Right) → true ≡ outer_kind k
outer-joins (inl e) = rw e
outer-joins (inr e) = rw e

pub one-right : (k : Kind) → sameb the_type k K.Right ≡ right_kind k
one-right K.Table = refl
one-right K.Cross = refl
one-right K.Inner = refl
one-right K.Left = refl
one-right K.Right = refl

module _ (froms : List ℕ) (r : ℕ) {k : Kind} (e : k ≡ kind_at froms r) where
  pub behind : is_join k ≡ true → 1 ≤ r
  behind h = omega (arith, join-behind froms r (λ z. no_table k h (e ∙ z)))

  pub sides-row : {x y : ℕ} → is_join k ≡ true → right_kind k ≡ false → x ≡ left_at froms r → y ≡ r - 1
      → SidesAt froms r (Some (record { first = x; second = y }))
  unfolding join_at first_of second_of
  sides-row {x} {y} h g ex ey =
      let p = behind h in
      record {
        is = record {
          join = λ z. no_table k h (e ∙ z);
          first-before = omega (arith, ex, left_by froms r, first-most froms (r - 1));
          second-before = omega (arith, ey);
          first = rw (← e, right_is k, g) ex;
          second = rw (← e, right_is k, g) ey;
        };
      }

  pub right-row : {x y : ℕ} → is_join k ≡ true → right_kind k ≡ true → x ≡ r - 1 → y ≡ left_at froms r
      → SidesAt froms r (Some (record { first = x; second = y }))
  unfolding join_at first_of second_of
  right-row {x} {y} h g ex ey =
      let p = behind h in
      record {
        is = record {
          join = λ z. no_table k h (e ∙ z);
          first-before = omega (arith, ex);
          second-before = omega (arith, ey, left_by froms r, first-most froms (r - 1));
          first = rw (← e, right_is k, g) ex;
          second = rw (← e, right_is k, g) ey;
        };
      }

  pub outer-row : {a : Bool} → a ≡ outer_kind k → a ≡ is_outer (join_at froms r)
  unfolding join_at
  outer-row h = rw (← e, outer-is k) h

  pub is-right : {a : Bool} → a ≡ right_kind k → a ≡ is_right (join_at froms r)
  unfolding join_at
  is-right h = rw (← e, right_is k) h

-- TREES
abbrev pub join_row : Bytes → Bytes → List ℕ → List ℕ → ℕ → From → From → From
join_row c q cells froms r f g = Ast.join (line_at froms r) (join_at froms r) f g (predicate_in c q cells froms r)

module _ (c q : Bytes) (cells froms : List ℕ) (r : ℕ) where
  pub from-table : kind_at froms r ≡ K.Table → from_at c q cells froms r ≡ table_row c q froms r
  unfolding row_of
  from-table h = from-kind c q cells froms r K.Table (sym h)

  row-join : (k : Kind) (f g : From) → (k ≡ K.Table → ⊥) → row_of c q cells froms k r f g
      ≡ Ast.join (line_at froms r) (join_of k) f g (predicate_in c q cells froms r)
  unfolding row_of join_of
  row-join K.Table f g h = absurd (h refl)
  row-join K.Cross f g h = refl
  row-join K.Inner f g h = refl
  row-join K.Left f g h = refl
  row-join K.Right f g h = refl

  pub from-join : (kind_at froms r ≡ K.Table → ⊥) → from_at c q cells froms r
      ≡ join_row c q cells froms r (left_side c q cells froms r) (right_side c q cells froms r)
  unfolding join_at
  from-join h = from-kind c q cells froms r (kind_at froms r) refl ∙ row-join (kind_at froms r) _ _ h

  -- the trees of the sides
  module _ {x y : ℕ} (s : SideRows froms r x y) where
    at_first : (b : Bool) → x ≡ first_of b (left_at froms r) (r - 1)
        → from_at c q cells froms x ≡ first_of b (left_side c q cells froms r) (right_side c q cells froms r)
    unfolding first_of
    at_first false e = rw e
    at_first true e = rw e

    at_second : (b : Bool) → y ≡ second_of b (left_at froms r) (r - 1)
        → from_at c q cells froms y ≡ second_of b (left_side c q cells froms r) (right_side c q cells froms r)
    unfolding second_of
    at_second false e = rw e
    at_second true e = rw e

    pub first-tree : from_at c q cells froms x
        ≡ first_of (is_right (join_at froms r)) (left_side c q cells froms r) (right_side c q cells froms r)
    first-tree = at_first (is_right (join_at froms r)) s.first

    pub second-tree : from_at c q cells froms y
        ≡ second_of (is_right (join_at froms r)) (left_side c q cells froms r) (right_side c q cells froms r)
    second-tree = at_second (is_right (join_at froms r)) s.second
