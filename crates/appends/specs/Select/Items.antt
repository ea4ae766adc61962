-- SELECT's items over FROM's node: a plain star needs columns.
use Rattle.std.specs.Prelude.{ℕ, ◌≡◌, refl, true, false, eqb}
use Rattle.std.proofs.Math.Option.{none, some}
use Rattle.rules.specs.Refusals.{ok, refuse, refuse_if, star_without_from}
use Rattle.rules.specs.Ast.{Select}
use Rattle.rules.specs.Plan.{Built, Node, column_count}
use Rattle.rules.specs.Items.{plain_star, stars_have_columns, build_items}
use Rattle.appends.specs.Answers.{bind-refused}

-- STARS
pub stars-none : (w : ℕ) → stars_have_columns none w ≡ ok tt
unfolding stars_have_columns
stars-none w = refl

pub stars-some : (l w : ℕ) → eqb w 0 ≡ false → stars_have_columns (some l) w ≡ ok tt
unfolding stars_have_columns refuse_if
stars-some l w e = rw e

pub stars-refused : (l w : ℕ) → eqb w 0 ≡ true → stars_have_columns (some l) w ≡ refuse star_without_from l
unfolding stars_have_columns refuse_if
stars-refused l w e = rw e

-- ITEMS
module _ (q : Select) (n : Node Built) where
  pub items-star : (l : ℕ) → stars_have_columns (plain_star q.items) (column_count n) ≡ refuse star_without_from l
      → build_items q n ≡ refuse star_without_from l
  unfolding build_items refuse
  items-star l e = bind-refused _ _ _ e
