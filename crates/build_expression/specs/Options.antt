-- An expression that may be missing: none, or the tree at its row, built over a scope.
use Prim.Native.Nat.{ℕ, ◌-◌, ◌*◌, ◌≤◌}
use Rattle.std.proofs.Common.{arith, ap, append-nil, sub-one}
use Rattle.std.specs.Prelude.{◌≡◌, refl, List, [], ◌++◌, length, take, Result, MatchResult, Ok, Err}
use Rattle.std.specs.Prelude as std
use Rattle.std.specs.Option.{option_map, MatchOption, IsSomeAnd}
use Rattle.std.proofs.Math.Option.{Option, none, some}
use Rattle.rules.specs.Refusals.{ok}
use Rattle.rules.specs.Lists.{Bytes, concat}
use Rattle.rules.specs.Ast.{Expr, size}
use Rattle.rules.specs.Cells.{Cell}
use Rattle.rules.specs.Places.{word_at}
use Rattle.rules.specs.Area.{option_number, span, option_span}
use Rattle.rules.specs.Scope.{Scope}
use Rattle.rules.specs.Sizes.{option_size}
use Rattle.appends.specs.Area.{cells_numbers}
use Rattle.appends.specs.Expressions.Emit.{emit}
use Rattle.appends.specs.Expressions.Option.{emit_option, option-none, option-step, option-stop}
use Rattle.numbers.specs.Options.{option_of}
use Rattle.numbers.specs.declared.refusals.Refusal.{Refusal}
use Rattle.text.specs.Places.{option_numbers, clipped_place}
use Rattle.text.specs.declared.places.Place.{Place}
use Rattle.ast.specs.Names.{option_name}
use Rattle.ast.specs.Table.{tree_at}
use Rattle.plan.specs.Layout.{cells_end}
use Rattle.plan.specs.Cells.{Room}
use Rattle.plan.specs.Emits.{Emits, accepted}
use Rattle.plan.specs.Steps.{RefusedWith, refused-on, emits-refused}
use Rattle.build_expression.specs.Rows.{emit-within}
use Rattle.build_expression.specs.declared.option.BuiltOption.{BuiltOption}

-- the tree at a row that may be missing
unfoldable pub option_tree : Bytes → Bytes → List ℕ → std.Option ℕ → Option Expr
option_tree c q t std.None = none
option_tree c q t (std.Some r) = some (tree_at c q t r)

-- its cells stand from the n-th on
pub record OptionStands (s : Scope) (o : Option Expr) (n : ℕ) (area area' : List ℕ) (x : BuiltOption) : Type 0 where
  pub cells : List Cell
  pub is : emit_option s n o ≡ ok (cells, option_of x.root, x.cell)
  pub stands : take (cells_end x.cell) area' ≡ take (cells_end n) area ++ cells_numbers cells
  pub behind : option_number (option_of x.root) ≤ x.cell

pub record OptionBuilt (s : Scope) (o : Option Expr) (n : ℕ) (area area' : List ℕ) (r : Result BuiltOption Refusal) : Type 0 where
  pub kept : length area' ≡ length area
  pub is : MatchResult r (OptionStands s o n area area') (RefusedWith (emit_option s n o))

-- an expression has a root
pub root-behind : (s : Scope) (n : ℕ) (x : Expr) {area area' : List ℕ} {m : ℕ}
    → Emits (emit s n x) n area area' (Ok m) → 1 ≤ m
root-behind s n x {m = m} h =
    let y = accepted m h refl in
    omega (arith, (emit-within s n x y.cells m y.is).some')

module _ (c q : Bytes) (t : List ℕ) {f : std.Option ℕ} where
  -- none
  pub option-missing : (s : Scope) (n : ℕ) (area : List ℕ) → f ≡ std.None
      → OptionBuilt s (option_tree c q t f) n area area (Ok (record { cell = n; root = std.None }))
  unfolding option_tree option_number cells_numbers concat
  option-missing s n area d = record {
    kept = refl;
    is = record {
      cells = [];
      is = rw d (option-none s n);
      stands = rw append-nil;
      behind = omega arith;
    };
  }

  -- the tree at row p
  module _ {p : ℕ} (d : f ≡ std.Some p) where
    pub option-room : {n : ℕ} {area : List ℕ} → Room n (3 * option_size (option_tree c q t f)) area
        → Room n (3 * size (tree_at c q t p)) area
    unfolding option_tree option_size
    option-room h = rw d at h

    module _ {s : Scope} {n : ℕ} {area area' : List ℕ} where
      pub option-refused : {w : Refusal} → Emits (emit s n (tree_at c q t p)) n area area' (Err w)
          → OptionBuilt s (option_tree c q t f) n area area' (Err w)
      unfolding option_tree
      option-refused {w} h =
          let y = emits-refused w h refl in
          record {
            kept = h.kept;
            is = refused-on y (λ v i. rw d (option-stop s n (tree_at c q t p) v i));
          }

      pub option-accepted : {m : ℕ} → Emits (emit s n (tree_at c q t p)) n area area' (Ok m)
          → OptionBuilt s (option_tree c q t f) n area area' (Ok (record { cell = m; root = std.Some (m - 1) }))
      unfolding option_tree option_number
      option-accepted {m} h =
          let y = accepted m h refl in
          let b = emit-within s n (tree_at c q t p) y.cells m y.is in
          record {
            kept = h.kept;
            is = record {
              cells = y.cells;
              is = rw (d, sub-one m) (option-step s n (tree_at c q t p) y.cells m y.is);
              stands = h.cells y.cells m y.is;
              behind = omega (arith, b.some');
            };
          }

-- what a closure that gives a value of each gives of one that may be missing
pub option-mapped : {A B : Type 0} (v : A → B) (o : std.Option A) (f : std.Option B) {Q : A → B → Type 0}
    → MatchOption o (f ≡ std.None) (λ x. IsSomeAnd f (Q x)) → ((x : A) (y : B) → Q x y → y ≡ v x) → f ≡ option_map v o
option-mapped v std.None f h g = h
option-mapped v (std.Some x) std.None h g = absurd h
option-mapped v (std.Some x) (std.Some y) h g = ap std.Some (g x y h)

-- the numbers of a name that may be missing, cut to its text
pub clipped-span : (c q : Bytes) (o : std.Option Place) {f : std.Option Place} → f ≡ clipped_place c q o
    → option_span (option_name c q o) ≡ option_numbers f
unfolding option_span span word_at option_name clipped_place
clipped-span c q std.None e = rw e
clipped-span c q (std.Some x) e = rw e
