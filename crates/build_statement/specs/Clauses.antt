-- A filter that may be missing: its cells are the plan's first ones, and the next cell is the number of its root.
use Rattle.std.specs.Prelude.{ℕ, ◌*◌, ◌≤◌, pred, ◌≡◌, refl}
use Rattle.std.specs.Prelude as std
use Rattle.std.specs.Option.{option_map}
use Rattle.std.proofs.Common.{arith}
use Rattle.std.proofs.Math.Path.{ap}
use mathlib.Core.List.{List}
use Rattle.std.proofs.Math.Option.{Option, none, some}
use Rattle.rules.specs.Refusals.{ok, refused, ◌>>=◌}
use Rattle.rules.specs.Lists.{Bytes, map_option}
use Rattle.rules.specs.Ast.{Expr}
use Rattle.rules.specs.Cells.{Cell}
use Rattle.rules.specs.Area.{option_number}
use Rattle.rules.specs.Scope.{Scope}
use Rattle.rules.specs.BuildExpression.{clause_expr}
use Rattle.rules.specs.Sizes.{option_size, clause_size}
use Rattle.appends.specs.Answers.{ok_same}
use Rattle.appends.specs.Expressions.Emit.{emit}
use Rattle.appends.specs.Expressions.Option.{with_root, emit_option}
use Rattle.statement.specs.EntryAccess.{clause_of}
use Rattle.statement.specs.declared.access.Clause.{Clause}
use Rattle.plan.specs.Cells.{Room}
use Rattle.plan.specs.Emits.{Emitting}
use Rattle.build_expression.specs.Rows.{emit-within}
use Rattle.build_expression.specs.Options.{option_tree}

-- the row of a clause w, where there is one
module _ (c q : Bytes) (t : List ℕ) (w : std.Option Clause) {p : std.Option ℕ} (m : p ≡ option_map (λ (x : Clause). x.row) w) where
  pub clause-tree : option_tree c q t p ≡ clause_expr (clause_of c q t w)
  unfolding option_tree clause_of clause_expr map_option
  clause-tree = rw m (go w)
    where
      go : (w : std.Option Clause) → option_tree c q t (option_map (λ (x : Clause). x.row) w) ≡ clause_expr (clause_of c q t w)
      go std.None = refl
      go (std.Some x) = refl

  pub clause-room : {area : List ℕ} → Room 0 (3 * clause_size (clause_of c q t w)) area → Room 0 (3 * option_size (option_tree c q t p)) area
  unfolding clause_size clause_of clause_expr map_option option_tree
  clause-room {area} = rw m (go w)
    where
      go : (w : std.Option Clause) → Room 0 (3 * clause_size (clause_of c q t w)) area
          → Room 0 (3 * option_size (option_tree c q t (option_map (λ (x : Clause). x.row) w))) area
      go std.None h = h
      go (std.Some x) h = h

-- ACCEPTED
-- the root and the next cell of an expression that may be missing, its cells the first ones
pub record Taken (o : Option Expr) (root : Option ℕ) (m : ℕ) : Type 0 where
  pub number : option_number root ≡ m
  pub most : m ≤ 3 * option_size o

pub taken : (s : Scope) (o : Option Expr) (xs : List Cell) (root : Option ℕ) (m : ℕ) → emit_option s 0 o ≡ ok (xs, root, m) → Taken o root m
unfolding emit_option with_root option_number option_size ◌>>=◌
taken s none xs root m h =
    let f = ok_same h in
    let d : none ≡ root = ap (λ p. p.1) f in
    let j : 0 ≡ m = ap (λ p. p.2) f in
    rw (← d, ← j) (record { number = refl; most = omega arith })
taken s (some e) xs root m h = go (emit s 0 e) refl h
  where
    go : (r : Emitting) → emit s 0 e ≡ r → (r >>= λ p. ok (with_root p)) ≡ ok (xs, root, m) → Taken (some e) root m
    go (ok p) q g =
        let f = ok_same g in
        let d : some (pred p.1) ≡ root = ap (λ p. p.1) f in
        let j : p.1 ≡ m = ap (λ p. p.2) f in
        let w = emit-within s 0 e p.0 p.1 q in
        rw (← d, ← j) (record { number = omega (arith, w.some'); most = omega (arith, w.most) })
    go (refused v) q g = absurd (let z : ◌≡◌ {A = ℕ} 0 1 = cc in omega arith)
