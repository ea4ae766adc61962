-- What a column is set to: the set's expression, or the column's default.
use Prim.Native.Nat.{ℕ, ◌+◌, ◌*◌, ◌<◌, pred}
use native.Mathlib.Omega.{arith}
use Rattle.std.proofs.Math.Path.{◌≡◌, refl, ap}
use Rattle.std.proofs.Common.{sym, ◌∙◌}
use mathlib.Core.List.{List, [], ◌∷◌}
use Rattle.std.proofs.Math.Option.{Option, none, some}
use Rattle.rules.specs.Refusals.{Refusal, ok, refused, refuse, no_default}
use Rattle.rules.specs.Lists.{Bytes}
use Rattle.rules.specs.Schema.{Value, Column, default_at}
use Rattle.rules.specs.Ast.{Expr, size}
use Rattle.rules.specs.Ast as Ast
use Rattle.rules.specs.Cells.{Cell}
use Rattle.rules.specs.Cells as C
use Rattle.rules.specs.Scope.{Scope, lookup, at}
use Rattle.rules.specs.BuildStatement.{set_built}
use Rattle.rules.specs.Sizes.{option_size}
use Rattle.appends.specs.Expressions.Emit.{emit}
use Rattle.appends.specs.Lists.Entry.{emit_second}
use Rattle.appends.specs.Answers.{ok_same, ok-not-refused}
use Rattle.appends.specs.Statements.Update.{set-step, set_value_lem, set-default, set-no-default}
use Rattle.numbers.specs.Literals.{literal_value, given_value}
use Rattle.numbers.specs.declared.literals.Literal.{Literal}
use Rattle.ast.specs.Table.{tree_at}
use Rattle.sections.specs.Expressions.{expr_row}
use Rattle.sections.specs.declared.entry.Entry.{Entry}
use Rattle.statement.specs.EntryAccess.{given_of, given-none, given-some}
use Rattle.plan.specs.Cells.{Room, Puts}
use Rattle.plan.specs.Emits.{Emitting, Written, Emits, accepts, refuses, emits-same}
use Rattle.numbers.specs.Reasons.{named as named_reason}
use Rattle.numbers.specs.declared.refusals.Reason.TheVariants as Re
use Rattle.std.specs.Prelude.{Ok, Err}
use Rattle.std.specs.Prelude as std
use Rattle.build_expression.specs.Rows.{emit-within}
use Rattle.build_expression.specs.Builds.{scope_at, Builds}

-- DEFAULTS
-- its constant from the n-th cell on, or a refusal at line l
unfoldable pub default_step : ℕ → ℕ → Option Value → Emitting
default_step n l none = refuse no_default l
default_step n l (some v) = ok (C.constant v ∷ [], n + 1)

module _ (c q : Bytes) (m : std.Option Literal) {d : Option Value} (h : given_value c q m ≡ d) {area : List ℕ} {n : ℕ} (l : ℕ) where
  pub no-default : m ≡ std.None → Emits (default_step n l d) n area area (Err (record { reason = Re.NoDefault; line = l }))
  unfolding default_step named_reason given_value
  no-default e =
      let y : given_value c q m ≡ none = rw e in
      refuses no_default l Re.NoDefault l refl refl refl (ap (default_step n l) (sym h ∙ y))

  pub a-default : {area' : List ℕ} (v : Literal) → m ≡ std.Some v
      → Puts n (C.constant (literal_value c q v) ∷ []) area area' → Emits (default_step n l d) n area area' (Ok (n + 1))
  unfolding default_step given_value
  a-default v e p =
      let y : given_value c q m ≡ some (literal_value c q v) = rw e in
      accepts (n + 1) p refl (ap (default_step n l) (sym h ∙ y))

-- SETS
-- of column j of the columns cs, for a record at line l
unfoldable pub value_step : Scope → List Column → ℕ → ℕ → ℕ → Option Expr → Emitting
value_step s cs l j n none = default_step n l (default_at cs j)
value_step s cs l j n (some e) = emit s n e

pub record Values (c q : Bytes) (t xs ms ts : List ℕ) (cs : List Column) (j : ℕ) (e : Entry) (n : ℕ)
    (area area' : List ℕ) (x : Written) : Type 0 where
  pub is : (h : ℕ) → Emits (value_step (scope_at c q t xs ms ts h) cs e.line j n (given_of c q t e)) n area area' x

module _ {c q : Bytes} {t xs ms ts : List ℕ} {cs : List Column} {j : ℕ} {e : Entry} {n : ℕ} {area area' : List ℕ}
    {x : Written} where
  pub values-none : e.expressions ≡ 0 → Emits (default_step n e.line (default_at cs j)) n area area' x
      → Values c q t xs ms ts cs j e n area area' x
  unfolding value_step
  values-none z h = record { is = λ k. emits-same (rw (given-none c q t e z)) h }

  pub values-some : (r : ℕ) → (e.expressions ≡ 0 → ⊥) → r ≡ expr_row e → Builds c q t xs ms ts r n area area' x
      → Values c q t xs ms ts cs j e n area area' x
  unfolding value_step
  values-some r z f b = record { is = λ k. emits-same (rw (given-some c q t e z, ← f)) (b.is k) }

module _ (c q : Bytes) (t : List ℕ) (e : Entry) {n : ℕ} {area : List ℕ}
    (h : Room n (3 * option_size (given_of c q t e) + 1) area) where
  pub value_room : (r : ℕ) → (e.expressions ≡ 0 → ⊥) → r ≡ expr_row e → Room n (3 * size (tree_at c q t r)) area
  unfolding option_size
  value_room r z f =
      let m : option_size (given_of c q t e) ≡ size (tree_at c q t r) = rw (given-some c q t e z, f) in
      record { counted = omega (arith, m, h.counted); held = omega (arith, m, h.held) }

-- as an entry of the sets, its column looked up
module _ (s : Scope) (cs : List Column) (x : Ast.Set) (n j : ℕ) (f : lookup s none x.name ≡ at j) where
  pub set-taken : (ys : List Cell) (m : ℕ) → value_step s cs x.line j n x.value ≡ ok (ys, m)
      → emit_second (set_built s cs) n x ≡ ok (ys, (j, pred m), m)
  unfolding value_step default_step refuse
  set-taken ys m h = go x.value refl (default_at cs j) refl h
    where
      go : (v : Option Expr) → x.value ≡ v → (d : Option Value) → default_at cs j ≡ d
          → value_step s cs x.line j n x.value ≡ ok (ys, m)
          → emit_second (set_built s cs) n x ≡ ok (ys, (j, pred m), m)
      go (some e) v d w h = set-step s cs x n j f e ys m v (rw v at h)
      go none v (some d) w h =
          let k : ◌≡◌ {A = Emitting} (ok (C.constant d ∷ [], n + 1)) (ok (ys, m)) = rw (v, w) at h in
          let l : ◌≡◌ {A = List Cell × ℕ} (C.constant d ∷ [], n + 1) (ys, m) = cc in
          let y : C.constant d ∷ [] ≡ ys = ap (λ p. p.0) l in
          let z : n + 1 ≡ m = ap (λ p. p.1) l in
          let u : pred (n + 1) ≡ n = omega arith in
          rw (← y, ← z, u) (set-default s cs x n j f d v w)
      go none v none w h =
          let k : ◌≡◌ {A = Emitting} (refuse no_default x.line) (ok (ys, m)) = rw (v, w) at h in
          grind arith

  pub set-not-taken : (w : Refusal) → value_step s cs x.line j n x.value ≡ refused w
      → emit_second (set_built s cs) n x ≡ refused w
  unfolding value_step default_step refuse
  set-not-taken w h = go x.value refl (default_at cs j) refl
    where
      go : (v : Option Expr) → x.value ≡ v → (d : Option Value) → default_at cs j ≡ d
          → emit_second (set_built s cs) n x ≡ refused w
      go (some e) v d y = set_value_lem s cs x n j f e w v (rw v at h)
      go none v (some d) y = ok-not-refused _ w (rw (v, y) at h)
      go none v none y =
          let g : ◌≡◌ {A = Emitting} (refuse no_default x.line) (refused w) = rw (v, y) at h in
          set-no-default s cs x n j f v y ∙ ap refused (same g)
        where
          same : {v w : Refusal} → ◌≡◌ {A = Emitting} (refused v) (refused w) → v ≡ w
          same g = cc

-- an accepted value is at least one cell
pub value-some : (s : Scope) (cs : List Column) (l j n : ℕ) (v : Option Expr) (ys : List Cell) (m : ℕ)
    → value_step s cs l j n v ≡ ok (ys, m) → n < m
unfolding value_step default_step refuse
value-some s cs l j n (some e) ys m h = (emit-within s n e ys m h).some'
value-some s cs l j n none ys m h = go (default_at cs j) h
  where
    go : (d : Option Value) → default_step n l d ≡ ok (ys, m) → n < m
    go (some d) g = let z : n + 1 ≡ m = ap (λ p. p.1) (ok_same g) in omega (arith, z)
    go none g = grind arith
