-- A record whose operands are built: each operand has room, and a refused operand, or the cells behind the operands, are
-- the whole tree's.
use Rattle.std.specs.Prelude.{ℕ, suc, ◌+◌, ◌*◌, ◌<◌, ◌≡◌, List, Result, Ok, Err}
use Rattle.std.proofs.Common.{arith, add-one, ap, ◌∙◌}
use Rattle.std.proofs.Math.ListN.{length}
use Rattle.rules.specs.Lists.{Bytes}
use Rattle.rules.specs.Ast.{Expr, size}
use Rattle.ast.specs.Table.{row_size, rows_at, binary_at, tree_at}
use Rattle.ast.specs.Row.{line_at, operator_at, row_literal, second_operand}
use Rattle.claims.specs.Count.Arguments.{arguments-most}
use Rattle.rules.specs.Scope.{empty}
use Rattle.plan.specs.Cells.{Room, room-less}
use Rattle.numbers.specs.Operators.{unary_operator}
use Rattle.numbers.specs.declared.operators.Unary.{Unary}
use Rattle.numbers.specs.declared.refusals.Refusal.{Refusal}
use Rattle.plan.specs.Emits.{Emitting, Written, Emits, emits-same, accepted, stop, next}
use Rattle.build_expression.specs.Rows.{unary_step, is_step, binary_step, Within, emit-within}
use Rattle.build_expression.specs.Builds.{scope_at, Builds, One, Two, Operates, BeginsAs, Begins}
use Rattle.build_expression.specs.declared.Begun.{Begun}
use Rattle.build_expression.specs.declared.Begun.TheVariants as B
use Rattle.build_expression.specs.declared.Operator.{Operator}
use Rattle.build_expression.specs.declared.Operator.TheVariants as O

-- what was built is some cells, three for each expression cell at most
pub built-within : {c q : Bytes} {t xs ms ts : List ℕ} {r n : ℕ} {area area' : List ℕ} {x : Written} (m : ℕ)
    → Builds c q t xs ms ts r n area area' x → x ≡ Ok m → Within n m (tree_at c q t r)
built-within {c} {q} {t} {xs} {ms} {ts} {r} {n} m b e =
    let a = accepted m (b.is 0) e in
    emit-within (scope_at c q t xs ms ts 0) n (tree_at c q t r) a.cells m a.is

built-kept : {c q : Bytes} {t xs ms ts : List ℕ} {r n : ℕ} {area area' : List ℕ} {x : Written}
    → Builds c q t xs ms ts r n area area' x → length area' ≡ length area
built-kept b = (b.is 0).kept

-- every expression is at least one cell
pub leaf_room : (e : Expr) (n : ℕ) (area : List ℕ) → Room n (3 * size e) area → Room n 1 area
leaf_room e n area h = room-less 1 (omega (arith, arguments-most empty e)) h

module _ {c q : Bytes} {t xs ms ts : List ℕ} {r n : ℕ} {area area₁ : List ℕ} {b : Result Begun Refusal}
    (g : Begins c q t xs ms ts r n area area₁ b) where
  pub whole-built : (m : ℕ) → b ≡ Ok (B.Whole m) → Builds c q t xs ms ts r n area area₁ (Ok m)
  unfolding BeginsAs
  whole-built m e = rw e at g.is

  pub begun-refused : (w : Refusal) → b ≡ Err w → Builds c q t xs ms ts r n area area₁ (Err w)
  unfolding BeginsAs
  begun-refused w e = rw e at g.is

  module _ (o : Operator) (e : b ≡ Ok (B.Operands o)) where
    opened : (area₁ ≡ area) × Operates c q t xs ms ts r o
    unfolding BeginsAs
    opened = rw e at g.is

    pub operands-inside : row_size * r < length t
    unfolding Operates
    operands-inside = go o opened.1
      where
        go : (o : Operator) → Operates c q t xs ms ts r o → row_size * r < length t
        go (O.Unary u) h = h.inside
        go O.Is h = h.inside
        go O.Binary h = h.inside

    -- the first operand is smaller
    first-size : size (tree_at c q t (suc r)) < size (tree_at c q t r)
    unfolding Operates
    first-size = go o opened.1
      where
        go : (o : Operator) → Operates c q t xs ms ts r o → size (tree_at c q t (suc r)) < size (tree_at c q t r)
        go (O.Unary u) h = omega (arith, h.size_is)
        go O.Is h = omega (arith, h.size_is)
        go O.Binary h = omega (arith, h.size_is)

    pub first-room : Room n (3 * size (tree_at c q t r)) area → Room n (3 * size (tree_at c q t (r + 1))) area₁
    first-room h =
        let l : length area₁ ≡ length area = ap length opened.0 in
        rw (add-one r) (record { counted = omega (arith, first-size); held = omega (arith, first-size) })

    -- THE FIRST OPERAND BUILT
    module _ {area₂ : List ℕ} {x : Written} (f : Builds c q t xs ms ts (r + 1) n area₁ area₂ x) where
      first : Builds c q t xs ms ts (suc r) n area area₂ x
      first = rw (add-one r, opened.0) at f

      pub first-refused : (w : Refusal) → x ≡ Err w → Builds c q t xs ms ts r n area area₂ (Err w)
      unfolding Operates
      first-refused w d = go o opened.1
        where
          go : (o : Operator) → Operates c q t xs ms ts r o → Builds c q t xs ms ts r n area area₂ (Err w)
          go (O.Unary u) h = record { is = λ i. emits-same (h.is i n) (stop _ w (first.is i) d) }
          go O.Is h = record { is = λ i. emits-same (h.is i n) (stop _ w (first.is i) d) }
          go O.Binary h = record { is = λ i. emits-same (h.is i n) (stop _ w (first.is i) d) }

      module _ (m : ℕ) (d : x ≡ Ok m) where
        pub first_some : 0 < m
        first_some = omega (arith, (built-within m first d).some')

        pub one-room : Room n (3 * size (tree_at c q t r)) area → Room m 1 area₂
        one-room h =
            let w = built-within m first d in
            let l = built-kept first in
            record { counted = omega (arith, first-size); held = omega (arith, first-size) }

        -- what is appended behind the one operand
        one-built : {e : ℕ → Emitting} → One c q t xs ms ts r e → {area₃ : List ℕ} {y : Written} → Emits (e m) m area₂ area₃ y
            → Builds c q t xs ms ts r n area area₃ y
        one-built h y = record { is = λ i. emits-same (h.is i n) (next _ m (first.is i) d y) }

        pub unary-built : (k : Unary) {area₃ : List ℕ} {y : Written} → o ≡ O.Unary k
            → Emits (unary_step (unary_operator k) m) m area₂ area₃ y
            → Builds c q t xs ms ts r n area area₃ y
        unfolding Operates
        unary-built k u y =
            let h : One c q t xs ms ts r (unary_step (unary_operator k)) = rw u at opened.1 in one-built h y

        pub is-built : {area₃ : List ℕ} {y : Written} → o ≡ O.Is
            → Emits (is_step (line_at t r) (row_literal c q t r) m) m area₂ area₃ y
            → Builds c q t xs ms ts r n area area₃ y
        unfolding Operates
        is-built u y =
            let h : One c q t xs ms ts r (is_step (line_at t r) (row_literal c q t r)) = rw u at opened.1 in one-built h y

        -- THE SECOND
        module _ (u : o ≡ O.Binary) (p : ℕ) (v : p ≡ r + 1 + rows_at t (r + 1)) where
          two : Two c q t xs ms ts r
          unfolding Operates
          two = rw u at opened.1

          second-row : p ≡ second_operand t r
          second-row = v ∙ ap (λ (j : ℕ). j + rows_at t j) (add-one r)

          pub second-room : Room n (3 * size (tree_at c q t r)) area → Room m (3 * size (tree_at c q t p)) area₂
          second-room h =
              let w = built-within m first d in
              let l = built-kept first in
              rw second-row (record { counted = omega (arith, two.size_is); held = omega (arith, two.size_is) })

          module _ {area₃ : List ℕ} {y : Written} (s : Builds c q t xs ms ts p m area₂ area₃ y) where
            second : Builds c q t xs ms ts (second_operand t r) m area₂ area₃ y
            second = rw second-row at s

            pub second-refused : (w : Refusal) → y ≡ Err w → Builds c q t xs ms ts r n area area₃ (Err w)
            second-refused w z = record {
              is = λ i. emits-same (two.is i n)
                  (next _ m (first.is i) d (stop _ w (second.is i) z));
            }

            module _ (k : ℕ) (z : y ≡ Ok k) where
              pub second-some : 0 < k
              second-some = omega (arith, (built-within k second z).some')

              pub both-room : Room n (3 * size (tree_at c q t r)) area → Room k 3 area₃
              both-room h =
                  let w = built-within m first d in
                  let w' = built-within k second z in
                  let l = built-kept first in
                  let l' = built-kept second in
                  record { counted = omega (arith, two.size_is); held = omega (arith, two.size_is) }

              pub binary-built : {area₄ : List ℕ} {y' : Written}
                  → Emits (binary_step (binary_at (operator_at t r)) m k) k area₃ area₄ y'
                  → Builds c q t xs ms ts r n area area₄ y'
              binary-built a = record {
                is = λ i. emits-same (two.is i n)
                    (next _ m (first.is i) d (next _ k (second.is i) z a));
              }
