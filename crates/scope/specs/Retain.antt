-- The rows that are retained: those whose expressions are not equal to one before.
use Prim.Native.Nat.{ℕ, suc, ◌+◌, ◌≤◌, ◌<◌}
use native.Mathlib.Omega.{arith}
use Rattle.std.proofs.Math.Numerals.{add-one}
use Rattle.std.specs.Prelude.{◌≡◌, Bool, true, false, drop}
use Rattle.std.proofs.Math.Path.{sym}
use Rattle.std.proofs.Common.{◌∙◌, length-drop, drop_of_length-le, drop-cons}
use mathlib.Core.List.{List, [], ◌∷◌, ◌++◌}
use Rattle.std.proofs.Math.ListN.{length, get_or}
use Rattle.rules.specs.Lists.{any}
use Rattle.rules.specs.Ast.{Expr}
use Rattle.rules.specs.Equality.{equal}
use Rattle.ast.specs.Listed.{rows_in, Listed, listed-none, listed-all, listed-rows, listed-on}
use Rattle.ast.specs.declared.buffer.Rows.{Rows}

-- whether one of the rows ks has an expression equal to x
unfoldable pub has_equal : (ℕ → Expr) → List ℕ → Expr → Bool
has_equal e ks x = any (λ k. equal (e k) x) ks

-- of the rows rs, those that are not equal to one of ks or to one before
unfoldable pub retained : (ℕ → Expr) → List ℕ → List ℕ → List ℕ
retained e ks [] = []
retained e ks (r ∷ rs) = elim (has_equal e ks (e r)) [
  | true ↦ retained e ks rs
  | false ↦ r ∷ retained e (ks ++ (r ∷ [])) rs
]

-- RETAINING
-- behind the rows of s, the rows rs from the i-th on are still to be looked at
pub record Retaining (e : ℕ → Expr) (rs : List ℕ) (s : Rows) (i : ℕ) (s' : Rows) : Type 0 where
  pub room : s'.used + length (drop i rs) ≤ length s'.rows.now
  pub rest : (u : Rows) → Listed (retained e (rows_in s') (drop i rs)) s' u → Listed (retained e (rows_in s) rs) s u

-- none is looked at yet
pub retain-begin : (e : ℕ → Expr) (rs : List ℕ) (s : Rows) → s.used + length rs ≤ length s.rows.now → Retaining e rs s 0 s
retain-begin e rs s h = record { room = h; rest = λ u a. a }

module _ {e : ℕ → Expr} {rs : List ℕ} {s : Rows} {i : ℕ} {s' : Rows} (k : Retaining e rs s i s') where
  module _ (h : i < length rs) {ks : List ℕ} (z : ks ≡ rows_in s') {b : Bool} (t : b ≡ has_equal e ks (e (get_or rs i 0))) where
    -- it is equal to one that is kept
    pub retain-skip : b ≡ true → Retaining e rs s (i + 1) s'
    unfolding retained
    retain-skip g =
        let w : retained e (rows_in s') (drop i rs) ≡ retained e (rows_in s') (drop (i + 1) rs) =
        rw (drop-cons rs i 0 h, retained, ← z, sym t ∙ g, z, add-one i) in
        record {
          room = omega (arith, k.room, length-drop i rs, length-drop (i + 1) rs);
          rest = λ u a. k.rest u (rw w a);
        }

    -- it is kept
    pub retain-keep : b ≡ false → {s'' : Rows} → Listed (get_or rs i 0 ∷ []) s' s'' → Retaining e rs s (i + 1) s''
    unfolding retained
    retain-keep g {s''} l =
        let w : retained e (rows_in s') (drop i rs) ≡ get_or rs i 0 ∷ retained e (rows_in s'') (drop (i + 1) rs) =
        rw (drop-cons rs i 0 h, retained, ← z, sym t ∙ g, add-one i, listed-rows l) in
        record {
          room = omega (arith, k.room, l.used, listed-all l, h, length-drop i rs, length-drop (i + 1) rs);
          rest = λ u a. k.rest u (rw w (listed-on l a));
        }

  pub retain-end : length rs ≤ i → Listed (retained e (rows_in s) rs) s s'
  unfolding retained
  retain-end h = k.rest s' (rw (drop_of_length-le rs h) (listed-none s' (omega (arith, k.room))))

-- WHAT IS KEPT
pub retained-length : (e : ℕ → Expr) (ks rs : List ℕ) → length (retained e ks rs) ≤ length rs
unfolding retained
retained-length e ks [] = omega arith
retained-length e ks (r ∷ rs) =
    go (has_equal e ks (e r)) (retained-length e ks rs) (retained-length e (ks ++ (r ∷ [])) rs)
  where
    go : (b : Bool) → length (retained e ks rs) ≤ length rs → length (retained e (ks ++ (r ∷ [])) rs) ≤ length rs
        → length {A = ℕ} (elim b [ true ↦ retained e ks rs | false ↦ r ∷ retained e (ks ++ (r ∷ [])) rs ])
        ≤ suc (length rs)
    go true h g = omega (arith, h)
    go false h g = omega (arith, g)
