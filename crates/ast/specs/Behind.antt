-- Recursion over the rows of a table: what a row gives goes by what the rows behind it give, and from the table's end
-- on every row gives the same. As many steps as the table has numbers are then enough, whatever the table holds.
use Prim.Native.Nat.{ℕ, zero, suc, ◌+◌, ◌≤◌, ◌<◌}
use Rattle.std.proofs.Common.{arith}
use Rattle.std.specs.Prelude.{◌≡◌}
use Rattle.std.proofs.Math.Path.{refl, sym}

-- n steps of F, then a
unfoldable pub behind : {A : Type 0} → ((ℕ → A) → ℕ → A) → A → ℕ → ℕ → A
behind F a zero r = a
behind F a (suc n) r = F (behind F a n) r

module _ {A : Type 0} (F : (ℕ → A) → ℕ → A) (a : A) (end : ℕ)
    (local : (f g : ℕ → A) (r : ℕ) → ((p : ℕ) → r < p → f p ≡ g p) → F f r ≡ F g r)
    (past : (f : ℕ → A) (r : ℕ) → end ≤ r → F f r ≡ a) where
  enough : (n m r : ℕ) → end ≤ n + r → end ≤ m + r → behind F a n r ≡ behind F a m r
  unfolding behind
  enough zero zero r h k = refl
  enough zero (suc m) r h k = sym (past (behind F a m) r (omega arith))
  enough (suc n) zero r h k = past (behind F a n) r (omega arith)
  enough (suc n) (suc m) r h k = local (behind F a n) (behind F a m) r (λ p l. enough n m p (omega arith) (omega arith))

  pub behind-step : (r : ℕ) → behind F a end r ≡ F (behind F a end) r
  unfolding behind
  behind-step r = enough end (suc end) r (omega arith) (omega arith)
