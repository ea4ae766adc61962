-- What building an expression gives, as cells from n on and the number of the next cell.
use Rattle.std.specs.Prelude.{ℕ, ◌+◌, pred, ◌≡◌, refl, List}
use Rattle.std.proofs.Common.{arith, ap}
use Rattle.rules.specs.Refusals.{Refusal, Answer, ok, refused, ◌>>=◌}
use Rattle.rules.specs.Ast.{Expr}
use Rattle.rules.specs.Plan.{Built}
use Rattle.rules.specs.Cells.{Cell, built_count, cells}
use Rattle.rules.specs.Cells as C
use Rattle.rules.specs.Scope.{Scope}
use Rattle.rules.specs.BuildExpression.{build}
use Rattle.appends.specs.Answers.{ok-not-refused}

-- the cells of an answer, the first of them n, and the next
unfoldable pub emitted : ℕ → Answer Built → Answer (List Cell × ℕ)
emitted n r = r >>= λ b. ok (cells n b, n + built_count b)

unfoldable pub emit : Scope → ℕ → Expr → Answer (List Cell × ℕ)
emit s n e = emitted n (build s e)

pub pair_ok : {xs ys : List Cell} {m k : ℕ} → xs ≡ ys → m ≡ k
    → ◌≡◌ {A = Answer (List Cell × ℕ)} (ok (xs, m)) (ok (ys, k))
pair_ok p q = cc

-- what was built where cells xs and the next cell m are given
pub record Emitted (r : Answer Built) (n : ℕ) (xs : List Cell) (m : ℕ) : Type 0 where
  pub built : Built
  pub answer : r ≡ ok built
  pub cells : C.cells n built ≡ xs
  pub next : n + built_count built ≡ m
  pub root : C.root n built ≡ pred m

pub emitted-ok : (r : Answer Built) (n : ℕ) (xs : List Cell) (m : ℕ) → emitted n r ≡ ok (xs, m) → Emitted r n xs m
unfolding emitted ◌>>=◌ C.root
emitted-ok (ok b) n xs m e =
    let p : ◌≡◌ {A = List Cell × ℕ} (cells n b, n + built_count b) (xs, m) = cc in
    record {
      built = b;
      answer = refl;
      cells = ap (λ q. q.0) p;
      next = ap (λ q. q.1) p;
      root = ap (λ q. pred q.1) p;
    }
emitted-ok (refused w) n xs m e = grind arith

pub emitted-refused : (r : Answer Built) (n : ℕ) (w : Refusal) → emitted n r ≡ refused w → r ≡ refused w
unfolding emitted ◌>>=◌
emitted-refused (ok b) n w e = ok-not-refused (cells n b, n + built_count b) w e
emitted-refused (refused v) n w e = let q : v ≡ w = cc in ap refused q
