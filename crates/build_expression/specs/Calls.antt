-- Calls: only `sqrt` of one argument is built, and any other is refused before its arguments.
use Rattle.std.specs.Prelude.{ℕ, zero, suc, ◌-◌, Bool, List}
use Rattle.std.proofs.Common.{arith, ap, ◌∙◌}
use Rattle.std.proofs.Math.Path.{◌≡◌, refl}
use Rattle.std.proofs.Math.Bool.{true, false, ◌&&◌}
use Rattle.std.proofs.Math.Option.{none}
use Rattle.std.proofs.Math.Dec.{eqb}
use borrow.Author.Tests.{eqb-true, eq-eqb, ne_eqb}
use Rattle.rules.specs.Refusals.{refuse, unknown_function}
use Rattle.rules.specs.Lists.{Bytes, same}
use Rattle.rules.specs.Lines.{Word, bytes}
use Rattle.rules.specs.Places.{word_at}
use Rattle.rules.specs.Ast.{Expr, call, nil, cons}
use Rattle.rules.specs.Scope.{Scope, matched}
use Rattle.appends.specs.Expressions.Emit.{emit}
use Rattle.appends.specs.Expressions.Steps.{call_none, call-refused, call-more}
use Rattle.ast.specs.Table.{arguments_at}
use Rattle.ast.specs.Called.{is_root_call}
use Rattle.ast.specs.Operands.{arguments-none, arguments-more}
use Rattle.ast.specs.Row.{argument_count, row_name}

-- whether the name of the call at row r is `sqrt`
abbrev pub sqrt_named : Bytes → Bytes → List ℕ → ℕ → Bool
sqrt_named c q t r = same (row_name c q t r).bytes (bytes "sqrt")

-- what is known where it is, and has one argument, and where not
module _ (c q : Bytes) (t : List ℕ) (r : ℕ) where
  pub is-root : is_root_call c q t r ≡ true → (argument_count t r ≡ 1) × (sqrt_named c q t r ≡ true)
  unfolding is_root_call word_at
  is-root = go (eqb (argument_count t r) 1) refl
    where
      go : (b : Bool) → eqb (argument_count t r) 1 ≡ b
          → (b && sqrt_named c q t r) ≡ true
          → (argument_count t r ≡ 1) × (sqrt_named c q t r ≡ true)
      go true e h = (eqb-true (argument_count t r) 1 e, h)
      go false e h = grind arith

  pub no-root : is_root_call c q t r ≡ false → argument_count t r ≡ 1 → sqrt_named c q t r ≡ false
  unfolding is_root_call word_at
  no-root h e = rw (is_root_call, eq-eqb (argument_count t r) 1 e) at h

pub one_argument : (f : ℕ → Expr) (t : List ℕ) (k p : ℕ) → k ≡ 1 → arguments_at f t k p ≡ cons (f p) nil
one_argument f t k p e =
    arguments-more f t k p (omega arith) ∙ ap (cons (f p)) (arguments-none f t (k - 1) _ (omega arith))

-- refused where it has not one argument, or another name
pub call-unknown : (s : Scope) (n l : ℕ) (w : Word) (f : ℕ → Expr) (t : List ℕ) (k p : ℕ)
    → matched s (call l w (arguments_at f t k p)) ≡ none → (k ≡ 1 → same w.bytes (bytes "sqrt") ≡ false)
    → emit s n (call l w (arguments_at f t k p)) ≡ refuse unknown_function l
unfolding arguments_at
call-unknown s n l w f t zero p h g = call_none s n l w h
call-unknown s n l w f t (suc zero) p h g = call-refused s n l w _ h (g (omega arith))
call-unknown s n l w f t (suc (suc k)) p h g = call-more s n l w _ _ _ h
