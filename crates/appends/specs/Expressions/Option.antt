-- An expression that may be missing, appended: a join's predicate, WHERE, the filter of DELETE and UPDATE.
use Rattle.std.specs.Prelude.{ℕ, pred, ◌≡◌, refl, List, []}
use Rattle.std.proofs.Common.{arith, ap, ◌∙◌}
use Rattle.std.proofs.Math.Option.{Option, none, some}
use Rattle.rules.specs.Refusals.{Refusal, Answer, ok, refused, ◌>>=◌}
use Rattle.rules.specs.Lists.{given}
use Rattle.rules.specs.Ast.{Expr}
use Rattle.rules.specs.Plan.{Built}
use Rattle.rules.specs.Cells.{Cell, number_given}
use Rattle.rules.specs.Scope.{Scope}
use Rattle.rules.specs.BuildExpression.{build, build_option}
use Rattle.appends.specs.Answers.{ok-not-refused, bind_ok, bind-refused}
use Rattle.appends.specs.Expressions.Emit.{emit, emitted-ok, emitted-refused}
use Rattle.appends.specs.Nodes.Lays.{Adds, adds_none, adds_one}

-- cells, root and next cell
unfoldable pub with_root : List Cell × ℕ → List Cell × Option ℕ × ℕ
with_root p = (p.0, some (pred p.1), p.1)

unfoldable pub emit_option : Scope → ℕ → Option Expr → Answer (List Cell × Option ℕ × ℕ)
emit_option s n none = ok ([], none, n)
emit_option s n (some e) = emit s n e >>= λ p. ok (with_root p)

pub option-none : (s : Scope) (n : ℕ) → emit_option s n none ≡ ok ([], none, n)
unfolding emit_option
option-none s n = refl

pub option-step : (s : Scope) (n : ℕ) (e : Expr) (xs : List Cell) (m : ℕ) → emit s n e ≡ ok (xs, m)
    → emit_option s n (some e) ≡ ok (xs, some (pred m), m)
unfolding emit_option with_root ◌>>=◌
option-step s n e xs m h = rw h

pub option-stop : (s : Scope) (n : ℕ) (e : Expr) (w : Refusal) → emit s n e ≡ refused w
    → emit_option s n (some e) ≡ refused w
unfolding emit_option ◌>>=◌
option-stop s n e w h = rw h

-- what was built where these are given
pub record OptionEmitted (s : Scope) (e : Option Expr) (n : ℕ) (xs : List Cell) (o : Option ℕ) (m : ℕ) : Type 0 where
  pub built : Option Built
  pub answer : build_option s e ≡ ok built
  pub adds : Adds n (given built) xs m
  pub number : number_given n built ≡ o

pub option-ok : (s : Scope) (e : Option Expr) (n : ℕ) (xs : List Cell) (o : Option ℕ) (m : ℕ)
    → emit_option s n e ≡ ok (xs, o, m) → OptionEmitted s e n xs o m
unfolding emit_option with_root build_option given number_given emit ◌>>=◌
option-ok s none n xs o m h =
    let t : ◌≡◌ {A = List Cell × Option ℕ × ℕ} ([], none, n) (xs, o, m) = cc in
    let a : ◌≡◌ {A = List Cell} [] xs = ap (λ p. p.0) t in
    let b : ◌≡◌ {A = Option ℕ} none o = ap (λ p. p.1) t in
    let c : n ≡ m = ap (λ p. p.2) t in
    record { built = none; answer = refl; adds = rw (← a, ← c) (adds_none n); number = b }
option-ok s (some e) n xs o m h = go (emit s n e) refl h
  where
    go : (r : Answer (List Cell × ℕ)) → emit s n e ≡ r → (r >>= λ p. ok (with_root p)) ≡ ok (xs, o, m)
        → OptionEmitted s (some e) n xs o m
    go (ok p) q g =
        let t : ◌≡◌ {A = List Cell × Option ℕ × ℕ} (with_root p) (xs, o, m) = cc in
        let b = emitted-ok (build s e) n p.0 p.1 q in
        record {
          built = some b.built;
          answer = bind_ok _ _ _ b.answer;
          adds = adds_one n b.built xs m (b.cells ∙ ap (λ y. y.0) t) (b.next ∙ ap (λ y. y.2) t);
          number = ap some b.root ∙ ap (λ y. y.1) t;
        }
    go (refused w) q g = grind arith

pub option-refused : (s : Scope) (e : Option Expr) (n : ℕ) (w : Refusal) → emit_option s n e ≡ refused w
    → build_option s e ≡ refused w
unfolding emit_option build_option emit ◌>>=◌
option-refused s none n w h = ok-not-refused ([], none, n) w h
option-refused s (some e) n w h = go (emit s n e) refl h
  where
    go : (r : Answer (List Cell × ℕ)) → emit s n e ≡ r → (r >>= λ p. ok (with_root p)) ≡ refused w
        → build_option s (some e) ≡ refused w
    go (ok p) q g = ok-not-refused (with_root p) w g
    go (refused v) q g =
        let t : v ≡ w = cc in
        bind-refused _ _ w (emitted-refused (build s e) n w (q ∙ ap refused t))
