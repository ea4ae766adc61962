-- What a step that may refuse pushes behind the numbers of the nodes: its answer and its numbers.
use Rattle.std.specs.Prelude.{ℕ, List, ⊤, Result, Ok, Err}
use native.Mathlib.Omega.{arith}
use Rattle.std.proofs.Math.Path.{◌≡◌, refl, sym, ap}
use Rattle.std.proofs.Common.{◌∙◌}
use Rattle.rules.specs.Refusals.{Answer, ok, refused}
use Rattle.appends.specs.Answers.{ok-not-refused, ok_same}
use Rattle.numbers.specs.declared.refusals.Refusal.{Refusal}
use Rattle.plan.specs.Pushed.{Kept, Pushed}
use Rattle.plan.specs.declared.nodes.Nodes.{Nodes}
use Rattle.plan.specs.Emits.{result_by}
use Rattle.plan.specs.Steps.{RefusedWith, result-refused}

-- whether it is accepted, or the refusal
abbrev pub Pushing : Type 0
Pushing = Result ⊤ Refusal

unfoldable pub pushed_of : {A : Type 0} → Answer A → Pushing
pushed_of = result_by λ x. tt

module _ {A : Type 0} (f : A → List ℕ) where
  -- r is the answer a, whose numbers f gives of what is accepted, and stand behind those of s; else they are not determined
  pub record Pushes (a : Answer A) (s t : Nodes) (r : Pushing) : Type 0 where
    pub answer : r ≡ pushed_of a
    pub kept : Kept s t
    pub numbers : (x : A) → a ≡ ok x → Pushed (f x) s t

  -- an accepted answer and its numbers
  pub record Accepted (a : Answer A) (s t : Nodes) : Type 0 where
    pub value : A
    pub ok-is : a ≡ ok value
    pub numbers : Pushed (f value) s t

  pub pushes-done : {a : Answer A} {s t : Nodes} {y : ⊤} (x : A) → a ≡ ok x → Pushed (f x) s t → Pushes a s t (Ok y)
  unfolding pushed_of
  pushes-done {a} x e h = record {
    answer = sym (ap pushed_of e);
    kept = h.kept;
    numbers = λ y g. let z : x ≡ y = ok_same (sym e ∙ g) in rw (← z) h;
  }

  pub pushes-refused : {a : Answer A} {v : Refusal} {s t : Nodes} → RefusedWith a v → Kept s t → Pushes a s t (Err v)
  unfolding pushed_of
  pushes-refused {a} w e = record {
    answer = ap Err w.refusal ∙ sym (ap pushed_of w.is);
    kept = e;
    numbers = λ y g. ok-not-refused _ _ (sym g ∙ w.is);
  }

  module _ {a : Answer A} {s t : Nodes} {r : Pushing} (p : Pushes a s t r) where
    pub was-done : {y : ⊤} → r ≡ Ok y → Accepted a s t
    unfolding pushed_of
    was-done {y} e = go a refl
      where
        go : (b : Answer A) → a ≡ b → Accepted a s t
        go (ok x) h = record { value = x; ok-is = h; numbers = p.numbers x h }
        go (refused w) h = absurd (ok-err (sym e ∙ p.answer ∙ ap pushed_of h))
          where
            ok-err : {v : Refusal} → ◌≡◌ {A = Pushing} (Ok y) (Err v) → ⊥
            ok-err g = grind arith

    pub was-refused : (v : Refusal) → r ≡ Err v → RefusedWith a v
    unfolding pushed_of
    was-refused v e = result-refused {B = ⊤} a (λ x. tt) (sym e ∙ p.answer)
