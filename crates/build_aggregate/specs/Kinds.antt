-- The two kinds of entries of an aggregate node: its groups and its functions.
use Prim.Native.Nat.{ℕ, ◌+◌, ◌-◌, ◌*◌, ◌≤◌, ◌<◌, pred}
use Rattle.std.proofs.Common.{arith, sym, ◌∙◌}
use Rattle.std.proofs.Math.Numerals.{sub-one}
use Rattle.std.specs.Prelude.{◌≡◌, refl, Bool, true, false, List, [], ◌∷◌, length, Ok, Err}
use Rattle.std.proofs.Math.Path.{ap}
use Rattle.std.proofs.Math.Option.{none, some}
use Rattle.rules.specs.Refusals.{Reason, argument_count, nested_aggregate, unknown_function}
use Rattle.rules.specs.Refusals.{Answer, ok, refused, ◌>>=◌, refuse, refuse_if}
use Rattle.rules.specs.Lists.{Bytes}
use Rattle.rules.specs.Ast.{Expr, star, column, literal, call, unary, binary, is, nil, cons, size, line_of}
use Rattle.rules.specs.Views.{as_call}
use Rattle.rules.specs.Plan.{Built, Aggregate}
use Rattle.rules.specs.Area.{function_numbers}
use Rattle.rules.specs.Cells.{Cell, built_count, root}
use Rattle.rules.specs.Scope.{Scope}
use Rattle.rules.specs.Count.{argument_cost}
use Rattle.rules.specs.BuildExpression.{build}
use Rattle.rules.specs.BuildAggregate.{contains, argument, aggregate_of, build_function}
use Rattle.claims.specs.Answers.{ensured}
use Rattle.claims.specs.Cells.Length.{count-positive}
use Rattle.claims.specs.Count.Costs.{cost_first-most, function-cost}
use Rattle.appends.specs.Answers.{bind_ok, bind-refused, ok_same, ok-not-refused, refuse_if-passed, refuse_if-refused}
use Rattle.appends.specs.Expressions.Emit.{emit}
use Rattle.appends.specs.Lists.Each.{emit_entry, entry_of}
use Rattle.appends.specs.Lists.Entry.{emit_one, emit_second, one-step, one-refused}
use Rattle.appends.specs.Room.Written.{written-whole, written-most}
use Rattle.ast.specs.Table.{tree_at}
use Rattle.ast.specs.Row.{line_at, line-of}
use Rattle.plan.specs.Layout.{function_size}
use Rattle.plan.specs.Emits.{Emitting, Written, written_of, emits-same, accepted}
use Rattle.numbers.specs.Reasons.{named}
use Rattle.numbers.specs.declared.refusals.Reason.TheVariants as Re
use Rattle.numbers.specs.declared.refusals.Refusal.{Refusal}
use Rattle.plan.specs.Steps.{refused-at}
use Rattle.plan.specs.Pushed.{Pushed, kept-all, pushed-on}
use Rattle.plan.specs.declared.nodes.Nodes.{Nodes}
use Rattle.plan.specs.Parts.{functions-on}
use Rattle.build_expression.specs.Builds.{scope_at, Builds}
use Rattle.ast.specs.Called.{called_of}
use Rattle.build_aggregate.specs.Functions.{Calls, step_of, function_step, FunctionBuilds}
use Rattle.build_aggregate.specs.Entries.{step-gave, lists-refused, Listing, Adds}

-- HOW MANY CELLS
record Entry {B C : Type 0} (key : B → Built) (mark : B → ℕ → C) (r : Answer B) (n : ℕ) (c : C) (m : ℕ) : Type 0 where
  built : B
  answer : r ≡ ok built
  entry : mark built (root n (key built)) ≡ c
  next : n + built_count (key built) ≡ m

entry-ok : {B C : Type 0} (key : B → Built) (mark : B → ℕ → C) (r : Answer B) (n : ℕ) (xs : List Cell) (c : C) (m : ℕ)
    → (r >>= λ b. ok (entry_of key mark n b)) ≡ ok (xs, c, m) → Entry key mark r n c m
unfolding ◌>>=◌ entry_of
entry-ok key mark (ok b) n xs c m e = record {
  built = b;
  answer = refl;
  entry = ap (λ p. p.1) (ok_same e);
  next = ap (λ p. p.2) (ok_same e);
}
entry-ok key mark (refused w) n xs c m e = grind arith

pub group-within : (s : Scope) (n : ℕ) (e : Expr) (xs : List Cell) (c m : ℕ)
    → emit_entry (λ b. b) (λ b r. r) (build s) n e ≡ ok (xs, c, m) → m ≤ n + 3 * size e
unfolding emit_entry
group-within s n e xs c m h =
    let o = entry-ok (λ b. b) (λ b r. r) (build s e) n xs c m h in
    let w = ensured (build s e) _ (written-whole s e) o.built o.answer in
    omega (arith, o.next, w, written-most s s e)

argument-most : (s : Scope) (e : Expr) → argument_cost s e ≤ 3 * size e
unfolding argument_cost as_call size
argument-most s (star l) = omega arith
argument-most s (column l t n) = omega arith
argument-most s (literal l v) = omega arith
argument-most s (call l n as') = omega (arith, cost_first-most s as')
argument-most s (unary l o a) = omega arith
argument-most s (binary l o a b) = omega arith
argument-most s (is l a v) = omega arith

pub function-within : (s : Scope) (n : ℕ) (e : Expr) (xs : List Cell) (c : Aggregate × ℕ) (m : ℕ)
    → emit_entry (λ b. b.1) (λ b r. (b.0, r)) (build_function s) n e ≡ ok (xs, c, m) → m ≤ n + 3 * size e
unfolding emit_entry
function-within s n e xs c m h =
    let o = entry-ok (λ b. b.1) (λ b r. (b.0, r)) (build_function s e) n xs c m h in
    let w = ensured (build_function s e) _ (function-cost s e) o.built o.answer in
    omega (arith, o.next, w, argument-most s e)

pub functions-none : function_numbers [] ≡ []
unfolding function_numbers
functions-none = refl

pub function-length : (d : Aggregate × ℕ) → length (function_numbers (d ∷ [])) ≡ function_size
unfolding function_numbers
function-length d = refl

-- THE KINDS, over a scope whose arrays are lent
module _ (c q : Bytes) (t xs ms ts : List ℕ) where
  abbrev pub groups_listing : Listing Built ℕ
  groups_listing = record {
    key = λ b. b;
    mark = λ b r. r;
    build = λ h. build (scope_at c q t xs ms ts h);
    num = λ cs. cs;
    none = refl;
    on = λ cs d a b. pushed-on a b;
    each = 1;
    length-each = λ d. refl;
    within = λ h. group-within (scope_at c q t xs ms ts h);
  }

  abbrev pub functions_listing : Listing (Aggregate × Built) (Aggregate × ℕ)
  functions_listing = record {
    key = λ b. b.1;
    mark = λ b r. (b.0, r);
    build = λ h. build_function (scope_at c q t xs ms ts h);
    num = function_numbers;
    none = functions-none;
    on = λ cs d a b. functions-on cs (d ∷ []) a b;
    each = function_size;
    length-each = function-length;
    within = λ h. function-within (scope_at c q t xs ms ts h);
  }

-- what is refused is not accepted
not-accepted : (a : Emitting) (p : List Cell × ℕ) {w : Refusal} → a ≡ ok p
    → ◌≡◌ {A = Written} (Err w) (written_of a) → ⊥
unfolding written_of
not-accepted a p e h = absurd (let y : ◌≡◌ {A = ℕ} 0 1 = go (rw e at h) in omega arith)
  where
    go : {w : Refusal} {m : ℕ} → ◌≡◌ {A = Written} (Err w) (Ok m) → ◌≡◌ {A = ℕ} 0 1
    go f = cc

-- A GROUP
one_same : (s : Scope) (n : ℕ) (e : Expr) → step_of (emit_one s n e) ≡ emit s n e
unfolding step_of ◌>>=◌
one_same s n e = go (emit s n e) refl
  where
    go : (o : Answer (List Cell × ℕ)) → emit s n e ≡ o → (emit_one s n e >>= λ p. ok (p.0, p.2)) ≡ emit s n e
    go (ok p) h = rw (one-step s n e p.0 p.1 h) (sym h)
    go (refused w) h = rw (one-refused s n e w h) (sym h)

module _ {c q : Bytes} {cells xs ms ts : List ℕ} {r n : ℕ} {area area' : List ℕ} {x : Written}
    (b : Builds c q cells xs ms ts r n area area' x) where
  pub group-added : (m : ℕ) {s t : Nodes} → x ≡ Ok m → Pushed ((m - 1) ∷ []) s t
      → Adds (groups_listing c q cells xs ms ts) (tree_at c q cells r) n area area' s t (Ok m)
  unfolding emit_one step_of ◌>>=◌
  group-added m d a = record {
    is = λ h.
        let s' = scope_at c q cells xs ms ts h in
        let o = accepted m (b.is h) d in
        let e = one-step s' n (tree_at c q cells r) o.cells m o.is in
        record {
          emits = rw (← d) (emits-same (one_same s' n (tree_at c q cells r)) (b.is h));
          kept = a.kept;
          numbers = λ ys i m' f.
              let p = ok_same (sym e ∙ f) in
              let u : pred m ≡ i = ap (λ z. z.1) p in
              rw (← u, ← sub-one m) a;
        };
  }

  pub group-refused : (w : Refusal) (s : Nodes) → x ≡ Err w
      → Adds (groups_listing c q cells xs ms ts) (tree_at c q cells r) n area area' s s (Err w)
  unfolding emit_one written_of step_of ◌>>=◌
  group-refused w s d = record {
    is = λ h.
        let y = emits-same (one_same (scope_at c q cells xs ms ts h) n (tree_at c q cells r)) (b.is h) in
        record {
          emits = rw (← d) y;
          kept = kept-all s;
          numbers = λ ys i m' f. absurd (not-accepted _ (ys, m') (ap step_of f) (sym d ∙ y.answer));
        };
  }

-- A FUNCTION
not-refused : {A X : Type 0} (a : A) (k : Reason) (l : ℕ) → ◌≡◌ {A = Answer A} (ok a) (refuse k l) → X
unfolding refuse
not-refused a k l e = ok-not-refused a _ e

built-called : (s : Scope) (e : Expr) (g : Aggregate) (b : Aggregate × Built) → called_of e ≡ some g
    → build_function s e ≡ ok b → b.0 ≡ g
unfolding called_of as_call build_function line_of aggregate_of refuse
built-called s (star l) g b h f = grind arith
built-called s (column l t n) g b h f = grind arith
built-called s (literal l v) g b h f = grind arith
built-called s (unary l o a) g b h f = grind arith
built-called s (binary l o a e) g b h f = grind arith
built-called s (is l a v) g b h f = grind arith
built-called s (call l w nil) g b h f = not-refused b argument_count l (sym f ∙ rw (h, build_function))
built-called s (call l w (cons a (cons d ds))) g b h f = not-refused b argument_count l (sym f ∙ rw (h, build_function))
built-called s (call l w (cons a nil)) g b h f = go (contains a) refl (argument s g a) refl
  where
    whole : build_function s (call l w (cons a nil)) ≡ refuse_if (contains a) nested_aggregate l >>= λ u.
        argument s g a >>= λ x. ok (g, x)
    whole = rw (h, build_function)

    go : (t : Bool) → contains a ≡ t → (r : Answer Built) → argument s g a ≡ r → b.0 ≡ g
    go true y r z = not-refused b nested_aggregate l (sym f ∙ whole ∙ refuse_if-refused _ _ l _ y)
    go false y (ok x) z = ap (λ p. p.0)
        (ok_same (sym f ∙ whole ∙ refuse_if-passed _ _ l _ y ∙ bind_ok _ _ x z))
    go false y (refused v) z = ok-not-refused b v (sym f ∙ whole ∙ refuse_if-passed _ _ l _ y ∙ bind-refused _ _ v z)

function-entry : (s : Scope) (n : ℕ) (e : Expr) (g : Aggregate) (ys : List Cell) (d : Aggregate × ℕ) (m : ℕ)
    → called_of e ≡ some g → emit_second (build_function s) n e ≡ ok (ys, d, m) → (g, pred m) ≡ d
unfolding emit_second emit_entry root
function-entry s n e g ys d m h f =
    let o = entry-ok (λ b. b.1) (λ b r. (b.0, r)) (build_function s e) n ys d m f in
    let u : o.built.0 ≡ g = built-called s e g o.built h o.answer in
    let v : pred (n + built_count o.built.1) ≡ pred m = ap pred o.next in
    (λ i. (sym u i, sym v i)) ∙ o.entry

module _ {c q : Bytes} {cells xs ms ts : List ℕ} {r n : ℕ} {area area' : List ℕ} {x : Written}
    (b : FunctionBuilds c q cells xs ms ts r n area area' x) where
  pub function-added : (m : ℕ) (g : Aggregate) {s t : Nodes} → Calls c q cells r g → x ≡ Ok m
      → Pushed (function_numbers ((g, m - 1) ∷ [])) s t
      → Adds (functions_listing c q cells xs ms ts) (tree_at c q cells r) n area area' s t (Ok m)
  unfolding emit_second function_step step_of ◌>>=◌
  function-added m g w d a = record {
    is = λ h. record {
      emits = rw (← d) (b.is h);
      kept = a.kept;
      numbers = λ ys i m' f.
          let u = function-entry (scope_at c q cells xs ms ts h) n (tree_at c q cells r) g ys i m' w.is f in
          let o = accepted m (b.is h) d in
          let v : m ≡ m' = ap (λ z. z.1) (ok_same (sym o.is ∙ ap step_of f)) in
          rw (← u, ← v, ← sub-one m) a;
    };
  }

  pub function-refused : (w : Refusal) (s : Nodes) → x ≡ Err w
      → Adds (functions_listing c q cells xs ms ts) (tree_at c q cells r) n area area' s s (Err w)
  unfolding emit_second function_step step_of ◌>>=◌
  function-refused w s d = record {
    is = λ h. record {
      emits = rw (← d) (b.is h);
      kept = kept-all s;
      numbers = λ ys i m' f. absurd (not-accepted _ (ys, m') (ap step_of f) (sym d ∙ (b.is h).answer));
    };
  }

pub function-some : {c q : Bytes} {t xs ms ts : List ℕ} {r n : ℕ} {area area' : List ℕ} {x : Written} (m : ℕ)
    → FunctionBuilds c q t xs ms ts r n area area' x → x ≡ Ok m → 0 < m
unfolding function_step emit_second emit_entry
function-some {c} {q} {t} {xs} {ms} {ts} {r} {n} m b d =
    let s = scope_at c q t xs ms ts 0 in
    let o = accepted m (b.is 0) d in
    let g = step-gave (emit_second (build_function s) n (tree_at c q t r)) o.cells m o.is in
    let e = entry-ok (λ b. b.1) (λ b r. (b.0, r)) (build_function s (tree_at c q t r)) n g.cells g.entry m g.is in
    omega (arith, e.next, count-positive e.built.1)

-- a record that calls no aggregate is refused
unknown : (s : Scope) (e : Expr) → called_of e ≡ none → build_function s e ≡ refuse unknown_function (line_of e)
unfolding called_of build_function as_call line_of
unknown s (star l) h = refl
unknown s (column l t n) h = refl
unknown s (literal l v) h = refl
unknown s (unary l o a) h = refl
unknown s (binary l o a e) h = refl
unknown s (is l a v) h = refl
unknown s (call l w as') h = rw (h, build_function)

pub function-unknown : (c q : Bytes) (t xs ms ts : List ℕ) (r n : ℕ) (area : List ℕ) (s : Nodes) (l : ℕ)
    → called_of (tree_at c q t r) ≡ none → l ≡ line_at t r
    → Adds (functions_listing c q t xs ms ts) (tree_at c q t r) n area area s s
    (Err (record { reason = Re.UnknownFunction; line = l }))
unfolding emit_second emit_entry named refuse ◌>>=◌
function-unknown c q t xs ms ts r n area s l e f = record {
  is = λ h. lists-refused _ (refused-at unknown_function (line_at t r) Re.UnknownFunction l
      (rw (unknown (scope_at c q t xs ms ts h) (tree_at c q t r) e, line-of c q t r)) refl f) refl (kept-all s);
}
