-- The remap that drops hidden columns as a step: a record and no cell.
use Rattle.std.specs.Prelude.{ℕ, zero, suc, pred, ◌+◌, ◌-◌, ◌≤◌, ◌<◌, ◌≡◌, refl, List, [], ◌∷◌, ◌++◌, length, get_or, take, Ok}
use Rattle.std.proofs.Common.{arith, add-one, sub-one, sym, ap, ◌∙◌, append-nil, take-suc, take_all}
use Rattle.std.proofs.Math.Option.{Option, none, some}
use Rattle.rules.specs.Refusals.{ok}
use Rattle.rules.specs.Lists.{Bytes}
use Rattle.rules.specs.Ast.{Expr}
use Rattle.rules.specs.Plan.{Built, Node}
use Rattle.rules.specs.Nodes.{remap}
use Rattle.rules.specs.Scope as rules
use Rattle.rules.specs.Scope.{remap_hidden}
use Rattle.rules.specs.BuildSelect.{build_remap}
use Rattle.appends.specs.Select.Rows.{remap-step}
use Rattle.scope.specs.Scopes.{scope_of, Valid}
use Rattle.scope.specs.Targets.{hidden_targets, remap-hidden, target_numbers, targets-length, target-numbers}
use Rattle.scope.specs.declared.Scope.{Scope}
use Rattle.plan.specs.Layout.{record_head, length_place}
use Rattle.plan.specs.Pushed.{Pushed, Stored, pushed-none, pushed-on, pushed-as}
use Rattle.plan.specs.declared.nodes.Nodes.{Nodes}
use Rattle.plan.specs.Parts.{remap-targets}
use Rattle.plan.specs.Records.{opened, ended}
use Rattle.plan.specs.Steps.{Steps, step-none, step-done}
use Rattle.plan.specs.declared.steps.Step.{Step}
use Rattle.build_clauses.specs.Rows.{stands-record}

-- of every scope of width w with h columns hidden
pub record RemapBuilt (w h n m : ℕ) (nodes nodes' : Nodes) (x : Step) : Type 0 where
  pub is : (s : Scope) → Valid s → s.width ≡ w → s.hidden ≡ h → (e : ℕ → Expr) (c q : Bytes) (area : List ℕ)
      → Steps (λ d. d) (λ d. ok (build_remap d (scope_of e c q s))) n m area nodes area nodes' (Ok x)

-- THE TARGETS of the first i columns are pushed
pub record Pushing (w h i : ℕ) (nodes₀ nodes : Nodes) : Type 0 where
  pub within : i ≤ w
  pub next : nodes.used ≡ nodes₀.used + i
  pub pushed : Pushed (take i (target_numbers w h)) nodes₀ nodes

pub pushing-begin : (w h : ℕ) (nodes : Nodes) → nodes.used ≤ length nodes.numbers.now → Pushing w h 0 nodes nodes
pushing-begin w h nodes l = record { within = omega arith; next = omega arith; pushed = pushed-none nodes l }

module _ {w h i : ℕ} {nodes₀ nodes : Nodes} (p : Pushing w h i nodes₀ nodes) (u : h ≤ w) where
  pub pushing-more : i < w → {nodes' : Nodes} (x : ℕ) → x ≡ get_or (target_numbers w h) i 0
      → Pushed (x ∷ []) nodes nodes' → Pushing w h (i + 1) nodes₀ nodes'
  pushing-more l x e a =
      let v : i < length (target_numbers w h) = omega (arith, targets-length w h u, l) in
      let s : take i (target_numbers w h) ++ (x ∷ []) ≡ take (suc i) (target_numbers w h) =
      rw e (sym (take-suc (target_numbers w h) i 0 v)) in
      record {
        within = omega (arith, l);
        next = omega (arith, p.next, a.appended.next);
        pushed = rw (add-one i) (pushed-as s (pushed-on p.pushed a));
      }

  pub pushing-end : w ≤ i → Pushed (target_numbers w h) nodes₀ nodes
  pushing-end l =
      pushed-as (take_all i (target_numbers w h) (omega (arith, targets-length w h u, l))) p.pushed

-- NOTHING HIDDEN
remap-none : (d : Node Built) (s : rules.Scope) → remap_hidden s ≡ none → build_remap d s ≡ d
unfolding build_remap
remap-none d s e = rw (e, build_remap)

pub remap-nothing : {w h n m : ℕ} {nodes : Nodes} → h ≡ 0 → nodes.used ≤ length nodes.numbers.now
    → RemapBuilt w h n m nodes nodes (record { cell = n; node = m })
unfolding hidden_targets
remap-nothing z l = record {
  is = λ s v ew eh e c q area.
      let y : s.hidden ≡ 0 = eh ∙ z in
      let g : remap_hidden (scope_of e c q s) ≡ none =
      remap-hidden e c q s v (omega (arith, y)) ∙ ap (hidden_targets s.width) y in
      step-none l (λ d. ap ok (remap-none d (scope_of e c q s) g));
}

-- SOME HIDDEN
record Targets (w h : ℕ) : Type 0 where
  targets : List (Option ℕ)
  is : hidden_targets w h ≡ some targets

some-targets : (w h : ℕ) → (h ≡ 0 → ⊥) → Targets w h
unfolding hidden_targets
some-targets w zero z = absurd (z refl)
some-targets w (suc h) z = record { targets = _; is = refl }

module _ (w h m : ℕ) (z : h ≡ 0 → ⊥) {nodes t u : Nodes} (o : Pushed (opened (remap (m - 1) [])) nodes t)
    (a : Pushed (target_numbers w h) t u) where
  whole : Pushed (opened (remap (m - 1) (some-targets w h z).targets)) nodes u
  whole =
      let y = some-targets w h z in
      remap-targets (m - 1) [] y.targets o (pushed-as (sym (target-numbers w h y.targets y.is)) a)

  pub remap-done : {n : ℕ} {u' : Nodes} → h ≤ w → Stored (nodes.used + length_place) (u.used - (nodes.used + record_head)) u u'
      → RemapBuilt w h n m nodes u' (record { cell = n; node = m + 1 })
  remap-done {n} l f =
      let x = some-targets w h z in
      let b = ended (remap (m - 1) x.targets) whole f in
      record {
        is = λ s v ew eh e c q area.
            let g : remap_hidden (scope_of e c q s) ≡ some x.targets =
            remap-hidden e c q s v (rw (ew, eh) l) ∙ rw (ew, eh) x.is in
            step-done refl b.kept (record {
              cells = [];
              records = remap (pred m) x.targets ∷ [];
              lies = λ d cs rs y. record {
                node = build_remap d (scope_of e c q s);
                answer = refl;
                lays = rw (append-nil cs) (remap-step 0 0 d cs rs n m y (scope_of e c q s) x.targets g);
              };
              stands = stands-record (remap (pred m) x.targets) n area (rw (← sub-one m) b);
            });
      }
