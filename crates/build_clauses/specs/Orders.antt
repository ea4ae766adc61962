-- ORDER as a step: the cells of its keys, then an order.
use Rattle.std.specs.Prelude.{ℕ, pred, ◌+◌, ◌-◌, ◌≤◌, ◌≡◌, refl, Bool, List, [], ◌∷◌, ◌++◌, length, Ok, Err}
use Rattle.std.proofs.Common.{arith, sub-one}
use Rattle.rules.specs.Refusals.{Refusal, ok, refused}
use Rattle.rules.specs.Lists.{Bytes}
use Rattle.rules.specs.Ast.{Key}
use Rattle.rules.specs.Plan.{Built, Node}
use Rattle.rules.specs.Cells.{Cell}
use Rattle.rules.specs.Nodes.{NodeRecord, order}
use Rattle.rules.specs.Scope.{Scope}
use Rattle.rules.specs.BuildSelect.{key_built, build_order}
use Rattle.appends.specs.Lists.Kinds.{emit_firsts}
use Rattle.appends.specs.Nodes.Lays.{Lays}
use Rattle.appends.specs.From.Laid.{NodeLaid}
use Rattle.appends.specs.Select.Filters.{order-step, order-refused}
use Rattle.plan.specs.Layout.{nodes_size, record_head, length_place}
use Rattle.plan.specs.Pushed.{Pushed, Stored, Countable, kept-on}
use Rattle.plan.specs.declared.nodes.Nodes.{Nodes}
use Rattle.plan.specs.Emits.{Written}
use Rattle.plan.specs.Parts.{order-keys}
use Rattle.plan.specs.Records.{opened, ended, opened-room}
use Rattle.plan.specs.Steps.{RefusedWith, refused-on, stands_one, node-lies, Stepped, Steps, step-none, step-done, step-refused}
use Rattle.numbers.specs.declared.refusals.Refusal as code
use Rattle.build_expression.specs.Builds.{scope_at}
use Rattle.build_clauses.specs.Keys.{keys_at, KeysAs, All, KeysPut}

pub record OrderBuilt (c q : Bytes) (t parts xs ms ts : List ℕ) (n m : ℕ) (area : List ℕ) (nodes : Nodes) (area' : List ℕ)
    (nodes' : Nodes) (x : Stepped) : Type 0 where
  pub is : (h : ℕ) → Steps (λ d. d) (λ d. build_order d (keys_at c q t parts) (scope_at c q t xs ms ts h))
      n m area nodes area' nodes' x

-- NO KEYS
nothing : (ks : List Key) → length ks ≡ 0 → (s : Scope) (d : Node Built) → build_order d ks s ≡ ok d
unfolding build_order
nothing [] e s d = refl
nothing (x ∷ ks) e s d = absurd (omega (arith, e))

pub order-nothing : {c q : Bytes} {t parts xs ms ts : List ℕ} {n m : ℕ} {area : List ℕ} {nodes : Nodes}
    → length (keys_at c q t parts) ≡ 0 → nodes.used ≤ length nodes.numbers.now
    → OrderBuilt c q t parts xs ms ts n m area nodes area nodes (Ok (record { cell = n; node = m }))
order-nothing {c} {q} {t} {parts} e l = record { is = λ h. step-none l (nothing (keys_at c q t parts) e _) }

-- KEYS
module _ (n m : ℕ) (d : Node Built) (cs : List Cell) (rs : List NodeRecord) (h : Lays 0 0 d cs rs n m) (s : Scope) where
  keys_step : (ks : List Key) → (length ks ≡ 0 → ⊥) → (ys : List Cell) (bs : List (ℕ × Bool)) (p : ℕ)
      → emit_firsts (key_built s) n ks ≡ ok (ys, bs, p)
      → NodeLaid (build_order d ks s) 0 0 (cs ++ ys) (rs ++ (order (pred m) bs ∷ [])) p (m + 1)
  keys_step [] z ys bs p f = absurd (z refl)
  keys_step (x ∷ ks) z ys bs p f = order-step 0 0 d cs rs n m h x ks s ys bs p f

  keys-stop : (ks : List Key) → (length ks ≡ 0 → ⊥) → (w : Refusal) → emit_firsts (key_built s) n ks ≡ refused w
      → build_order d ks s ≡ refused w
  keys-stop [] z w f = absurd (z refl)
  keys-stop (x ∷ ks) z w f = order-refused 0 0 d cs rs n m h x ks s w f

module _ {c q : Bytes} {t parts xs ms ts : List ℕ} {n : ℕ} (m : ℕ) {area : List ℕ} {nodes v : Nodes} {area' : List ℕ} {u : Nodes}
    {w : Written} (z : length (keys_at c q t parts) ≡ 0 → ⊥) (o : Pushed (opened (order (m - 1) [])) nodes v)
    (a : KeysPut c q t parts xs ms ts n area v area' u w) where
  pub order-stop : (v' : code.Refusal) → w ≡ Err v' → OrderBuilt c q t parts xs ms ts n m area nodes area' u (Err v')
  unfolding KeysAs
  order-stop v' e = record {
    is = λ h.
        let s = scope_at c q t xs ms ts h in
        let b : RefusedWith (emit_firsts (key_built s) n (keys_at c q t parts)) v' = rw e at (a.is h) in
        step-refused a.kept (kept-on o.kept a.kept-nodes)
        (λ d cs rs y. refused-on b (keys-stop n m d cs rs y s (keys_at c q t parts) z));
  }

  module _ (p : ℕ) (e : w ≡ Ok p) where
    all : (h : ℕ) → All (scope_at c q t xs ms ts h) (keys_at c q t parts) n area v p area' u
    unfolding KeysAs
    all h = rw e at (a.is h)

    whole : (h : ℕ) → Pushed (opened (order (m - 1) (all h).entries)) nodes u
    whole h = order-keys (m - 1) [] (all h).entries o (all h).pushed

    -- the record's length may be stored
    pub order-end : length nodes.numbers.now ≤ nodes_size → Countable (nodes.used + length_place) u
    order-end l =
        let b = (whole 0).appended in
        opened-room (order (m - 1) (all 0).entries) (whole 0) (omega (arith, b.fits, l))

    pub order-done : {u' : Nodes} → Stored (nodes.used + length_place) (u.used - (nodes.used + record_head)) u u'
        → OrderBuilt c q t parts xs ms ts n m area nodes area' u' (Ok (record { cell = p; node = m + 1 }))
    order-done g = record {
      is = λ h.
          let s = scope_at c q t xs ms ts h in
          let b = all h in
          let y = ended (order (m - 1) b.entries) (whole h) g in
          step-done a.kept y.kept (record {
            cells = b.cells;
            records = order (pred m) b.entries ∷ [];
            lies = λ d cs rs v.
                node-lies (keys_step n m d cs rs v s (keys_at c q t parts) z b.cells b.entries p b.is);
            stands = stands_one (order (pred m) b.entries) b.stand (rw (← sub-one m) y);
          });
    }
