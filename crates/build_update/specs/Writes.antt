-- Sets pushed: the cells of what each column is set to, and its position and root among the numbers of the nodes.
use Rattle.std.specs.Prelude.{ℕ, ◌-◌, ◌≤◌, pred, List, [], ◌∷◌, ◌++◌, length, take, Result, Ok, Err, None}
use Rattle.std.proofs.Common.{arith, sub-one, ◌∙◌}
use Rattle.std.proofs.Math.Path.{◌≡◌, refl, sym, ap}
use Rattle.std.proofs.Math.Option.{none}
use Rattle.rules.specs.Refusals.{Answer, ok, refused, refuse}
use Rattle.rules.specs.Lists.{Bytes}
use Rattle.rules.specs.Places.{word_at}
use Rattle.rules.specs.Schema.{Column}
use Rattle.rules.specs.Ast as Ast
use Rattle.rules.specs.Cells.{Cell}
use Rattle.rules.specs.Area.{set_numbers}
use Rattle.rules.specs.Scope.{Scope, Found, lookup, at, missing}
use Rattle.rules.specs.BuildExpression.{found}
use Rattle.rules.specs.BuildStatement.{set_built}
use Rattle.appends.specs.Answers.{ok_same, ok-not-refused}
use Rattle.appends.specs.Area.{cells_numbers}
use Rattle.appends.specs.Lists.Each.{Entries, after_none}
use Rattle.appends.specs.Lists.Entry.{emit_second}
use Rattle.appends.specs.Lists.Kinds.{emit_seconds}
use Rattle.appends.specs.Lists.Loops.{seconds-step, seconds-stop, seconds-done}
use Rattle.appends.specs.Statements.Update.{set-column}
use Rattle.ast.specs.Table.{tree_at}
use Rattle.scope.specs.Lookup.{found_of, qualifier_of, Looked}
use Rattle.numbers.specs.Reasons.{named}
use Rattle.numbers.specs.declared.refusals.Reason.{Reason}
use Rattle.numbers.specs.declared.refusals.Refusal.{Refusal}
use Rattle.sections.specs.declared.entry.Entry.{Entry}
use Rattle.text.specs.declared.places.Place.{Place}
use Rattle.statement.specs.Access.{name_or}
use Rattle.statement.specs.EntryAccess.{word_of, given_of}
use Rattle.plan.specs.Layout.{cells_end}
use Rattle.plan.specs.Pushed.{Kept, Pushed, kept-all}
use Rattle.plan.specs.declared.nodes.Nodes.{Nodes}
use Rattle.plan.specs.Emits.{result_by, Written, Emits, accepted}
use Rattle.build_expression.specs.Builds.{scope_at}
use Rattle.build_expression.specs.Positions.{position_of}
use Rattle.plan.specs.Steps.{RefusedWith, refused-at, refused-on, result-refused, emits-refused}
use Rattle.build_update.specs.Sets.{value_step, Values, set-taken, set-not-taken, value-some}

-- cells, the position and the root of each set, and the next cell
abbrev pub Setting : Type 0
Setting = Answer (Entries (ℕ × ℕ))

-- the next cell, or the refusal
unfoldable pub written_of : Setting → Written
written_of = result_by λ p. p.2

-- r is the answer a, whose cells stand from the n-th on and whose numbers behind those of s where it is accepted; else they
-- are not determined
pub record Writes (a : Setting) (n : ℕ) (area area' : List ℕ) (s t : Nodes) (r : Written) : Type 0 where
  pub answer : r ≡ written_of a
  pub area_kept : length area' ≡ length area
  pub nodes_kept : Kept s t
  pub cells : (p : Entries (ℕ × ℕ)) → a ≡ ok p → take (cells_end p.2) area' ≡ take (cells_end n) area ++ cells_numbers p.0
  pub numbers : (p : Entries (ℕ × ℕ)) → a ≡ ok p → Pushed (set_numbers p.1) s t

-- an accepted answer, m the next cell
pub record Accepted (a : Setting) (n : ℕ) (area area' : List ℕ) (s t : Nodes) (m : ℕ) : Type 0 where
  pub entries : Entries (ℕ × ℕ)
  pub ok-is : a ≡ ok entries
  pub next : entries.2 ≡ m
  pub cells : take (cells_end m) area' ≡ take (cells_end n) area ++ cells_numbers entries.0
  pub numbers : Pushed (set_numbers entries.1) s t

module _ {a : Setting} {n : ℕ} {area area' : List ℕ} {s t : Nodes} where
  pub writes-done : {m : ℕ} → Accepted a n area area' s t m → length area' ≡ length area → Writes a n area area' s t (Ok m)
  unfolding written_of
  writes-done {m} h e = record {
    answer = ap Ok (sym h.next) ∙ sym (ap written_of h.ok-is);
    area_kept = e;
    nodes_kept = h.numbers.kept;
    cells = λ p g. let z : h.entries ≡ p = ok_same (sym h.ok-is ∙ g) in rw (← z, h.next) h.cells;
    numbers = λ p g. let z : h.entries ≡ p = ok_same (sym h.ok-is ∙ g) in rw (← z) h.numbers;
  }

  pub writes-refused : {w : Refusal} → RefusedWith a w → length area' ≡ length area → Kept s t
      → Writes a n area area' s t (Err w)
  unfolding written_of
  writes-refused h e f = record {
    answer = ap Err h.refusal ∙ sym (ap written_of h.is);
    area_kept = e;
    nodes_kept = f;
    cells = λ p g. ok-not-refused _ _ (sym g ∙ h.is);
    numbers = λ p g. ok-not-refused _ _ (sym g ∙ h.is);
  }

  module _ {r : Written} (h : Writes a n area area' s t r) where
    pub was-done : (m : ℕ) → r ≡ Ok m → Accepted a n area area' s t m
    unfolding written_of
    was-done m e = go a refl
      where
        go : (x : Setting) → a ≡ x → Accepted a n area area' s t m
        go (ok p) g =
            let z : ◌≡◌ {A = Written} (Ok m) (Ok p.2) = sym e ∙ h.answer ∙ ap written_of g in
            let c : m ≡ p.2 = cc in
            record { entries = p; ok-is = g; next = sym c; cells = rw c (h.cells p g); numbers = h.numbers p g }
        go (refused w) g = absurd (clash (sym e ∙ h.answer ∙ ap written_of g))
          where
            clash : {x : ℕ} {v : Refusal} → ◌≡◌ {A = Written} (Ok x) (Err v) → ⊥
            clash g = grind arith

    pub was-refused : (w : Refusal) → r ≡ Err w → RefusedWith a w
    unfolding written_of
    was-refused w e = result-refused a (λ p. p.2) (sym e ∙ h.answer)

-- ONE SET
-- of an entry
abbrev pub set_of : Bytes → Bytes → List ℕ → Entry → Ast.Set
set_of c q cells e = record { line = e.line; name = word_of c q e; value = given_of c q cells e }

module _ (s : Scope) (cs : List Column) (n : ℕ) (x : Ast.Set) where
  one-taken : (ys : List Cell) (u : ℕ × ℕ) (m : ℕ) → emit_second (set_built s cs) n x ≡ ok (ys, u, m)
      → emit_seconds (set_built s cs) n (x ∷ []) ≡ ok (ys, u ∷ [], m)
  one-taken ys u m h = sym (after_none n (emit_seconds (set_built s cs) n (x ∷ [])))
      ∙ seconds-step (set_built s cs) ([], [], n) x [] ys u m h ∙ seconds-done (set_built s cs) (ys, u ∷ [], m)

  one-refused : (v : Refusal) → RefusedWith (emit_second (set_built s cs) n x) v
      → RefusedWith (emit_seconds (set_built s cs) n (x ∷ [])) v
  one-refused v h = refused-on h (λ w f. sym (after_none n (emit_seconds (set_built s cs) n (x ∷ [])))
      ∙ seconds-stop (set_built s cs) ([], [], n) x [] w f)

  module _ {f : Found} (hf : lookup s none x.name ≡ f) {p : Written} (h : p ≡ position_of (found x.line f)) where
    -- its column is not found
    unfound : {area : List ℕ} {u : Nodes} (v : Refusal) → p ≡ Err v
        → Writes (emit_seconds (set_built s cs) n (x ∷ [])) n area area u u (Err v)
    unfolding position_of found refuse
    unfound {area} {u} v e = go f refl (sym e ∙ h)
      where
        go : (g : Found) → f ≡ g → ◌≡◌ {A = Written} (Err v) (position_of (found x.line g))
            → Writes (emit_seconds (set_built s cs) n (x ∷ [])) n area area u u (Err v)
        go (at j) z y = grind arith
        go (missing w) z y =
            let k : v ≡ record { reason = named w; line = x.line } = cc in
            rw k (writes-refused
            (one-refused _ (refused-at w x.line (named w) x.line (set-column s cs x n w (hf ∙ z)) refl refl)) refl (kept-all u))

    column-is : (j : ℕ) → p ≡ Ok j → lookup s none x.name ≡ at j
    unfolding position_of found refuse
    column-is j e = go f refl (sym e ∙ h)
      where
        go : (g : Found) → f ≡ g → ◌≡◌ {A = Written} (Ok j) (position_of (found x.line g)) → lookup s none x.name ≡ at j
        go (at i) z y = let u : i ≡ j = cc in hf ∙ z ∙ ap at u
        go (missing w) z y = grind arith

    module _ (j : ℕ) (e : p ≡ Ok j) {area area' : List ℕ} {r : Written}
        (v : Emits (value_step s cs x.line j n x.value) n area area' r) where
      not-built : {u : Nodes} (y : Refusal) → r ≡ Err y
          → Writes (emit_seconds (set_built s cs) n (x ∷ [])) n area area' u u (Err y)
      not-built {u} y g = writes-refused
          (one-refused y (refused-on (emits-refused y v g) (set-not-taken s cs x n j (column-is j e)))) v.kept (kept-all u)

      taken : (m : ℕ) → r ≡ Ok m → {u u' : Nodes} → Pushed (set_numbers ((j, m - 1) ∷ [])) u u'
          → Writes (emit_seconds (set_built s cs) n (x ∷ [])) n area area' u u' (Ok m)
      taken m g w =
          let t = accepted m v g in
          writes-done (record {
            entries = (t.cells, (j, pred m) ∷ [], m);
            ok-is = one-taken t.cells (j, pred m) m (set-taken s cs x n j (column-is j e) t.cells m t.is);
            next = refl;
            cells = v.cells t.cells m t.is;
            numbers = rw (sub-one m) at w;
          }) v.kept

-- over a scope whose arrays are lent: its column is looked up, and its value is built
module _ (c q : Bytes) (t xs ms ts : List ℕ) (cs : List Column) (e : Entry) (n : ℕ) {a : Place} (ha : a ≡ name_or e.name)
    {f : Result ℕ Reason} (hf : Looked c q xs ms ts (qualifier_of c q None) (word_at c q a.address a.length) f)
    {p : Written} (hp : p ≡ position_of (found e.line (found_of f))) where
  looked : (h : ℕ) → lookup (scope_at c q t xs ms ts h) none (set_of c q t e).name ≡ found_of f
  unfolding qualifier_of
  looked h = rw (← ha) (hf.is (tree_at c q t) h)

  pub set-unfound : {area : List ℕ} {u : Nodes} (v : Refusal) → p ≡ Err v → (h : ℕ)
      → Writes (emit_seconds (set_built (scope_at c q t xs ms ts h) cs) n (set_of c q t e ∷ [])) n area area u u (Err v)
  set-unfound v z h = unfound (scope_at c q t xs ms ts h) cs n (set_of c q t e) (looked h) hp v z

  module _ (j : ℕ) (z : p ≡ Ok j) {area area' : List ℕ} {r : Written}
      (v : Values c q t xs ms ts cs j e n area area' r) where
    pub set-refused : {u : Nodes} (y : Refusal) → r ≡ Err y → (h : ℕ)
        → Writes (emit_seconds (set_built (scope_at c q t xs ms ts h) cs) n (set_of c q t e ∷ [])) n area area' u u (Err y)
    set-refused y g h =
        not-built (scope_at c q t xs ms ts h) cs n (set_of c q t e) (looked h) hp j z (v.is h) y g

    -- its root is before the next cell
    pub set-root : (m : ℕ) → r ≡ Ok m → 1 ≤ m
    set-root m g =
        let b = accepted m (v.is 0) g in
        omega (
          arith,
          value-some (scope_at c q t xs ms ts 0) cs e.line j n (given_of c q t e) b.cells m b.is,
        )

    pub set-written : (m : ℕ) → r ≡ Ok m → {u u' : Nodes} → Pushed (set_numbers ((j, m - 1) ∷ [])) u u' → (h : ℕ)
        → Writes (emit_seconds (set_built (scope_at c q t xs ms ts h) cs) n (set_of c q t e ∷ [])) n area area' u u' (Ok m)
    set-written m g w h =
        taken (scope_at c q t xs ms ts h) cs n (set_of c q t e) (looked h) hp j z (v.is h) m g w
