-- The values of a row: one value over the scope of no columns, several one behind the other, and a row of them.
use Rattle.std.specs.Prelude.{ℕ, pred, ◌+◌, ◌-◌, ◌*◌, ◌≤◌, ◌<◌, ◌≡◌, refl, length, Ok, Err}
use Rattle.std.proofs.Common.{arith, sub-one, sym, ◌∙◌}
use Rattle.std.proofs.Math.Path.{ap}
use mathlib.Core.List.{List, [], ◌∷◌}
use Rattle.rules.specs.Refusals.{Answer, ok, refused, ◌>>=◌}
use Rattle.rules.specs.Lists.{Bytes}
use Rattle.rules.specs.Ast.{Expr, size, list_of}
use Rattle.rules.specs.Sizes.{total}
use Rattle.rules.specs.Plan.{Built}
use Rattle.rules.specs.Cells.{Cell, built_count}
use Rattle.rules.specs.Scope.{Scope, empty}
use Rattle.rules.specs.BuildExpression.{build, each}
use Rattle.claims.specs.Answers.{ensured, each-length}
use Rattle.claims.specs.Room.Nodes.{roots-size}
use Rattle.appends.specs.Answers.{ok_same, ok-not-refused}
use Rattle.appends.specs.Expressions.Emit.{emit}
use Rattle.appends.specs.Lists.Each.{Entries, after, emit_entry, entry_of, each-end, each_step, each-stop}
use Rattle.appends.specs.Lists.Entry.{emit_one, one-step, one-refused}
use Rattle.appends.specs.Lists.Kinds.{emit_all, all-ok}
use Rattle.appends.specs.Room.Written.{written-whole}
use Rattle.appends.specs.Room.Select.{written-three}
use Rattle.ast.specs.Table.{arguments_at, tree_at}
use Rattle.ast.specs.Table as table
use Rattle.scope.specs.Labels.{columns_of, tables_of}
use Rattle.scope.specs.Scopes.{matches_of, up_to, scope_from}
use Rattle.sections.specs.Expressions.{list-none, list-more, list_length}
use Rattle.plan.specs.Cells.{Room}
use Rattle.plan.specs.Emits.{Written, Emits, accepted}
use Rattle.plan.specs.Pushed.{Kept, Pushed, kept-all, kept-on, pushed-on, pushed-as}
use Rattle.plan.specs.declared.nodes.Nodes.{Nodes}
use Rattle.plan.specs.Parts.{row-whole}
use Rattle.plan.specs.Steps.{refused-on, emits-refused}
use Rattle.numbers.specs.declared.refusals.Refusal.{Refusal}
use Rattle.build_expression.specs.Rows.{emit-within}
use Rattle.build_expression.specs.Builds.{Builds}
use Rattle.build_insert.specs.Lists.{one_root, all_roots, one_row, Listed, Lists, lists-done, lists-refused}
use Rattle.build_insert.specs.Lists.{was-done, was-refused, SoFar, so-far-none, so_far_more, so-far-stop, so-far-all}

-- n values, the first at row r
abbrev pub values_at : Bytes → Bytes → List ℕ → ℕ → ℕ → List Expr
values_at c q cells n r = list_of (arguments_at (tree_at c q cells) cells n r)

-- ONE VALUE, over the scope of no columns
module _ {c q : Bytes} {t : List ℕ} {r n : ℕ} {area area' : List ℕ} {w : Written}
    (b : Builds c q t [] [] [] r n area area' w) where
  emits : Emits (emit empty n (tree_at c q t r)) n area area' w
  unfolding scope_from matches_of columns_of tables_of up_to empty
  emits = b.is 0

  pub value-refused : {s : Nodes} (v : Refusal) → w ≡ Err v
      → Lists one_root (emit_one empty n (tree_at c q t r)) n area area' s s (Err v)
  value-refused {s} v e = lists-refused one_root emits.kept (kept-all s)
      (refused-on (emits-refused v emits e) (one-refused empty n (tree_at c q t r)))

  pub value-some : (m : ℕ) → w ≡ Ok m → n < m
  value-some m e =
      let o = accepted m emits e in
      (emit-within empty n (tree_at c q t r) o.cells m o.is).some'

  pub value-done : {s u : Nodes} (m : ℕ) → w ≡ Ok m → Pushed ((m - 1) ∷ []) s u
      → Lists one_root (emit_one empty n (tree_at c q t r)) n area area' s u (Ok m)
  value-done m e a =
      let o = accepted m emits e in
      lists-done one_root emits.kept (record {
        cells = o.cells;
        entry = pred m;
        is = one-step empty n (tree_at c q t r) o.cells m o.is;
        stand = emits.cells o.cells m o.is;
        numbers = rw (← sub-one m) a;
      })

one-within : (s : Scope) (n : ℕ) (e : Expr) (xs : List Cell) (r m : ℕ) → emit_one s n e ≡ ok (xs, r, m)
    → m ≤ n + 3 * size e
unfolding emit_one emit_entry entry_of ◌>>=◌
one-within s n e xs r m h = go (build s e) refl h
  where
    go : (a : Answer Built) → build s e ≡ a → (a >>= λ b. ok (entry_of (λ b. b) (λ b r. r) n b)) ≡ ok (xs, r, m)
        → m ≤ n + 3 * size e
    go (ok b) f g =
        let z : n + built_count b ≡ m = ap (λ p. p.2) (ok_same g) in
        omega (arith, z, ensured (build s e) _ (written-whole s e) b f, written-three s e)
    go (refused w) f g = ok-not-refused _ w (sym g)

-- THE VALUES OF A ROW: `left` of them are to come, the first at row p
pub record ValuesSoFar (c q : Bytes) (cells : List ℕ) (v r n : ℕ) (area₀ : List ℕ) (s : Nodes) (left p m : ℕ)
    (area : List ℕ) (t : Nodes) : Type 0 where
  pub room : Room m (3 * total size (values_at c q cells left p)) area
  pub space : t.used + left ≤ length t.numbers.now
  pub so_far : SoFar all_roots (emit_all empty n (values_at c q cells v r))
      (λ i. emit_all empty i (values_at c q cells left p)) n area₀ s m area t

pub values-none : (c q : Bytes) (cells : List ℕ) (v r n : ℕ) (area : List ℕ) (s : Nodes)
    → Room n (3 * total size (values_at c q cells v r)) area → s.used + v ≤ length s.numbers.now
    → ValuesSoFar c q cells v r n area s v r n area s
values-none c q cells v r n area s h l = record {
  room = h;
  space = l;
  so_far = so-far-none all_roots (λ i. emit_all empty i (values_at c q cells v r)) n area s refl (omega (arith, l));
}

module _ {c q : Bytes} {cells : List ℕ} {v r n : ℕ} {area₀ : List ℕ} {s₀ : Nodes} {left p m : ℕ} {area : List ℕ}
    {t : Nodes} (s : ValuesSoFar c q cells v r n area₀ s₀ left p m area t) where
  abbrev rest : ℕ → Answer (Entries ℕ)
  rest i = emit_all empty i (values_at c q cells left p)

  pub values-kept : length area ≡ length area₀
  values-kept = s.so_far.kept

  pub values-all : Kept s₀ t
  values-all = s.so_far.numbers.kept

  pub values-done : left ≤ 0
      → Lists all_roots (emit_all empty n (values_at c q cells v r)) n area₀ area s₀ t (Ok m)
  unfolding emit_all
  values-done l =
      let z : values_at c q cells left p ≡ [] = list-none (tree_at c q cells) cells left p l in
      so-far-all all_roots rest s.so_far (ap (emit_all empty m) z ∙ each-end (λ b. b) (λ b r. r) (build empty) m)

  module _ (l : 0 < left) where
    here : values_at c q cells left p ≡ tree_at c q cells p ∷ values_at c q cells (left - 1) (p + table.rows_at cells p)
    here = list-more (tree_at c q cells) cells left p l

    size-here : total size (values_at c q cells left p)
        ≡ size (tree_at c q cells p) + total size (values_at c q cells (left - 1) (p + table.rows_at cells p))
    unfolding total
    size-here = ap (total size) here

    pub value_room : Room m (3 * size (tree_at c q cells p)) area
    value_room = record {
      counted = omega (arith, size-here, s.room.counted);
      held = omega (arith, size-here, s.room.held);
    }

    pub value-space : t.used + 1 ≤ length t.numbers.now
    value-space = omega (arith, s.space)

    module _ {area' : List ℕ} {u : Nodes} {x : Listed}
        (h : Lists one_root (emit_one empty m (tree_at c q cells p)) m area area' t u x) where
      pub values-stop : (b : Refusal) → x ≡ Err b
          → Lists all_roots (emit_all empty n (values_at c q cells v r)) n area₀ area' s₀ u (Err b)
      unfolding emit_all emit_one
      values-stop b e = (lists-refused all_roots (h.kept ∙ values-kept) (kept-on values-all h.all)
          (so-far-stop all_roots rest s.so_far (was-refused one_root h b e) (λ w f.
          ap (λ es. after (s.so_far.cells, s.so_far.entries, m) (emit_all empty m es)) here
          ∙ each-stop (λ b. b) (λ b r. r) (build empty) (s.so_far.cells, s.so_far.entries, m) (tree_at c q cells p) _ w f)))

      pub values-more : (m' p' : ℕ) → x ≡ Ok m' → p' ≡ p + table.rows_at cells p
          → ValuesSoFar c q cells v r n area₀ s₀ (left - 1) p' m' area' u
      unfolding emit_all emit_one
      values-more m' p' e f =
          let d = was-done one_root h m' e in
          let o = one-within empty m (tree_at c q cells p) d.cells d.entry m' d.is in
          rw f (record {
            room = record {
              counted = omega (arith, size-here, o, s.room.counted);
              held = omega (arith, size-here, o, s.room.held, h.kept);
            };
            space = omega (arith, s.space, d.numbers.appended.next, h.all.all, l);
            so_far = so_far_more all_roots rest s.so_far
                (λ i. emit_all empty i (values_at c q cells (left - 1) (p + table.rows_at cells p))) h.kept d
                (ap (λ es. after (s.so_far.cells, s.so_far.entries, m) (emit_all empty m es)) here
                ∙ each_step (λ b. b) (λ b r. r) (build empty) (s.so_far.cells, s.so_far.entries, m)
                (tree_at c q cells p) _ d.cells d.entry m' d.is)
                (pushed-on s.so_far.numbers d.numbers);
          })

-- A ROW: as many roots as values
pub all-length : (s : Scope) (n : ℕ) (es : List Expr) (xs : List Cell) (ns : List ℕ) (m : ℕ)
    → emit_all s n es ≡ ok (xs, ns, m) → length ns ≡ length es
all-length s n es xs ns m h =
    let a = all-ok s es n xs ns m h in
    sym (ap length a.numbers) ∙ roots-size n a.built
    ∙ ensured (each (build s) es) _ (each-length (build s) es) a.built a.answer

pub row-lists : (c q : Bytes) (cells : List ℕ) (v r : ℕ) {n : ℕ} {area area' : List ℕ} {s t u : Nodes} {x : Listed}
    → Pushed (v ∷ []) s t → Lists all_roots (emit_all empty n (values_at c q cells v r)) n area area' t u x
    → Lists one_row (emit_all empty n (values_at c q cells v r)) n area area' s u x
row-lists c q cells v r {n} {area} {area'} {s} {t} {u} {x} a h = go x h
  where
    go : (x : Listed) → Lists all_roots (emit_all empty n (values_at c q cells v r)) n area area' t u x
        → Lists one_row (emit_all empty n (values_at c q cells v r)) n area area' s u x
    go (Ok m) h =
        let d = was-done all_roots h m refl in
        let e : v ≡ length d.entry = sym (all-length empty n (values_at c q cells v r) d.cells d.entry m d.is
        ∙ list_length (tree_at c q cells) cells v r) in
        lists-done one_row h.kept (record {
          cells = d.cells;
          entry = d.entry;
          is = d.is;
          stand = d.stand;
          numbers = row-whole d.entry (pushed-as (ap (λ y. y ∷ []) e) a) d.numbers;
        })
    go (Err b) h = lists-refused one_row h.kept (kept-on a.kept h.all) (was-refused all_roots h b refl)

pub row_room : {v : ℕ} {s t : Nodes} → Pushed (v ∷ []) s t → s.used + 1 + v ≤ length s.numbers.now
    → t.used + v ≤ length t.numbers.now
row_room a h = omega (arith, a.appended.next, a.appended.all, h)
