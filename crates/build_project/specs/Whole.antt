-- The projection as a stage: the node before it, the items, the hidden columns.
use Rattle.std.specs.Prelude.{ℕ, pred, ◌+◌, ◌-◌, ◌*◌, ◌≤◌, ◌<◌, ◌≡◌, true, false, List, [], ◌∷◌, ◌++◌, map, length, take, Result, Ok, Err}
use Rattle.std.proofs.Common.{arith, sub-one, sym, ap, ◌∙◌, append_assoc}
use Rattle.std.proofs.Math.Path.{refl}
use Rattle.std.proofs.Math.Option.{Option}
use Rattle.std.proofs.lemmas.List.{length-map}
use Rattle.rules.specs.Refusals.{Answer, ok, limit_passed}
use Rattle.rules.specs.Lists.{Bytes}
use Rattle.rules.specs.Lines.{Word}
use Rattle.rules.specs.Ast.{Item, size}
use Rattle.rules.specs.Plan.{Built, Node}
use Rattle.rules.specs.Cells.{Cell, built_count, column}
use Rattle.rules.specs.Nodes.{project}
use Rattle.rules.specs.Scope as rules
use Rattle.rules.specs.Stage as stages
use Rattle.rules.specs.Sizes.{total}
use Rattle.rules.specs.Items.{is_lone}
use Rattle.rules.specs.BuildExpression.{build, each}
use Rattle.rules.specs.BuildSelect.{item_built, later_of, build_projection}
use Rattle.claims.specs.Answers.{Ensures, then, ensured, each-length}
use Rattle.appends.specs.Area.{cells_numbers, cells-numbers-append}
use Rattle.appends.specs.From.Laid.{stage_of}
use Rattle.appends.specs.Lists.Kinds.{emit_firsts, firsts-ok}
use Rattle.appends.specs.Room.Entries.{entries-within}
use Rattle.appends.specs.Room.Written.{written-whole}
use Rattle.appends.specs.Room.Select.{written-three}
use Rattle.appends.specs.Select.Projection.{project-refused, project-wide, project-step}
use Rattle.numbers.specs.Reasons.{named}
use Rattle.numbers.specs.declared.refusals.Refusal.{Refusal}
use Rattle.ast.specs.Table.{tree_at}
use Rattle.scope.specs.Scopes.{scope_of, labels_of, table_numbers}
use Rattle.scope.specs.declared.Scope.{Scope}
use Rattle.statement.specs.Access.{select_at}
use Rattle.plan.specs.Layout.{cells_end, length_place, record_head}
use Rattle.plan.specs.Emits.{Written}
use Rattle.plan.specs.Pushed.{Kept, kept-all, kept-on, Pushed, Stored, Countable}
use Rattle.plan.specs.declared.nodes.Nodes.{Nodes}
use Rattle.plan.specs.Records.{opened, opened-room, ended}
use Rattle.plan.specs.Parts.{project-items}
use Rattle.claims.specs.Room.Nodes.{items-size, first-size}
use Rattle.plan.specs.Room.{project-in-use}
use Rattle.plan.specs.Steps.{refused-at, refused-on, stands_one, stage-lies, step-none, taken}
use Rattle.stage.specs.Stages.{StageBuilt}
use Rattle.build_expression.specs.Builds.{scope_at}
use Rattle.build_projection.specs.Items.{item_of}
use Rattle.build_projection.specs.Pushes.{items_size, ItemsPut}
use Rattle.build_projection.specs.Pushes as pushes
use Rattle.build_projection.specs.declared.items.Item as listed
use Rattle.build_project.specs.Ready.{ProjectionReady}
use Rattle.build_project.specs.Hidden.{column_parts, positions_of, hidden-emits}
use Rattle.build_project.specs.Widens.{HiddenReady, hidden_at, HiddenPut}

-- ITEMS: how many parts and cells they are
item-three : (s : rules.Scope) (i : Item) → Ensures (item_built s i) (λ x. built_count x.0 ≤ 3 * size i.expr)
unfolding item_built
item-three s i =
    then (build s i.expr) _ _ _ (written-whole s i.expr) λ x h. omega (arith, h, written-three s i.expr)

total-three : (c q : Bytes) (t parts : List ℕ) (items : List listed.Item)
    → total (λ (i : Item). 3 * size i.expr) (map (item_of c q t parts) items) ≡ 3 * items_size c q t parts items
unfolding total items_size
total-three c q t parts [] = refl
total-three c q t parts (x ∷ items) = omega (arith, total-three c q t parts items)

record Pushes (n m w z k : ℕ) : Type 0 where
  most : m ≤ n + z
  parts_are : k ≡ w

items-pushed : (s : rules.Scope) (c q : Bytes) (t parts : List ℕ) (items : List listed.Item) (n : ℕ) (xs : List Cell)
    (as' : List (ℕ × Option Word)) (m : ℕ) → emit_firsts (item_built s) n (map (item_of c q t parts) items) ≡ ok (xs, as', m)
    → Pushes n m (length items) (3 * items_size c q t parts items) (length as')
items-pushed s c q t parts items n xs as' m e =
    let is' = map (item_of c q t parts) items in
    let o = firsts-ok (item_built s) is' n xs as' m e in
    let l = ensured (each (item_built s) is') _ (each-length (item_built s) is') o.built o.answer in
    let w = ensured (each (item_built s) is') _ (entries-within (item_built s) (λ x. x.0)
    (λ (i : Item). 3 * size i.expr) (item-three s) is') o.built o.answer in
    record {
      most = omega (arith, w, total-three c q t parts items, o.next);
      parts_are = ap length (sym o.numbers) ∙ first-size n o.built ∙ l ∙ length-map items (item_of c q t parts);
    }

module _ {c q : Bytes} {t parts : List ℕ} {items : List listed.Item} {s : Scope} {n m : ℕ} {area : List ℕ} {u : Nodes}
    (f : ProjectionReady c q t parts items s n m area u) where
  abbrev scope_here : rules.Scope
  scope_here = scope_of (tree_at c q t) c q s

  abbrev items_here : List Item
  items_here = map (item_of c q t parts) items

  abbrev step : List ℕ → Node Built → Answer stages.Stage
  step froms d = build_projection (stage_of d scope_here) items_here (later_of (select_at c q t froms parts))

  abbrev lent_scope : rules.Scope
  lent_scope = scope_at c q t (labels_of s) (take s.width s.matches) (table_numbers s) s.hidden

  same-scope : scope_here ≡ lent_scope
  unfolding scope_of
  same-scope = refl

  -- A LONE STAR
  lone : is_lone items_here ≡ true → (froms : List ℕ) (d : Node Built) → step froms d ≡ ok (stage_of d scope_here)
  unfolding build_projection
  lone e froms d = rw (e, build_projection)

  pub stage-lone : ((c q : Bytes) → true ≡ is_lone (map (item_of c q t parts) items))
      → (froms : List ℕ) → StageBuilt c q t (step froms) n m area u area u
      (Ok (record { scope = s; at = record { cell = n; node = m } }))
  stage-lone e froms = record {
    kept = refl;
    kept-nodes = kept-all u;
    is = record {
      valid = f.items-ready.valid;
      hidden = omega (arith, f.items-ready.shown);
      taken = taken (record { cell = n; node = m })
          (step-none (omega (arith, f.space)) (lone (sym (e c q)) froms)) refl;
    };
  }

  -- ITEMS
  module _ {u₁ : Nodes} (o : Pushed (opened (project (m - 1) [])) u u₁)
      (e : (c q : Bytes) → false ≡ is_lone (map (item_of c q t parts) items)) where
    abbrev Put : List ℕ → Nodes → Written → Type 0
    Put area₁ u₂ r = ItemsPut c q t parts (labels_of s) (take s.width s.matches) (table_numbers s) items n area area₁ u₁ u₂ r

    pub stage-refused : {area₁ : List ℕ} {u₂ : Nodes} {w : Refusal} → Put area₁ u₂ (Err w) → length area₁ ≡ length area
        → (froms : List ℕ) → StageBuilt c q t (step froms) n m area u area₁ u₂ (Err w)
    stage-refused ps ka froms = record {
      kept = ka;
      kept-nodes = kept-on o.kept ps.kept;
      is = λ d cs rs v. refused-on (rw same-scope (ps.is s.hidden)) λ y i.
          project-refused 0 0 d cs rs n m v items_here (later_of (select_at c q t froms parts)) scope_here (sym (e c q)) y i;
    }

    module _ {area₁ : List ℕ} {u₂ : Nodes} {y : ℕ} (ps : Put area₁ u₂ (Ok y)) (ka : length area₁ ≡ length area) where
      all : pushes.All (emit_firsts (item_built scope_here) n items_here) n area area₁ u₁ u₂ y
      all = rw same-scope (ps.is s.hidden)

      pushed : Pushes n y (length items) (3 * items_size c q t parts items) (length all.parts)
      pushed = items-pushed scope_here c q t parts items n all.cells all.parts y all.is

      pub hidden-ready : HiddenReady c q t parts items s y area₁ u₂
      hidden-ready =
          let b = project-in-use (m - 1) o in
          let d = items-size all.parts in
          record {
            items-ready = f.items-ready;
            later = f.later;
            room = record {
              counted = omega (arith, pushed.most, f.room.counted);
              held = omega (arith, pushed.most, f.room.held, ka);
            };
            space = omega (
              arith,
              b,
              all.pushed.appended.next,
              d,
              pushed.parts_are,
              all.pushed.kept.all,
              o.kept.all,
              f.space,
              f.items-ready.few,
            );
          }

      abbrev Widens : List ℕ → Nodes → Result Scope Refusal → Type 0
      Widens area₂ u₃ r = HiddenPut c q t parts items s y area₁ area₂ u₂ u₃ r

      lent : {area₂ : List ℕ} {u₃ : Nodes} {r : Result Scope Refusal} → Widens area₂ u₃ r → Kept u u₃
      lent p = kept-on o.kept (kept-on ps.kept p.kept-nodes)

      pub stage-wide : {area₂ : List ℕ} {u₃ : Nodes} {z : Refusal} → Widens area₂ u₃ (Err z)
          → (froms : List ℕ) → StageBuilt c q t (step froms) n m area u area₂ u₃ (Err z)
      unfolding named
      stage-wide p froms =
          let l : length items_here ≡ length items = length-map items (item_of c q t parts) in
          let w = p.is froms in
          record {
            kept = p.kept ∙ ka;
            kept-nodes = lent p;
            is = λ d cs rs v. rw w.is (refused-at limit_passed w.one.line _ _
                (project-wide 0 0 d cs rs n m v items_here (later_of (select_at c q t froms parts)) scope_here (sym (e c q))
                all.cells all.parts y all.is w.before w.one w.behind w.columns (rw l w.room)) refl refl);
          }

      module _ {area₂ : List ℕ} {u₃ : Nodes} {x : Scope} (p : Widens area₂ u₃ (Ok x)) where
        abbrev parts_here : List ℕ → List (ℕ × Option Word)
        parts_here froms = all.parts ++ column_parts y (positions_of (hidden_at c q t parts items s froms).columns)

        -- the record with all of its parts, its length not known
        open_record : (froms : List ℕ) → Pushed (opened (project (m - 1) (parts_here froms))) u u₃
        open_record froms = project-items (m - 1) all.parts _ (project-items (m - 1) [] all.parts o all.pushed)
            (p.is.widened froms).parts

        pub end-room : Countable (u.used + length_place) u₃
        end-room =
            let h = (open_record []).appended in
            opened-room (project (m - 1) (parts_here [])) (open_record []) (omega (arith, h.fits, f.most))

        pub next-cell : y + x.hidden < 4294967296
        next-cell = omega (arith, p.is.few, hidden-ready.room.counted)

        pub stage-ended : {u₄ : Nodes} → Stored (u.used + length_place) (u₃.used - (u.used + record_head)) u₃ u₄
            → (froms : List ℕ) → StageBuilt c q t (step froms) n m area u area₂ u₄
            (Ok (record { scope = x; at = record { cell = y + x.hidden; node = m + 1 } }))
        stage-ended en froms =
            let h = hidden_at c q t parts items s froms in
            let l : length items_here ≡ length items = length-map items (item_of c q t parts) in
            let w = p.is.widened froms in
            let ys = map column (positions_of h.columns) in
            let bs = column_parts y (positions_of h.columns) in
            let v = ended (project (m - 1) (all.parts ++ bs)) (open_record froms) en in
            record {
              kept = p.kept ∙ ka;
              kept-nodes = v.kept;
              is = record {
                valid = p.is.valid;
                hidden = p.is.hidden;
                taken = record {
                  cells = all.cells ++ ys;
                  records = project (pred m) (all.parts ++ bs) ∷ [];
                  lies = λ d cs rs b. stage-lies (rw (w.scope-is, w.count) (project-step 0 0 d cs rs n m b items_here
                      (later_of (select_at c q t froms parts)) scope_here (sym (e c q)) all.cells all.parts y all.is ys bs
                      (y + length h.columns) (rw l w.few) (hidden-emits h.columns y)));
                  stands = stands_one _
                      (w.stand ∙ rw (all.stand, cells-numbers-append all.cells ys)
                      (append_assoc (take (cells_end n) area) (cells_numbers all.cells) (cells_numbers ys)))
                      (rw (← sub-one m) v);
                };
              };
            }
