-- The aggregate node: its groups, then its functions, then 3 where they are more than the most columns.
use Rattle.std.specs.Prelude.{ℕ, suc, ◌+◌, ◌*◌, ◌-◌, ◌≤◌, ◌<◌, refl, get_or, take, drop, Ok, Err}
use Rattle.std.proofs.Common.{arith, ◌∙◌, length-take-le}
use Rattle.std.proofs.Math.Path.{◌≡◌, sym, ap}
use mathlib.Core.List.{List, [], ◌∷◌, ◌++◌, map, append_assoc}
use Rattle.std.proofs.Math.ListN.{length, length-map, length-append}
use Rattle.std.proofs.Math.Seq.{split_at}
use Rattle.rules.specs.Refusals.{limit_passed, Answer, ok, ◌>>=◌, at_most}
use Rattle.rules.specs.Limits.{most_columns}
use Rattle.rules.specs.Lists.{Bytes}
use Rattle.rules.specs.Ast.{Expr, line_of, size}
use Rattle.rules.specs.Plan.{Aggregate}
use Rattle.rules.specs.Cells.{Cell}
use Rattle.rules.specs.Nodes.{aggregate}
use Rattle.rules.specs.Area.{function_numbers, record_numbers}
use Rattle.rules.specs.Sizes.{total}
use Rattle.rules.specs.Scope.{Scope}
use Rattle.rules.specs.BuildAggregate.{build_function}
use Rattle.std.proofs.lemmas.List.{map-append}
use Rattle.appends.specs.Answers.{bind_ok, bind-refused, ok_same, at_most-passed, at_most-refused}
use Rattle.appends.specs.Area.{cells-numbers-append}
use Rattle.appends.specs.Lists.Kinds.{emit_all, emit_seconds}
use Rattle.ast.specs.Table.{tree_at}
use Rattle.ast.specs.Row.{line_at, line-of}
use Rattle.plan.specs.Layout.{record_head, aggregate_head, groups_place, length_place, function_size}
use Rattle.plan.specs.Emits.{Written, written_of}
use Rattle.plan.specs.Pushed.{Kept, kept-on, Pushed, Stored, stored-kept}
use Rattle.plan.specs.declared.nodes.Nodes.{Nodes}
use Rattle.plan.specs.Steps.{RefusedWith, refused-at, refused-on}
use Rattle.plan.specs.Parts.{groups-on, groups-ended, aggregate-functions}
use Rattle.plan.specs.Cells.{Room}
use Rattle.plan.specs.Room.{aggregate-in-use}
use Rattle.plan.specs.Records.{opened, ended}
use Rattle.numbers.specs.Reasons.{named}
use Rattle.numbers.specs.declared.refusals.Reason.TheVariants as Re
use Rattle.numbers.specs.declared.refusals.Refusal.{Refusal}
use Rattle.build_expression.specs.Builds.{scope_at}
use Rattle.build_aggregate.specs.Functions.{step_of}
use Rattle.build_aggregate.specs.Entries.{Lists, Gave, gave, gave-refused, lists-refused, Listing, AddsAll, not_done}
use Rattle.build_aggregate.specs.Kinds.{groups_listing, functions_listing}

-- cells, the roots of the groups and the functions, the next cell
unfoldable pub aggregate_step : Scope → ℕ → List Expr → List Expr
    → Answer (List Cell × (List ℕ × List (Aggregate × ℕ)) × ℕ)
aggregate_step s n gs fs =
    emit_all s n gs >>= λ x. emit_seconds (build_function s) x.2 fs >>= λ y.
    at_most most_columns line_of (gs ++ fs) >>= λ u. ok (x.0 ++ y.0, (x.1, y.1), y.2)

-- where the record of a node with g groups and f functions ends that starts behind k numbers
abbrev pub record_end : ℕ → ℕ → ℕ → ℕ
record_end k g f = k + aggregate_head + g + function_size * f

-- behind the groups there is room for the functions
pub rest-room : {B C : Type 0} {L : Listing B C} {tree : ℕ → Expr} {gs : List ℕ} {n : ℕ}
    {area area₁ : List ℕ} {s t : Nodes} {x : Written} (w m : ℕ) → AddsAll L tree gs n area area₁ s t x → x ≡ Ok m
    → Room n (3 * (total (λ r. size (tree r)) gs + w)) area → Room m (3 * w) area₁
rest-room w m a d r = record {
  counted = omega (arith, a.most m d, r.counted);
  held = omega (arith, a.most m d, r.held, (a.is 0).emits.kept);
}

-- the node over a source, of the groups and functions at rows, is appended
pub record NodeBuilt (c q : Bytes) (cells xs ms ts gs fs : List ℕ) (source n : ℕ) (area area' : List ℕ) (s t : Nodes)
    (x : Written) : Type 0 where
  pub is : (h : ℕ) → Lists (λ d. record_numbers (aggregate source d.0 d.1))
      (aggregate_step (scope_at c q cells xs ms ts h) n (map (tree_at c q cells) gs) (map (tree_at c q cells) fs))
      n area area' s t x
  pub used : (m : ℕ) → x ≡ Ok m → t.used ≡ record_end s.used (length gs) (length fs)

-- STEP BY STEP
module _ (s : Scope) (n : ℕ) (gs fs : List Expr) where
  step-groups : (w : Refusal) → RefusedWith (emit_all s n gs) w → RefusedWith (aggregate_step s n gs fs) w
  unfolding aggregate_step
  step-groups w r = refused-on r (λ v e. bind-refused _ _ v e)

  module _ (m : ℕ) (g : Gave (emit_all s n gs) m) where
    step-functions : (w : Refusal) → RefusedWith (emit_seconds (build_function s) m fs) w
        → RefusedWith (aggregate_step s n gs fs) w
    unfolding aggregate_step
    step-functions w r = refused-on r (λ v e. bind_ok _ _ _ g.is ∙ bind-refused _ _ v e)

    module _ (p : ℕ) (f : Gave (emit_seconds (build_function s) m fs) p) where
      step-wide : (es : List Expr) (e : Expr) (rest : List Expr) (l : ℕ) → gs ++ fs ≡ es ++ (e ∷ rest)
          → length es ≡ most_columns → l ≡ line_of e
          → RefusedWith (aggregate_step s n gs fs) (record { reason = Re.LimitPassed; line = l })
      unfolding aggregate_step named
      step-wide es e rest l h w y = refused-at limit_passed (line_of e) Re.LimitPassed l
          (bind_ok _ _ _ g.is ∙ bind_ok _ _ _ f.is
          ∙ ap (λ (u : List Expr). at_most most_columns line_of u
          >>= λ v. ok (g.cells ++ f.cells, (g.entry, f.entry), p)) h
          ∙ at_most-refused most_columns line_of es e rest _ w) refl y

      step-whole : length (gs ++ fs) ≤ most_columns
          → aggregate_step s n gs fs ≡ ok (g.cells ++ f.cells, (g.entry, f.entry), p)
      unfolding aggregate_step
      step-whole h = bind_ok _ _ _ g.is ∙ bind_ok _ _ _ f.is ∙ at_most-passed most_columns line_of _ _ h

-- AS THE CODE GOES, the groups and the functions at rows; the record is begun first
module _ (c q : Bytes) (cells xs ms ts gs fs : List ℕ) (source n : ℕ) {area area₁ : List ℕ} {s s₁ s₂ : Nodes} {x : Written}
    (b : Pushed (opened (aggregate source [] [])) s s₁)
    (a : AddsAll (groups_listing c q cells xs ms ts) (tree_at c q cells) gs n area area₁ s₁ s₂ x) where
  groups-list : (h : ℕ) → Lists (λ cs. cs) (emit_all (scope_at c q cells xs ms ts h) n (map (tree_at c q cells) gs)) n
      area area₁ s₁ s₂ x
  unfolding emit_all
  groups-list h = a.is h

  pub node-groups : (w : Refusal) → x ≡ Err w → NodeBuilt c q cells xs ms ts gs fs source n area area₁ s s₂ (Err w)
  node-groups w d = record {
    is = λ h. lists-refused w (step-groups _ n _ _ w (gave-refused w (groups-list h) d))
        (groups-list h).emits.kept (kept-on b.kept (groups-list h).kept);
    used = λ m e. absurd (not_done e);
  }

  module _ (m : ℕ) (d : x ≡ Ok m) where
    -- how many numbers are in use behind the groups
    pub groups-used : s₂.used ≡ s.used + aggregate_head + length gs
    groups-used = omega (arith, a.used m d, aggregate-in-use source b)

    module _ {area₂ : List ℕ} {s₃ s₄ : Nodes} {y : Written}
        (e : Stored (s.used + groups_place) (s₂.used - (s.used + aggregate_head)) s₂ s₃)
        (f : AddsAll (functions_listing c q cells xs ms ts) (tree_at c q cells) fs m area₁ area₂ s₃ s₄ y) where
      functions-list : (h : ℕ) → Lists function_numbers
          (emit_seconds (build_function (scope_at c q cells xs ms ts h)) m (map (tree_at c q cells) fs)) m
          area₁ area₂ s₃ s₄ y
      unfolding emit_seconds
      functions-list h = f.is h

      area-kept : (h : ℕ) → length area₂ ≡ length area
      area-kept h = (functions-list h).emits.kept ∙ (groups-list h).emits.kept

      pub nodes-kept : Kept s s₄
      nodes-kept =
          kept-on b.kept (kept-on (groups-list 0).kept (kept-on (stored-kept e) (functions-list 0).kept))

      pub node-functions : (w : Refusal) → y ≡ Err w
          → NodeBuilt c q cells xs ms ts gs fs source n area area₂ s s₄ (Err w)
      node-functions w z = record {
        is = λ h. lists-refused w
            (step-functions _ n _ _ m (gave m (groups-list h) d) w (gave-refused w (functions-list h) z))
            (area-kept h) nodes-kept;
        used = λ i v. absurd (not_done v);
      }

      module _ (p : ℕ) (w : y ≡ Ok p) where
        -- and behind the functions
        pub functions-used : s₄.used ≡ record_end s.used (length gs) (length fs)
        functions-used = omega (arith, f.used p w, e.used, groups-used)

        pub node_wide : (r' l : ℕ) → most_columns < length gs + length fs → r' ≡ get_or (gs ++ fs) most_columns 0
            → l ≡ line_at cells r'
            → NodeBuilt c q cells xs ms ts gs fs source n area area₂ s s₄
            (Err (record { reason = Re.LimitPassed; line = l }))
        node_wide r' l v' u o =
            let tree = tree_at c q cells in
            let rows = gs ++ fs in
            let v : most_columns < length rows = omega (arith, length-append gs fs, v') in
            let r = get_or rows most_columns 0 in
            let k : rows ≡ take most_columns rows ++ (r ∷ drop (suc most_columns) rows) =
            split_at rows most_columns 0 v in
            let z : map tree gs ++ map tree fs
            ≡ map tree (take most_columns rows) ++ (tree r ∷ map tree (drop (suc most_columns) rows)) =
            sym (map-append tree gs fs) ∙ ap (map tree) k
            ∙ map-append tree (take most_columns rows) (r ∷ drop (suc most_columns) rows) in
            let i : length (map tree (take most_columns rows)) ≡ most_columns =
            length-map (take most_columns rows) tree ∙ length-take-le most_columns rows (omega (arith, v)) in
            record {
              is = λ h. lists-refused _
                  (step-wide _ n _ _ m (gave m (groups-list h) d) p (gave p (functions-list h) w)
                  (map tree (take most_columns rows)) (tree r) (map tree (drop (suc most_columns) rows)) l z i
                  (o ∙ ap (line_at cells) u ∙ sym (line-of c q cells r))) (area-kept h) nodes-kept;
              used = λ j e'. absurd (not_done e');
            }

        pub node-whole : {s₅ : Nodes} → length gs + length fs ≤ most_columns
            → Stored (s.used + length_place) (s₄.used - (s.used + record_head)) s₄ s₅
            → NodeBuilt c q cells xs ms ts gs fs source n area area₂ s s₅ (Ok p)
        unfolding step_of ◌>>=◌ written_of
        node-whole {s₅} u o = record {
          is = λ h.
              let tree = tree_at c q cells in
              let g' = gave m (groups-list h) d in
              let f' = gave p (functions-list h) w in
              let i : length (map tree gs ++ map tree fs) ≡ length (gs ++ fs) =
              ap length (sym (map-append tree gs fs)) ∙ length-map (gs ++ fs) tree in
              let z = step-whole (scope_at c q cells xs ms ts h) n (map tree gs) (map tree fs) m g' p f'
              (omega (arith, i, u, length-append gs fs)) in
              let a₁ = groups-on source g'.entry b ((groups-list h).numbers g'.cells g'.entry m g'.is) in
              let a₂ = groups-ended source g'.entry a₁ e in
              let a₃ = aggregate-functions source g'.entry [] f'.entry a₂
              ((functions-list h).numbers f'.cells f'.entry p f'.is) in
              let a₄ = ended (aggregate source g'.entry f'.entry) a₃ o in
              let c₁ = (groups-list h).emits.cells g'.cells m (ap step_of g'.is) in
              let c₂ = (functions-list h).emits.cells f'.cells p (ap step_of f'.is) in
              record {
                emits = record {
                  answer = sym (ap (λ r. written_of (step_of r)) z);
                  kept = area-kept h;
                  cells = λ cs i' q'.
                      let y : ◌≡◌ {A = List Cell × ℕ} (g'.cells ++ f'.cells, p) (cs, i') =
                      ok_same (sym (ap step_of z) ∙ q') in
                      let y₀ : g'.cells ++ f'.cells ≡ cs = ap (λ r. r.0) y in
                      let y₁ : p ≡ i' = ap (λ r. r.1) y in
                      rw (← y₀, ← y₁, c₂, c₁, cells-numbers-append g'.cells f'.cells, append_assoc);
                };
                kept = a₄.kept;
                numbers = λ zs r i' q'.
                    let y = ok_same (sym z ∙ q') in
                    let y₀ : (g'.entry, f'.entry) ≡ r = ap (λ o'. o'.1) y in
                    rw (← y₀) a₄;
              };
          used = λ j v. o.used ∙ functions-used;
        }
