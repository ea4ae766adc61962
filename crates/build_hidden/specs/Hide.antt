-- The columns of visited rows, hidden one behind the other.
use Rattle.std.specs.Prelude as std
use Rattle.std.specs.Prelude.{ℕ, suc, ◌+◌, ◌≤◌, ◌<◌, get_or, take, drop, set, Result, Ok, Err}
use Rattle.std.proofs.Common.{arith, ◌∙◌, drop_of_length-le, drop-cons}
use Rattle.std.proofs.Math.Numerals.{add-one}
use Rattle.std.proofs.Math.Path.{◌≡◌, refl, sym, ap}
use Rattle.std.proofs.Math.Bool.{true}
use mathlib.Core.List.{List, [], ◌∷◌, ◌++◌, map, map-append, append_assoc, append-nil}
use Rattle.std.proofs.Math.Option.{Option, none, some}
use Rattle.std.proofs.Math.ListN.{length, length-append, length-set}
use Rattle.std.proofs.Math.Seq.{take-suc-set}
use Rattle.rules.specs.Limits.{most_columns}
use Rattle.rules.specs.Lists.{Bytes}
use Rattle.rules.specs.Ast.{Expr, line_of}
use Rattle.rules.specs.Scope as rules
use Rattle.rules.specs.Scope.{add_passthrough}
use Rattle.numbers.specs.Reasons.{named}
use Rattle.numbers.specs.declared.refusals.Reason.TheVariants.{LimitPassed}
use Rattle.numbers.specs.declared.refusals.Refusal.{Refusal}
use Rattle.rules.specs.Hidden.{HiddenColumn, Hidden, add_hidden, to_hide, visit}
use Rattle.ast.specs.Table.{tree_at}
use Rattle.ast.specs.Row.{line_at, line-of}
use Rattle.scope.specs.Slots.{below_at}
use Rattle.scope.specs.Scopes.{scope_from, scope_of, labels_of, table_numbers, Valid}
use Rattle.scope.specs.Project.{label-found}
use Rattle.numbers.specs.Options.{option_of}
use Rattle.scope.specs.Hide.{HiddenFits, HiddenAdded}
use Rattle.scope.specs.declared.Scope.{Scope}
use Rattle.build_expression.specs.Builds.{scope_at}
use Rattle.build_hidden.specs.Terms.{Passable, HiddenAs, shown_of}
use Rattle.build_hidden.specs.Visits.{hidden_by, trees_at}
use Rattle.build_hidden.specs.Lacking.{Lacking, lacking-below}

-- CONTRACT
pub record RowsHidden (c q : Bytes) (t xs ms ts rows : List ℕ) (child : Scope) (positions positions' : List ℕ)
    (r : Result Scope Refusal) : Type 0 where
  pub is : (h : ℕ) → HiddenAs c q t child
      (hidden_by (scope_at c q t xs ms ts h) (trees_at c q t rows) (shown_of c q t child)) positions positions' r

-- ONE ROW
visit-none : (p : rules.Scope) (e : Expr) (h : Hidden) → none ≡ to_hide p h.scope e → visit p e h ≡ h
unfolding visit
visit-none p e h z = rw (visit, sym z)

visit-some : (p : rules.Scope) (e : Expr) (h : Hidden) (i : ℕ) → some i ≡ to_hide p h.scope e
    → visit p e h ≡ add_hidden p (line_of e) i h
unfolding visit
visit-some p e h i z = rw (visit, sym z)

-- what is hidden stays
stays : (p : rules.Scope) (es : List Expr) (h : Hidden)
    → (ds : List HiddenColumn) × ((hidden_by p es h).columns ≡ h.columns ++ ds)
unfolding hidden_by add_hidden
stays p [] h = ([], sym (append-nil h.columns))
stays p (e ∷ es) h = go (λ g. stays p es g) (to_hide p h.scope e) refl
  where
    go : ((g : Hidden) → (ds : List HiddenColumn) × ((hidden_by p es g).columns ≡ g.columns ++ ds))
        → (o : Option ℕ) → to_hide p h.scope e ≡ o
        → (ds : List HiddenColumn) × ((hidden_by p es (visit p e h)).columns ≡ h.columns ++ ds)
    go f none z = rw (visit-none p e h (sym z)) (f h)
    go f (some i) z =
        let k = f (add_hidden p (line_of e) i h) in (
          record { position = i; line = line_of e } ∷ k.0,
          rw (visit-some p e h i (sym z)) (k.1 ∙ append_assoc h.columns _ k.0),
        )

-- THE LOOP
-- the state s after i rows, over a parent with h columns hidden
pub record Reached (c q : Bytes) (t xs ms ts rows : List ℕ) (child : Scope) (h i : ℕ) (s : Scope) (positions : List ℕ) : Type 0 where
  pub columns : List HiddenColumn
  pub rest : hidden_by (scope_at c q t xs ms ts h) (trees_at c q t (drop i rows))
      (record { scope = scope_of (tree_at c q t) c q s; columns = columns })
      ≡ hidden_by (scope_at c q t xs ms ts h) (trees_at c q t rows) (shown_of c q t child)
  pub numbers : map (λ (d : HiddenColumn). d.position) columns ≡ take s.hidden positions
  pub count : length columns ≡ s.hidden

pub record HidingRows (c q : Bytes) (t xs ms ts rows : List ℕ) (child : Scope) (positions : List ℕ) (i : ℕ) (s : Scope)
    (positions' : List ℕ) : Type 0 where
  pub valid : Valid s
  pub width : s.width ≡ child.width + s.hidden
  pub count : s.count ≡ child.count
  pub tables : s.tables ≡ child.tables
  pub kept : length positions' ≡ length positions
  pub reached : (h : ℕ) → Reached c q t xs ms ts rows child h i s positions'

module _ {c q : Bytes} {t labels matches tables rows : List ℕ} {child : Scope}
    {positions : List ℕ} {i : ℕ} {s : Scope} {positions' : List ℕ}
    (f : Passable t labels matches tables child positions)
    (v : HidingRows c q t labels matches tables rows child positions i s positions') where
  -- the parent, what is hidden so far, and what all rows hide
  abbrev parent : ℕ → rules.Scope
  parent h = scope_at c q t labels matches tables h

  abbrev state : ℕ → Hidden
  state h = record { scope = scope_of (tree_at c q t) c q s; columns = (v.reached h).columns }

  abbrev whole : ℕ → Hidden
  whole h = hidden_by (parent h) (trees_at c q t rows) (shown_of c q t child)

  pub hiding-end : length rows ≤ i
      → RowsHidden c q t labels matches tables rows child positions positions' (Ok s)
  unfolding hidden_by
  hiding-end k = record {
    is = λ h.
        let z : state h ≡ whole h =
        ap (λ rs. hidden_by (parent h) (trees_at c q t rs) (state h)) (sym (drop_of_length-le rows {i = i} k))
        ∙ (v.reached h).rest in
        record {
          kept = v.kept;
          is = record {
            valid = v.valid;
            width = v.width;
            hides = record {
              is = ap (λ g. g.scope) z;
              numbers = ap (λ g. map (λ (d : HiddenColumn). d.position) g.columns) (sym z) ∙ (v.reached h).numbers;
              count = ap (λ g. length g.columns) (sym z) ∙ (v.reached h).count;
            };
          };
        };
  }

  -- the scope's tables are the parent's
  same_tables : table_numbers s ≡ tables
  same_tables = rw (v.count, v.tables) f.same_tables

  module _ {r : ℕ} {x : std.Option ℕ} (l : i < length rows) (e : r ≡ get_or rows i 0)
      (k : Lacking c q t labels matches tables (labels_of s) (take s.width s.matches) (table_numbers s) r x) where
    asked : (h : ℕ) → option_of x ≡ to_hide (parent h) (scope_of (tree_at c q t) c q s) (tree_at c q t r)
    unfolding scope_of
    asked h = k.is h s.hidden

    -- the row is visited next
    next_row : (h : ℕ)
        → hidden_by (parent h) (trees_at c q t (drop (suc i) rows)) (visit (parent h) (tree_at c q t r) (state h)) ≡ whole h
    unfolding hidden_by
    next_row h = rw (drop-cons rows i 0 l, ← e) at (v.reached h).rest

    pub hiding-skip : x ≡ std.None
        → HidingRows c q t labels matches tables rows child positions (i + 1) s positions'
    hiding-skip z = record {
      valid = v.valid;
      width = v.width;
      count = v.count;
      tables = v.tables;
      kept = v.kept;
      reached = λ h. record {
        columns = (v.reached h).columns;
        rest = rw (add-one i) (rw (visit-none _ _ (state h) (sym (ap option_of z) ∙ asked h)) at (next_row h));
        numbers = (v.reached h).numbers;
        count = (v.reached h).count;
      };
    }

    module _ {j : ℕ} (z : x ≡ std.Some j) where
      -- what is hidden with its column
      abbrev added : ℕ → Hidden
      added h = add_hidden (parent h) (line_of (tree_at c q t r)) j (state h)

      added-row : (h : ℕ) → hidden_by (parent h) (trees_at c q t (drop (suc i) rows)) (added h) ≡ whole h
      added-row h = rw (visit-some _ _ (state h) j (sym (ap option_of z) ∙ asked h)) at (next_row h)

      -- the column is one of the parent's
      pub hiding-below : j < length labels
      hiding-below = lacking-below k z f.as_many

      -- there is no room for it
      pub hiding-full : {y : ℕ} → most_columns ≤ s.width → y ≡ line_at t r
          → RowsHidden c q t labels matches tables rows child positions positions'
          (Err (record { reason = LimitPassed; line = y }))
      unfolding add_hidden named
      hiding-full {y} m g = record {
        is = λ h.
            let b = stays (parent h) (trees_at c q t (drop (suc i) rows)) (added h) in
            record {
              kept = v.kept;
              is = record {
                before = (v.reached h).columns;
                one = record { position = j; line = line_of (tree_at c q t r) };
                behind = b.0;
                columns = ap (λ u. u.columns) (sym (added-row h)) ∙ b.1
                    ∙ append_assoc (v.reached h).columns _ b.0;
                room = (v.reached h).count ∙ omega (arith, v.width, v.valid.width, m);
                is = ap (λ (l : ℕ). record { reason = LimitPassed; line = l }) (g ∙ sym (line-of c q t r));
              };
            };
      }

      -- there is
      module _ {y : ℕ} (g : y ≡ get_or labels j 0) (m : s.width < most_columns) where
        pub hiding-fits : HiddenFits s t y
        hiding-fits = record {
          valid = v.valid;
          room = m;
          slot = rw (g, v.count, f.same_count) (below_at j f.slots);
          hidden = omega (arith, v.width);
          table = omega (arith, f.table);
        }

        pub hiding-place : s.hidden < length positions'
        hiding-place = omega (arith, v.width, m, v.kept, f.places)

        pub hiding-more : {u : ℕ} {s' : Scope} → u ≡ get_or matches j 0 → HiddenAdded c q t s y u s'
            → HidingRows c q t labels matches tables rows child positions (i + 1) s'
            (set positions' s.hidden j)
        unfolding add_hidden scope_from rules.found_label
        hiding-more {u} {s'} d a = record {
          valid = a.valid;
          width = omega (arith, a.width, a.hidden, v.width);
          count = a.count ∙ v.count;
          tables = a.tables ∙ v.tables;
          kept = length-set positions' s.hidden j ∙ v.kept;
          reached = λ h.
              let b = v.reached h in
              let o : scope_of (tree_at c q t) c q s' ≡ add_passthrough (parent h) j true (scope_of (tree_at c q t) c q s) =
              a.is (parent h) matches j refl (sym d)
              (label-found (tree_at c q t) c q labels matches tables h j
              ∙ rw (← g, ← same_tables)) in
              record {
                columns = b.columns ++ (record { position = j; line = line_of (tree_at c q t r) } ∷ []);
                rest = rw (add-one i, o) (added-row h);
                numbers = map-append (λ (x : HiddenColumn). x.position) b.columns _
                    ∙ rw (b.numbers, a.hidden, add-one s.hidden, take-suc-set positions' s.hidden j hiding-place);
                count = length-append b.columns _ ∙ omega (arith, b.count, a.hidden);
              };
        }
