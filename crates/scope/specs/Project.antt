-- A projection: its items' labels over the same tables, where nothing is matched.
use Rattle.std.specs.Prelude.{ℕ, ◌≤◌, ◌≡◌, refl, true, List, [], ◌∷◌, ◌++◌, map, length, get_or}
use Rattle.std.proofs.Common.{arith, ap, sym, ◌∙◌, append_assoc, append-nil}
use Rattle.std.proofs.Math.ListN.{get_or-map}
use Rattle.rules.specs.Limits.{most_columns}
use Rattle.rules.specs.Lists.{Bytes, is_empty}
use Rattle.rules.specs.Lines.{Word}
use Rattle.rules.specs.Ast.{Expr, Item}
use Rattle.rules.specs.Plan.{Label}
use Rattle.rules.specs.Scope as rules
use Rattle.rules.specs.Scope.{item_label, project_one, project_all, add_column, found_label, at}
use Rattle.scope.specs.Labels.{label_at, columns_of, label-nameless}
use Rattle.scope.specs.Slots.{Below}
use Rattle.scope.specs.Scopes.{scope_from, scope_of, Valid, Plain, plain_scope, plain-scope, labels_of, table_numbers}
use Rattle.scope.specs.Copies.{Overwritten, overwritten-labels, overwritten-room}
use Rattle.scope.specs.declared.Scope.{Scope}

-- the labels of items over a scope, at most 256 and each of one of its tables or of none
pub record Projectable (s : Scope) (xs : List ℕ) : Type 0 where
  pub valid : Valid s
  pub plain : Plain s
  pub few : length xs ≤ most_columns
  pub slots : Below s.count xs

pub record Projected (s : Scope) (xs : List ℕ) (r : Scope) : Type 0 where
  pub valid : Valid r
  pub plain : Plain r
  pub count : r.count ≡ s.count
  pub tables : r.tables ≡ s.tables
  pub is : (e : ℕ → Expr) (c q : Bytes) (is' : List Item)
      → map (λ (i : Item). item_label (scope_of e c q s) i.expr i.alias) is' ≡ columns_of c q (table_numbers s) xs
      → scope_of e c q r ≡ rules.project (scope_of e c q s) is'

-- the label of a column that was found, by its position
pub label-found : (e : ℕ → Expr) (c q : Bytes) (xs ms ts : List ℕ) (h i : ℕ)
    → found_label (scope_from e c q xs ms ts h) (at i) ≡ label_at c q ts (get_or xs i 0)
unfolding found_label scope_from columns_of
label-found e c q xs ms ts h i =
    rw (label-nameless c q ts 0 refl) at (get_or-map (label_at c q ts) xs i 0)

-- THE RULES
none-empty : (s : rules.Scope) → s.aggregates ≡ [] → is_empty s.aggregates ≡ true
unfolding is_empty
none-empty s e = ap is_empty e

project-one : (s : rules.Scope) (i : Item) (ds : List Label) (ts : List Word) → s.aggregates ≡ []
    → project_one s i (plain_scope ds ts) ≡ plain_scope (ds ++ (item_label s i.expr i.alias ∷ [])) ts
unfolding project_one add_column
project-one s i ds ts e = rw (project_one, none-empty s e)

project-all : (s : rules.Scope) (is' : List Item) (ds : List Label) (ts : List Word) → s.aggregates ≡ []
    → project_all s is' (plain_scope ds ts)
    ≡ plain_scope (ds ++ map (λ (i : Item). item_label s i.expr i.alias) is') ts
unfolding project_all
project-all s [] ds ts e = rw append-nil
project-all s (i ∷ is') ds ts e =
    let l : Label = item_label s i.expr i.alias in
    let ls : List Label = map (λ (j : Item). item_label s j.expr j.alias) is' in
    ap (project_all s is') (project-one s i ds ts e)
    ∙ project-all s is' (ds ++ (l ∷ [])) ts e
    ∙ ap (λ (cs : List Label). plain_scope cs ts) (append_assoc ds (l ∷ []) ls)

-- the labels stand before what else there was
pub projected : {s : Scope} {xs : List ℕ} (r : Scope) → Projectable s xs → Overwritten xs s.labels r.labels
    → r.matches ≡ s.matches → r.tables ≡ s.tables → r.width ≡ length xs → r.count ≡ s.count → r.hidden ≡ 0
    → Projected s xs r
unfolding rules.project rules.spawn
projected {s} {xs} r f k em et ew ec eh =
    let el : labels_of r ≡ xs = overwritten-labels k r.width ew in
    let ts : table_numbers r ≡ table_numbers s = rw (ec, et) in
    let p : Plain r = record { unmatched = rw em f.plain.unmatched; shown = eh } in
    record {
      valid = record {
        width = rw ew f.few;
        tables = rw ec f.valid.tables;
        slots = rw (el, ec) f.slots;
        labels-room = overwritten-room k (omega (arith, f.few, f.valid.labels-room)) ∙ f.valid.labels-room;
        matches-room = ap length em ∙ f.valid.matches-room;
        tables-room = ap length et ∙ f.valid.tables-room;
      };
      plain = p;
      count = ec;
      tables = et;
      is = λ e c q is' m.
          let a : (scope_of e c q s).aggregates ≡ [] =
          ap (λ (x : rules.Scope). x.aggregates) (plain-scope e c q s f.plain) in
          let t : (scope_of e c q s).tables ≡ _ = ap (λ (x : rules.Scope). x.tables) (plain-scope e c q s f.plain) in
          plain-scope e c q r p
          ∙ rw (el, ts, ← m, ← t)
          (sym (project-all (scope_of e c q s) is' [] (scope_of e c q s).tables a));
    }
