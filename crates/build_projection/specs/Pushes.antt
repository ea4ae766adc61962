-- The items of a projection one after the other: their cells, and their parts of its node record.
use Rattle.std.specs.Prelude.{ℕ, suc, pred, ◌+◌, ◌-◌, ◌*◌, ◌≤◌, ◌<◌, ◌≡◌, refl, length, take, drop, get_or, set, MatchResult, OnOk, Ok, Err}
use Rattle.std.proofs.Common.{arith, add-one, sym, ◌∙◌, drop_of_length-le, drop-cons}
use Rattle.std.proofs.Math.Numerals.{sub-one}
use Rattle.std.proofs.Math.Path.{ap}
use Rattle.std.proofs.lemmas.List.{length-map, get_or-map}
use mathlib.Core.List.{List, [], ◌∷◌, ◌++◌, map, append_assoc, append-nil}
use Rattle.std.proofs.Math.Option.{Option}
use Rattle.rules.specs.Refusals.{Answer, ok}
use Rattle.rules.specs.Limits.{most_columns}
use Rattle.rules.specs.Lists.{Bytes}
use Rattle.rules.specs.Lines.{Word}
use Rattle.rules.specs.Ast.{size}
use Rattle.rules.specs.Cells.{Cell}
use Rattle.rules.specs.Area.{item_numbers}
use Rattle.rules.specs.Sizes.{total}
use Rattle.rules.specs.BuildSelect.{item_built}
use Rattle.appends.specs.Area.{cells_numbers, cells-numbers-append}
use Rattle.appends.specs.Expressions.Emit.{emit}
use Rattle.appends.specs.Lists.Each.{Entries, after, after_none}
use Rattle.appends.specs.Lists.Kinds.{emit_firsts}
use Rattle.appends.specs.Lists.Entry.{item-step, item_refused}
use Rattle.appends.specs.Lists.Loops.{firsts-step, firsts-stop, firsts-done}
use Rattle.numbers.specs.declared.refusals.Refusal.{Refusal}
use Rattle.numbers.specs.Kept.{Kept, kept-part, kept_on, kept_set}
use Rattle.scope.specs.Copies.{Copying, copying-first}
use Rattle.scope.specs.UsedMatches.{used_matches}
use Rattle.plan.specs.Layout.{cells_end, item_size}
use Rattle.plan.specs.Cells.{Room, cells-none}
use Rattle.plan.specs.Emits.{Emitting, Written, Emits, accepted}
use Rattle.plan.specs.Pushed.{Pushed, pushed-none}
use Rattle.plan.specs.Pushed as nodes
use Rattle.plan.specs.declared.nodes.Nodes.{Nodes}
use Rattle.plan.specs.Parts.{items-on}
use Rattle.claims.specs.Room.Nodes.{items-size}
use Rattle.plan.specs.Steps.{RefusedWith, refused-on, emits-refused}
use Rattle.build_expression.specs.Rows.{emit-within}
use Rattle.build_expression.specs.Builds.{scope_at, Builds, used-at}
use Rattle.build_projection.specs.Items.{item_of}
use Rattle.build_projection.specs.Aliases.{row_of, item-tree}
use Rattle.build_projection.specs.declared.items.Item.{Item}
use Rattle.build_projection.specs.declared.items.Item.TheVariants as I

-- CONTRACTS
-- one item: its expression's cells and its part of the record, or its refusal
pub record One (a : Emitting) (alias : Option Word) (n : ℕ) (area area' : List ℕ) (u v : Nodes) (m : ℕ) : Type 0 where
  pub cells : List Cell
  pub is : a ≡ ok (cells, m)
  pub stand : take (cells_end m) area' ≡ take (cells_end n) area ++ cells_numbers cells
  pub part : Pushed (item_numbers ((pred m, alias) ∷ [])) u v

pub record ItemPut (c q : Bytes) (t parts xs ms ts : List ℕ) (x : Item) (n : ℕ) (area area' : List ℕ) (u v : Nodes) (r : Written)
    : Type 0 where
  pub kept : nodes.Kept u v
  pub is : (h : ℕ) → MatchResult r (One (emit (scope_at c q t xs ms ts h) n (item_of c q t parts x).expr)
      (item_of c q t parts x).alias n area area' u v)
      (RefusedWith (emit (scope_at c q t xs ms ts h) n (item_of c q t parts x).expr))

-- the matches us are those that ms has, or none where nothing is matched
pub used-put : {c q : Bytes} {t parts xs us ts : List ℕ} {x : Item} {n : ℕ} {area area' : List ℕ} {u v : Nodes}
    {r : Written} (ms : List ℕ) → us ≡ used_matches ms → ItemPut c q t parts xs us ts x n area area' u v r
    → ItemPut c q t parts xs ms ts x n area area' u v r
used-put {c} {q} {t} {xs = xs} {us} {ts} ms e p =
    record { kept = p.kept; is = λ h. rw (used-at c q t xs us ts ms h e) at (p.is h) }

-- all items
pub record All (a : Answer (Entries (ℕ × Option Word))) (n : ℕ) (area area' : List ℕ) (u v : Nodes) (m : ℕ) : Type 0 where
  pub cells : List Cell
  pub parts : List (ℕ × Option Word)
  pub is : a ≡ ok (cells, parts, m)
  pub stand : take (cells_end m) area' ≡ take (cells_end n) area ++ cells_numbers cells
  pub pushed : Pushed (item_numbers parts) u v

pub record ItemsPut (c q : Bytes) (t parts xs ms ts : List ℕ) (items : List Item) (n : ℕ) (area area' : List ℕ) (u v : Nodes)
    (r : Written) : Type 0 where
  pub kept : nodes.Kept u v
  pub is : (h : ℕ) → MatchResult r
      (All (emit_firsts (item_built (scope_at c q t xs ms ts h)) n (map (item_of c q t parts) items)) n area area' u v)
      (RefusedWith (emit_firsts (item_built (scope_at c q t xs ms ts h)) n (map (item_of c q t parts) items)))

-- the labels that are stored: where the items are put, the first are those that f gives each; behind them all is as it was
pub record Labelled (f : Item → ℕ) (items : List Item) (labels labels' : List ℕ) (r : Written) : Type 0 where
  pub is : OnOk r (take (length items) labels' ≡ map f items)
  pub kept : Kept (length items) most_columns labels labels'

pub kept_next : {i b : ℕ} (v : ℕ) {s s' : List ℕ} → Kept i b s s' → Kept (i + 1) b s (set s' i v)
kept_next {i} {b} v {s} {s'} k =
    kept_on (kept-part (i + 1) b k (omega arith) (omega arith)) (kept_set s' i v (i + 1) b (omega arith))

-- what f makes of each item, stored one after the other
pub copying-items : (f : Item → ℕ) (items : List Item) {j : ℕ} {ls : List ℕ} (v : ℕ) → Copying [] 0 (map f items) j ls
    → j < most_columns → j < length items → v ≡ f (get_or items j (I.Entry 0))
    → Copying [] 0 (map f items) (j + 1) (set ls j v)
copying-items f items {j} {ls} v t h g e =
    copying-first v t h (omega (arith, length-map items f)) (e ∙ sym (get_or-map f items j (I.Entry 0) 0 g))

-- there is room for all items' cells and parts
unfoldable pub items_size : Bytes → Bytes → List ℕ → List ℕ → List Item → ℕ
items_size c q t parts items = total (λ x. size (item_of c q t parts x).expr) items

pub record ItemsFit (c q : Bytes) (t parts : List ℕ) (items : List Item) (n : ℕ) (area : List ℕ) (u : Nodes) : Type 0 where
  pub few : length items ≤ most_columns
  pub room : Room n (3 * items_size c q t parts items) area
  pub space : u.used + item_size * length items ≤ length u.numbers.now

-- ONE ITEM
module _ {c q : Bytes} {t xs ms ts : List ℕ} {r n : ℕ} {area area' : List ℕ} (parts : List ℕ) (x : Item)
    (g : r ≡ row_of parts x) where
  emits-item : {w : Written} → Builds c q t xs ms ts r n area area' w → (h : ℕ)
      → Emits (emit (scope_at c q t xs ms ts h) n (item_of c q t parts x).expr) n area area' w
  emits-item b h = rw (item-tree c q t parts x, ← g) (b.is h)

  pub put_refused : {w : Refusal} → Builds c q t xs ms ts r n area area' (Err w) → (u : Nodes)
      → ItemPut c q t parts xs ms ts x n area area' u u (Err w)
  put_refused {w} b u = record { kept = nodes.kept-all u; is = λ h. emits-refused w (emits-item b h) refl }

  module _ {m : ℕ} (b : Builds c q t xs ms ts r n area area' (Ok m)) where
    -- the next cell is behind the n-th, and there is room up to it
    pub put_some : n < m
    put_some =
        let o = accepted m (emits-item b 0) refl in
        (emit-within (scope_at c q t xs ms ts 0) n (item_of c q t parts x).expr o.cells m o.is).some'

    pub put-done : {u v : Nodes} → Pushed (item_numbers ((m - 1, (item_of c q t parts x).alias) ∷ [])) u v
        → ItemPut c q t parts xs ms ts x n area area' u v (Ok m)
    put-done a = record {
      kept = a.kept;
      is = λ h.
          let o = accepted m (emits-item b h) refl in
          record { cells = o.cells; is = o.is; stand = (emits-item b h).cells o.cells m o.is; part = rw (← sub-one m) a };
    }

-- ALL ITEMS
-- of the items, i are put: their cells up to the m-th, and their parts
pub record Sofar (c q : Bytes) (t parts xs ms ts : List ℕ) (items : List Item) (n : ℕ) (area₀ area : List ℕ) (u₀ u : Nodes) (i m h : ℕ)
    : Type 0 where
  pub cells : List Cell
  pub entries : List (ℕ × Option Word)
  pub is : emit_firsts (item_built (scope_at c q t xs ms ts h)) n (map (item_of c q t parts) items)
      ≡ after (cells, entries, m)
      (emit_firsts (item_built (scope_at c q t xs ms ts h)) m (map (item_of c q t parts) (drop i items)))
  pub stand : take (cells_end m) area ≡ take (cells_end n) area₀ ++ cells_numbers cells
  pub pushed : Pushed (item_numbers entries) u₀ u

pub record Pushing (c q : Bytes) (t parts xs ms ts : List ℕ) (items : List Item) (n : ℕ) (area₀ area : List ℕ) (u₀ u : Nodes) (i m : ℕ)
    : Type 0 where
  pub within : i ≤ length items
  pub area-kept : length area ≡ length area₀
  pub nodes-kept : nodes.Kept u₀ u
  pub room : Room m (3 * items_size c q t parts (drop i items)) area
  pub space : u.used + item_size * (length items - i) ≤ length u.numbers.now
  pub sofar : (h : ℕ) → Sofar c q t parts xs ms ts items n area₀ area u₀ u i m h

pub items-none : item_numbers [] ≡ []
unfolding item_numbers
items-none = refl

pub pushing-begin : {c q : Bytes} {t parts : List ℕ} {items : List Item} {n : ℕ} {area : List ℕ} {u : Nodes}
    (xs ms ts : List ℕ) → ItemsFit c q t parts items n area u
    → Pushing c q t parts xs ms ts items n area area u u 0 n
pushing-begin {n = n} {u = u} xs ms ts f =
    let l : u.used ≤ length u.numbers.now = omega (arith, f.space) in
    record {
      within = omega arith;
      area-kept = refl;
      nodes-kept = nodes.kept-all u;
      room = f.room;
      space = omega (arith, f.space);
      sofar = λ h. record {
        cells = [];
        entries = [];
        is = sym (after_none n _);
        stand = rw (cells-none, append-nil);
        pushed = rw items-none (pushed-none u l);
      };
    }

module _ {c q : Bytes} {t parts xs ms ts : List ℕ} {items : List Item} {n : ℕ} {area₀ area : List ℕ} {u₀ u : Nodes} {i m : ℕ}
    (p : Pushing c q t parts xs ms ts items n area₀ area u₀ u i m) where
  abbrev here : Item
  here = get_or items i (I.Entry 0)

  pub cells-before : cells_end m ≤ length area
  cells-before = omega (arith, p.room.held)

  module _ (l : i < length items) where
    size-here : items_size c q t parts (drop i items)
        ≡ size (item_of c q t parts here).expr + items_size c q t parts (drop (suc i) items)
    unfolding items_size total
    size-here = rw (drop-cons items i (I.Entry 0) l)

    pub room-here : Room m (3 * size (item_of c q t parts here).expr) area
    room-here = record {
      counted = omega (arith, size-here, p.room.counted);
      held = omega (arith, size-here, p.room.held);
    }

    pub space-here : u.used + item_size ≤ length u.numbers.now
    space-here = omega (arith, p.space)

    item-here : map (item_of c q t parts) (drop i items)
        ≡ item_of c q t parts here ∷ map (item_of c q t parts) (drop (suc i) items)
    item-here = ap (map (item_of c q t parts)) (drop-cons items i (I.Entry 0) l)

    module _ {area' : List ℕ} {v : Nodes} where
      pub pushing-refused : {w : Refusal} → ItemPut c q t parts xs ms ts here m area area' u v (Err w)
          → ItemsPut c q t parts xs ms ts items n area₀ area' u₀ v (Err w)
      pushing-refused a = record {
        kept = nodes.kept-on p.nodes-kept a.kept;
        is = λ h.
            let s = p.sofar h in
            refused-on (a.is h) λ w e. s.is ∙ rw item-here
            (firsts-stop (item_built (scope_at c q t xs ms ts h)) (s.cells, s.entries, m) _ _ w (item_refused _ m _ w e));
      }

      pub pushing-more : {y : ℕ} → ItemPut c q t parts xs ms ts here m area area' u v (Ok y) → length area' ≡ length area
          → Pushing c q t parts xs ms ts items n area₀ area' u₀ v (i + 1) y
      pushing-more {y} a f =
          let o = a.is 0 in
          let w = emit-within (scope_at c q t xs ms ts 0) m (item_of c q t parts here).expr o.cells y o.is in
          rw (add-one i) (record {
            within = omega arith;
            area-kept = f ∙ p.area-kept;
            nodes-kept = nodes.kept-on p.nodes-kept a.kept;
            room = record {
              counted = omega (arith, size-here, w.most, p.room.counted);
              held = omega (arith, size-here, w.most, p.room.held, f);
            };
            space = omega (arith, p.space, o.part.appended.next, item-three (pred y) (item_of c q t parts here).alias, a.kept.all);
            sofar = λ h.
                let s = p.sofar h in
                let b = a.is h in
                record {
                  cells = s.cells ++ b.cells;
                  entries = s.entries ++ ((pred y, (item_of c q t parts here).alias) ∷ []);
                  is = s.is ∙ rw item-here (firsts-step (item_built (scope_at c q t xs ms ts h)) (s.cells, s.entries, m)
                      _ _ b.cells _ y (item-step _ m _ b.cells y b.is));
                  stand = b.stand ∙ rw (s.stand, cells-numbers-append s.cells b.cells)
                      (append_assoc (take (cells_end n) area₀) (cells_numbers s.cells) (cells_numbers b.cells));
                  pushed = items-on s.entries _ s.pushed b.part;
                };
          })
        where
          item-three : (x : ℕ) (v : Option Word) → length (item_numbers ((x, v) ∷ [])) ≡ item_size
          item-three x v = items-size ((x, v) ∷ [])

  pub pushing-end : length items ≤ i
      → ItemsPut c q t parts xs ms ts items n area₀ area u₀ u (Ok m)
  pushing-end l = record {
    kept = p.nodes-kept;
    is = λ h.
        let s = p.sofar h in
        let d : map (item_of c q t parts) (drop i items) ≡ [] =
        ap (map (item_of c q t parts)) (drop_of_length-le items l) in
        record {
          cells = s.cells;
          parts = s.entries;
          is = s.is ∙ rw d (firsts-done (item_built (scope_at c q t xs ms ts h)) (s.cells, s.entries, m));
          stand = s.stand;
          pushed = s.pushed;
        };
  }
