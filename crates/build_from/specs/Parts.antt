-- The FROM clause item by item: the clause so far, without the items that are left.
use Rattle.std.specs.Prelude.{ℕ, ◌+◌, ◌*◌, ◌≤◌, ◌<◌, ◌≡◌, List, [], ◌∷◌, length, get_or, drop, Ok, Err}
use Rattle.std.proofs.Common.{arith, add-one, sym, ◌∙◌, drop_of_length-le, drop-cons}
use Rattle.std.proofs.Math.Path.{refl, ap}
use Rattle.std.proofs.lemmas.List.{nil_from_length}
use Rattle.rules.specs.Limits.{most_from_tables}
use Rattle.rules.specs.Lists.{Bytes}
use Rattle.rules.specs.Ast.{From}
use Rattle.rules.specs.Plan.{Built, Node}
use Rattle.rules.specs.BuildFrom.{build_later_items, build_from_clause}
use Rattle.rules.specs.Sizes.{total, from_size}
use Rattle.claims.specs.Answers.{All}
use Rattle.claims.specs.Reading.Limits.{from_tables}
use Rattle.claims.specs.Reading.Has.{FromHas}
use Rattle.claims.specs.Words.Within.{StatementName}
use Rattle.claims.specs.Within.{ExprWithin}
use Rattle.claims.specs.Room.Nodes.{table_room}
use Rattle.appends.specs.From.Laid.{stage_of}
use Rattle.appends.specs.From.Clause.{from-refused, from_first, later-end}
use Rattle.numbers.specs.declared.refusals.Refusal.{Refusal}
use Rattle.ast.specs.Table.{tree_at}
use Rattle.schema.specs.Layout.{catalog_at}
use Rattle.scope.specs.Scopes.{scope_of, Valid, Plain}
use Rattle.from.specs.Layout.{roots_before, roots_at, from_at, froms_at}
use Rattle.from.specs.Roots.{froms-count, from-item}
use Rattle.plan.specs.Cells.{Room}
use Rattle.plan.specs.Pushed.{kept-on}
use Rattle.plan.specs.declared.nodes.Nodes.{Nodes}
use Rattle.plan.specs.declared.steps.Step.{Step}
use Rattle.plan.specs.Steps.{refused-on, step-done, Standing, standing_on}
use Rattle.build_from.specs.Sources.{ItemRoom, Builds}
use Rattle.build_from.specs.Merges.{merge-empty}
use Rattle.build_from.specs.Items.{laid_cells, laid-numbers}
use Rattle.build_from.specs.Later.{later-stops, later-goes, LaterRoom, LaterBuilds}
use Rattle.build_from.specs.Clause.{ClauseRoom, ClauseBuilds, clause-labels, clause-qualified}
use Rattle.build_from.specs.declared.Source.{Source}
use Rattle.stage.specs.declared.Stage.{Stage}

-- the clause a without the items gs that are left: what stands, and room for those
pub record PartAccepted (c q : Bytes) (ts cells : List ℕ) (fs gs : List From) (area₀ : List ℕ) (nodes₀ : Nodes)
    (area : List ℕ) (nodes : Nodes) (a : Stage) : Type 0 where
  pub valid : Valid a.scope
  pub plain : Plain a.scope
  pub some : 0 < a.at.node
  pub few : a.at.node ≤ nodes.used
  pub parts : All (FromHas (ExprWithin c q) (StatementName c q)) gs
  pub tables : a.scope.count + total from_tables gs ≤ most_from_tables
  pub room : Room a.at.cell (3 * total from_size gs) area
  pub numbers : nodes.used + table_room * total from_tables gs ≤ length nodes.numbers.now
  pub node : Node Built
  pub is : build_from_clause (catalog_at c q ts) fs
      ≡ build_later_items (catalog_at c q ts) gs (stage_of node (scope_of (tree_at c q cells) c q a.scope))
  pub standing : Standing node a.at.cell a.at.node area₀ nodes₀ area nodes

-- nothing is built
abbrev pub start : Step
start = record { cell = 0; node = 0 }

-- the clause of one item
abbrev pub staged : Source → Stage
staged a = record { scope = a.scope; at = a.at }

-- the first item
module _ {c q : Bytes} {ts : List ℕ} {fs : List From} {f : From} {gs : List From} {area₀ : List ℕ} {nodes₀ : Nodes}
    (h : ClauseRoom c q ts fs area₀ nodes₀) (e : fs ≡ f ∷ gs) where
  abbrev room : ClauseRoom c q ts (f ∷ gs) area₀ nodes₀
  room = rw e at h

  first-item-room : ItemRoom c q ts f start area₀ nodes₀
  unfolding All total
  first-item-room = record {
    statement = room.statement;
    within = room.within;
    parts = room.parts.0;
    tables = omega (arith, room.tables);
    cells = record { counted = omega (arith, room.cells.counted); held = omega (arith, room.cells.held) };
    numbers = omega (arith, room.numbers.tables, room.none);
    most = room.most;
    few = omega arith;
  }

  first-refused : {cells area : List ℕ} {nodes : Nodes} {w : Refusal}
      → Builds c q ts cells f start area₀ nodes₀ area nodes (Err w)
      → ClauseBuilds c q ts cells fs area₀ nodes₀ area nodes (Err w)
  first-refused d = record {
    kept = d.kept;
    kept-nodes = d.kept-nodes;
    is = refused-on d.is (λ w i. ap (build_from_clause (catalog_at c q ts)) e ∙ from-refused (catalog_at c q ts) f gs w i);
  }

  first-built : {cells area : List ℕ} {nodes : Nodes} {a : Source} → Builds c q ts cells f start area₀ nodes₀ area nodes (Ok a)
      → PartAccepted c q ts cells fs gs area₀ nodes₀ area nodes (staged a)
  unfolding All total
  first-built {cells} {a = a} d =
      let o = d.is in
      let s = scope_of (tree_at c q cells) c q a.scope in
      let i = laid_cells (catalog_at c q ts) f o.laid in
      let k = laid-numbers (catalog_at c q ts) f o.laid in
      record {
        valid = o.valid;
        plain = o.plain;
        some = o.more;
        few = o.few;
        parts = room.parts.1;
        tables = omega (arith, room.tables, o.count);
        room = record {
          counted = omega (arith, room.cells.counted, i);
          held = omega (arith, room.cells.held, i, d.kept);
        };
        numbers = omega (arith, room.numbers.tables, room.none, k, d.kept-nodes.all);
        node = o.laid.is.node;
        is = ap (build_from_clause (catalog_at c q ts)) e
            ∙ from_first (catalog_at c q ts) f gs s a.line 0 0 o.laid.cells o.laid.records a.at.cell a.at.node
            o.laid.is s (merge-empty (tree_at c q cells) c q a.scope a.line o.valid o.plain);
        standing = record {
          cells = o.laid.cells;
          records = o.laid.records;
          lays = o.laid.is.lays;
          none = room.none;
          stands = o.laid.stands;
          kept = d.kept;
        };
      }

-- a later one
module _ {c q : Bytes} {ts cells : List ℕ} {fs gs : List From} {f : From} {gs' : List From}
    {area₀ : List ℕ} {nodes₀ : Nodes} {area : List ℕ} {nodes : Nodes} {a : Stage}
    (h : ClauseRoom c q ts fs area₀ nodes₀) (e : gs ≡ f ∷ gs')
    (p : PartAccepted c q ts cells fs gs area₀ nodes₀ area nodes a) where
  abbrev part : PartAccepted c q ts cells fs (f ∷ gs') area₀ nodes₀ area nodes a
  part = rw e at p

  next-room : LaterRoom c q ts f a area nodes
  unfolding All total
  next-room = record {
    valid = part.valid;
    plain = part.plain;
    some = part.some;
    tables = omega (arith, part.tables);
    item = record {
      statement = h.statement;
      within = h.within;
      parts = part.parts.0;
      tables = omega (arith, part.tables);
      cells = record { counted = omega (arith, part.room.counted); held = omega (arith, part.room.held) };
      numbers = omega (arith, part.numbers);
      most = omega (arith, h.most, part.standing.stands.records.kept.all);
      few = part.few;
    };
    numbers = omega (arith, part.numbers);
  }

  -- a refusal ends the clause
  next-refused : {area' : List ℕ} {nodes' : Nodes} {w : Refusal} → LaterBuilds c q ts cells f a area nodes area' nodes' (Err w)
      → ClauseBuilds c q ts cells fs area₀ nodes₀ area' nodes' (Err w)
  next-refused d = record {
    kept = d.kept ∙ part.standing.kept;
    kept-nodes = kept-on part.standing.stands.records.kept d.kept-nodes;
    is = refused-on (d.is part.node part.standing.cells part.standing.records part.standing.lays)
        (λ w i. part.is ∙ later-stops (catalog_at c q ts) f gs' _ w i);
  }

  next_built : {area' : List ℕ} {nodes' : Nodes} {x : Stage} → LaterBuilds c q ts cells f a area nodes area' nodes' (Ok x)
      → PartAccepted c q ts cells fs gs' area₀ nodes₀ area' nodes' x
  unfolding All total
  next_built {x = x} d =
      let o = d.is in
      let w = standing_on x.at part.standing
      (step-done d.kept d.kept-nodes o.taken) refl in
      record {
        valid = o.valid;
        plain = o.plain;
        some = omega (arith, o.more);
        few = o.few;
        parts = part.parts.1;
        tables = omega (arith, part.tables, o.count);
        room = record {
          counted = omega (arith, part.room.counted, o.next);
          held = omega (arith, part.room.held, o.next, d.kept);
        };
        numbers = omega (arith, part.numbers, o.numbers, d.kept-nodes.all);
        node = w.node;
        is = part.is ∙ later-goes (catalog_at c q ts) f gs' _ _ w.answer;
        standing = w.standing;
      }

-- the whole: nothing is left
pub part-whole : {c q : Bytes} {ts cells : List ℕ} {fs gs : List From} {area₀ : List ℕ} {nodes₀ : Nodes}
    {area : List ℕ} {nodes : Nodes} {a : Stage}
    → PartAccepted c q ts cells fs gs area₀ nodes₀ area nodes a → gs ≡ []
    → ClauseBuilds c q ts cells fs area₀ nodes₀ area nodes (Ok a)
part-whole {c} {q} {ts} {cells} {fs} {a = a} o e =
    let s = o.standing in
    let i = later-end (catalog_at c q ts) o.node (scope_of (tree_at c q cells) c q a.scope) 0 0
    s.cells s.records a.at.cell a.at.node s.lays in
    let is = (rw e at o.is) ∙ i.answer in
    record {
      kept = s.kept;
      kept-nodes = s.stands.records.kept;
      is = record {
        valid = o.valid;
        plain = o.plain;
        count = o.valid.tables;
        some = o.some;
        few = o.few;
        node = i.node;
        is = is;
        standing = record {
          cells = s.cells;
          records = s.records;
          lays = i.lays;
          none = s.none;
          stands = s.stands;
          kept = s.kept;
        };
        labelled = clause-labels c q ts cells fs a.scope i.node is;
        qualified = clause-qualified c q ts cells fs a.scope i.node is;
      };
    }

-- BY ROWS
-- the first n rows have j items
module _ (c q : Bytes) (ts cells froms : List ℕ) (n : ℕ) {area₀ : List ℕ} {nodes₀ : Nodes}
    (h : ClauseRoom c q ts (froms_at c q cells froms n) area₀ nodes₀) {j : ℕ} (e : j ≡ length
    (roots_before froms n)) where
  abbrev items : List From
  items = froms_at c q cells froms n

  -- none
  pub clause-empty : {nodes : Nodes} {x : Stage} → j ≡ 0
      → ((b p : Bytes) (us xs ys : List ℕ) → ClauseBuilds b p us xs [] ys nodes₀ ys nodes (Ok x))
      → ClauseBuilds c q ts cells items area₀ nodes₀ area₀ nodes (Ok x)
  clause-empty z k = rw (nil_from_length items (froms-count c q cells froms n ∙ sym e ∙ z)) (k c q ts cells area₀)

  item-at : (i : ℕ) {r : ℕ} → i < j → r ≡ get_or (roots_at froms n) i 0
      → drop i items ≡ from_at c q cells froms r ∷ drop (i + 1) items
  item-at i l g = drop-cons items i (from_at c q cells froms 0) (omega (arith, l, e, froms-count c q cells froms n))
      ∙ rw (from-item c q cells froms n i, g, add-one i)

  -- the first
  module _ {r : ℕ} (z : j ≡ 0 → ⊥) (g : r ≡ get_or (roots_at froms n) 0 0) where
    pub clause-first-room : ItemRoom c q ts (from_at c q cells froms r) start area₀ nodes₀
    clause-first-room = first-item-room h (item-at 0 (omega (arith, z)) g)

    pub clause-first-refused : {area : List ℕ} {nodes : Nodes} {w : Refusal}
        → Builds c q ts cells (from_at c q cells froms r) start area₀ nodes₀ area nodes (Err w)
        → ClauseBuilds c q ts cells items area₀ nodes₀ area nodes (Err w)
    clause-first-refused d = first-refused h (item-at 0 (omega (arith, z)) g) d

    pub clause-first : {area : List ℕ} {nodes : Nodes} {a : Source}
        → Builds c q ts cells (from_at c q cells froms r) start area₀ nodes₀ area nodes (Ok a)
        → PartAccepted c q ts cells items (drop 1 items) area₀ nodes₀ area nodes (staged a)
    clause-first d = first-built h (item-at 0 (omega (arith, z)) g) d

  -- item i, or none
  module _ {i : ℕ} {area : List ℕ} {nodes : Nodes} {a : Stage}
      (p : PartAccepted c q ts cells items (drop i items) area₀ nodes₀ area nodes a) where
    module _ (l : i < j) {r : ℕ} (g : r ≡ get_or (roots_at froms n) i 0) where
      pub clause-next-room : LaterRoom c q ts (from_at c q cells froms r) a area nodes
      clause-next-room = next-room h (item-at i l g) p

      pub clause-next-refused : {area' : List ℕ} {nodes' : Nodes} {w : Refusal}
          → LaterBuilds c q ts cells (from_at c q cells froms r) a area nodes area' nodes' (Err w)
          → ClauseBuilds c q ts cells items area₀ nodes₀ area' nodes' (Err w)
      clause-next-refused d = next-refused h (item-at i l g) p d

      pub clause-next : {area' : List ℕ} {nodes' : Nodes} {x : Stage}
          → LaterBuilds c q ts cells (from_at c q cells froms r) a area nodes area' nodes' (Ok x)
          → PartAccepted c q ts cells items (drop (i + 1) items) area₀ nodes₀ area' nodes' x
      clause-next d = next_built h (item-at i l g) p d

    pub clause-end : j ≤ i → ClauseBuilds c q ts cells items area₀ nodes₀ area nodes (Ok a)
    clause-end l = part-whole p (drop_of_length-le items {i = i} (omega (arith, l, e, froms-count c q cells froms n)))
