-- A later item of the FROM clause behind the clause so far: its scope merged into the clause's, and the join of both.
use Rattle.std.specs.Prelude.{ℕ, ◌+◌, ◌-◌, ◌*◌, ◌≤◌, ◌<◌, pred, ◌≡◌, refl, false, List, [], ◌∷◌, ◌++◌, length, Result, MatchResult, Ok, Err}
use Rattle.std.proofs.Common.{arith, ap, ◌∙◌}
use Rattle.std.proofs.Math.Numerals.{sub-one}
use Rattle.std.proofs.Math.Option.{none}
use Rattle.rules.specs.Refusals.{Refusal, Answer, ok, refused, ◌>>=◌}
use Rattle.rules.specs.Limits.{most_from_tables}
use Rattle.rules.specs.Lists.{Bytes}
use Rattle.rules.specs.Schema.{Catalog}
use Rattle.rules.specs.Ast.{From}
use Rattle.rules.specs.Plan.{Built, Node}
use Rattle.rules.specs.Plan as P
use Rattle.rules.specs.Cells.{Cell}
use Rattle.rules.specs.Nodes.{NodeRecord, join}
use Rattle.rules.specs.Area.{record_numbers}
use Rattle.rules.specs.Scope as rules
use Rattle.rules.specs.Stage as stages
use Rattle.rules.specs.BuildFrom.{merge_into, build_from, build_later_items}
use Rattle.rules.specs.Sizes.{from_size}
use Rattle.claims.specs.Reading.Limits.{from_tables}
use Rattle.claims.specs.Room.Nodes.{table_room}
use Rattle.appends.specs.Answers.{bind_ok, bind-refused}
use Rattle.appends.specs.Nodes.Lays.{Lays}
use Rattle.appends.specs.From.Laid.{stage_of}
use Rattle.appends.specs.From.Clause.{later-end, later-refused, later-merge, later-step, later-lays}
use Rattle.numbers.specs.declared.refusals.Refusal as code
use Rattle.ast.specs.Table.{tree_at}
use Rattle.schema.specs.Layout.{catalog_at}
use Rattle.scope.specs.Scopes.{scope_of, Valid, Plain}
use Rattle.scope.specs.declared.Scope.{Scope}
use Rattle.stage.specs.declared.Stage.{Stage}
use Rattle.plan.specs.Layout.{join_size}
use Rattle.plan.specs.Pushed.{Kept, kept-on, Pushed}
use Rattle.plan.specs.declared.nodes.Nodes.{Nodes}
use Rattle.plan.specs.Records.{records-on}
use Rattle.plan.specs.Steps.{refused-on, Lies, Taken, StoppedWith}
use Rattle.build_from.specs.Sources.{ItemRoom, Accepted, Builds}
use Rattle.build_from.specs.Merges.{Merges}
use Rattle.build_from.specs.Joins.{join-size}
use Rattle.build_from.specs.Items.{laid_cells, laid-numbers}
use Rattle.build_from.specs.declared.Source.{Source}

-- THE RULE
-- one item behind a node with scope s
abbrev pub later_item : Catalog → From → rules.Scope → Node Built → Answer stages.Stage
later_item cat f s d = build_later_items cat (f ∷ []) (stage_of d s)

-- one answer after another, and a third behind both
then-last : {B C D : Type 0} (k : C → Answer D) (y : Answer B) (z : B → C)
    → (y >>= λ b. k (z b)) ≡ ((y >>= λ b. ok (z b)) >>= k)
unfolding ◌>>=◌
then-last k (ok b) z = refl
then-last k (refused w) z = refl

then-third : {A B C D : Type 0} (k : C → Answer D) (x : Answer A) (y : A → Answer B) (z : A → B → C)
    → (x >>= λ a. y a >>= λ b. k (z a b)) ≡ ((x >>= λ a. y a >>= λ b. ok (z a b)) >>= k)
unfolding ◌>>=◌
then-third k (ok a) y z = then-last k (y a) (z a)
then-third k (refused w) y z = refl

-- the items behind it stand on what it leaves
module _ (cat : Catalog) (f : From) (fs : List From) (r : stages.Stage) where
  later-behind : build_later_items cat (f ∷ fs) r ≡ (build_later_items cat (f ∷ []) r >>= build_later_items cat fs)
  unfolding build_later_items
  later-behind = then-third (build_later_items cat fs) (build_from cat f) (merge_into r.scope)
      (λ g t. stage_of (P.join r.node g.node none false) t)

  pub later-stops : (w : Refusal) → build_later_items cat (f ∷ []) r ≡ refused w
      → build_later_items cat (f ∷ fs) r ≡ refused w
  later-stops w e = later-behind ∙ bind-refused _ _ w e

  pub later-goes : (t : stages.Stage) → build_later_items cat (f ∷ []) r ≡ ok t
      → build_later_items cat (f ∷ fs) r ≡ build_later_items cat fs t
  later-goes t e = later-behind ∙ bind_ok _ _ t e

-- THE CONTRACT
-- the clause a so far, and room for the item f and the join behind it
pub record LaterRoom (c q : Bytes) (ts : List ℕ) (f : From) (a : Stage) (area : List ℕ) (nodes : Nodes) : Type 0 where
  pub valid : Valid a.scope
  pub plain : Plain a.scope
  pub some : 0 < a.at.node
  pub tables : a.scope.count + from_tables f ≤ most_from_tables
  pub item : ItemRoom c q ts f a.at area nodes
  pub numbers : nodes.used + table_room * from_tables f ≤ length nodes.numbers.now

pub record LaterAccepted (c q : Bytes) (ts cells : List ℕ) (f : From) (a : Stage) (area : List ℕ) (nodes : Nodes)
    (area' : List ℕ) (nodes' : Nodes) (x : Stage) : Type 0 where
  pub valid : Valid x.scope
  pub plain : Plain x.scope
  pub count : x.scope.count ≡ a.scope.count + from_tables f
  pub more : a.at.node < x.at.node
  pub few : x.at.node ≤ nodes'.used
  pub next : x.at.cell ≤ a.at.cell + 3 * from_size f
  pub numbers : nodes'.used ≤ nodes.used + table_room * from_tables f
  pub taken : Taken (λ d. stage_of d (scope_of (tree_at c q cells) c q x.scope))
      (later_item (catalog_at c q ts) f (scope_of (tree_at c q cells) c q a.scope))
      a.at.cell a.at.node area nodes x.at.cell x.at.node area' nodes'

pub record LaterBuilds (c q : Bytes) (ts cells : List ℕ) (f : From) (a : Stage) (area : List ℕ) (nodes : Nodes)
    (area' : List ℕ) (nodes' : Nodes) (r : Result Stage code.Refusal) : Type 0 where
  pub kept : length area' ≡ length area
  pub kept-nodes : Kept nodes nodes'
  pub is : MatchResult r (LaterAccepted c q ts cells f a area nodes area' nodes')
      (StoppedWith (later_item (catalog_at c q ts) f (scope_of (tree_at c q cells) c q a.scope)) a.at.cell a.at.node)

-- THE RETURNS
module _ {c q : Bytes} {ts : List ℕ} {f : From} {a : Stage} {area : List ℕ} {nodes : Nodes}
    (h : LaterRoom c q ts f a area nodes) where
  pub later-unbuilt : {cells area₁ : List ℕ} {nodes₁ : Nodes} {w : code.Refusal} → Builds c q ts cells f a.at area nodes area₁ nodes₁ (Err w)
      → LaterBuilds c q ts cells f a area nodes area₁ nodes₁ (Err w)
  later-unbuilt {cells} d = record {
    kept = d.kept;
    kept-nodes = d.kept-nodes;
    is = λ n cs rs l. refused-on d.is (later-refused (catalog_at c q ts) n (scope_of (tree_at c q cells) c q a.scope) 0 0 cs rs a.at.cell a.at.node l f []);
  }

  module _ {cells area₁ : List ℕ} {nodes₁ : Nodes} {b : Source}
      (d : Builds c q ts cells f a.at area nodes area₁ nodes₁ (Ok b)) where
    abbrev built : Accepted c q ts cells f a.at area nodes area₁ nodes₁ b
    built = d.is

    in_use : nodes₁.used + join_size ≤ nodes.used + table_room * from_tables f
    in_use = omega (arith, laid-numbers (catalog_at c q ts) f built.laid)

    -- room for the join, and for its node among the numbers of 32 bits
    pub later-join-room : (nodes₁.used + join_size ≤ length nodes₁.numbers.now) × (0 < b.at.node) × (b.at.node + 1 < 4294967296)
    later-join-room = (
      omega (arith, in_use, h.numbers, d.kept-nodes.all),
      omega (arith, built.more),
      omega (arith, in_use, h.numbers, h.item.most, built.few),
    )

    pub later-unmerged : {w : code.Refusal} → Merges c q a.scope b.scope b.line (Err w)
        → LaterBuilds c q ts cells f a area nodes area₁ nodes₁ (Err w)
    later-unmerged g = record {
      kept = d.kept;
      kept-nodes = d.kept-nodes;
      is = λ n cs rs l. refused-on (g.is (tree_at c q cells))
          (later-merge (catalog_at c q ts) n (scope_of
          (tree_at c q cells) c q a.scope) 0 0 cs rs a.at.cell a.at.node l f []
          (scope_of (tree_at c q cells) c q b.scope) b.line built.laid.cells built.laid.records b.at.cell b.at.node built.laid.is);
    }

    module _ {s : Scope} (g : Merges c q a.scope b.scope b.line (Ok s)) {nodes' : Nodes}
        (j : Pushed (record_numbers (join (a.at.node - 1) (b.at.node - 1) none false)) nodes₁ nodes') where
      laid_join : Pushed (record_numbers (join (pred a.at.node) (pred b.at.node) none false)) nodes₁ nodes'
      laid_join = rw (sub-one a.at.node, sub-one b.at.node) at j

      joined-in-use : nodes'.used ≡ nodes₁.used + join_size
      joined-in-use = j.appended.next ∙ ap (λ n. nodes₁.used + n) (join-size _ _ _ _)

      later-taken : Taken (λ n. stage_of n (scope_of (tree_at c q cells) c q s)) (later_item (catalog_at c q ts) f (scope_of (tree_at c q cells) c q a.scope))
          a.at.cell a.at.node area nodes b.at.cell (b.at.node + 1) area₁ nodes'
      later-taken = record {
        cells = built.laid.cells;
        records = built.laid.records ++ (join (pred a.at.node) (pred b.at.node) none false ∷ []);
        lies = lies;
        stands = record {
          cells = built.laid.stands.cells;
          records = records-on built.laid.records _ built.laid.stands.records laid_join;
        };
      }
        where
          lies : (n : Node Built) (cs : List Cell) (rs : List NodeRecord) → Lays 0 0 n cs rs a.at.cell a.at.node
              → Lies (λ n. stage_of n (scope_of (tree_at c q cells) c q s)) (later_item (catalog_at c q ts) f (scope_of (tree_at c q cells) c q a.scope) n)
              (cs ++ built.laid.cells)
              (rs ++ (built.laid.records ++ (join (pred a.at.node) (pred b.at.node) none false ∷ []))) b.at.cell
              (b.at.node + 1)
          lies n cs rs l =
              let cat = catalog_at c q ts in
              let o = built.laid in
              let e = later-end cat (P.join n o.is.node none false) (scope_of (tree_at c q cells) c q s) 0 0 _ _ b.at.cell (b.at.node + 1)
              (later-lays cat n (scope_of (tree_at c q cells) c q a.scope) 0 0 cs rs a.at.cell a.at.node l f []
              (scope_of (tree_at c q cells) c q b.scope) b.line
              o.cells o.records b.at.cell b.at.node o.is) in
              record {
                node = e.node;
                answer = later-step cat n (scope_of (tree_at c q cells) c q a.scope) 0 0 cs rs a.at.cell a.at.node l f [] (scope_of (tree_at c q cells) c q b.scope) b.line
                    o.cells o.records b.at.cell b.at.node o.is (scope_of (tree_at c q cells) c q s)
                    (g.is.is (tree_at c q cells) b.line) ∙ e.answer;
                lays = e.lays;
              }

      pub later-joined : LaterBuilds c q ts cells f a area nodes area₁ nodes'
          (Ok (record { scope = s; at = record { cell = b.at.cell; node = b.at.node + 1 } }))
      later-joined = record {
        kept = d.kept;
        kept-nodes = kept-on d.kept-nodes j.kept;
        is = record {
          valid = g.is.valid;
          plain = g.is.plain;
          count = g.is.count ∙ ap (λ n. a.scope.count + n) built.count;
          more = omega (arith, built.more);
          few = omega (arith, joined-in-use, built.few);
          next = omega (arith, laid_cells (catalog_at c q ts) f built.laid);
          numbers = omega (arith, joined-in-use, in_use);
          taken = later-taken;
        };
      }
