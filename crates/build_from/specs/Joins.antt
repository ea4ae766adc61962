-- A join from its two built sides: their scopes merged, its predicate, its record and, for a right join, the remap.
use Rattle.std.specs.Prelude.{ℕ, ◌+◌, ◌-◌, ◌*◌, ◌≤◌, ◌<◌, pred, ◌≡◌, refl, Bool, List, [], ◌∷◌, ◌++◌, length, take, Result, MatchResult, Ok, Err}
use Rattle.std.proofs.Common.{arith, sub-one, sym, ap, ◌∙◌}
use Rattle.std.proofs.Math.Bool.{true, false}
use Rattle.std.proofs.Math.Option.{Option}
use Rattle.rules.specs.Refusals.{Refusal, Answer, refused}
use Rattle.rules.specs.Lists.{Bytes}
use Rattle.rules.specs.Schema.{Catalog}
use Rattle.rules.specs.Ast.{Expr, Join, From}
use Rattle.rules.specs.Ast as Ast
use Rattle.rules.specs.Cells.{Cell}
use Rattle.rules.specs.Nodes.{NodeRecord, join, remap}
use Rattle.rules.specs.Area.{sized, record_numbers}
use Rattle.rules.specs.Scope as rules
use Rattle.rules.specs.BuildFrom as building
use Rattle.rules.specs.BuildFrom.{is_outer, is_right, build_sides, swapped, build_from}
use Rattle.rules.specs.Sizes.{option_size}
use Rattle.claims.specs.Room.Nodes.{join_room}
use Rattle.appends.specs.Expressions.Option.{emit_option}
use Rattle.appends.specs.From.Laid.{SourceLaid}
use Rattle.appends.specs.From.Merge.{merge_at}
use Rattle.appends.specs.From.Sides.{SidesLaid, sides-second-merge, sides-predicate, sides-step}
use Rattle.appends.specs.From.Sides.{join-refused, right-refused, join_step, right-step}
use Rattle.numbers.specs.Options.{option_of}
use Rattle.numbers.specs.declared.refusals.Refusal as code
use Rattle.ast.specs.Table.{tree_at}
use Rattle.scope.specs.Scopes.{scope_of, scope_from, labels_of, table_numbers, Valid, Plain}
use Rattle.scope.specs.Swap.{Swapped}
use Rattle.scope.specs.declared.Scope.{Scope}
use Rattle.from.specs.Access.{line_at}
use Rattle.plan.specs.Layout.{nodes_size, join_size, source_head}
use Rattle.plan.specs.Pushed.{Kept, kept-all, kept-on, Pushed}
use Rattle.plan.specs.declared.nodes.Nodes.{Nodes}
use Rattle.plan.specs.declared.steps.Step.{Step}
use Rattle.plan.specs.Records.{records-first, records-on}
use Rattle.plan.specs.Cells.{Room}
use Rattle.plan.specs.Steps.{RefusedWith, refused-on, Stands, stands_on}
use Rattle.build_from.specs.Sources.{Laid}
use Rattle.build_from.specs.Merges.{TwoScopes, scope-width, merge-empty, MergedScope, Merges}
use Rattle.build_expression.specs.Options.{OptionStands, OptionBuilt}
use Rattle.build_from.specs.Predicates.{predicate_in}
use Rattle.build_from.specs.Rows.{join_at, first_of, second_of, join_row}
use Rattle.build_from.specs.declared.Source.{Source}
use Rattle.build_expression.specs.declared.option.BuiltOption.{BuiltOption}

-- THE CONTRACT
-- the sides a and b of the join in row r, and room for its predicate and its records
pub record JoinRoom (c q : Bytes) (cells froms : List ℕ) (r : ℕ) (a b : Source) (area : List ℕ)
    (nodes : Nodes) : Type 0 where
  pub scopes : TwoScopes a.scope b.scope
  pub room : Room b.at.cell (3 * option_size (predicate_in c q cells froms r)) area
  pub numbers : nodes.used + join_room ≤ length nodes.numbers.now
  pub most : length nodes.numbers.now ≤ nodes_size
  pub first : 1 ≤ a.at.node
  pub second : 1 ≤ b.at.node
  pub few : b.at.node ≤ nodes.used

-- the answers ra and rb are these sides, one behind the other from step i on
pub record SidesIn (c q : Bytes) (cells : List ℕ) (ra rb : Answer building.Source) (a b : Source) (i : Step)
    (area₀ : List ℕ) (nodes₀ : Nodes) (area : List ℕ) (nodes : Nodes) : Type 0 where
  pub area₁ : List ℕ
  pub nodes₁ : Nodes
  pub first : Laid ra (scope_of (tree_at c q cells) c q a.scope) a.line i area₀ nodes₀ a.at area₁ nodes₁
  pub second : Laid rb (scope_of (tree_at c q cells) c q b.scope) b.line a.at area₁ nodes₁ b.at area nodes

-- the sides of the join of f and g in the order in which they are built
abbrev pub OrderIn : Bytes → Bytes → List ℕ → List ℕ → ℕ → Catalog → From → From → Source → Source → Step → List ℕ → Nodes
    → List ℕ → Nodes → Type 0
OrderIn c q cells froms r cat f g a b i area₀ nodes₀ area nodes = SidesIn c q cells
    (build_from cat (first_of (is_right (join_at froms r)) f g)) (build_from cat (second_of (is_right (join_at froms r)) f g))
    a b i area₀ nodes₀ area nodes

pub record JoinAccepted (c q : Bytes) (cells froms : List ℕ) (r : ℕ) (a b : Source) (area : List ℕ) (nodes : Nodes)
    (area' : List ℕ) (nodes' : Nodes) (x : Source) : Type 0 where
  pub valid : Valid x.scope
  pub plain : Plain x.scope
  pub count : x.scope.count ≡ a.scope.count + b.scope.count
  pub more : b.at.node < x.at.node
  pub few : x.at.node ≤ nodes'.used
  pub laid : (cat : Catalog) (f g : From) (i : Step) (area₀ : List ℕ) (nodes₀ : Nodes)
      → OrderIn c q cells froms r cat f g a b i area₀ nodes₀ area nodes
      → Laid (build_from cat (join_row c q cells froms r f g)) (scope_of (tree_at c q cells) c q x.scope) x.line
      i area₀ nodes₀ x.at area' nodes'

pub record Joins (c q : Bytes) (cells froms : List ℕ) (r : ℕ) (a b : Source) (area : List ℕ) (nodes : Nodes)
    (area' : List ℕ) (nodes' : Nodes) (x : Result Source code.Refusal) : Type 0 where
  pub kept : length area' ≡ length area
  pub kept-nodes : Kept nodes nodes'
  pub is : MatchResult x (JoinAccepted c q cells froms r a b area nodes area' nodes')
      (λ w. (cat : Catalog) (f g : From) (i : Step) (area₀ : List ℕ) (nodes₀ : Nodes)
      → OrderIn c q cells froms r cat f g a b i area₀ nodes₀ area nodes
      → RefusedWith (build_from cat (join_row c q cells froms r f g)) w)

-- REFUSALS
module _ (cat : Catalog) (l : ℕ) (y : Join) (f g : From) (e : Option Expr) where
  pub sides-refused : (w : Refusal)
      → build_sides e (build_from cat (first_of (is_right y) f g)) (build_from cat (second_of (is_right y) f g)) ≡ refused w
      → build_from cat (Ast.join l y f g e) ≡ refused w
  sides-refused w h = go (is_right y) refl h
    where
      go : (b : Bool) → is_right y ≡ b
          → build_sides e (build_from cat (first_of b f g)) (build_from cat (second_of b f g)) ≡ refused w
          → build_from cat (Ast.join l y f g e) ≡ refused w
      go false d k = unfold first_of second_of in (join-refused cat l y f g e w d k)
      go true d k = unfold first_of second_of in (right-refused cat l y f g e w d k)

module _ (c q : Bytes) (cells : List ℕ) (ra rb : Answer building.Source) (o : Option Expr) {a b : Source} {i : Step}
    {area₀ : List ℕ} {nodes₀ : Nodes} {area : List ℕ} {nodes : Nodes}
    (h : SidesIn c q cells ra rb a b i area₀ nodes₀ area nodes) (t : TwoScopes a.scope b.scope) where
  abbrev scopes : Scope → rules.Scope
  scopes s = scope_of (tree_at c q cells) c q s

  -- the scopes are not merged
  pub unmerged : {v : code.Refusal} → RefusedWith (merge_at (scopes a.scope) (scopes b.scope) b.line) v
      → RefusedWith (build_sides o ra rb) v
  unmerged d = refused-on d λ w m. sides-second-merge o ra rb (scopes a.scope) a.line i.cell i.node h.first.cells
      h.first.records a.at.cell a.at.node h.first.is (scopes a.scope)
      (merge-empty (tree_at c q cells) c q a.scope a.line t.valid t.plain)
      (scopes b.scope) b.line h.second.cells h.second.records b.at.cell b.at.node h.second.is w m

  -- the predicate is refused
  module _ {s : Scope} (g : MergedScope c q a.scope b.scope s) where
    pub unbuilt : {v : code.Refusal} → RefusedWith (emit_option (scopes s) b.at.cell o) v
        → RefusedWith (build_sides o ra rb) v
    unbuilt d = refused-on d λ w m. sides-predicate o ra rb (scopes a.scope) a.line i.cell i.node h.first.cells
        h.first.records a.at.cell a.at.node h.first.is (scopes a.scope)
        (merge-empty (tree_at c q cells) c q a.scope a.line t.valid t.plain)
        (scopes b.scope) b.line h.second.cells h.second.records b.at.cell b.at.node h.second.is
        (scopes s) (g.is (tree_at c q cells) b.line) w m

    -- all is laid, from what the predicate and the join's record append
    pub record SidesStand (outer : Bool) (z : ℕ) (area' : List ℕ) (nodes' : Nodes) : Type 0 where
      pub cells' : List Cell
      pub records : List NodeRecord
      pub is : SidesLaid o ra rb outer (scopes a.scope) (scopes b.scope) (scopes s) i.cell i.node cells' records z (b.at.node + 1)
      pub stands : Stands i.cell area₀ nodes₀ cells' records z area' nodes'

    pub sides-stand : (outer : Bool) {area' : List ℕ} {nodes' : Nodes} {x : BuiltOption}
        → OptionStands (scopes s) o b.at.cell area area' x
        → Pushed (record_numbers (join (a.at.node - 1) (b.at.node - 1) (option_of x.root) outer)) nodes nodes'
        → SidesStand outer x.cell area' nodes'
    sides-stand outer {x = x} p j =
        let n = rw (sub-one a.at.node, sub-one b.at.node) at j in
        record {
          cells' = _;
          records = _;
          is = sides-step o ra rb (scopes a.scope) a.line i.cell i.node h.first.cells
              h.first.records a.at.cell a.at.node h.first.is (scopes a.scope)
              (merge-empty (tree_at c q cells) c q a.scope a.line t.valid t.plain)
              (scopes b.scope) b.line h.second.cells h.second.records b.at.cell b.at.node h.second.is
              (scopes s) (g.is (tree_at c q cells) b.line) outer p.cells (option_of x.root) _ p.is;
          stands = stands_on h.first.stands (stands_on h.second.stands
              (record { cells = p.stands; records = records-first _ n }));
        }

-- RECORDS
pub join-size : (a b : ℕ) (x : Option ℕ) (o : Bool) → length (record_numbers (join a b x o)) ≡ join_size
unfolding record_numbers sized
join-size a b x o = refl

remap-size : (n : ℕ) (ts : List (Option ℕ)) → 1 ≤ length (record_numbers (remap n ts))
unfolding record_numbers sized
remap-size n ts = omega arith

-- THE SIDES IN ORDER, or swapped
module _ (cat : Catalog) (l : ℕ) (y : Join) (f g : From) (o : Option Expr) {s u v : rules.Scope} {i k : ℕ}
    {cs : List Cell} {rs : List NodeRecord} {j m : ℕ} where
  in_order : is_right y ≡ false → SidesLaid o (build_from cat (first_of (is_right y) f g)) (build_from cat (second_of (is_right y) f g)) (is_outer y)
      s u v i k cs rs j m
      → SourceLaid (build_from cat (Ast.join l y f g o)) v l i k cs rs j m
  unfolding first_of second_of
  in_order h d = let e : SidesLaid o (build_from cat (first_of false f g)) (build_from cat (second_of false f g)) (is_outer y)
      s u v i k cs rs j m =
      rw h at d in
      join_step cat l y f g o s u v i k cs rs j m h e

  swapped-back : is_right y ≡ true → SidesLaid o (build_from cat (first_of (is_right y) f g)) (build_from cat (second_of (is_right y) f g)) (is_outer y)
      s u v i k cs rs j m
      → SourceLaid (build_from cat (Ast.join l y f g o)) (rules.remap v (swapped (rules.width s) (rules.width u))) l i k
      cs (rs ++ (remap (pred m) (swapped (rules.width s) (rules.width u)) ∷ [])) j (m + 1)
  unfolding first_of second_of
  swapped-back h d = let e : SidesLaid o (build_from cat (first_of true f g)) (build_from cat (second_of true f g)) (is_outer y)
      s u v i k cs rs j m =
      rw h at d in
      right-step cat l y f g o s u v i k cs rs j m h e

-- THE RETURNS
module _ {c q : Bytes} {cells froms : List ℕ} {r : ℕ} {a b : Source} {area : List ℕ} {nodes : Nodes}
    (h : JoinRoom c q cells froms r a b area nodes) where
  pub join-unmerged : {w : code.Refusal} → Merges c q a.scope b.scope b.line (Err w)
      → Joins c q cells froms r a b area nodes area nodes (Err w)
  join-unmerged g = record {
    kept = refl;
    kept-nodes = kept-all nodes;
    is = λ cat f f' i area₀ nodes₀ d. refused-on (unmerged c q cells _ _ (predicate_in c q cells froms r) d h.scopes
        (g.is (tree_at c q cells)))
        (sides-refused cat (line_at froms r) (join_at froms r) f f' (predicate_in c q cells froms r));
  }

  module _ {s : Scope} (g : Merges c q a.scope b.scope b.line (Ok s)) where
    abbrev Over : List ℕ → Result BuiltOption code.Refusal → Type 0
    Over area' p = (k : ℕ) → OptionBuilt (scope_from (tree_at c q cells) c q (labels_of s) (take s.width s.matches)
        (table_numbers s) k) (predicate_in c q cells froms r) b.at.cell area area' p

    over : {area' : List ℕ} (p : Result BuiltOption code.Refusal) → Over area' p
        → OptionBuilt (scope_of (tree_at c q cells) c q s) (predicate_in c q cells froms r) b.at.cell area area' p
    unfolding scope_of
    over p d = d s.hidden

    pub join-unbuilt : {area' : List ℕ} {w : code.Refusal} → Over area' (Err w)
        → Joins c q cells froms r a b area nodes area' nodes (Err w)
    join-unbuilt {w = w} d = record {
      kept = (over (Err w) d).kept;
      kept-nodes = kept-all nodes;
      is = λ cat f f' i area₀ nodes₀ e.
          refused-on (unbuilt c q cells _ _ (predicate_in c q cells froms r) e h.scopes g.is (over (Err w) d).is)
          (sides-refused cat (line_at froms r) (join_at froms r) f f' (predicate_in c q cells froms r));
    }

    module _ {area' : List ℕ} {p : BuiltOption} (d : Over area' (Ok p)) {outer : Bool} {nodes' : Nodes}
        (t : outer ≡ is_outer (join_at froms r))
        (j : Pushed (record_numbers (join (a.at.node - 1) (b.at.node - 1) (option_of p.root) outer)) nodes nodes') where
      abbrev stands : OptionStands (scope_of (tree_at c q cells) c q s) (predicate_in c q cells froms r) b.at.cell area area' p
      stands = (over (Ok p) d).is

      pub join-in-use : nodes'.used ≡ nodes.used + join_size
      join-in-use = j.appended.next ∙ ap (λ n. nodes.used + n) (join-size _ _ _ _)

      pub join-remap-room : (nodes'.used + source_head + (a.scope.width + b.scope.width) ≤ length nodes'.numbers.now)
          × (length nodes'.numbers.now ≤ nodes_size)
      join-remap-room = (
        omega (
          arith,
          join-in-use,
          j.kept.all,
          h.numbers,
          g.is.width,
          g.is.valid.width,
        ),
        omega (arith, j.kept.all, h.most),
      )

      module _ (cat : Catalog) (f f' : From) (i : Step) (area₀ : List ℕ) (nodes₀ : Nodes)
          (e : OrderIn c q cells froms r cat f f' a b i area₀ nodes₀ area nodes) where
        abbrev whole : SidesStand c q cells _ _ (predicate_in c q cells froms r) e h.scopes g.is
            (is_outer (join_at froms r)) p.cell area' nodes'
        whole = sides-stand c q cells _ _ (predicate_in c q cells froms r) e h.scopes g.is
            (is_outer (join_at froms r)) stands (rw (sym t) j)

        laid-ordered : is_right (join_at froms r) ≡ false
            → Laid (build_from cat (join_row c q cells froms r f f')) (scope_of (tree_at c q cells) c q s)
            (line_at froms r) i area₀ nodes₀ (record { cell = p.cell; node = b.at.node + 1 }) area' nodes'
        laid-ordered n = record {
          cells = whole.cells';
          records = whole.records;
          is = in_order cat (line_at froms r) (join_at froms r) f f' (predicate_in c q cells froms r) n whole.is;
          stands = whole.stands;
        }

        laid-swapped : {nodes'' : Nodes} → is_right (join_at froms r) ≡ true
            → Pushed (record_numbers (remap b.at.node (swapped a.scope.width b.scope.width))) nodes' nodes''
            → Laid (build_from cat (join_row c q cells froms r f f'))
            (rules.remap (scope_of (tree_at c q cells) c q s) (swapped a.scope.width b.scope.width))
            (line_at froms r) i area₀ nodes₀ (record { cell = p.cell; node = b.at.node + 1 + 1 }) area' nodes''
        laid-swapped n w =
            let o : pred (b.at.node + 1) ≡ b.at.node = omega arith in
            let wa = scope-width (tree_at c q cells) c q a.scope h.scopes.valid in
            let wb = scope-width (tree_at c q cells) c q b.scope h.scopes.other in
            record {
              cells = whole.cells';
              records = whole.records ++ (remap b.at.node (swapped a.scope.width b.scope.width) ∷ []);
              is = rw (o, wa, wb) at
                  (swapped-back cat (line_at froms r) (join_at froms r) f f'
                  (predicate_in c q cells froms r) n whole.is);
              stands = record {
                cells = whole.stands.cells;
                records = records-on whole.records _ whole.stands.records w;
              };
            }

      pub join-ordered : {l : ℕ} → false ≡ is_right (join_at froms r) → l ≡ line_at froms r
          → Joins c q cells froms r a b area nodes area' nodes'
          (Ok (record { scope = s; line = l; at = record { cell = p.cell; node = b.at.node + 1 } }))
      join-ordered n el = record {
        kept = (over (Ok p) d).kept;
        kept-nodes = j.kept;
        is = record {
          valid = g.is.valid;
          plain = g.is.plain;
          count = g.is.count;
          more = omega arith;
          few = omega (arith, join-in-use, h.few);
          laid = λ cat f f' i area₀ nodes₀ e. rw el (laid-ordered cat f f' i area₀ nodes₀ e (sym n));
        };
      }

      pub join-swapped : {s' : Scope} {l : ℕ} {nodes'' : Nodes} → true ≡ is_right (join_at froms r)
          → Pushed (record_numbers (remap b.at.node (swapped a.scope.width b.scope.width))) nodes' nodes''
          → Swapped s a.scope.width b.scope.width s' → l ≡ line_at froms r
          → Joins c q cells froms r a b area nodes area' nodes''
          (Ok (record { scope = s'; line = l; at = record { cell = p.cell; node = b.at.node + 1 + 1 } }))
      join-swapped n w y el =
          record {
            kept = (over (Ok p) d).kept;
            kept-nodes = kept-on j.kept w.kept;
            is = record {
              valid = y.valid;
              plain = y.plain;
              count = y.count ∙ g.is.count;
              more = omega arith;
              few = omega (arith, join-in-use, h.few, w.appended.next, remap-size b.at.node (swapped a.scope.width b.scope.width));
              laid = λ cat f f' i area₀ nodes₀ e. rw (y.is (tree_at c q cells) c q, el)
                  (laid-swapped cat f f' i area₀ nodes₀ e (sym n) w);
            };
          }
