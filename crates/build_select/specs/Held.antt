-- What stands of a plan that is being built: the node with all its cells and records, from the header on.
use Rattle.std.specs.Prelude.{ℕ, ◌+◌, ◌≤◌, ◌<◌, ◌≡◌, List, length, Ok, Err}
use Rattle.std.proofs.Common.{arith, sym, ap, ◌∙◌}
use Rattle.rules.specs.Refusals.{Answer, ok, refused}
use Rattle.rules.specs.Limits.{least_area}
use Rattle.rules.specs.Ast.{Select}
use Rattle.rules.specs.Plan.{Built, Node, Plan}
use Rattle.rules.specs.Cells.{cell_count}
use Rattle.rules.specs.Entry.{outcome}
use Rattle.claims.specs.Form.Sources.{some-nodes}
use Rattle.claims.specs.Numbers32.Plan.{nodes-room}
use Rattle.claims.specs.Room.Nodes.{most_later_numbers, node_room}
use Rattle.claims.specs.Room.From.{FromFits}
use Rattle.plan.specs.Layout.{nodes_size}
use Rattle.plan.specs.Pushed.{Kept}
use Rattle.plan.specs.Room.{laid-in-use}
use Rattle.plan.specs.declared.nodes.Nodes.{Nodes}
use Rattle.numbers.specs.declared.refusals.Refusal.{Refusal}
use Rattle.plan.specs.Emits.{Written}
use Rattle.plan.specs.Steps.{RefusedWith, Stepped, Steps, Standing, standing_on, standing-refused}
use Rattle.plan.specs.declared.steps.Step.{Step}
use Rattle.build_clauses.specs.Follows.{Follows}
use Rattle.build_statement.specs.Plans.{planned_of, Plans}

-- there is room for the plan of the SELECT q: `from` numbers are enough for the nodes of its FROM, and as many as the
-- others may take are left behind them
pub record SelectRoom (q : Select) (area : List ℕ) (nodes : Nodes) : Type 0 where
  pub area_room : least_area ≤ length area
  pub from : ℕ
  pub fits : FromFits q.from from
  pub later : from + most_later_numbers ≤ length nodes.numbers.now
  pub most : length nodes.numbers.now ≤ nodes_size

-- and there still is where the lengths are kept
pub room-kept : {q : Select} {area area' : List ℕ} {nodes nodes' : Nodes} → SelectRoom q area nodes → length area' ≡ length area
    → Kept nodes nodes' → SelectRoom q area' nodes'
room-kept h e g = record {
  area_room = omega (arith, h.area_room, e);
  from = h.from;
  fits = h.fits;
  later = omega (arith, h.later, g.all);
  most = omega (arith, h.most, g.all);
}

-- the node d stands before step i and in the numbers of the nodes, and there is room for the plan of the SELECT q
pub record Held (q : Select) (d : Node Built) (i : Step) (area : List ℕ) (nodes : Nodes) : Type 0 where
  pub area₀ : List ℕ
  pub nodes₀ : Nodes
  pub standing : Standing d i.cell i.node area₀ nodes₀ area nodes
  pub free : SelectRoom q area nodes

module _ {q : Select} {d : Node Built} {i : Step} {area : List ℕ} {nodes : Nodes} (h : Held q d i area nodes) where
  pub held-cells : cell_count d ≡ i.cell
  held-cells = omega (arith, h.standing.lays.next)

  pub held-numbers : node_room d ≡ nodes.used
  held-numbers = omega (
    arith,
    laid-in-use 0 0 d h.standing.cells h.standing.records i.cell i.node h.standing.lays h.standing.stands.records,
  )

  pub held-some : 0 < i.node
  held-some = omega (arith, h.standing.lays.node, some-nodes d)

  pub held-few : i.node ≤ nodes.used
  held-few = omega (arith, h.standing.lays.node, nodes-room d, held-numbers)

-- a record may follow
pub held-follows : {q : Select} {d : Node Built} {i : Step} {area : List ℕ} {nodes : Nodes} {size : ℕ}
    → Held q d i area nodes → nodes.used + size ≤ length nodes.numbers.now → Follows size i.node nodes
held-follows h l = record {
  source = held-some h;
  counted = held-few h;
  room = l;
  most = h.free.most;
}

-- a step on
pub record HeldOn {B : Type 0} (q : Select) (view : Node Built → B) (a : Answer B) (i : Step) (area : List ℕ)
    (nodes : Nodes)
    : Type 0 where
  pub node : Node Built
  pub answer : a ≡ ok (view node)
  pub held : Held q node i area nodes

module _ {B : Type 0} {view : Node Built → B} {a : Node Built → Answer B} {q : Select} {d : Node Built} {i : Step}
    {area : List ℕ} {nodes : Nodes} {area' : List ℕ} {nodes' : Nodes} {r : Stepped} (h : Held q d i area nodes)
    (s : Steps view a i.cell i.node area nodes area' nodes' r) where
  pub step-on : (p : Step) → r ≡ Ok p → HeldOn q view (a d) p area' nodes'
  step-on p e =
      let w = standing_on p h.standing s e in
      record {
        node = w.node;
        answer = w.answer;
        held = record {
          area₀ = h.area₀;
          nodes₀ = h.nodes₀;
          standing = w.standing;
          free = room-kept h.free s.kept s.kept-nodes;
        };
      }

  pub step-stop : (w : Refusal) → r ≡ Err w → RefusedWith (a d) w
  step-stop w e = standing-refused w h.standing s e

-- THE ANSWER
pub plans-refused : {a : Answer (Plan Built)} {w : Refusal} {area area' : List ℕ} → RefusedWith a w
    → length area' ≡ length area → Plans a area area' (Err w)
unfolding planned_of
plans-refused h e = record {
  answer = rw (h.refusal, h.is);
  kept = e;
  exit = λ p g. absurd (let f : ok p ≡ refused h.why = sym g ∙ h.is in let z : ◌≡◌ {A = ℕ} 0 1 = cc in omega arith);
}

-- of an area of the same length
pub plans-after : {a b : Answer (Plan Built)} {area area' area'' : List ℕ} {r : Written} → length area' ≡ length area
    → a ≡ b → Plans b area' area'' r → Plans a area area'' r
unfolding outcome
plans-after {a} {b} {area} {area'} {area''} e f h = record {
  answer = h.answer ∙ sym (ap planned_of f);
  kept = h.kept ∙ e;
  exit = λ p g. h.exit p (sym f ∙ g) ∙ rw (sym f ∙ g, g, e);
}
