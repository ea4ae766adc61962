-- How many numbers are in use: when a node is laid as many more as the node takes (claims, Room), and at the head of a record.
use Rattle.std.specs.Prelude.{ℕ, ◌+◌, ◌≡◌, List, [], length}
use Rattle.std.proofs.Common.{◌∙◌}
use Rattle.rules.specs.Plan.{Built, Node}
use Rattle.rules.specs.Cells.{Cell, number_node}
use Rattle.rules.specs.Nodes.{NodeRecord, values, aggregate, project, order, remap}
use Rattle.rules.specs.Area.{row_numbers, function_numbers, item_numbers, key_numbers, sized, record_numbers}
use Rattle.claims.specs.Room.Nodes.{node_room, records-room, number-room}
use Rattle.appends.specs.Nodes.Lays.{Lays}
use Rattle.appends.specs.Area.{records_numbers}
use Rattle.plan.specs.Layout.{record_head, source_head, aggregate_head}
use Rattle.plan.specs.Pushed.{Pushed}
use Rattle.plan.specs.declared.nodes.Nodes.{Nodes}
use Rattle.plan.specs.Records.{unsized, opened}

-- NODES
module _ (i l : ℕ) (n : Node Built) (cs : List Cell) (rs : List NodeRecord) (j m : ℕ) (h : Lays i l n cs rs j m) where
  pub lays-room : length (records_numbers rs) ≡ node_room n
  unfolding records_numbers
  lays-room = rw (← h.records) (records-room (number_node i n) l ∙ number-room n i)

  pub laid-in-use : {s t : Nodes} → Pushed (records_numbers rs) s t → t.used ≡ s.used + node_room n
  laid-in-use a = a.appended.next ∙ rw lays-room

-- what is in use at the head of each open record
module _ {s t : Nodes} where
  pub values-in-use : Pushed (opened (values [])) s t → t.used ≡ s.used + record_head
  unfolding opened unsized record_numbers sized row_numbers
  values-in-use a = a.appended.next

  pub aggregate-in-use : (n : ℕ) → Pushed (opened (aggregate n [] [])) s t → t.used ≡ s.used + aggregate_head
  unfolding opened unsized record_numbers sized function_numbers
  aggregate-in-use n a = a.appended.next

  pub project-in-use : (n : ℕ) → Pushed (opened (project n [])) s t → t.used ≡ s.used + source_head
  unfolding opened unsized record_numbers sized item_numbers
  project-in-use n a = a.appended.next

  pub order-in-use : (n : ℕ) → Pushed (opened (order n [])) s t → t.used ≡ s.used + source_head
  unfolding opened unsized record_numbers sized key_numbers
  order-in-use n a = a.appended.next

  pub remap-in-use : (n : ℕ) → Pushed (opened (remap n [])) s t → t.used ≡ s.used + source_head
  unfolding opened unsized record_numbers sized
  remap-in-use n a = a.appended.next
