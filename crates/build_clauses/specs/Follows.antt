-- Where a node record may be appended.
use Rattle.std.specs.Prelude.{ℕ, ◌+◌, ◌≤◌, ◌<◌, length}
use Rattle.plan.specs.Layout.{nodes_size}
use Rattle.plan.specs.declared.nodes.Nodes.{Nodes}

-- a record of so many numbers may follow m nodes
pub record Follows (size m : ℕ) (nodes : Nodes) : Type 0 where
  pub source : 0 < m
  pub counted : m ≤ nodes.used
  pub room : nodes.used + size ≤ length nodes.numbers.now
  pub most : length nodes.numbers.now ≤ nodes_size
