-- The kinds of nodes and of statements, by their numbers in the plan.
use Rattle.std.specs.Prelude.{ℕ}
use Rattle.plan.specs.declared.nodes.Kind as node
use Rattle.plan.specs.declared.nodes.Kind.TheVariants as N
use Rattle.plan.specs.declared.finish.Kind as statement
use Rattle.plan.specs.declared.finish.Kind.TheVariants as S

abbrev pub node_number : node.Kind → ℕ
node_number N.Scan = 1
node_number N.Values = 2
node_number N.Join = 3
node_number N.Filter = 4
node_number N.Aggregate = 5
node_number N.Project = 6
node_number N.Order = 7
node_number N.Offset = 8
node_number N.Limit = 9
node_number N.Remap = 10

abbrev pub statement_number : statement.Kind → ℕ
statement_number S.Select = 1
statement_number S.Create = 2
statement_number S.Drop = 3
statement_number S.Delete = 4
statement_number S.Insert = 5
statement_number S.Update = 6
