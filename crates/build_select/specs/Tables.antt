-- Room for the plan of a SELECT, by the tables of its FROM: whatever they are, or at most one.
use Rattle.std.specs.Prelude.{ℕ, zero, suc, ◌+◌, ◌≤◌, ◌≡◌, List, length}
use Rattle.std.proofs.Common.{arith}
use Rattle.rules.specs.Limits.{least_area}
use Rattle.rules.specs.Lists.{Bytes}
use Rattle.rules.specs.Schema.{Catalog}
use Rattle.rules.specs.Ast.{Select}
use Rattle.rules.specs.Ast as Ast
use Rattle.rules.specs.Sizes.{total}
use Rattle.claims.specs.Reading.Limits.{from_tables}
use Rattle.claims.specs.Within.{TextsWithin, select-counts}
use Rattle.claims.specs.Room.Nodes.{most_from_numbers, most_later_numbers}
use Rattle.claims.specs.Room.From.{from-fits}
use Rattle.from.specs.Layout.{roots_in, roots_before, roots_at, table_by, table_at, tree_in, from_at, froms_at}
use Rattle.statement.specs.Layout.{select_of}
use Rattle.statement.specs.Access.{from_rows, select_at}
use Rattle.plan.specs.Layout.{scan_size, nodes_size}
use Rattle.plan.specs.declared.nodes.Nodes.{Nodes}
use Rattle.build_select.specs.Held.{SelectRoom}

-- as many numbers as any statement's nodes may take
pub any-tables : {c q : Bytes} {cat : Catalog} {d : Select} {area : List ℕ} {nodes : Nodes} → TextsWithin c q cat (Ast.select d)
    → least_area ≤ length area → length nodes.numbers.now ≡ nodes_size → SelectRoom d area nodes
any-tables {d = d} h a n = record {
  area_room = a;
  from = most_from_numbers;
  fits = from-fits d.from (select-counts h).from;
  later = omega arith;
  most = omega arith;
}

-- the nodes of a SELECT over at most one table: its scan, and all others
abbrev pub one_table_size : ℕ
one_table_size = scan_size + most_later_numbers

-- a FROM of at most one row has at most one table
few-tables : (c q : Bytes) (cells froms : List ℕ) (n : ℕ) → n ≤ 1 → total from_tables (froms_at c q cells froms n) ≤ 1
unfolding froms_at roots_at roots_before roots_in from_at tree_in table_at table_by total from_tables
few-tables c q cells froms zero h = omega arith
few-tables c q cells froms (suc zero) h = omega arith
few-tables c q cells froms (suc (suc n)) h = absurd (omega (arith, h))

pub one_table : (c q : Bytes) (cells froms parts : List ℕ) {area : List ℕ} {nodes : Nodes} → from_rows parts ≤ 1
    → least_area ≤ length area → length nodes.numbers.now ≡ one_table_size → SelectRoom (select_at c q cells froms parts) area nodes
unfolding select_at select_of
one_table c q cells froms parts h a n =
    let t = few-tables c q cells froms (from_rows parts) h in
    record {
      area_room = a;
      from = scan_size;
      fits = record { row = omega arith; tables = omega (arith, t) };
      later = omega arith;
      most = omega arith;
    }
