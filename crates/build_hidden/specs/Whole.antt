-- HAVING's and ORDER BY's rows, and what they hide.
use Rattle.std.specs.Prelude.{ℕ, ◌≡◌, List, length}
use Rattle.std.proofs.Common.{arith}
use Rattle.rules.specs.Limits.{most_cells}
use Rattle.rules.specs.Lists.{Bytes}
use Rattle.scope.specs.declared.Scope.{Scope}
use Rattle.build_hidden.specs.Terms.{Hideable}
use Rattle.ast.specs.declared.buffer.Rows.{Rows}
use Rattle.build_hidden.specs.Later.{LaterFit}

-- there are places for all rows
pub later-fits : {c q : Bytes} {cells parts labels matches tables : List ℕ} {child : Scope} {positions : List ℕ} (s : Rows)
    → Hideable c q cells parts labels matches tables child positions → s.used ≡ 0 → length s.rows.now ≡ most_cells
    → LaterFit cells parts s
later-fits {c} {q} s f z e = record {
  c = c;
  q = q;
  table = f.passable.table;
  fits = λ froms. omega (arith, f.few froms, z, e);
}
