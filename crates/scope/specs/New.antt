-- The empty scope.
use Rattle.std.specs.Prelude.{ℕ, ◌≡◌, refl, replicate}
use Rattle.std.proofs.Common.{arith}
use Rattle.rules.specs.Limits.{most_columns, most_from_tables}
use Rattle.rules.specs.Lists.{Bytes}
use Rattle.rules.specs.Ast.{Expr}
use Rattle.rules.specs.Scope as rules
use Rattle.scope.specs.Labels.{tables_of, columns_of}
use Rattle.scope.specs.Slots as slots
use Rattle.scope.specs.FromTable.{zeros}
use Rattle.scope.specs.Scopes.{matches_of, up_to, scope_from, scope_of, Valid, Plain}
use Rattle.scope.specs.declared.Scope.{Scope}

pub record New (r : Scope) : Type 0 where
  pub valid : Valid r
  pub plain : Plain r
  pub is : (e : ℕ → Expr) (c q : Bytes) → scope_of e c q r ≡ rules.empty

pub new : New (record {
  labels = replicate most_columns 0;
  matches = replicate most_columns 0;
  tables = replicate most_from_tables 0;
  width = 0;
  count = 0;
  hidden = 0;
})
unfolding scope_of scope_from matches_of columns_of tables_of up_to rules.empty
new = record {
  valid = record {
    width = omega arith;
    tables = omega arith;
    slots = slots.none;
    labels-room = refl;
    matches-room = refl;
    tables-room = refl;
  };
  plain = record { unmatched = zeros most_columns; shown = refl };
  is = λ e c q. refl;
}
