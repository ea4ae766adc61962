-- `target::build_target`: the table, its scope, and its filter.
use native.Mathlib.Omega.{arith}
use borrow.Author.Rules.{rules}
use Rattle.statement.specs.declared.access.Clause.{Clause}
use Rattle.plan.specs.Emits.{exit}
use Rattle.build_expression.specs.Options.{option-mapped}
use Rattle.build_statement.specs.Targets.{target-missing, target-room, target-unfiltered, target-built}
use Rattle.build_statement.proofs.target.build_target.Goals as goal

pub returns-in_err-table : goal.returns-in_err-table
returns-in_err-table c = rw (exit c.from_residual.result c.from_residual.ensures.1)
    (target-missing _ _ _ _ _ c.requires _ _ _ c.name-name.ensures.address c.name-name.ensures.length c.line.ensures c.find_table.ensures _ c.in_err-table.was)

pub build_option-requires : goal.build_option-requires
build_option-requires c = target-room _ _ _ _ _ c.requires _ _ _ c.name-name.ensures.address c.name-name.ensures.length c.line.ensures c.find_table.ensures c.clause_at-clause.ensures (omega (arith, c.well_formed.1.1.1.0.1)) (option-mapped (λ (k : Clause). k.row) _ _ c.map-row.ensures.cases (λ k r h. search rules))

pub returns-in_err-filter : goal.returns-in_err-filter
returns-in_err-filter c = rw (exit c.from_residual-in_err-filter.result c.from_residual-in_err-filter.ensures.1)
    (target-unfiltered _ _ _ _ _ c.requires _ _ _ c.name-name.ensures.address c.name-name.ensures.length c.line.ensures c.find_table.ensures c.clause_at-clause.ensures (omega (arith, c.well_formed.1.1.1.0.1)) (option-mapped (λ (k : Clause). k.row) _ _ c.map-row.ensures.cases (λ k r h. search rules)) _ c.in_ok-table.was
    c.from_table-scope.ensures (rw (c.view.ensures.labels, c.view.ensures.matches, c.view.ensures.tables) at c.build_option.ensures) _ c.in_err-filter.was)

pub returns : goal.returns
returns c = target-built _ _ _ _ _ c.requires _ _ _ c.name-name.ensures.address c.name-name.ensures.length c.line.ensures c.find_table.ensures c.clause_at-clause.ensures (omega (arith, c.well_formed.1.1.1.0.1)) (option-mapped (λ (k : Clause). k.row) _ _ c.map-row.ensures.cases (λ k r h. search rules)) _ c.in_ok-table.was
    c.from_table-scope.ensures (rw (c.view.ensures.labels, c.view.ensures.matches, c.view.ensures.tables) at c.build_option.ensures) _ c.in_ok-filter.was
