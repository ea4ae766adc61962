-- The table of a DELETE or an UPDATE, its scope and its filter, from what was looked up and what was built.
use Rattle.std.specs.Prelude.{ℕ, ◌*◌, ◌≤◌, ◌≡◌, refl, List, length, take, Result, Ok, Err}
use Rattle.std.proofs.Common.{sym, ap, ◌∙◌}
use Rattle.rules.specs.Refusals.{Answer, ok, refused, ◌>>=◌}
use Rattle.rules.specs.Limits.{most_cells, least_area}
use Rattle.rules.specs.Lists.{Bytes}
use Rattle.rules.specs.Places.{bytes_at, word_at}
use Rattle.rules.specs.Schema.{Table, must_get_table}
use Rattle.rules.specs.Ast.{Expr, Statement}
use Rattle.rules.specs.Cells.{Cell}
use Rattle.std.proofs.Math.Option.{Option}
use Rattle.rules.specs.BuildExpression.{clause_expr}
use Rattle.rules.specs.BuildStatement.{table_scope}
use Rattle.rules.specs.Sizes.{option_size, clause_size}
use Rattle.claims.specs.Within.{TextsWithin}
use Rattle.claims.specs.Words.Within.{StatementName}
use Rattle.appends.specs.Answers.{ok-not-refused}
use Rattle.appends.specs.Expressions.Option.{emit_option}
use Rattle.ast.specs.Table.{tree_at}
use Rattle.schema.specs.Layout.{catalog_at}
use Rattle.std.specs.Prelude as std
use Rattle.std.specs.Option.{option_map}
use Rattle.numbers.specs.Options.{option_of}
use Rattle.sections.specs.Layout.{section_at}
use Rattle.sections.specs.Access.{where_kind}
use Rattle.sections.specs.Expressions.{outside_row}
use Rattle.scope.specs.Scopes.{labels_of, table_numbers, scope_of}
use Rattle.scope.specs.FromTable.{FromTable}
use Rattle.scope.specs.declared.Scope.{Scope}
use Rattle.statement.specs.Layout.{to_clause}
use Rattle.statement.specs.Access.{line_at, name_address, name_length}
use Rattle.statement.specs.EntryAccess.{clause_at}
use Rattle.statement.specs.declared.access.Clause.{Clause}
use Rattle.numbers.specs.declared.refusals.Refusal.{Refusal}
use Rattle.plan.specs.Cells.{Room}
use Rattle.plan.specs.Steps.{RefusedWith, refused-on}
use Rattle.build_expression.specs.Builds.{scope_at}
use Rattle.build_expression.specs.Options.{option_tree, OptionStands, OptionBuilt}
use Rattle.build_expression.specs.declared.option.BuiltOption.{BuiltOption}
use Rattle.build_statement.specs.Kinds.{name_of}
use Rattle.schema.specs.Search.{TablePosition}
use Rattle.build_statement.specs.Tables.{table_named, table-missing, table-is, table-scope}
use Rattle.build_statement.specs.Clauses.{clause-tree, clause-room, Taken, taken}
use Rattle.build_statement.specs.Scans.{where-is, where-room}
use Rattle.build_statement.specs.declared.target.Target.{Target}

-- the cells, the root and the next cell of a filter
abbrev Filter : Type 0
Filter = List Cell × Option ℕ × ℕ

abbrev both : Table → Filter → Answer (Table × Filter)
both t p = ok (t, p)

module _ (c q : Bytes) (tables cells parts : List ℕ) where
  -- the statement's filter
  abbrev pub filter_at : Option Expr
  filter_at = clause_expr (to_clause (section_at c q cells parts where_kind))

  -- the numbers were read from the texts, and there is room for the filter's cells
  pub record TargetReady (area : List ℕ) : Type 0 where
    pub statement : Statement
    pub within : TextsWithin c q (catalog_at c q tables) statement
    pub named : StatementName c q (name_of c q parts)
    pub few : clause_size (to_clause (section_at c q cells parts where_kind)) ≤ most_cells
    pub area_room : least_area ≤ length area

  -- the rules' table of the statement's name
  abbrev table_at_name : Answer Table
  table_at_name = must_get_table (catalog_at c q tables) (line_at parts) (name_of c q parts)

  -- that table and its filter's cells, or the refusal of either
  unfoldable pub target_at : Answer (Table × Filter)
  target_at = table_at_name >>= λ t. emit_option (table_scope t) 0 filter_at >>= λ p. both t p

  -- accepted: the table, its scope, and the filter's cells in the area
  pub record TargetStands (area area' : List ℕ) (b : Target) : Type 0 where
    pub table : table_at_name ≡ ok (table_named c q tables b.table b.name.address b.name.length)
    pub scope : scope_of (tree_at c q cells) c q b.scope ≡ table_scope (table_named c q tables b.table b.name.address b.name.length)
    pub filter : OptionStands (table_scope (table_named c q tables b.table b.name.address b.name.length)) filter_at 0 area area' b.filter

  unfoldable pub TargetAs : List ℕ → List ℕ → Result Target Refusal → Type 0
  TargetAs area area' (Ok b) = TargetStands area area' b
  TargetAs area area' (Err w) = RefusedWith target_at w

  -- r is the target, or its refusal; where it is refused the area's numbers are not determined
  pub record TargetBuilt (area area' : List ℕ) (r : Result Target Refusal) : Type 0 where
    pub kept : length area' ≡ length area
    pub is : TargetAs area area' r

  module _ {area area' : List ℕ} {r : Result Target Refusal} (h : TargetBuilt area area' r) where
    pub target-stands : (b : Target) → r ≡ Ok b → TargetStands area area' b
    unfolding TargetAs
    target-stands b e = rw e at h.is

    -- a refusal of either ends the statement
    pub target-refused : {B : Type 0} {a : Answer B} (w : Refusal) → r ≡ Err w
        → ((v : _) → table_at_name ≡ refused v → a ≡ refused v)
        → ((t : Table) → table_at_name ≡ ok t → (v : _) → emit_option (table_scope t) 0 filter_at ≡ refused v → a ≡ refused v)
        → RefusedWith a w
    unfolding TargetAs target_at ◌>>=◌
    target-refused {B} {a} w e f g = refused-on k (λ v z. go table_at_name refl v z)
      where
        k : RefusedWith target_at w
        k = rw e at h.is

        inner : (t : Table) (x : Answer Filter) → table_at_name ≡ ok t → emit_option (table_scope t) 0 filter_at ≡ x → (v : _)
            → (x >>= λ p. both t p) ≡ refused v → a ≡ refused v
        inner t (ok p) y z v u = ok-not-refused _ _ u
        inner t (refused x) y z v u =
            let o : x ≡ v = cc in
            g t y v (z ∙ ap refused o)

        go : (x : Answer Table) → table_at_name ≡ x → (v : _)
            → (x >>= λ t. emit_option (table_scope t) 0 filter_at >>= λ p. both t p) ≡ refused v
            → a ≡ refused v
        go (ok t) y v z = inner t (emit_option (table_scope t) 0 filter_at) y refl v z
        go (refused x) y v z = let o : x ≡ v = cc in f v (y ∙ ap refused o)

  -- what is taken of the filter
  module _ {area area' : List ℕ} {b : Target} (k : TargetStands area area' b) where
    pub filter-taken : Taken filter_at (option_of b.filter.root) b.filter.cell
    filter-taken = taken _ filter_at _ _ _ k.filter.is

  -- STEP BY STEP
  module _ {area : List ℕ} (ready : TargetReady area) (a n l : ℕ) (ha : a ≡ name_address parts) (hn : n ≡ name_length parts)
      (hl : l ≡ line_at parts) {x : Result ℕ Refusal} (p : TablePosition c q tables (bytes_at c q a n) l x) where
    name-is : word_at c q a n ≡ name_of c q parts
    name-is = λ j. word_at c q (ha j) (hn j)

    pub target-missing : (w : Refusal) → x ≡ Err w → TargetBuilt area area (Err w)
    unfolding TargetAs target_at ◌>>=◌
    target-missing w e =
        let k = rw (name-is, hl) at (table-missing c q tables a n l p w e) in
        record { kept = refl; is = refused-on k (λ v y. rw y) }

    module _ {w : std.Option Clause} (hw : w ≡ clause_at parts where_kind) (s : length cells ≤ outside_row) {o : std.Option ℕ}
        (ho : o ≡ option_map (λ (k : Clause). k.row) w) where
      pub target-room : Room 0 (3 * option_size (option_tree c q cells o)) area
      target-room = clause-room c q cells w ho (where-room c q cells parts hw s ready.area_room ready.few)

      module _ (i : ℕ) (e : x ≡ Ok i) {S : Scope} (g : FromTable tables i a n S) {area' : List ℕ} {y : Result BuiltOption Refusal}
          (b : (h : ℕ) → OptionBuilt (scope_at c q cells (labels_of S) (take S.width S.matches) (table_numbers S) h) (option_tree c q cells o) 0 area area' y) where
        scope-is : scope_of (tree_at c q cells) c q S ≡ table_scope (table_named c q tables i a n)
        scope-is = table-scope c q tables a n l p i e ready.within (rw name-is ready.named) g (tree_at c q cells)

        table-here : table_at_name ≡ ok (table_named c q tables i a n)
        table-here = (λ j. must_get_table (catalog_at c q tables) (sym hl j) (sym name-is j)) ∙ table-is c q tables a n l p i e

        built : OptionBuilt (table_scope (table_named c q tables i a n)) filter_at 0 area area' y
        unfolding scope_of
        built = rw (where-is c q cells parts hw s, ← scope-is, ← clause-tree c q cells w ho) (b S.hidden)

        refused-here : (v : Refusal) → y ≡ Err v → RefusedWith (emit_option (table_scope (table_named c q tables i a n)) 0 filter_at) v
        refused-here v z = rw z at built.is

        stands-here : (m : BuiltOption) → y ≡ Ok m → OptionStands (table_scope (table_named c q tables i a n)) filter_at 0 area area' m
        stands-here m z = rw z at built.is

        pub target-unfiltered : (v : Refusal) → y ≡ Err v → TargetBuilt area area' (Err v)
        unfolding TargetAs target_at ◌>>=◌
        target-unfiltered v z = record {
          kept = built.kept;
          is = refused-on (refused-here v z) (λ u o. rw (table-here, o));
        }

        pub target-built : (m : BuiltOption) → y ≡ Ok m
            → TargetBuilt area area' (Ok (record { name = record { address = a; length = n }; table = i; scope = S; filter = m }))
        unfolding TargetAs
        target-built m z = record {
          kept = built.kept;
          is = record { table = table-here; scope = scope-is; filter = stands-here m z };
        }
