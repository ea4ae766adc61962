-- What the planning program prints, and a way to compute any case: whoever says `unfolding listing` (or `outcome`) has
-- all the rules unfold.
use Rattle.std.specs.Prelude.{ℕ, List}
use Rattle.rules.specs.Lists as Lists
use Rattle.rules.specs.Refusals as Refusals
use Rattle.rules.specs.Limits as Limits
use Rattle.rules.specs.Lines as Lines
use Rattle.rules.specs.Places as Places
use Rattle.rules.specs.Schema as Schema
use Rattle.rules.specs.Ast as Ast
use Rattle.rules.specs.Views as Views
use Rattle.rules.specs.Codes as Codes
use Rattle.rules.specs.Equality as Equality
use Rattle.rules.specs.Reader as Reader
use Rattle.rules.specs.ReadExpression as ReadExpression
use Rattle.rules.specs.ReadColumn as ReadColumn
use Rattle.rules.specs.ReadStatement as ReadStatement
use Rattle.rules.specs.ReadCatalog as ReadCatalog
use Rattle.rules.specs.Arithmetic as Arithmetic
use Rattle.rules.specs.Comparison as Comparison
use Rattle.rules.specs.Operators as Operators
use Rattle.rules.specs.Evaluate as Evaluate
use Rattle.rules.specs.Plan as Plan
use Rattle.rules.specs.Scope as Scope
use Rattle.rules.specs.BuildExpression as BuildExpression
use Rattle.rules.specs.BuildFrom as BuildFrom
use Rattle.rules.specs.BuildAggregate as BuildAggregate
use Rattle.rules.specs.Items as Items
use Rattle.rules.specs.Hidden as Hidden
use Rattle.rules.specs.BuildSelect as BuildSelect
use Rattle.rules.specs.BuildStatement as BuildStatement
use Rattle.rules.specs.Cells as Cells
use Rattle.rules.specs.Sizes as Sizes
use Rattle.rules.specs.Order as Order
use Rattle.rules.specs.Count as Count
use Rattle.rules.specs.Nodes as Nodes
use Rattle.rules.specs.Area as Area
use Rattle.rules.specs.Print as Print
use Rattle.rules.specs.Entry as Entry

-- the bytes of catalog and statement to the bytes printed; the area is as long as it must be
unfoldable pub listing : List ℕ → List ℕ → List ℕ
unfolding
    Lists.same Lists.before Lists.named Lists.any Lists.positions Lists.entry_after Lists.concat
    Lists.is_empty Lists.is_some Lists.map_option Lists.or_else Lists.given
    Refusals.refusal_number Refusals.◌>>=◌ Refusals.refuse Refusals.refuse_if Refusals.at_most
    Lines.bytes Lines.onto Lines.empty Lines.fields Lines.line_size Lines.digit Lines.digits Lines.decimal Lines.within
    Lines.negated Lines.integer Lines.hex_digit Lines.hex_digits Lines.float
    Places.bytes_at Places.word_at
    Schema.get_table Schema.named_by Schema.must_get_table Schema.column_at Schema.default_at
    Ast.list_of Ast.line_of Ast.size Ast.size_all
    Views.as_star Views.as_column Views.as_literal Views.as_call Views.as_unary Views.as_binary Views.as_is
    Codes.unary_code Codes.plain_code Codes.binary_code
    Equality.same_name Equality.same_optional_name Equality.contents Equality.same_value Equality.equal Equality.equal_all
    Reader.base_address Reader.start Reader.stop Reader.give Reader.◌>>=◌ Reader.◌>>◌ Reader.line_here Reader.next
    Reader.key_of Reader.rest_of Reader.key Reader.rest Reader.at Reader.line_number Reader.fit Reader.record'
    Reader.apply Reader.one_of Reader.name Reader.word Reader.count_field Reader.no_field Reader.one_field Reader.both
    Reader.two_fields Reader.optional_name Reader.name_alias Reader.flags Reader.literals Reader.literal_here
    Reader.optional Reader.record_within Reader.many Reader.turns Reader.at_least_one Reader.nothing_left Reader.value_of
    ReadExpression.operators ReadExpression.column_fields ReadExpression.call_fields ReadExpression.value_heads
    ReadExpression.heads ReadExpression.counted ReadExpression.head_here ReadExpression.times ReadExpression.operands
    ReadExpression.too_deep ReadExpression.deep ReadExpression.expression ReadExpression.clause
    ReadColumn.◌>>=◌ ReadColumn.datatypes ReadColumn.nullables ReadColumn.column_fields ReadColumn.flagged
    ReadColumn.nullness ReadColumn.new_column_fields
    ReadStatement.joins ReadStatement.predicates ReadStatement.from_heads ReadStatement.tabled ReadStatement.from_here
    ReadStatement.from_body ReadStatement.from_tree ReadStatement.froms ReadStatement.item_body ReadStatement.group_body
    ReadStatement.directions ReadStatement.order_body ReadStatement.select_body ReadStatement.delete_body
    ReadStatement.name_body ReadStatement.row_body ReadStatement.columns_here ReadStatement.insert_body
    ReadStatement.defaults ReadStatement.set_fields ReadStatement.rises ReadStatement.rising_set ReadStatement.sets
    ReadStatement.update_body ReadStatement.new_column ReadStatement.column_body ReadStatement.create_body
    ReadStatement.answers ReadStatement.statement_heads ReadStatement.statement_body ReadStatement.statement_here
    ReadStatement.statement_records ReadStatement.read_statement
    ReadCatalog.default_records ReadCatalog.default_here ReadCatalog.column_body ReadCatalog.table_fields
    ReadCatalog.key_fits ReadCatalog.tables ReadCatalog.read_catalog
    Arithmetic.fitted Arithmetic.quotient Arithmetic.remainder Arithmetic.bounded Arithmetic.power Arithmetic.raised
    Arithmetic.product Arithmetic.factorial Arithmetic.float_of Arithmetic.floating Arithmetic.rounded
    Arithmetic.numbers Arithmetic.arithmetic Arithmetic.sum_of Arithmetic.difference_of Arithmetic.product_of
    Arithmetic.quotient_of Arithmetic.remainder_of Arithmetic.power_of
    Comparison.order_by Comparison.order_bools Comparison.order_integers Comparison.order_floats Comparison.order_texts
    Comparison.compare Comparison.is_less Comparison.is_same Comparison.is_greater Comparison.compared
    Operators.and_unknown Operators.or_unknown Operators.logic Operators.like_of Operators.plain_of Operators.binary_of
    Operators.not_of Operators.factorial_of Operators.identity_of Operators.negation_of Operators.root_of Operators.unary_of
    Operators.is_null Operators.is_nan Operators.is_of
    Evaluate.worked_at Evaluate.evaluate Evaluate.evaluate_root
    Plan.desugar_binary Plan.desugar Plan.map_first Plan.map_second Plan.map_node Plan.map_plan Plan.desugar_plan
    Plan.first_row Plan.target_count Plan.column_count Plan.last_source Plan.sources_from Plan.invert_remap Plan.scan_label
    Plan.through_label Plan.group_label Plan.project_label Plan.first_source Plan.remap_label Plan.column_label
    Plan.labels_from Plan.labels
    Scope.empty Scope.width Scope.spawn Scope.add_column Scope.from_table Scope.is_qualified Scope.is_named Scope.not_found
    Scope.the_last Scope.the_only Scope.lookup_named Scope.lookup Scope.match_at Scope.matched Scope.add_match
    Scope.found_label Scope.label_of Scope.add_aggregate Scope.hide Scope.add_matches Scope.add_passthrough Scope.shares
    Scope.shift Scope.merge Scope.item_label Scope.project_one Scope.project_all Scope.project Scope.pass_all Scope.remap
    Scope.targets_from Scope.remap_hidden
    BuildExpression.found BuildExpression.pick_matched BuildExpression.or_matched BuildExpression.is_null_or_nan
    BuildExpression.only_argument BuildExpression.build BuildExpression.build_argument BuildExpression.each
    BuildExpression.build_option BuildExpression.clause_expr BuildExpression.constant
    BuildFrom.merge_into BuildFrom.is_outer BuildFrom.is_right BuildFrom.build_sides BuildFrom.join_node BuildFrom.rising
    BuildFrom.swapped BuildFrom.swap_targets BuildFrom.join_in_order BuildFrom.join_swapped BuildFrom.build_join
    BuildFrom.scan_of BuildFrom.build_from BuildFrom.build_later_items BuildFrom.build_from_clause
    BuildAggregate.aggregates BuildAggregate.is_aggregate BuildAggregate.walk_free BuildAggregate.any_free
    BuildAggregate.contains BuildAggregate.collect BuildAggregate.collect_all BuildAggregate.collect_each
    BuildAggregate.is_count BuildAggregate.argument BuildAggregate.aggregate_of BuildAggregate.build_function
    BuildAggregate.keep BuildAggregate.retain BuildAggregate.retain_groups BuildAggregate.retain_functions
    BuildAggregate.build_aggregate BuildAggregate.aggregated BuildAggregate.build_groups
    Items.plain_star Items.is_lone Items.starred_column Items.expand_stars Items.stars_expand Items.expanded_items
    Items.stars_have_columns Items.build_items
    Hidden.add_hidden Hidden.position Hidden.lacking Hidden.lacking_column Hidden.to_hide Hidden.visit Hidden.where_true
    Hidden.where_false Hidden.walk Hidden.walk_any Hidden.hidden_of Hidden.projected
    BuildSelect.filtered BuildSelect.build_where BuildSelect.later_of BuildSelect.functions_of BuildSelect.item_built
    BuildSelect.hidden_built BuildSelect.project_items BuildSelect.build_projection BuildSelect.build_having
    BuildSelect.key_built BuildSelect.build_order BuildSelect.natural BuildSelect.build_rows BuildSelect.build_remap
    BuildSelect.build_select
    BuildStatement.table_scope BuildStatement.build_delete BuildStatement.same_position BuildStatement.mapped
    BuildStatement.table_position BuildStatement.map_column BuildStatement.map_from BuildStatement.column_map
    BuildStatement.build_insert BuildStatement.or_default BuildStatement.set_value BuildStatement.set_built
    BuildStatement.build_update BuildStatement.key_columns BuildStatement.primary_key BuildStatement.null_default
    BuildStatement.default_value BuildStatement.made_column BuildStatement.build_create BuildStatement.build_statement
    Cells.added Cells.built_count Cells.root Cells.operator Cells.cells Cells.count_all Cells.cells_all Cells.roots
    Cells.expressions Cells.cell_count Cells.number_given Cells.number_rows Cells.number_first Cells.number_second
    Cells.number_node Cells.plan_expressions Cells.plan_cells Cells.number_plan
    Sizes.total Sizes.option_size Sizes.clause_size Sizes.from_size Sizes.items_size Sizes.keys_size Sizes.select_size
    Sizes.rows_size Sizes.sets_size Sizes.columns_size Sizes.statement_size
    Order.scan_scope Order.sides_scope Order.predicate_scope Order.join_scope Order.scope_of Order.from_scope
    Order.group_scope Order.item_scope Order.reads_of Order.build_use Order.join_uses Order.group_uses Order.item_uses
    Order.uses_over Order.uses_of
    Count.pick_cost Count.cost Count.cost_first Count.argument_cost Count.use_cost Count.count_select Count.item_starred
    Count.starred Count.bound_select
    Nodes.nodes Nodes.last Nodes.records Nodes.node_of Nodes.node_records Nodes.plan_records
    Area.halves Area.bits Area.flag Area.span Area.option_span Area.option_number Area.value_numbers Area.is_numbers
    Area.cell_numbers Area.aggregate_code Area.row_numbers Area.function_numbers Area.item_numbers Area.key_numbers
    Area.sized Area.record_numbers Area.mapping_numbers Area.map_numbers Area.set_numbers Area.type_code
    Area.default_numbers Area.made_numbers Area.own_numbers Area.plan_code Area.cell_part Area.node_part Area.own_start
    Area.header Area.plan_numbers
    Print.digits_of Print.decimal_of Print.integer_of Print.hex_of Print.tabbed Print.show_value Print.show_unary
    Print.show_plain Print.show_cell Print.show_alias Print.show_given Print.show_targets Print.show_rows Print.outer
    Print.direction Print.show_aggregate Print.show_items Print.show_keys Print.show_functions Print.show_record
    Print.numbered Print.kind Print.show_lines Print.show_mapping Print.show_column_map Print.show_sets Print.show_type
    Print.or_dash Print.null_text Print.show_reference Print.show_default Print.show_column Print.show_columns Print.yes_no
    Print.show_target Print.show_own Print.show_header Print.show_cells Print.show_nodes Print.show_plan Print.text_name
    Print.show_refusal Print.show_answer
    Entry.plan_of Entry.entry Entry.text_number Entry.refused_area Entry.outcome Entry.plan
listing c q = Print.show_answer (Entry.entry Limits.least_area c q)

-- the catalog, the statement and the area's contents to the entry's whole answer
unfoldable pub outcome : List ℕ → List ℕ → List ℕ → Entry.Outcome
unfolding listing
outcome c q a = Entry.plan c q a
