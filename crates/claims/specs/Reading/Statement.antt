-- The expressions and names of a statement that is read have what every expression and the fields of every line give.
use Prim.Native.Nat.{ℕ, zero, suc}
use Rattle.std.specs.Prelude.{Bool, not, ltb}
use Rattle.std.proofs.Math.Bool.{true, false}
use mathlib.Core.List.{[], ◌∷◌}
use Rattle.std.proofs.Math.Option.{Option, none, some}
use Rattle.rules.specs.Refusals.{statement, wrong_record, limit_passed, ok}
use Rattle.rules.specs.Limits.{most_from_tables, most_entries, most_rows, most_table_columns}
use Rattle.rules.specs.Lists.{Bytes, same, any, map_option}
use Rattle.rules.specs.Lines.{Word, bytes}
use Rattle.rules.specs.Schema.{Value}
use Rattle.rules.specs.Ast.{Expr, From}
use Rattle.rules.specs.Ast as Ast
use Rattle.rules.specs.BuildExpression.{clause_expr}
use Rattle.rules.specs.Reader.{Place, Read, start, stop, line_here, next, rest, key, at, line_number, one_of, name, word, count_field, no_field, one_field, both, two_fields, optional_name, name_alias, record_within, turns, nothing_left, optional}
use Rattle.rules.specs.ReadExpression.{expression, times, clause}
use Rattle.rules.specs.ReadColumn.{ColumnHead, new_column_fields}
use Rattle.rules.specs.ReadStatement.{tabled, FromHead, table_head, join_head, joins, predicates, from_heads, from_here, from_body, from_tree, froms, item_body, directions, order_body, group_body, select_body, delete_body, name_body, row_body, columns_here, insert_body, defaults, set_fields, rises, rising_set, sets, update_body, new_column, column_body, create_body, StatementHead, select_head, delete_head, insert_head, update_head, create_head, drop_head, other_head, answers, statement_heads, statement_here, statement_body, statement_records, read_statement}
use Rattle.claims.specs.Answers.{Ensures, weaken, Any, All, Given}
use Rattle.claims.specs.Cases.{either_way}
use Rattle.claims.specs.Lists.{given-every, given-map, given-mapped}
use Rattle.claims.specs.Reading.Rules.{Reaches, reads-into, reads-test, reads-option, reads-list, reads_fit, reads-within, reads-turns, reads-at_least_one, reads-optional, reads-value}
use Rattle.claims.specs.Reading.Has.{FromHas, SelectHas, StatementHas}
use Rattle.claims.specs.Reading.Fields.{Makes, given_both, given-kept, makes_any}
use Rattle.claims.specs.Reading.Sound.{Sound, Gives, name-has, gives_then, gives-give, gives_line, gives-next, gives-record, gives-many, one_of-given, one_of-has, rest_has}
use Rattle.claims.specs.Reading.Records.{makes-name, makes-optional_name, makes-name_alias, makes-name_and, makes-new_column}
use Rattle.claims.specs.Reading.Expression.{gives-times}

-- the names of a FROM record
unfoldable FromHeadHas : (Word → Type 0) → FromHead → Type 0
FromHeadHas N (table_head n a) = N n × Given N a
FromHeadHas N (join_head j o) = Unit {0}

-- and of a statement's first
unfoldable StatementHeadHas : (Word → Type 0) → StatementHead → Type 0
StatementHeadHas N select_head = Unit {0}
StatementHeadHas N other_head = Unit {0}
StatementHeadHas N (delete_head n) = N n
StatementHeadHas N (insert_head n) = N n
StatementHeadHas N (update_head n) = N n
StatementHeadHas N (create_head n) = N n
StatementHeadHas N (drop_head n y) = N n

module _ {F : Word → Type 0} {Q : Value → Type 0} {N : Word → Type 0} {I : Place → Type 0} (s : Sound F Q N I) (E : Expr → Type 0) (reads : Gives I expression E) where
  -- an expression, or none
  gives-optional : (b : Bool) → Gives I (optional b expression) (Given E)
  unfolding Given
  gives-optional b = reads-optional b expression _ (λ p i. (tt, i)) reads

  gives-clause : (k : Bytes) → Gives I (clause k) (λ c. Given E (clause_expr c))
  unfolding clause stop clause_expr map_option Given
  gives-clause k p i = reads-test (at k p) _ _ _
      (λ b. reads-option (no_field (rest p)) _ _ _ tt λ u e. gives_then s expression _ _ _ reads (λ x w. gives-give s _ _ w) (next p) (s.next p i))
      (λ b. (tt, i))

  -- FROM
  makes-from : All (λ e. Makes F e.1 (FromHeadHas N)) from_heads
  unfolding from_heads FromHeadHas All
  makes-from = (λ r h. given-map _ _ _ (λ q g. g) (name_alias r) (makes-name_alias s r h), (λ r h. given-mapped _ _ (λ q. tt) (two_fields (word joins) (word predicates) r), tt))

  gives-from_here : Gives I from_here (FromHeadHas N)
  unfolding from_here stop Given
  gives-from_here p i = go (one_of from_heads (line_here p)) (one_of-given s _ from_heads makes-from p i)
    where
      go : (o : Option FromHead) → Given (FromHeadHas N) o → Reaches (elim o [
        | none ↦ stop wrong_record p
        | some (table_head n a) ↦ elim (ltb p.tables most_from_tables) [ true ↦ ok (table_head n a, next (tabled p)) | false ↦ stop limit_passed p ]
        | some (join_head j o) ↦ ok (join_head j o, next p)
      ]) (λ h q. FromHeadHas N h × I q)
      go none g = tt
      go (some (table_head n a)) g = reads-test (ltb p.tables most_from_tables) _ _ _ (λ b. (g, s.next _ (s.tabled p i))) (λ b. tt)
      go (some (join_head j o)) g = (g, s.next p i)

  gives-from_body : (f : Read From) → Gives I f (FromHas E N) → (h : FromHead) (l : ℕ) → FromHeadHas N h → Gives I (from_body h l f) (FromHas E N)
  unfolding from_body FromHeadHas FromHas
  gives-from_body f h (table_head n a) l w = gives-give s _ _ w
  gives-from_body f h (join_head j o) l w = gives_then s f _ _ _ h λ a g. gives_then s f _ _ _ h λ b k. gives_then s (optional o expression) _ _ _ (gives-optional o) λ e m. gives-give s _ _ (g, k, m)

  gives-from_tree : (n : ℕ) → Gives I (from_tree n) (FromHas E N)
  unfolding from_tree stop
  gives-from_tree zero = λ p i. tt
  gives-from_tree (suc n) = gives_then s line_number _ _ _ (gives_line s) λ l u. gives_then s from_here _ _ _ gives-from_here λ h w. gives-from_body (from_tree n) (gives-from_tree n) h l w

  gives-froms : (n : ℕ) → Gives I (froms n) (All (FromHas E N))
  unfolding froms All
  gives-froms zero = gives-give s [] _ tt
  gives-froms (suc n) = λ p i. reads-test (any (same (key p)) (bytes "from" ∷ bytes "join" ∷ [])) _ _ _
      (λ b. gives_then s (turns from_tree) _ _ _ (reads-turns from_tree _ gives-from_tree) (λ f g. gives_then s (froms n) _ _ _ (gives-froms n) λ fs k. gives-give s (f ∷ fs) _ (g, k)) p i)
      (λ b. (tt, i))

  -- SELECT
  gives-item : (l : ℕ) (a : Option Word) → Given N a → Gives I (item_body l a) (λ i. E i.expr × Given N i.alias)
  unfolding item_body
  gives-item l a w = gives_then s expression _ _ _ reads λ e g. gives-give s _ _ (g, w)

  gives_key : (l : ℕ) (d : Bool) → Any d → Gives I (order_body l d) (λ k. E k.expr)
  unfolding order_body
  gives_key l d u = gives_then s expression _ _ _ reads λ e g. gives-give s _ _ g

  gives-group : (l : ℕ) (v : Unit {0}) → Any v → Gives I (group_body l v) E
  unfolding group_body
  gives-group l v u = reads

  gives_select : Gives I select_body (SelectHas E N)
  unfolding select_body
  gives_select =
      gives_then s _ _ _ _ (reads-at_least_one _ _ _ (gives-many s (bytes "item") optional_name most_entries item_body _ _ (makes-optional_name s) gives-item)) λ is' h₀.
      gives_then s _ _ _ _ (reads-turns froms _ gives-froms) λ fs h₁.
      gives_then s _ _ _ _ (gives-clause (bytes "where")) λ w h₂.
      gives_then s _ _ _ _ (gives-many s (bytes "group") no_field most_entries group_body _ _ (makes_any F no_field) gives-group) λ gs h₃.
      gives_then s _ _ _ _ (gives-clause (bytes "having")) λ h h₄.
      gives_then s _ _ _ _ (gives-many s (bytes "order") (one_field (word directions)) most_entries order_body _ _ (makes_any F (one_field (word directions))) gives_key) λ os h₅.
      gives_then s _ _ _ _ (gives-clause (bytes "offset")) λ o h₆.
      gives_then s _ _ _ _ (gives-clause (bytes "limit")) λ l h₇.
      gives-give s _ _ (record { items = h₀; from = h₁; filter = h₂; group = h₃; having = h₄; order = h₅; offset = h₆; limit = h₇ })

  -- DELETE
  gives-delete : (l : ℕ) (n : Word) → N n → Gives I (delete_body l n) (λ d. StatementHas E N (Ast.delete d))
  unfolding delete_body
  gives-delete l n h = gives_then s _ _ _ _ (gives-clause (bytes "where")) λ w g. gives-give s _ _ (h, g)

  -- INSERT
  gives-name : (l : ℕ) (n : Word) → N n → Gives I (name_body l n) (λ d. N d.name)
  unfolding name_body
  gives-name l n h = gives-give s _ _ h

  gives_row : (l n : ℕ) → Any n → Gives I (row_body l n) (All E)
  unfolding row_body
  gives_row l n u = gives_then s (times n expression) _ _ _ (gives-times s expression E reads n) λ es h. gives-give s _ _ h

  gives-columns : Gives I columns_here (Given (All (λ d. N d.name)))
  unfolding columns_here Given
  gives-columns p i = reads-test (at (bytes "columns") p) _ _ _
      (λ b. gives-next s _ _ _ _ (gives-record s (bytes "columns") no_field) (λ u v. gives_then s _ _ _ _ (gives-many s (bytes "name") (one_field name) most_entries name_body _ _ (makes-name s) gives-name) λ ns h. gives-give s _ _ h) p i)
      (λ b. (tt, i))

  gives-insert : (l : ℕ) (n : Word) → N n → Gives I (insert_body l n) (λ d. StatementHas E N (Ast.insert d))
  unfolding insert_body
  gives-insert l n h =
      gives_then s _ _ _ _ gives-columns λ cs g.
      gives_then s _ _ _ _ (reads-at_least_one _ _ _ (gives-many s (bytes "row") (one_field count_field) most_rows row_body _ _ (makes_any F (one_field count_field)) gives_row)) λ rs k.
      gives-give s _ _ (h, g, k)

  -- UPDATE
  makes-set_fields : Makes F set_fields (λ r. N r.0)
  unfolding set_fields All Given
  makes-set_fields [] h = tt
  makes-set_fields (w ∷ []) h = given-map _ N _ (λ n g. g) (name w) (name-has s w h.0)
  makes-set_fields (w ∷ (v ∷ [])) h = given-map _ _ _ (λ r g. g.0) (both (name w) (word defaults v)) (given_both N Any (name w) (word defaults v) (name-has s w h.0) (given-every Any (λ a. tt) (word defaults v)))
  makes-set_fields (w ∷ (v ∷ (u ∷ r))) h = tt

  makes_set : (b : Option Bytes) → Makes F (rising_set b) (λ r. N r.0)
  unfolding rising_set Given
  makes_set b r h = given-kept _ _ (set_fields r) (makes-set_fields r h) λ x g. either_way (Given _) (rises b x.0) (some x) none g tt

  gives-sets : (n m : ℕ) (b : Option Bytes) → Gives I (sets n m b) (All (λ x. N x.name × Given E x.value))
  unfolding sets All
  gives-sets zero m b = gives-give s [] _ tt
  gives-sets (suc n) m b = λ p i. reads-test (at (bytes "set") p) _ _ _
      (λ e. reads-into (record_within (rising_set b) m most_entries) _ p _ (reads-within (rising_set b) m most_entries p _ λ h g l.
      gives_then s _ _ _ _ (gives-optional (not h.1)) (λ x w. gives_then s (sets n (suc m) (some h.0.bytes)) _ _ _ (gives-sets n (suc m) (some h.0.bytes)) λ xs k.
      gives-give s _ _ ((rest_has s _ (rising_set b) (makes_set b) p i h g, w), k)) (next p) (s.next p i)))
      (λ e. (tt, i))

  gives-update : (l : ℕ) (n : Word) → N n → Gives I (update_body l n) (λ d. StatementHas E N (Ast.update d))
  unfolding update_body
  gives-update l n h =
      gives_then s _ _ _ _ (reads-at_least_one _ _ _ (reads-turns (λ k. sets k 0 none) _ λ k. gives-sets k 0 none)) λ xs g.
      gives_then s _ _ _ _ (gives-clause (bytes "where")) λ w k.
      gives-give s _ _ (h, g, k)

  -- CREATE
  gives-column : (l : ℕ) (c : ColumnHead) → N c.name × Given N c.reference → Gives I (column_body l c) (λ d. N d.name × Given N d.reference × Given E d.default)
  unfolding column_body new_column
  gives-column l c h = gives_then s _ _ _ _ (gives-optional c.default) λ d g. gives-give s _ _ (h.0, h.1, g)

  gives-create : (l : ℕ) (n : Word) → N n → Gives I (create_body l n) (λ d. StatementHas E N (Ast.create d))
  unfolding create_body
  gives-create l n h = gives_then s _ _ _ _ (gives-many s (bytes "column") new_column_fields most_table_columns column_body _ _ (makes-new_column s) gives-column) λ cs g. gives-give s _ _ (h, g)

  -- STATEMENTS
  makes-statement : All (λ e. Makes F e.1 (StatementHeadHas N)) statement_heads
  unfolding statement_heads StatementHeadHas All
  makes-statement = (
    λ r h. given-mapped _ _ (λ u. tt) (no_field r),
    (
      one delete_head (λ n g. g),
      (
        one insert_head (λ n g. g),
        (
          one update_head (λ n g. g),
          (
            one create_head (λ n g. g),
            (λ r h. given-map _ _ _ (λ q g. g.0) (two_fields name (word answers) r) (makes-name_and s (word answers) r h), (λ r h. given-mapped _ _ (λ u. tt) (no_field r), tt)),
          ),
        ),
      ),
    ),
  )
    where
      one : (f : Word → StatementHead) → ((n : Word) → N n → StatementHeadHas N (f n)) → Makes F (λ r. map_option f (one_field name r)) (StatementHeadHas N)
      one f k r h = given-map f N _ k (one_field name r) (makes-name s r h)

  gives-body : (h : StatementHead) (l : ℕ) → StatementHeadHas N h → Gives I (statement_body h l) (StatementHas E N)
  unfolding statement_body StatementHeadHas
  gives-body select_head l w = gives_then s select_body _ _ _ gives_select λ q g. gives-give s _ _ g
  gives-body other_head l w = gives-give s _ _ tt
  gives-body (delete_head n) l w = gives_then s _ _ _ _ (gives-delete l n w) λ d g. gives-give s _ _ g
  gives-body (insert_head n) l w = gives_then s _ _ _ _ (gives-insert l n w) λ d g. gives-give s _ _ g
  gives-body (update_head n) l w = gives_then s _ _ _ _ (gives-update l n w) λ d g. gives-give s _ _ g
  gives-body (create_head n) l w = gives_then s _ _ _ _ (gives-create l n w) λ d g. gives-give s _ _ g
  gives-body (drop_head n y) l w = gives-give s _ _ w

  gives-here : Gives I statement_here (StatementHeadHas N)
  unfolding statement_here
  gives-here p i = reads_fit (one_of statement_heads (line_here p)) p _ λ h e. (one_of-has s _ statement_heads makes-statement p i h e, s.next p i)

  gives-end : Gives I nothing_left Any
  unfolding nothing_left stop
  gives-end p i = reads-list p.left _ _ _ (tt, i) tt

  gives-statement : Gives I statement_records (StatementHas E N)
  unfolding statement_records
  gives-statement =
      gives_then s line_number _ _ _ (gives_line s) λ l u.
      gives_then s statement_here _ _ _ gives-here λ h w.
      gives_then s (statement_body h l) _ _ _ (gives-body h l w) λ a g.
      gives-next s _ _ _ _ (gives-record s (bytes "end") no_field) λ u v. gives-next s nothing_left _ _ _ gives-end λ u v. gives-give s a _ g

  -- the expressions and names of an accepted statement
  pub statement-has : (q : Bytes) → I (start statement q) → Ensures (read_statement q) (StatementHas E N)
  unfolding read_statement
  statement-has q i = reads-value (statement_records (start statement q)) _ (weaken (statement_records (start statement q)) _ _ (λ r g. g.0) (gives-statement (start statement q) i))
