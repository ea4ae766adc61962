-- A table of FROM: found or not, its scope under its alias or its name, and its scan.
use Rattle.std.specs.Prelude.{ℕ, ◌+◌, ◌≤◌, ◌<◌, ◌≡◌, List, [], ◌∷◌, length, Ok, Err}
use Rattle.std.proofs.Common.{arith, ◌∙◌, append-nil}
use Rattle.std.proofs.Math.Path.{refl, sym, ap}
use Rattle.std.proofs.Math.Option.{Option, none, some}
use Rattle.rules.specs.Refusals.{unknown_table, refuse}
use Rattle.rules.specs.Lists.{Bytes, or_else, map_option, concat}
use Rattle.rules.specs.Lines.{Word}
use Rattle.rules.specs.Schema.{Table, get_table, named_by}
use Rattle.rules.specs.Places.{bytes_at, word_at}
use Rattle.rules.specs.Ast.{From}
use Rattle.rules.specs.Ast as Ast
use Rattle.rules.specs.Nodes.{scan}
use Rattle.rules.specs.Area.{span, option_span, sized, record_numbers}
use Rattle.rules.specs.Scope as rules
use Rattle.claims.specs.Reading.Limits.{from_tables}
use Rattle.claims.specs.Within.{from-name}
use Rattle.appends.specs.Area.{cells_numbers}
use Rattle.appends.specs.From.Merge.{table-found, table-unknown, table_step, table-refused}
use Rattle.numbers.specs.Reasons.{named}
use Rattle.numbers.specs.declared.refusals.Reason.TheVariants.{UnknownTable}
use Rattle.numbers.specs.declared.refusals.Refusal.{Refusal}
use Rattle.ast.specs.Table.{tree_at}
use Rattle.text.specs.Places.{place_of, option_numbers, clipped_place}
use Rattle.text.specs.declared.places.Place.{Place}
use Rattle.ast.specs.Names.{name_at, option_name, name-place}
use Rattle.schema.specs.Layout.{table_at, catalog_at}
use Rattle.schema.specs.Search as schema
use Rattle.schema.specs.Search.{found_table, table_from}
use Rattle.std.specs.Prelude as std
use Rattle.text.specs.declared.places.Place.{Place}
use Rattle.scope.specs.Scopes.{scope_of}
use Rattle.scope.specs.FromTable.{FromTable}
use Rattle.scope.specs.Read.{found_scope}
use Rattle.scope.specs.declared.Scope.{Scope}
use Rattle.from.specs.Access.{line_at, name_address, name_length, alias_address, alias_length}
use Rattle.plan.specs.Layout.{scan_size}
use Rattle.plan.specs.Places.{place_numbers}
use Rattle.plan.specs.Pushed.{Pushed, kept-all}
use Rattle.plan.specs.declared.nodes.Nodes.{Nodes}
use Rattle.plan.specs.declared.steps.Step.{Step}
use Rattle.plan.specs.Records.{records-first}
use Rattle.plan.specs.Steps.{refused-at}
use Rattle.build_expression.specs.Options.{clipped-span}
use Rattle.build_from.specs.Sources.{ItemRoom, Builds}

-- ROWS
-- the name and the alias in row r
abbrev pub row_name : Bytes → Bytes → List ℕ → ℕ → Word
row_name c q froms r = word_at c q (name_address froms r) (name_length froms r)

abbrev pub row_alias : Bytes → Bytes → List ℕ → ℕ → Option Word
row_alias c q froms r = name_at c q (alias_address froms r) (alias_length froms r)

-- the item that it stands for
abbrev pub table_row : Bytes → Bytes → List ℕ → ℕ → From
table_row c q froms r = Ast.table (line_at froms r) (row_name c q froms r) (row_alias c q froms r)

-- its alias, as it was read
alias-read : (c q : Bytes) (froms : List ℕ) (r : ℕ) {o : std.Option Place} → o ≡ place_of (alias_address froms r) (alias_length froms r) → row_alias c q froms r ≡ option_name c q o
alias-read c q froms r e = name-place c q (alias_address froms r) (alias_length froms r) ∙ ap (option_name c q) (sym e)

-- SCOPES
-- the scope x of the i-th table under the name that row r gives it
pub record FromNamed (ts froms : List ℕ) (r i : ℕ) (x : Scope) : Type 0 where
  pub address : ℕ
  pub size : ℕ
  pub name : (c q : Bytes) → or_else (row_alias c q froms r) (row_name c q froms r) ≡ word_at c q address size
  pub made : FromTable ts i address size x

pub named-by : {ts froms : List ℕ} {r i : ℕ} {x : Scope} (o : std.Option Place) (p n : Place) → o ≡ place_of (alias_address froms r) (alias_length froms r)
    → p.address ≡ name_address froms r → p.length ≡ name_length froms r → n ≡ std.unwrap_or o p → FromTable ts i n.address n.length x → FromNamed ts froms r i x
unfolding or_else option_name
named-by {ts} {froms} {r} {i} {x} o p n e ea em en h = record {
  address = n.address;
  size = n.length;
  name = λ c q. ap (λ (w : Option Word). or_else w (row_name c q froms r)) (alias-read c q froms r e) ∙ rw en (go c q o);
  made = h;
}
  where
    go : (c q : Bytes) (o : std.Option Place) → or_else (option_name c q o) (row_name c q froms r) ≡ word_at c q (std.unwrap_or o p).address (std.unwrap_or o p).length
    go c q std.None = rw (ea, em)
    go c q (std.Some y) = refl

-- SCANS
-- of the table in row r, whatever its columns
pub record Scanned (c q : Bytes) (froms : List ℕ) (r : ℕ) (nodes nodes' : Nodes) : Type 0 where
  pub is : (t : Table) → Pushed (record_numbers (scan (named_by (row_name c q froms r) t) (row_alias c q froms r) none))
      nodes nodes'

-- what a call of `scan` appends
abbrev pub Scans : Place → std.Option Place → Nodes → Nodes → Type 0
Scans name alias nodes nodes' = (t : Table) (w : Option Word) → span t.name ≡ place_numbers name
    → option_span w ≡ option_numbers alias → Pushed (record_numbers (scan t w none)) nodes nodes'

module _ {c q : Bytes} {froms : List ℕ} {r : ℕ} {nodes nodes' : Nodes} {p n : Place} (ea : p.address ≡ name_address froms r)
    (em : p.length ≡ name_length froms r) (fa : n.address ≡ p.address) (fl : n.length ≡ length (bytes_at c q p.address p.length))
    {o : std.Option Place} (eo : o ≡ place_of (alias_address froms r) (alias_length froms r)) where
  pub scanned : {f : std.Option Place} → f ≡ clipped_place c q o → Scans n f nodes nodes' → Scanned c q froms r nodes nodes'
  unfolding span named_by word_at
  scanned e h = record {
    is = λ t. h _ _ (rw (fa, fl, ea, em)) (rw (alias-read c q froms r eo) (clipped-span c q o e));
  }

scan-size : (t : Table) (a : Option Word) → 1 ≤ length (record_numbers (scan t a none))
unfolding record_numbers sized
scan-size t a = omega arith

-- room for its scan, and for its node among the numbers of 32 bits
pub table-room : {c q : Bytes} {ts : List ℕ} {l : ℕ} {w : Word} {o : Option Word} {i : Step} {area : List ℕ} {nodes : Nodes}
    → ItemRoom c q ts (Ast.table l w o) i area nodes
    → (nodes.used + scan_size ≤ length nodes.numbers.now) × (i.node + 1 < 4294967296)
unfolding from_tables
table-room h = (omega (arith, h.numbers), omega (arith, h.numbers, h.few, h.most))

-- THE ITEM
module _ (c q : Bytes) (ts cells froms : List ℕ) (r : ℕ) {i : Step} {area : List ℕ} {nodes : Nodes}
    (h : ItemRoom c q ts (table_row c q froms r) i area nodes) {a s : ℕ} (ea : a ≡ name_address froms r)
    (es : s ≡ name_length froms r) {l : ℕ} (el : l ≡ line_at froms r) {f : std.Result ℕ Refusal}
    (g : schema.TablePosition c q ts (bytes_at c q a s) l f) where
  found-is : (o : std.Option ℕ) → found_table c q ts o ≡ table_from 0 (catalog_at c q ts) (bytes_at c q a s)
      → map_option (λ (p : ℕ × Table). p.1) (found_table c q ts o) ≡ get_table (catalog_at c q ts) (row_name c q froms r).bytes
  unfolding word_at
  found-is o h = rw (h, ← ea, ← es) (schema.table-found 0 (catalog_at c q ts) (bytes_at c q a s))

  -- no table has its name
  pub table-missing : (v : Refusal) → f ≡ Err v → Builds c q ts cells (table_row c q froms r) i area nodes area nodes (Err v)
  unfolding found_table map_option named refuse
  table-missing v e =
      let m = schema.position-missing g v e in
      let y : get_table (catalog_at c q ts) (row_name c q froms r).bytes ≡ none = sym (found-is std.None m.0) in
      rw m.1 (record {
        kept = refl;
        kept-nodes = kept-all nodes;
        is = refused-at unknown_table (line_at froms r) UnknownTable _
            (table-refused (catalog_at c q ts) (line_at froms r) (row_name c q froms r) (row_alias c q froms r) _
            (table-unknown (catalog_at c q ts) (line_at froms r) (row_name c q froms r) y)) refl el;
      })

  -- the i-th table has it
  pub table-accepted : {s : Scope} {j : ℕ} {nodes' : Nodes} → f ≡ Ok j → FromNamed ts froms r j s
      → Scanned c q froms r nodes nodes'
      → Builds c q ts cells (table_row c q froms r) i area nodes area nodes'
      (Ok (record { scope = s; line = l; at = record { cell = i.cell; node = i.node + 1 } }))
  unfolding found_table map_option from_tables named_by rules.from_table cells_numbers concat
  table-accepted {s = x} {j = j} e o p =
      let z = schema.position-found g j e in
      let t = table_at c q ts j in
      let w = row_name c q froms r in
      let y : get_table (catalog_at c q ts) w.bytes ≡ some t = sym (found-is (std.Some j) z) in
      let u = rw (o.name c q) at (from-name (line_at froms r) w (row_alias c q froms r) h.parts) in
      let d : scope_of (tree_at c q cells) c q x ≡ rules.from_table (or_else (row_alias c q froms r) w) t =
      rw (o.name c q) (found_scope h.within ts refl j (bytes_at c q a s) z o.made u (tree_at c q cells)) in
      record {
        kept = refl;
        kept-nodes = (p.is t).kept;
        is = record {
          valid = o.made.valid;
          plain = o.made.plain;
          count = o.made.one;
          more = omega arith;
          few = omega (arith, (p.is t).appended.next, h.few, scan-size (named_by w t) (row_alias c q froms r));
          laid = record {
            cells = [];
            records = scan (named_by w t) (row_alias c q froms r) none ∷ [];
            is = rw (d, el) (table_step (catalog_at c q ts) (line_at froms r) w (row_alias c q froms r)
                (named_by w t) i.cell i.node (table-found (catalog_at c q ts) (line_at froms r) w t y));
            stands = record { cells = rw append-nil; records = records-first _ (p.is t) };
          };
        };
      }
