-- A readable plan is read back from the area's numbers.
use Rattle.std.specs.Prelude.{ℕ, ◌+◌, ◌≡◌, refl, true, List, [], ◌∷◌, ◌++◌, map, length, replicate}
use Rattle.std.proofs.Common.{arith, add-one, append_assoc, length-append, eq-eqb}
use Rattle.std.proofs.Math.Option.{Option, none, some}
use Rattle.std.proofs.lemmas.List.{length-replicate}
use Rattle.rules.specs.Lists.{Bytes, concat, is_empty}
use Rattle.rules.specs.Schema.{Value, Datatype, boolean, integer, floating, string, Table, Catalog}
use Rattle.rules.specs.Plan.{Built, Node, cindex, vindex, Mapping, Made, Plan, map_second}
use Rattle.rules.specs.Plan as P
use Rattle.rules.specs.Cells.{Cell, plan_cells, number_plan}
use Rattle.rules.specs.Nodes.{NodeRecord, node_of, node_records, plan_records}
use Rattle.rules.specs.Area.{span, mapping_numbers, map_numbers, set_numbers, type_code, default_numbers}
use Rattle.rules.specs.Area.{made_numbers, own_numbers}
use Rattle.rules.specs.Area.{plan_code, cell_numbers, record_numbers, cell_part, node_part, own_start, header}
use Rattle.rules.specs.Area.{plan_numbers}
use Rattle.claims.specs.Answers.{Any, All, Given, all-every}
use Rattle.claims.specs.Area.Readings.{Reading, give, ◌>>=◌, giving, found, demand, number, exactly, position}
use Rattle.claims.specs.Area.Readings.{times, all, padded, decoded, code_here, kind_here}
use Rattle.claims.specs.Area.ReadArea.{flag_here, word_here, alias_here, table_here, value_forms, cell_here, record_here}
use Rattle.claims.specs.Area.ReadPlan.{types, default_forms, column_here, create_here, drop_here, mapping_here, map_of}
use Rattle.claims.specs.Area.ReadPlan.{map_here, keyed_here, set_here}
use Rattle.claims.specs.Area.ReadPlan.{delete_here, insert_here, update_here, plan_forms, plan_here, read_plan}
use Rattle.claims.specs.Area.NodeTree.{node_back, node-back}
use Rattle.claims.specs.Area.ReadingLaws.{Reads, step, giving-reads, code_reads, kind-first, position-reads}
use Rattle.claims.specs.Area.ReadingLaws.{whole-reads, times-reads, zeros-read}
use Rattle.claims.specs.Area.AreaReadsBack.{flag-reads, word-reads, alias-reads, table-reads, value-reads}
use Rattle.claims.specs.Area.AreaReadsBack.{cell-reads, record-reads}
use Rattle.claims.specs.Area.Readable.{ReadableValue, ReadableCell, ReadableTable, ReadableRecord, ReadableMade}
use Rattle.claims.specs.Area.Readable.{ReadableOwn, Readable}

-- CREATE
type-back : (t : Datatype) → decoded types (type_code t) ≡ some t
unfolding decoded types type_code
type-back boolean = refl
type-back integer = refl
type-back floating = refl
type-back string = refl

none_reads : (c q : Bytes) (s : List ℕ) → kind_here (default_forms c q) (0 ∷ 0 ∷ 0 ∷ 0 ∷ s) ≡ some (none, s)
unfolding kind_here code_here decoded default_forms value_forms map_second padded give found number exactly demand times
    ◌>>=◌
none_reads c q s = refl

default-reads : (c q : Bytes) (d : Option Value) → Given (ReadableValue c q) d
    → Reads (kind_here (default_forms c q)) default_numbers d
unfolding default_forms default_numbers Given
default-reads c q none h s = none_reads c q s
default-reads c q (some v) h s = kind-first some (value_forms c q) _ _ s v (value-reads c q v h s)

made_reads : (c q : Bytes) (m : Made) → ReadableMade c q m → Reads (column_here c q) made_numbers m
unfolding column_here made_numbers ReadableMade give
made_reads c q m h s =
    simp append_assoc (step (word_here c q) _ _ (word-reads c q m.name h.1 _)
    (step (code_here types) _ _ (code_reads types _ _ _ (type-back m.type))
    (step flag_here _ _ (flag-reads m.nullable _)
    (step flag_here _ _ (flag-reads m.unique _)
    (step flag_here _ _ (flag-reads m.index _)
    (step (alias_here c q) _ _ (alias-reads c q m.reference h.2 _)
    (step (kind_here (default_forms c q)) _ _ (default-reads c q m.default h.0 s) refl)))))))

-- INSERT
mapping-reads : (m : Mapping) → Reads mapping_here mapping_numbers m
unfolding mapping_here mapping_numbers number give ◌>>=◌
mapping-reads m = go m.column m.value
  where
    go : (i : P.TablePosition) (j : P.ValuePosition)
        → Reads mapping_here mapping_numbers (record { column = i; value = j })
    go (cindex i) (vindex j) s = refl

map-reads : (m : Option (List Mapping)) → Reads map_here map_numbers m
unfolding map_here map_numbers map_of number give
map-reads none s = step number _ _ refl refl
map-reads (some m) s =
    rw add-one (step number _ _ refl (giving-reads some (times (length m) mapping_here)
    (times-reads mapping_here mapping_numbers Any (λ e u. mapping-reads e) m (all-every Any (λ e. tt) m) s)))

-- DELETE AND UPDATE
exactly_reads : (n : ℕ) (s : List ℕ) → exactly n (n ∷ s) ≡ some (tt, s)
unfolding exactly number demand
exactly_reads n s = step number _ _ refl (rw (eq-eqb n n refl))

keyed-reads : (c q : Bytes) (ts : Catalog) (t : Table) → ReadableTable c q ts t → (s : List ℕ)
    → keyed_here c q ts (span t.name ++ (t.key ∷ s)) ≡ some (t, s)
unfolding keyed_here give
keyed-reads c q ts t h s =
    step (table_here c q ts) _ _ (table-reads c q ts t h _) (step (exactly t.key) _ _ (exactly_reads t.key s) refl)

set_reads : (x : ℕ × ℕ) → Reads set_here (λ y. y.0 ∷ y.1 ∷ []) x
unfolding set_here number give ◌>>=◌
set_reads x s = refl

sets-read : (xs : List (ℕ × ℕ)) (s : List ℕ) → times (length xs) set_here (set_numbers xs ++ s) ≡ some (xs, s)
unfolding times set_numbers give
sets-read [] s = refl
sets-read (x ∷ xs) s = step set_here _ _ (set_reads x _) (step (times (length xs) set_here) _ _ (sets-read xs s) refl)

-- A PLAN by its kind
record OwnReads (c q : Bytes) (ts : Catalog) (p : Plan ℕ) : Type 0 where
  form : List NodeRecord → Reading (Plan ℕ)
  kind : decoded (plan_forms c q ts) (plan_code p) ≡ some form
  reads : (s : List ℕ) → form (plan_records p) (own_numbers p ++ s) ≡ some (p, s)

-- the node, read from its records
node-reads : {A : Type 0} (n : Node ℕ) (f : Node ℕ → Reading A) (s : List ℕ) {r : Option (A × List ℕ)} → f n s ≡ r
    → (found (node_back (node_records (some n))) >>= f) s ≡ r
unfolding node_records found ◌>>=◌
node-reads n f s h = rw (node-back n) h

own-reads : (c q : Bytes) (ts : Catalog) (p : Plan ℕ) → ReadableOwn c q ts p → OwnReads c q ts p
unfolding plan_forms decoded plan_code ReadableOwn plan_records node_of own_numbers delete_here insert_here update_here
    create_here drop_here giving give number demand node_records is_empty
own-reads c q ts (P.select n) h = record { form = _; kind = refl; reads = λ s. node-reads n _ s refl }
own-reads c q ts (P.create n k cs) h = record {
  form = _;
  kind = refl;
  reads = λ s. rw append_assoc (step (demand true) _ _ refl
      (step (word_here c q) _ _ (word-reads c q n h.0 _) (step number _ _ refl (step number _ _ refl
      (step (times (length cs) (column_here c q)) _ _
      (times-reads (column_here c q) made_numbers _ (made_reads c q) cs h.1 s) refl)))));
}
own-reads c q ts (P.drop n y) h = record {
  form = _;
  kind = refl;
  reads = λ s. rw append_assoc (step (demand true) _ _ refl
      (step (word_here c q) _ _ (word-reads c q n h _) (step flag_here _ _ (flag-reads y s) refl)));
}
own-reads c q ts (P.delete t n) h = record {
  form = _;
  kind = refl;
  reads = λ s. rw append_assoc (node-reads n _ _ (step (keyed_here c q ts) _ _ (keyed-reads c q ts t h s) refl));
}
own-reads c q ts (P.insert t m n) h = record {
  form = _;
  kind = refl;
  reads = λ s. rw append_assoc (node-reads n _ _
      (step (table_here c q ts) _ _ (table-reads c q ts t h _) (step map_here _ _ (map-reads m s) refl)));
}
own-reads c q ts (P.update t n xs) h = record {
  form = _;
  kind = refl;
  reads = λ s. rw append_assoc (node-reads n _ _
      (step (keyed_here c q ts) _ _ (keyed-reads c q ts t h _) (step number _ _ refl
      (step (times (length xs) set_here) _ _ (sets-read xs s) refl))));
}

-- numbering leaves the kind as it is
pub code-kept : (p : Plan Built) → plan_code (number_plan p) ≡ plan_code p
unfolding plan_code number_plan
code-kept (P.select n) = refl
code-kept (P.create n k cs) = refl
code-kept (P.drop n y) = refl
code-kept (P.delete t n) = refl
code-kept (P.insert t m n) = refl
code-kept (P.update t n xs) = refl

-- THE WHOLE
-- the cells, the records and the plan, where the header says so
area-reads : (c q : Bytes) (ts : Catalog) (a : List ℕ) (cs : List Cell) (p : Plan ℕ) (start end z : ℕ)
    → All (ReadableCell c q) cs → All (ReadableRecord c q ts) (plan_records p) → OwnReads c q ts p
    → start + length (own_numbers p ++ replicate z 0) ≡ length a → end + z ≡ length a
    → plan_here c q ts a (1 ∷ plan_code p ∷ length cs ∷ length (plan_records p) ∷ start ∷ end
    ∷ (concat (map cell_numbers cs)
    ++ (concat (map record_numbers (plan_records p)) ++ (own_numbers p ++ replicate z 0)))) ≡ some ((cs, p), [])
unfolding plan_here number give
area-reads c q ts a cs p start end z h g o l m =
    step (exactly 1) _ _ (exactly_reads 1 _)
    (step (code_here (plan_forms c q ts)) _ _ (code_reads _ _ _ _ o.kind)
    (step number _ _ refl (step number _ _ refl (step number _ _ refl (step number _ _ refl
    (step (times (length cs) (cell_here c q)) _ _ (times-reads (cell_here c q) cell_numbers _ (cell-reads c q) cs h _)
    (step (times (length (plan_records p)) (record_here c q ts)) _ _
    (times-reads (record_here c q ts) record_numbers _ (record-reads c q ts) (plan_records p) g _)
    (step (position a start) _ _ (position-reads a start _ l)
    (step (o.form (plan_records p)) _ _ (o.reads _)
    (step (position a end) _ _ (position-reads a end _ (rw length-replicate m))
    (step (all (exactly 0)) _ _ (zeros-read z) refl)))))))))))

-- a plan's numbers and the zeros behind them, part by part
parts : Plan Built → ℕ → List ℕ
parts p z = header p ++ (cell_part p ++ (node_part p ++ (own_numbers (number_plan p) ++ replicate z 0)))

parts_are : (p : Plan Built) (z : ℕ) → plan_numbers p ++ replicate z 0 ≡ parts p z
unfolding plan_numbers parts
parts_are p z = simp append_assoc

parts-length : (p : Plan Built) (z : ℕ) → own_start p + length (own_numbers (number_plan p)) + z ≡ length (parts p z)
unfolding parts header own_start
parts-length p z = simp (length-append, length-replicate) (omega arith)

-- a readable plan is read back from its numbers and the zeros behind them
pub plan-reads-back : (c q : Bytes) (ts : Catalog) (p : Plan Built) (z : ℕ) → Readable c q ts p
    → read_plan c q ts (plan_numbers p ++ replicate z 0) ≡ some (plan_cells p, number_plan p)
unfolding read_plan parts header cell_part node_part
plan-reads-back c q ts p z h =
    let l = parts-length p z in
    rw (parts_are p z) (whole-reads (plan_here c q ts (parts p z)) (parts p z) _ (rw (code-kept p) at (
    area-reads c q ts (parts p z) (plan_cells p) (number_plan p)
    (own_start p) (own_start p + length (own_numbers (number_plan p))) z h.cells h.nodes
    (own-reads c q ts (number_plan p) h.own)
    (rw (length-append (own_numbers (number_plan p)), length-replicate) (omega (arith, l))) (omega (arith, l)))))
