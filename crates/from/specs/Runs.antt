-- All trees of FROM, by a loop over them.
use Rattle.std.specs.Prelude as std
use Rattle.std.specs.Prelude.{ℕ, suc, ◌+◌, ◌*◌, ◌-◌, ◌≤◌, ◌<◌, ◌≡◌, true, false, length, replicate, Result, Ok, Err, Some, None}
use Rattle.std.proofs.Common.{arith, ◌∙◌}
use Rattle.std.proofs.Math.Path.{refl, sym, ap}
use mathlib.Core.List.{List, [], ◌∷◌, append-nil, reverse, reverse-cons}
use Rattle.std.proofs.lemmas.List.{length-replicate}
use Rattle.rules.specs.Refusals.{statement, Refusal, ok, refused}
use Rattle.rules.specs.Lists.{Bytes, same, any}
use Rattle.rules.specs.Lines.{bytes}
use Rattle.rules.specs.Ast.{From}
use Rattle.rules.specs.Reader.{Place, key, line_here, one_of, turns}
use Rattle.rules.specs.ReadStatement.{from_heads, from_tree, froms}
use Rattle.text.specs.Lines.{line_end}
use Rattle.text.specs.Reading.{place-length}
use Rattle.text.specs.Answers.{wrong_at, limit_at, bind_ok, bind-no, prefixed, prefixed-none, prefixed-twice, give-first}
use Rattle.numbers.specs.Kept.{Kept, kept-all, kept_on, kept-first}
use Rattle.ast.specs.Table.{row_size}
use Rattle.read_expression.specs.Reading.{here, Position}
use Rattle.from.specs.Layout.{trees_before}
use Rattle.from.specs.Roots.{trees-none, froms-are}
use Rattle.from.specs.Terms.{FromsRead}
use Rattle.rules.specs.Limits.{most_bytes}
use Rattle.from.specs.Records.{IsFromRow}
use Rattle.from.specs.Trees.{TableAdded, TreeTook, TreeReady, TreeRead}
use Rattle.from.specs.Loop.{loop-begin, loop-wrong, loop-limit, loop-table}
use Rattle.from.specs.Stack.{unused}
use Rattle.from.specs.Closed.{loop-end}
use Rattle.from.specs.declared.Open.{Open}
use Rattle.from.specs.declared.record.FromRecord.{FromRecord}
use Rattle.from.specs.declared.record.Said.TheVariants as S
use Rattle.text.specs.declared.places.Place as places
use Rattle.from.specs.declared.Froms.{Froms}
use Rattle.numbers.specs.declared.refusals.Reason.TheVariants.{WrongRecord}
use Rattle.numbers.specs.declared.refusals.Refusal as code
use Rattle.numbers.specs.Reasons.{reason_of}

-- A TREE THAT IS ONE TABLE
unfoldable no_joins : List Open
no_joins = replicate 5041 unused

no_joins_lem : (t : Bytes) (p : ℕ) → length t ≤ most_bytes → length t < p + 13 * length no_joins + 13
unfolding no_joins
no_joins_lem t p h = omega (arith, length-replicate {A = Open} 5041 unused)

pub tree-wrong : {t : Bytes} {p l c k n : ℕ} (cells rows : List ℕ) → TreeReady t p l c k n
    → ((l c k : ℕ) → IsFromRow t (line_end t p) (one_of from_heads (line_here (here t p l c k))) None)
    → TreeRead t p l c k n cells cells rows rows (Err (record { reason = WrongRecord; line = l }))
unfolding TreeRead wrong_at reason_of
tree-wrong {t} {p} cells rows w f = loop-wrong (loop-begin {cells = cells} {rows = rows} no_joins w (no_joins_lem t p w.position.short)) f

module _ {t : Bytes} {p l c k n : ℕ} (cells rows : List ℕ) (w : TreeReady t p l c k n) {r : FromRecord}
    (f : (l c k : ℕ) → IsFromRow t (line_end t p) (one_of from_heads (line_here (here t p l c k))) (Some r)) {name : places.Place} {alias : std.Option places.Place} (z : r.said ≡ S.Table name alias) where
  pub table-added : (rows' : List ℕ) (x : Result Froms code.Refusal) → TableAdded (record { at = record { position = p; line = l; rows = c }; tables = k; rows = n }) r.next name alias rows rows' x
      → length rows ≡ 248 → TreeRead t p l c k n cells cells rows rows' x
  unfolding TreeRead TableAdded limit_at reason_of
  table-added rows' (Ok g) h e = rw h.2 (loop-end (loop-table (loop-begin {cells = cells} {rows = rows} no_joins w (no_joins_lem t p w.position.short)) f z h.0 rows' h.1 e) refl)
  table-added rows' (Err v) h e = rw h.2 (loop-limit (loop-begin {cells = cells} {rows = rows} no_joins w (no_joins_lem t p w.position.short)) f z h.0)

-- ALL TREES
abbrev pub from_words : List Bytes
from_words = bytes "from" ∷ bytes "join" ∷ []

module _ (p : Place) (g : ℕ) where
  froms-none : any (same (key p)) from_words ≡ false → froms (suc g) p ≡ ok ([], p)
  unfolding froms
  froms-none e = rw (froms, e)

  module _ (e : any (same (key p)) from_words ≡ true) where
    froms-no : (r : Refusal) → turns from_tree p ≡ refused r → froms (suc g) p ≡ refused r
    unfolding froms
    froms-no r h = rw (froms, e) (bind-no (turns from_tree) _ p r h)

    froms-more : (a : From) (q : Place) → turns from_tree p ≡ ok (a, q) → froms (suc g) p ≡ prefixed (a ∷ []) (froms g q)
    unfolding froms
    froms-more a q h = rw (froms, e) (bind_ok (turns from_tree) _ p a q h ∙ give-first (froms g) a q)

-- Behind k tables and n rows, the trees so far, the last one first, and those that the rules read from here are what they read in all.
pub record FromsLoop (t : Bytes) (p₀ l₀ c₀ : ℕ) (cells₀ : List ℕ) (p l c k n : ℕ) (cells rows : List ℕ) : Type 0 where
  pub trees : List From
  pub fuel : ℕ
  pub is : prefixed (reverse trees) (froms fuel (here t p l c k)) ≡ turns froms (here t p₀ l₀ c₀ 0)
  pub enough : length t < p + fuel
  pub moved : p₀ ≤ p
  pub more : c₀ ≤ c
  pub ready : TreeReady t p l c k n
  pub few : n ≤ 31
  pub stand : (cells'' : List ℕ) → Kept 0 (row_size * c) cells cells'' → (b : Bytes) → trees_before b t cells'' rows n ≡ trees
  pub cells-kept : Kept 0 (row_size * c₀) cells₀ cells

pub froms-begin : {t : Bytes} {p l c : ℕ} {cells rows : List ℕ} → Position t p l c → FromsLoop t p l c cells p l c 0 0 cells rows
unfolding turns
froms-begin {t} {p} {l} {c} w = record {
  trees = [];
  fuel = suc (length (here t p l c 0).left);
  is = prefixed-none _;
  enough = omega (arith, place-length statement t p l c 0);
  moved = omega arith;
  more = omega arith;
  ready = record { position = w; tables = omega arith; count = omega arith };
  few = omega arith;
  stand = λ cells'' y b. trees-none b t cells'' _;
  cells-kept = kept-all 0 _ _;
}

module _ {t : Bytes} {p₀ l₀ c₀ : ℕ} {cells₀ : List ℕ} {p l c k n : ℕ} {cells rows : List ℕ} (h : FromsLoop t p₀ l₀ c₀ cells₀ p l c k n cells rows) where
  fueled : h.fuel ≡ suc (h.fuel - 1)
  fueled = omega (arith, h.enough, h.ready.position.within)

  rest-is : prefixed (reverse h.trees) (froms (suc (h.fuel - 1)) (here t p l c k)) ≡ turns froms (here t p₀ l₀ c₀ 0)
  rest-is = rw fueled at h.is

  -- no more
  pub froms-end : any (same (key (here t p l c k))) from_words ≡ false → FromsRead t p₀ l₀ c₀ cells₀ cells rows (Ok (record { at = record { position = p; line = l; rows = c }; tables = k; rows = n }))
  unfolding FromsRead prefixed
  froms-end e = record {
    value = reverse h.trees;
    is = sym rest-is ∙ rw (froms-none (here t p l c k) (h.fuel - 1) e, append-nil (reverse h.trees));
    position = h.ready.position;
    moved = h.moved;
    more = h.more;
    few = h.few;
    stand = λ cells'' y b. froms-are b t cells'' rows n ∙ ap reverse (h.stand cells'' y b);
    cells-kept = h.cells-kept;
  }

  -- one more
  module _ (e : any (same (key (here t p l c k))) from_words ≡ true) (cells' rows' : List ℕ) where
    froms-refused : (x : Refusal) → turns from_tree (here t p l c k) ≡ refused x → turns froms (here t p₀ l₀ c₀ 0) ≡ refused x
    unfolding prefixed
    froms-refused x w = sym rest-is ∙ rw (froms-no (here t p l c k) (h.fuel - 1) e x w)

    pub froms-stopped : (w : code.Refusal) → TreeRead t p l c k n cells cells' rows rows' (Err w) → FromsRead t p₀ l₀ c₀ cells₀ cells' rows' (Err w)
    unfolding FromsRead TreeRead
    froms-stopped w g = froms-refused _ g

    module _ (f : Froms) (g : TreeRead t p l c k n cells cells' rows rows' (Ok f)) where
      took : TreeTook t p l c k n cells cells' rows rows' f.at.position f.at.line f.at.rows f.tables f.rows
      unfolding TreeRead
      took = g

      pub froms-moved : (p < f.at.position) × (f.at.position ≤ length t)
      froms-moved = (took.moved, took.position.within)

      pub froms-on : FromsLoop t p₀ l₀ c₀ cells₀ f.at.position f.at.line f.at.rows f.tables f.rows cells' rows'
      froms-on = record {
        trees = took.value ∷ h.trees;
        fuel = h.fuel - 1;
        is = rw (reverse-cons took.value h.trees) (sym (prefixed-twice _ _ _) ∙ ap (prefixed (reverse h.trees)) (sym (froms-more (here t p l c k) (h.fuel - 1) e _ _ took.is)) ∙ rest-is);
        enough = omega (arith, h.enough, took.moved);
        moved = omega (arith, h.moved, took.moved);
        more = omega (arith, h.more, took.more);
        ready = record {
          position = took.position;
          tables = took.tables;
          count = omega (arith, took.count, h.ready.count);
        };
        few = omega (arith, took.count, took.tables, h.ready.count);
        stand = λ cells'' y b. took.stand cells'' y b ∙ ap (λ xs. took.value ∷ xs) (h.stand cells'' (below cells'' y) b);
        cells-kept = kept_on h.cells-kept
            (kept-first (row_size * c₀) took.cells-kept (omega (arith, h.more)));
      }
        where
          below : (cells'' : List ℕ) → Kept 0 (row_size * f.at.rows) cells' cells'' → Kept 0 (row_size * c) cells cells''
          below cells'' y = kept_on took.cells-kept
              (kept-first (row_size * c) y (omega (arith, took.more)))
