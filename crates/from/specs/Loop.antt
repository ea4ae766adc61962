-- Reading a tree by a loop over the open joins: what holds at each turn, and what each turn does.
use Prim.Native.Nat.{ℕ, suc, ◌+◌, ◌*◌, ◌-◌, ◌≤◌, ◌<◌}
use Rattle.std.proofs.Common.{arith, ◌∙◌}
use Rattle.std.proofs.Math.Numerals.{add-one}
use Rattle.std.proofs.Math.Path.{◌≡◌, refl, sym, ap}
use Rattle.std.specs.Prelude as std
use Rattle.std.specs.Prelude.{Bool, List, [], ◌∷◌, ◌++◌, length, set, Some, None}
use Rattle.std.proofs.Math.Bool.{true, false}
use Rattle.std.proofs.Math.Option.{none}
use Rattle.std.proofs.Math.ListN.{length-set}
use Rattle.std.proofs.lemmas.List.Edits.{sets}
use Rattle.rules.specs.Refusals.{statement}
use Rattle.rules.specs.Limits.{most_from_tables}
use Rattle.rules.specs.Lists.{Bytes}
use Rattle.rules.specs.Ast.{From, table}
use Rattle.rules.specs.Reader.{stop, line_here, next, one_of, turns}
use Rattle.rules.specs.ReadStatement.{from_heads, tabled, from_tree}
use Rattle.rules.specs.Area.{flag}
use Rattle.text.specs.Lines.{line_end, line-most}
use Rattle.text.specs.Reading.{place, place-next, place-length}
use Rattle.text.specs.Answers.{wrong_at, limit_at}
use Rattle.numbers.specs.Kept.{Kept, kept-all}
use Rattle.ast.specs.Table.{row_size}
use Rattle.read_expression.specs.Reading.{here, Position}
use Rattle.from.specs.Layout.{trees_before}
use Rattle.from.specs.Records.{alias_first, alias_second, IsFromRow}
use Rattle.from.specs.Lines.{record-moves, join-moves}
use Rattle.from.specs.Rules.{Frame, first, rest_of, rest-begin, rest-no, rest-table, rest-join, here-wrong, here-limit, here-table, here-join}
use Rattle.from.specs.Trees.{TreeReady}
use Rattle.from.specs.Rows.{table-row}
use Rattle.from.specs.Stack.{StandsFor, Holds, lefts, holds-push}
use Rattle.from.specs.declared.Open.{Open}
use Rattle.from.specs.Kinds.{IsTable, IsJoin, row-end, row-table, row-join, row-none}
use Rattle.from.specs.declared.record.FromRecord.{FromRecord}
use Rattle.from.specs.declared.record.Said.TheVariants as S
use Rattle.from.specs.declared.row.Kind.{Kind}
use Rattle.text.specs.declared.places.Place as places

-- the tree that was read, before the left sides of the open joins
unfoldable pub held : Bool → From → List From → List From
held true a fs = a ∷ fs
held false a fs = fs

-- Behind k tables, n rows and d open joins a side is to be read, or one was read; the rest of the whole tree, read by the
-- rules from here, is what they read from its start.
pub record TreeLoop (t : Bytes) (p₀ l₀ c₀ k₀ n₀ : ℕ) (cells₀ rows₀ : List ℕ) (done : Bool) (p l c k n d : ℕ) (stack : List Open) (cells rows : List ℕ) : Type 0 where
  pub frames : List Frame
  pub fuel : ℕ
  pub tree : From
  pub is : rest_of done fuel frames tree (here t p l c k) ≡ turns from_tree (here t p₀ l₀ c₀ k₀)
  pub opened : d ≡ length frames
  pub holds : Holds stack frames
  pub enough : length t < p + fuel
  pub deep : p₀ + 13 * d ≤ p
  pub position : Position t p l c
  pub moved : p₀ ≤ p
  pub past : done ≡ true → p₀ < p
  pub more : c₀ ≤ c
  pub tables : k ≤ most_from_tables
  pub begun : n₀ ≤ 2 * k₀
  pub count : n + length (held done tree (lefts frames)) + 2 * k₀ ≡ n₀ + 2 * k
  pub stand : (cells'' : List ℕ) → Kept 0 (row_size * c) cells cells'' → (b : Bytes)
      → trees_before b t cells'' rows n ≡ held done tree (lefts frames) ++ trees_before b t cells'' rows₀ n₀
  pub cells-kept : Kept 0 (row_size * c₀) cells₀ cells
  pub stack-room : length t < p₀ + 13 * length stack + 13

pub loop-begin : {t : Bytes} {p l c k n : ℕ} {cells rows : List ℕ} (stack : List Open) → TreeReady t p l c k n → length t < p + 13 * length stack + 13 → TreeLoop t p l c k n cells rows false p l c k n 0 stack cells rows
unfolding held Holds lefts turns
loop-begin {t} {p} {l} {c} {k} {n} {cells} {rows} stack w h = record {
  frames = [];
  fuel = suc (length (here t p l c k).left);
  tree = table 0 (record { bytes = []; start = 0 }) none;
  is = rest-begin (here t p l c k) _ _;
  opened = refl;
  holds = tt;
  enough = omega (arith, place-length statement t p l c k);
  deep = omega arith;
  position = w.position;
  moved = omega arith;
  past = λ e. grind arith;
  more = omega arith;
  tables = w.tables;
  begun = w.count;
  count = omega arith;
  stand = λ cells'' g b. refl;
  cells-kept = kept-all 0 _ _;
  stack-room = h;
}

-- the loop by the value of its flag
pub loop-as : {t : Bytes} {p₀ l₀ c₀ k₀ n₀ : ℕ} {cells₀ rows₀ : List ℕ} {done : Bool} {p l c k n d : ℕ} {stack : List Open} {cells rows : List ℕ} (x : Bool) → done ≡ x
    → TreeLoop t p₀ l₀ c₀ k₀ n₀ cells₀ rows₀ done p l c k n d stack cells rows → TreeLoop t p₀ l₀ c₀ k₀ n₀ cells₀ rows₀ x p l c k n d stack cells rows
loop-as x e h = rw (sym e) h

-- the position behind a line
next-position : (t : Bytes) (p l c e : ℕ) → Position t p l c → e ≡ line_end t p → p < e → Position t e (l + 1) c
next-position t p l c e w z m = record {
  short = w.short;
  within = omega (arith, line-most t p, w.within);
  line = omega (arith, w.line);
  rows = w.rows;
}

-- A SIDE IS TO BE READ
module _ {t : Bytes} {p₀ l₀ c₀ k₀ n₀ : ℕ} {cells₀ rows₀ : List ℕ} {p l c k n d : ℕ} {stack : List Open} {cells rows : List ℕ} (h : TreeLoop t p₀ l₀ c₀ k₀ n₀ cells₀ rows₀ false p l c k n d stack cells rows) where
  fueled : h.fuel ≡ suc (h.fuel - 1)
  fueled = omega (arith, h.enough, h.position.within)

  rest-is : rest_of false (suc (h.fuel - 1)) h.frames h.tree (here t p l c k) ≡ turns from_tree (here t p₀ l₀ c₀ k₀)
  rest-is = rw fueled at h.is

  pub loop-wrong : ((l c k : ℕ) → IsFromRow t (line_end t p) (one_of from_heads (line_here (here t p l c k))) None) → turns from_tree (here t p₀ l₀ c₀ k₀) ≡ wrong_at statement l
  unfolding wrong_at stop place
  loop-wrong f = sym rest-is ∙ rest-no (here t p l c k) (h.fuel - 1) h.frames h.tree _ (here-wrong (here t p l c k) (row-none _ (f l c k)))

  module _ {r : FromRecord} (f : (l c k : ℕ) → IsFromRow t (line_end t p) (one_of from_heads (line_here (here t p l c k))) (Some r)) where
    said : IsFromRow t (line_end t p) (one_of from_heads (line_here (here t p l c k))) (Some r)
    said = f l c k

    pub next-within : r.next ≤ length t
    next-within = omega (arith, row-end _ said, line-most t p, h.position.within)

    module _ {name : places.Place} {alias : std.Option places.Place} (z : r.said ≡ S.Table name alias) where
      named : IsTable t (one_of from_heads (line_here (here t p l c k))) name alias
      named = row-table _ said z

      pub loop-limit : most_from_tables ≤ k → turns from_tree (here t p₀ l₀ c₀ k₀) ≡ limit_at statement l
      unfolding limit_at stop place
      loop-limit m = sym rest-is ∙ rest-no (here t p l c k) (h.fuel - 1) h.frames h.tree _ (here-limit (here t p l c k) named.name named.alias named.is m)

      pub table-moves : p < r.next
      table-moves = omega (arith, record-moves t p l c k _ named.is, (row-end _ said))

      -- its row has room
      pub row_room : k < most_from_tables → n ≤ 30
      row_room m = omega (arith, h.count, h.begun)

      table-next : next (tabled (here t p l c k)) ≡ here t r.next (l + 1) c (k + 1)
      unfolding tabled place
      table-next = (unfold place in place-next statement t p l c (suc k)) ∙ rw ((row-end _ said), add-one k)

      pub loop-table : k < most_from_tables → (rows' : List ℕ)
          → rows' ≡ sets rows (row_size * n) (1 ∷ l ∷ 0 ∷ name.address ∷ name.length ∷ alias_first alias ∷ alias_second alias ∷ 0 ∷ []) → length rows ≡ 248
          → TreeLoop t p₀ l₀ c₀ k₀ n₀ cells₀ rows₀ true r.next (l + 1) c (k + 1) (n + 1) d stack cells rows'
      unfolding held place
      loop-table m rows' e g = record {
        frames = h.frames;
        fuel = suc (h.fuel - 1);
        tree = table l named.name named.alias;
        is = ap (rest_of true (suc (h.fuel - 1)) h.frames (table l named.name named.alias)) (sym table-next)
            ∙ sym (rest-table (here t p l c k) (h.fuel - 1) h.frames h.tree named.name named.alias _ (here-table (here t p l c k) named.name named.alias named.is m)) ∙ rest-is;
        opened = h.opened;
        holds = h.holds;
        enough = omega (arith, h.enough, table-moves, fueled);
        deep = omega (arith, h.deep, table-moves);
        position = next-position t p l c r.next h.position (row-end _ said) table-moves;
        moved = omega (arith, h.moved, table-moves);
        past = λ x. omega (arith, h.moved, table-moves);
        more = h.more;
        tables = omega arith;
        begun = h.begun;
        count = omega (arith, h.count);
        stand = λ cells'' y b. rw (add-one n) (table-row rows rows' n 1 l 0 name.address name.length (alias_first alias) (alias_second alias) 0
            (omega (arith, row_room m, g)) e b t cells'' refl refl
            ∙ rw (named.word b, named.other b, h.stand cells'' y b));
        cells-kept = h.cells-kept;
        stack-room = h.stack-room;
      }

    -- one more join is open
    module _ {kind : Kind} {on : Bool} (y : r.said ≡ S.Join kind on) where
      joins : IsJoin (one_of from_heads (line_here (here t p l c k))) kind on
      joins = row-join _ said y

      pub push-moves : p + 13 ≤ r.next
      push-moves = omega (arith, join-moves t p l c k _ _ joins.is, (row-end _ said))

      pub push-within : d < length stack
      push-within = omega (arith, push-moves, next-within, h.stack-room, h.deep)

      join-next : next (here t p l c k) ≡ here t r.next (l + 1) c k
      join-next = place-next statement t p l c k ∙ rw (row-end _ said)

      pub loop-push : TreeLoop t p₀ l₀ c₀ k₀ n₀ cells₀ rows₀ false r.next (l + 1) c k n (d + 1) (set stack d (record { line = l; kind = kind; on = on; left_read = false })) cells rows
      unfolding held lefts StandsFor place
      loop-push =
          let o = on in
          let j = joins.join in
          record {
            frames = first l j o ∷ h.frames;
            fuel = h.fuel - 1;
            tree = h.tree;
            is = ap (rest_of false (h.fuel - 1) (first l j o ∷ h.frames) h.tree) (sym join-next)
                ∙ sym (rest-join (here t p l c k) (h.fuel - 1) h.frames h.tree j o _ (here-join (here t p l c k) j o joins.is)) ∙ rest-is;
            opened = omega (arith, h.opened);
            holds = holds-push stack d _ (first l j o) h.frames h.opened push-within (record { line = refl; kind = joins.kind; on = refl; left = refl }) h.holds;
            enough = omega (arith, h.enough, push-moves);
            deep = omega (arith, h.deep, push-moves);
            position = next-position t p l c r.next h.position (row-end _ said) (omega (arith, push-moves));
            moved = omega (arith, h.moved, push-moves);
            past = λ e. grind arith;
            more = h.more;
            tables = h.tables;
            begun = h.begun;
            count = h.count;
            stand = h.stand;
            cells-kept = h.cells-kept;
            stack-room = omega (arith, length-set stack d (record { line = l; kind = kind; on = on; left_read = false }), h.stack-room);
          }

-- WHAT IS LEFT
-- each turn reads a record, closes a join, or turns to a right side
unfoldable pub turns_left : Bytes → ℕ → ℕ → Bool → ℕ
turns_left t p d done = 2 * (length t - p) + d + flag done

module _ (t : Bytes) (p d : ℕ) (done : Bool) where
  pub table-falls : (p' : ℕ) → done ≡ false → p < p' → p ≤ length t → p' ≤ length t → turns_left t p' d true < turns_left t p d done
  unfolding turns_left flag
  table-falls p' e h g k = rw e (omega arith)

  pub push-falls : (p' : ℕ) → done ≡ false → p + 13 ≤ p' → p' ≤ length t → turns_left t p' (d + 1) false < turns_left t p d done
  unfolding turns_left flag
  push-falls p' e h k = rw e (omega arith)

  pub right-falls : done ≡ true → turns_left t p d false < turns_left t p d done
  unfolding turns_left flag
  right-falls e = rw e (omega arith)

  pub close-falls : (p' : ℕ) → done ≡ true → (d ≡ 0 → ⊥) → p ≤ p' → turns_left t p' (d - 1) true < turns_left t p d done
  unfolding turns_left flag
  close-falls p' e h g = rw e (omega arith)
