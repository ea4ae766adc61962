-- Reading a tree by a loop over the open joins: the turns behind a side that was read.
use Rattle.std.specs.Prelude.{ℕ, suc, ◌+◌, ◌*◌, ◌-◌, ◌≤◌, refl, set, Ok, Err}
use Rattle.std.proofs.Common.{arith, add-one, ◌∙◌}
use Rattle.std.proofs.Math.Path.{◌≡◌, sym}
use Rattle.std.proofs.Math.Bool.{true, false}
use mathlib.Core.List.{List, [], ◌∷◌, ◌++◌}
use Rattle.std.proofs.Math.ListN.{length, get_or, length-set}
use Rattle.std.proofs.lemmas.List.{nil_from_length}
use Rattle.rules.specs.Refusals.{statement, Refusal, refused}
use Rattle.rules.specs.Lists.{Bytes}
use Rattle.rules.specs.Ast.{join}
use Rattle.rules.specs.Reader.{turns, optional}
use Rattle.rules.specs.ReadExpression.{expression}
use Rattle.rules.specs.ReadStatement.{from_tree}
use Rattle.numbers.specs.Kept.{Kept, kept_on, kept-first}
use Rattle.ast.specs.Table.{row_size}
use Rattle.read_expression.specs.Reading.{here, Given, Took}
use Rattle.from.specs.Layout.{trees_before}
use Rattle.from.specs.Rules.{Frame, optional-as, first, second, rest_of, rest-right, rest-close, rest-close-no, rest_end}
use Rattle.from.specs.Numbers.{number_of}
use Rattle.from.specs.Trees.{Closed, TreeTook}
use Rattle.from.specs.Rows.{sides_before, join-row}
use Rattle.from.specs.Stack.{StandsFor, unused, Holds, lefts, innermost, holds-push}
use Rattle.from.specs.declared.Open.{Open}
use Rattle.from.specs.Loop.{held, TreeLoop}
use Rattle.numbers.specs.declared.refusals.Refusal as code
use Rattle.numbers.specs.Reasons.{told}
use Rattle.read_expression.specs.declared.reading.Cursor.{Cursor}

module _ {t : Bytes} {p₀ l₀ c₀ k₀ n₀ : ℕ} {cells₀ rows₀ : List ℕ} {p l c k n d : ℕ} {stack : List Open} {cells rows : List ℕ} (h : TreeLoop t p₀ l₀ c₀ k₀ n₀ cells₀ rows₀ true p l c k n d stack cells rows) where
  -- no join is open: the tree is read
  pub loop-end : d ≡ 0 → TreeTook t p₀ l₀ c₀ k₀ n₀ cells₀ cells rows₀ rows p l c k n
  unfolding held lefts
  loop-end z =
      let e : h.frames ≡ [] = nil_from_length h.frames (sym h.opened ∙ z) in
      let x : rest_of true h.fuel [] h.tree (here t p l c k) ≡ turns from_tree (here t p₀ l₀ c₀ k₀) = (rw e at h.is) in
      let y : n + 1 + 2 * k₀ ≡ n₀ + 2 * k = (rw e at h.count) in
      record {
        value = h.tree;
        is = sym x ∙ rest_end (here t p l c k) h.fuel h.tree;
        position = h.position;
        moved = h.past refl;
        more = h.more;
        tables = h.tables;
        count = y;
        stand = λ cells'' w b. rw e at (h.stand cells'' w b);
        cells-kept = h.cells-kept;
      }

  module _ (inner : d ≡ 0 → ⊥) (v : Open) (ev : v ≡ get_or stack (d - 1) unused) where
    never : v.left_read ≡ true → v.left_read ≡ false → ⊥
    never a b = grind arith

    open-as : (f : Frame) (fs : List Frame) → d ≡ length (f ∷ fs) → Holds stack (f ∷ fs) → StandsFor v f
    open-as f fs opened holds = innermost stack f fs ev (omega (arith, opened)) holds

    -- the left side of the innermost join
    pub loop-right : v.left_read ≡ false → TreeLoop t p₀ l₀ c₀ k₀ n₀ cells₀ rows₀ false p l c k n d (set stack (d - 1) (record { line = v.line; kind = v.kind; on = v.on; left_read = true })) cells rows
    unfolding held lefts Holds StandsFor
    loop-right even = go h.frames h.is h.opened h.holds h.count h.stand
      where
        go : (fs : List Frame) → rest_of true h.fuel fs h.tree (here t p l c k) ≡ turns from_tree (here t p₀ l₀ c₀ k₀) → d ≡ length fs → Holds stack fs
            → n + length (held true h.tree (lefts fs)) + 2 * k₀ ≡ n₀ + 2 * k
            → ((cells'' : List ℕ) → Kept 0 (row_size * c) cells cells'' → (b : Bytes)
            → trees_before b t cells'' rows n ≡ held true h.tree (lefts fs) ++ trees_before b t cells'' rows₀ n₀)
            → TreeLoop t p₀ l₀ c₀ k₀ n₀ cells₀ rows₀ false p l c k n d (set stack (d - 1) (record { line = v.line; kind = v.kind; on = v.on; left_read = true })) cells rows
        go [] is opened holds count stand = absurd (inner opened)
        go (second m j o a ∷ fs) is opened holds count stand =
            absurd (never (open-as (second m j o a) fs opened holds).left even)
        go (first m j o ∷ fs) is opened holds count stand =
            let x : d - 1 ≡ length fs = omega (arith, opened) in
            let y = open-as (first m j o) fs opened holds in
            record {
              frames = second m j o h.tree ∷ fs;
              fuel = h.fuel;
              tree = h.tree;
              is = sym (rest-right (here t p l c k) h.fuel fs m j o h.tree) ∙ is;
              opened = opened;
              holds = holds-push stack (d - 1) _ (second m j o h.tree) fs x (omega (arith, h.stack-room, h.deep, h.position.within, h.position.short)) (record { line = y.line; kind = y.kind; on = y.on; left = refl }) holds.1;
              enough = h.enough;
              deep = h.deep;
              position = h.position;
              moved = h.moved;
              past = λ e. grind arith;
              more = h.more;
              tables = h.tables;
              begun = h.begun;
              count = count;
              stand = stand;
              cells-kept = h.cells-kept;
              stack-room = omega (arith, length-set stack (d - 1) (record { line = v.line; kind = v.kind; on = v.on; left_read = true }), h.stack-room);
            }

    -- its right side
    module _ (both : v.left_read ≡ true) where
      pub close-room : n ≤ 30
      unfolding held lefts Holds StandsFor
      close-room = go h.frames h.opened h.holds h.count
        where
          go : (fs : List Frame) → d ≡ length fs → Holds stack fs → n + length (held true h.tree (lefts fs)) + 2 * k₀ ≡ n₀ + 2 * k → n ≤ 30
          go [] opened holds count = absurd (inner opened)
          go (first m j o ∷ fs) opened holds count =
              absurd (never both (open-as (first m j o) fs opened holds).left)
          go (second m j o a ∷ fs) opened holds count = omega (arith, count, h.begun, h.tables)

      module _ (cells' rows' : List ℕ) where
        closed-no : (x : Refusal) → optional v.on expression (here t p l c k) ≡ refused x → turns from_tree (here t p₀ l₀ c₀ k₀) ≡ refused x
        unfolding held lefts Holds StandsFor
        closed-no x w = go h.frames h.is h.opened h.holds
          where
            go : (fs : List Frame) → rest_of true h.fuel fs h.tree (here t p l c k) ≡ turns from_tree (here t p₀ l₀ c₀ k₀) → d ≡ length fs → Holds stack fs
                → turns from_tree (here t p₀ l₀ c₀ k₀) ≡ refused x
            go [] is opened holds = absurd (inner opened)
            go (first m j o ∷ fs) is opened holds =
                absurd (never both (open-as (first m j o) fs opened holds).left)
            go (second m j o a ∷ fs) is opened holds =
                sym is ∙ rest-close-no (here t p l c k) h.fuel fs m j o a h.tree _ (optional-as expression (here t p l c k) (open-as (second m j o a) fs opened holds).on w)

        pub loop-closed-refused : (w : code.Refusal) → ((i : ℕ) → Given (optional v.on expression) (Closed t c n v cells cells' rows rows') t p l c i (Err w))
            → turns from_tree (here t p₀ l₀ c₀ k₀) ≡ refused (told statement w)
        unfolding Given
        loop-closed-refused w g = closed-no _ (g k)

        module _ (q : Cursor) (g : (i : ℕ) → Given (optional v.on expression) (Closed t c n v cells cells' rows rows') t p l c i (Ok q)) where
          took : Took (optional v.on expression) (Closed t c n v cells cells' rows rows' q.rows) t p l c k q.position q.line q.rows
          unfolding Given
          took = g k

          pub closed-moves : p ≤ q.position
          closed-moves = took.moved

          pub loop-closed : length rows ≡ 248 → TreeLoop t p₀ l₀ c₀ k₀ n₀ cells₀ rows₀ true q.position q.line q.rows k (n + 1) (d - 1) stack cells' rows'
          unfolding held lefts Holds StandsFor
          loop-closed room = go h.frames h.is h.opened h.holds h.count h.stand
            where
              -- what was written below row c is as it was
              below : (cells'' : List ℕ) → Kept 0 (row_size * q.rows) cells' cells'' → Kept 0 (row_size * c) cells cells''
              below cells'' w = kept_on took.holds.cells-kept
                  (kept-first (row_size * c) w (omega (arith, took.more)))

              go : (fs : List Frame) → rest_of true h.fuel fs h.tree (here t p l c k) ≡ turns from_tree (here t p₀ l₀ c₀ k₀) → d ≡ length fs → Holds stack fs
                  → n + length (held true h.tree (lefts fs)) + 2 * k₀ ≡ n₀ + 2 * k
                  → ((cells'' : List ℕ) → Kept 0 (row_size * c) cells cells'' → (b : Bytes)
                  → trees_before b t cells'' rows n ≡ held true h.tree (lefts fs) ++ trees_before b t cells'' rows₀ n₀)
                  → TreeLoop t p₀ l₀ c₀ k₀ n₀ cells₀ rows₀ true q.position q.line q.rows k (n + 1) (d - 1) stack cells' rows'
              go [] is opened holds count stand = absurd (inner opened)
              go (first m j o ∷ fs) is opened holds count stand =
                  absurd (never both (open-as (first m j o) fs opened holds).left)
              go (second m j o a ∷ fs) is opened holds count stand =
                  let x : d - 1 ≡ length fs = omega (arith, opened) in
                  let y = open-as (second m j o a) fs opened holds in
                  let w = took.holds in
                  record {
                    frames = fs;
                    fuel = suc h.fuel;
                    tree = join m j a h.tree took.value;
                    is = sym (rest-close (here t p l c k) h.fuel fs m j o a h.tree took.value _ (optional-as expression (here t p l c k) y.on took.is)) ∙ is;
                    opened = x;
                    holds = holds.1;
                    enough = omega (arith, h.enough, took.moved);
                    deep = omega (arith, h.deep, took.moved);
                    position = took.position;
                    moved = omega (arith, h.moved, took.moved);
                    past = λ e. omega (arith, h.past refl, took.moved);
                    more = omega (arith, h.more, took.more);
                    tables = h.tables;
                    begun = h.begun;
                    count = omega (arith, count);
                    stand = λ cells'' u b. rw (add-one n, ← y.line)
                        (join-row rows rows' n (number_of v.kind) v.line w.number 0 0 0 0 (sides_before rows n)
                        (omega (arith, close-room, room)) w.written b t cells'' j a h.tree
                        (lefts fs ++ trees_before b t cells'' rows₀ n₀) took.value y.kind refl
                        (stand cells'' (below cells'' u) b) (w.stands cells'' u b));
                    cells-kept = kept_on h.cells-kept
                        (kept-first (row_size * c₀) w.cells-kept (omega (arith, h.more)));
                    stack-room = h.stack-room;
                  }
