-- The sets pushed one after the other.
use Rattle.std.specs.Prelude.{ℕ, suc, ◌+◌, ◌*◌, ◌≤◌, ◌<◌, ◌≡◌, refl, take, Ok, Err}
use native.Mathlib.Omega.{arith}
use Rattle.std.proofs.Common.{add-one, ◌∙◌, drop_of_length-le}
use Rattle.std.proofs.Math.Path.{sym, ap}
use mathlib.Core.List.{List, [], ◌∷◌, ◌++◌, append_assoc, append-nil}
use Rattle.std.proofs.Math.ListN.{length, drop, length-append}
use Rattle.rules.specs.Refusals.{Refusal, ok, refused, ◌>>=◌}
use Rattle.rules.specs.Lists.{Bytes, concat}
use Rattle.rules.specs.Schema.{Column}
use Rattle.rules.specs.Ast as Ast
use Rattle.rules.specs.Area.{set_numbers}
use Rattle.rules.specs.Scope.{Scope}
use Rattle.rules.specs.Sizes.{total, option_size, sets_size}
use Rattle.rules.specs.BuildExpression.{each}
use Rattle.rules.specs.BuildStatement.{set_built}
use Rattle.claims.specs.Answers.{ensured, each-length}
use Rattle.claims.specs.Room.Nodes.{sets-size, second-size}
use Rattle.appends.specs.Area.{cells_numbers, cells-numbers-append}
use Rattle.appends.specs.Lists.Each.{Entries, joined, after, after_none, after-after, after-refused, each-joined}
use Rattle.appends.specs.Lists.Kinds.{emit_seconds, seconds-ok}
use Rattle.appends.specs.Lists.Loops.{seconds-done}
use Rattle.appends.specs.Room.Statements.{room-sets}
use Rattle.sections.specs.Layout.{section_at}
use Rattle.sections.specs.Access.{set_kind, numbers_at, after-drop}
use Rattle.sections.specs.declared.entry.Entry.{Entry}
use Rattle.statement.specs.Layout.{to_set, map_entries}
use Rattle.statement.specs.EntryAccess.{map-length, set_at}
use Rattle.plan.specs.Layout.{cells_end, set_size}
use Rattle.plan.specs.Pushed.{Pushed, kept-on, pushed-none}
use Rattle.plan.specs.declared.nodes.Nodes.{Nodes}
use Rattle.plan.specs.Emits.{Written}
use Rattle.plan.specs.Cells.{Room}
use Rattle.plan.specs.Own.{sets-on}
use Rattle.build_update.specs.Writes.{Setting, Writes, writes-done, writes-refused, was-done, was-refused, set_of}
use Rattle.numbers.specs.declared.refusals.Refusal as code
use Rattle.plan.specs.Steps.{refused-on}

-- THE SETS as they were read
module _ (c q : Bytes) (cells parts : List ℕ) where
  abbrev pub sets_at : List Ast.Set
  sets_at = map_entries to_set (section_at c q cells parts set_kind)

  pub sets-length : length sets_at ≡ length (section_at c q cells parts set_kind)
  sets-length = map-length to_set (section_at c q cells parts set_kind)

  -- by their number n
  module _ {n : ℕ} (y : n ≡ length (section_at c q cells parts set_kind)) where
    pub set-here : (i : ℕ) (e : Entry) → e ≡ numbers_at parts set_kind i → i < n → drop i sets_at ≡ set_of c q cells e ∷ drop (suc i) sets_at
    set-here i e h l = after-drop i sets_at (set_of c q cells e) (set_at c q cells parts set_kind i e h (omega (arith, y, l)))

    pub sets-below : {i : ℕ} → i < n → i < length sets_at
    sets-below l = omega (arith, y, l, sets-length)

    pub sets-past : {i : ℕ} → n ≤ i → length sets_at ≤ i
    sets-past l = omega (arith, y, l, sets-length)

module _ (s : Scope) (cs : List Column) where
  -- HOW MANY
  pub sets-count : (n : ℕ) (xs : List Ast.Set) (p : Entries (ℕ × ℕ)) → emit_seconds (set_built s cs) n xs ≡ ok p
      → length p.1 ≡ length xs
  sets-count n xs p h =
      let o = seconds-ok (set_built s cs) xs n p.0 p.1 p.2 h in
      ap length (sym o.numbers) ∙ second-size n o.built
      ∙ ensured (each (set_built s cs) xs) _ (each-length (set_built s cs) xs) o.built o.answer

  pub sets-most : (n : ℕ) (xs : List Ast.Set) (p : Entries (ℕ × ℕ)) → emit_seconds (set_built s cs) n xs ≡ ok p
      → p.2 ≤ n + (3 * sets_size xs + length xs)
  sets-most n xs p h =
      let o = seconds-ok (set_built s cs) xs n p.0 p.1 p.2 h in
      omega (arith, o.next, ensured (each (set_built s cs) xs) _ (room-sets s cs xs) o.built o.answer)

  -- A SET AND THE REST
  more-taken : (n : ℕ) (x : Ast.Set) (xs : List Ast.Set) (p : Entries (ℕ × ℕ))
      → emit_seconds (set_built s cs) n (x ∷ []) ≡ ok p
      → emit_seconds (set_built s cs) n (x ∷ xs) ≡ after p (emit_seconds (set_built s cs) p.2 xs)
  unfolding emit_seconds ◌>>=◌
  more-taken n x xs p h = each-joined (λ b. b.1) (λ b r. (b.0, r)) (set_built s cs) (x ∷ []) xs n ∙ rw h

  more-refused : (n : ℕ) (x : Ast.Set) (xs : List Ast.Set) (w : Refusal)
      → emit_seconds (set_built s cs) n (x ∷ []) ≡ refused w → emit_seconds (set_built s cs) n (x ∷ xs) ≡ refused w
  unfolding emit_seconds ◌>>=◌
  more-refused n x xs w h = each-joined (λ b. b.1) (λ b r. (b.0, r)) (set_built s cs) (x ∷ []) xs n ∙ rw h

  module _ (xs : List Ast.Set) where
    -- the first i sets are pushed, and m is the next cell
    pub record SoFar (n : ℕ) (area : List ℕ) (u : Nodes) (i m : ℕ) (area' : List ℕ) (v : Nodes) : Type 0 where
      pub entries : Entries (ℕ × ℕ)
      pub next : entries.2 ≡ m
      pub counted : length entries.1 ≡ i
      pub left : emit_seconds (set_built s cs) n xs ≡ after entries (emit_seconds (set_built s cs) m (drop i xs))
      pub room : m + (3 * sets_size (drop i xs) + length (drop i xs)) ≤ n + (3 * sets_size xs + length xs)
      pub kept : length area' ≡ length area
      pub cells : take (cells_end m) area' ≡ take (cells_end n) area ++ cells_numbers entries.0
      pub numbers : Pushed (set_numbers entries.1) u v

    pub so-far-none : (n : ℕ) (area : List ℕ) (u : Nodes) → u.used ≤ length u.numbers.now → SoFar n area u 0 n area u
    unfolding cells_numbers concat set_numbers
    so-far-none n area u h = record {
      entries = ([], [], n);
      next = refl;
      counted = refl;
      left = sym (after_none n (emit_seconds (set_built s cs) n xs));
      room = omega arith;
      kept = refl;
      cells = sym (append-nil (take (cells_end n) area));
      numbers = pushed-none u h;
    }

    module _ {n i m : ℕ} {area area' : List ℕ} {u v : Nodes} (p : SoFar n area u i m area' v) where
      pub area-kept : length area' ≡ length area
      area-kept = p.kept

      -- how many numbers are in use
      in_use : v.used ≡ u.used + set_size * i
      in_use = omega (arith, p.numbers.appended.next, sets-size p.entries.1, p.counted)

      pub number-room : u.used + set_size * length xs ≤ length u.numbers.now → i < length xs
          → v.used + set_size ≤ length v.numbers.now
      number-room r l = omega (arith, r, l, in_use, p.numbers.kept.all)

      module _ (x : Ast.Set) (d : drop i xs ≡ x ∷ drop (suc i) xs) where
        here : 3 * sets_size (drop i xs) + length (drop i xs)
            ≡ (3 * option_size x.value + 1) + (3 * sets_size (drop (suc i) xs) + length (drop (suc i) xs))
        unfolding sets_size total
        here = rw d (omega arith)

        pub set_room : Room n (3 * sets_size xs + length xs) area → Room m (3 * option_size x.value + 1) area'
        set_room r = record {
          counted = omega (arith, r.counted, p.room, here);
          held = omega (arith, r.held, p.room, here, p.kept);
        }

        module _ {area'' : List ℕ} {z : Nodes} {r : Written}
            (w : Writes (emit_seconds (set_built s cs) m (x ∷ [])) m area' area'' v z r) where
          pub so-far-step : (m' : ℕ) → r ≡ Ok m' → SoFar n area u (i + 1) m' area'' z
          unfolding sets_size total joined
          so-far-step m' e =
              let a = was-done w m' e in
              let one : length a.entries.1 ≡ 1 = sets-count m (x ∷ []) a.entries a.ok-is in
              let rest : Setting = emit_seconds (set_built s cs) a.entries.2 (drop (suc i) xs) in
              let on : after p.entries (emit_seconds (set_built s cs) m (x ∷ drop (suc i) xs))
              ≡ after (joined p.entries a.entries) rest =
              ap (after p.entries) (more-taken m x (drop (suc i) xs) a.entries a.ok-is)
              ∙ after-after p.entries a.entries rest in
              record {
                entries = joined p.entries a.entries;
                next = a.next;
                counted = length-append p.entries.1 a.entries.1 ∙ rw (p.counted, one);
                left = rw (add-one i) (p.left ∙ rw d (on ∙ ap (λ y. after (joined p.entries a.entries)
                    (emit_seconds (set_built s cs) y (drop (suc i) xs))) a.next));
                room = rw (add-one i) (omega (
                  arith,
                  p.room,
                  here,
                  a.next,
                  sets-most m (x ∷ []) a.entries a.ok-is,
                ));
                kept = w.area_kept ∙ p.kept;
                cells = a.cells ∙ rw (p.cells, cells-numbers-append p.entries.0 a.entries.0, append_assoc);
                numbers = sets-on p.entries.1 a.entries.1 p.numbers a.numbers;
              }

          pub so-far-stop : (y : code.Refusal) → r ≡ Err y
              → Writes (emit_seconds (set_built s cs) n xs) n area area'' u z (Err y)
          so-far-stop y e = writes-refused (refused-on (was-refused w y e) (λ v f.
              p.left ∙ rw (d, more-refused m x (drop (suc i) xs) v f) (after-refused p.entries v)))
              (w.area_kept ∙ p.kept) (kept-on p.numbers.kept w.nodes_kept)

      pub so-far-all : length xs ≤ i → Writes (emit_seconds (set_built s cs) n xs) n area area' u v (Ok m)
      so-far-all h = writes-done (record {
        entries = p.entries;
        ok-is = p.left ∙ rw (drop_of_length-le xs {i = i} h, ← p.next) (seconds-done (set_built s cs) p.entries);
        next = p.next;
        cells = p.cells;
        numbers = p.numbers;
      }) p.kept
