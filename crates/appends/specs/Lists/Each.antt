-- The entries of a list appended one after the other: their cells, their numbered entries and the next cell.
use Rattle.std.specs.Prelude.{ℕ, ◌+◌}
use Rattle.std.proofs.Common.{arith, sym}
use Rattle.std.proofs.Math.Nat.{add_assoc, add-zero}
use Rattle.std.proofs.Math.Path.{◌≡◌, refl, ap}
use mathlib.Core.List.{List, [], ◌∷◌, ◌++◌, map, append_assoc, append-nil}
use Rattle.rules.specs.Refusals.{Refusal, Answer, ok, refused, ◌>>=◌}
use Rattle.rules.specs.Plan.{Built}
use Rattle.rules.specs.Cells.{Cell, built_count, root, cells, count_all, cells_all}
use Rattle.rules.specs.BuildExpression.{each}
use Rattle.appends.specs.Answers.{ok-not-refused}
use Rattle.appends.specs.Lists.Joined.{each_append}

-- cells, numbered entries, next cell
abbrev pub Entries : Type 0 → Type 0
Entries C = List Cell × List C × ℕ

pub entries-same : {C : Type 0} {xs ys : List Cell} {cs ds : List C} {m k : ℕ} → xs ≡ ys → cs ≡ ds → m ≡ k
    → ◌≡◌ {A = Entries C} (xs, cs, m) (ys, ds, k)
entries-same p q r = cc

unfoldable pub joined : {C : Type 0} → Entries C → Entries C → Entries C
joined p q = (p.0 ++ q.0, p.1 ++ q.1, q.2)

-- an answer's entries behind those so far
unfoldable pub after : {C : Type 0} → Entries C → Answer (Entries C) → Answer (Entries C)
after p r = r >>= λ q. ok (joined p q)

-- entries with an expression each, by `key`, each replaced by what `mark` makes of it and its expression's root
unfoldable pub numbered : {B C : Type 0} → (B → Built) → (B → ℕ → C) → ℕ → List B → List C
numbered key mark n [] = []
numbered key mark n (b ∷ bs) = mark b (root n (key b)) ∷ numbered key mark (n + built_count (key b)) bs

unfoldable pub entries_of : {B C : Type 0} → (B → Built) → (B → ℕ → C) → ℕ → List B → Entries C
entries_of key mark n bs = (cells_all n (map key bs), numbered key mark n bs, n + count_all (map key bs))

-- `each`, with its cells
unfoldable pub emit_each : {A B C : Type 0} → (B → Built) → (B → ℕ → C) → (A → Answer B) → ℕ → List A
    → Answer (Entries C)
emit_each key mark f n as' = each f as' >>= λ bs. ok (entries_of key mark n bs)

-- one entry
unfoldable pub entry_of : {B C : Type 0} → (B → Built) → (B → ℕ → C) → ℕ → B → List Cell × C × ℕ
entry_of key mark n b = (cells n (key b), mark b (root n (key b)), n + built_count (key b))

unfoldable pub emit_entry : {A B C : Type 0} → (B → Built) → (B → ℕ → C) → (A → Answer B) → ℕ → A
    → Answer (List Cell × C × ℕ)
emit_entry key mark f n a = f a >>= λ b. ok (entry_of key mark n b)

-- AFTER
pub after_none : {C : Type 0} (n : ℕ) (r : Answer (Entries C)) → after ([], [], n) r ≡ r
unfolding after joined ◌>>=◌
after_none n (ok q) = refl
after_none n (refused w) = refl

pub after-end : {C : Type 0} (p : Entries C) → after p (ok ([], [], p.2)) ≡ ok p
unfolding after joined ◌>>=◌
after-end p = ap ok (entries-same (append-nil p.0) (append-nil p.1) refl)

pub after-refused : {C : Type 0} (p : Entries C) (w : Refusal) → after p (refused w) ≡ refused w
unfolding after ◌>>=◌
after-refused p w = refl

pub after-after : {C : Type 0} (p q : Entries C) (r : Answer (Entries C)) → after p (after q r) ≡ after (joined p q) r
unfolding after joined ◌>>=◌
after-after p q (ok t) = ap ok
    (entries-same (sym (append_assoc p.0 q.0 t.0)) (sym (append_assoc p.1 q.1 t.1)) refl)
after-after p q (refused w) = refl

-- EACH
module _ {A B C : Type 0} (key : B → Built) (mark : B → ℕ → C) (f : A → Answer B) where
  pub entries-append : (bs cs : List B) (n : ℕ) → entries_of key mark n (bs ++ cs)
      ≡ joined (entries_of key mark n bs) (entries_of key mark (n + count_all (map key bs)) cs)
  unfolding entries_of joined numbered cells_all count_all
  entries-append [] cs n = rw add-zero
  entries-append (b ∷ bs) cs n =
      let h = entries-append bs cs (n + built_count (key b)) in
      entries-same (rw (ap (λ p. p.0) h, add_assoc, append_assoc)) (rw (ap (λ p. p.1) h, add_assoc))
      (rw (← add_assoc, ap (λ p. p.2) h, ← add_assoc))

  pub each-end : (n : ℕ) → emit_each key mark f n [] ≡ ok ([], [], n)
  unfolding emit_each each entries_of numbered cells_all count_all ◌>>=◌
  each-end n = ap ok (entries-same refl refl (omega arith))

  pub each-joined : (xs ys : List A) (n : ℕ) → emit_each key mark f n (xs ++ ys)
      ≡ emit_each key mark f n xs >>= λ p. after p (emit_each key mark f p.2 ys)
  unfolding ◌>>=◌ after entries_of count_all emit_each
  each-joined xs ys n = rw (each_append f xs ys) (go (each f xs) (each f ys))
    where
      go : (r t : Answer (List B)) → ((r >>= λ bs. t >>= λ cs. ok (bs ++ cs)) >>= λ bs. ok (entries_of key mark n bs))
          ≡ ((r >>= λ bs. ok (entries_of key mark n bs))
          >>= λ p. after p (t >>= λ bs. ok (entries_of key mark p.2 bs)))
      go (ok bs) (ok cs) = ap ok (entries-append bs cs n)
      go (ok bs) (refused w) = refl
      go (refused w) t = refl

  pub each_more : (a : A) (as' : List A) (n : ℕ) → emit_each key mark f n (a ∷ as')
      ≡ emit_entry key mark f n a >>= λ p. after (p.0, p.1 ∷ [], p.2) (emit_each key mark f p.2 as')
  unfolding ◌>>=◌ after joined entries_of entry_of numbered cells_all count_all emit_each emit_entry each
  each_more a as' n = go (f a) (each f as')
    where
      go : (b : Answer B) (r : Answer (List B))
          → ((b >>= λ y. r >>= λ ys. ok (y ∷ ys)) >>= λ bs. ok (entries_of key mark n bs))
          ≡ ((b >>= λ y. ok (entry_of key mark n y))
          >>= λ p. after (p.0, p.1 ∷ [], p.2) (r >>= λ bs. ok (entries_of key mark p.2 bs)))
      go (ok y) (ok ys) = ap ok (entries-same refl refl (omega arith))
      go (ok y) (refused w) = refl
      go (refused w) r = refl

  -- LOOPS: so far p, then an entry and the rest
  pub each_step : (p : Entries C) (a : A) (as' : List A) (xs : List Cell) (c : C) (m : ℕ)
      → emit_entry key mark f p.2 a ≡ ok (xs, c, m)
      → after p (emit_each key mark f p.2 (a ∷ as'))
      ≡ after (p.0 ++ xs, p.1 ++ (c ∷ []), m) (emit_each key mark f m as')
  unfolding ◌>>=◌ joined
  each_step p a as' xs c m e =
      rw (each_more a as' p.2, e) (after-after p (xs, c ∷ [], m) (emit_each key mark f m as'))

  pub each-stop : (p : Entries C) (a : A) (as' : List A) (w : Refusal) → emit_entry key mark f p.2 a ≡ refused w
      → after p (emit_each key mark f p.2 (a ∷ as')) ≡ refused w
  unfolding ◌>>=◌ after
  each-stop p a as' w e = rw (each_more a as' p.2, e)

  pub each-done : (p : Entries C) → after p (emit_each key mark f p.2 []) ≡ ok p
  each-done p = rw (each-end p.2) (after-end p)

  -- what was built where these entries are given
  pub record Listed (as' : List A) (n : ℕ) (xs : List Cell) (cs : List C) (m : ℕ) : Type 0 where
    pub built : List B
    pub answer : each f as' ≡ ok built
    pub cells : cells_all n (map key built) ≡ xs
    pub numbers : numbered key mark n built ≡ cs
    pub next : n + count_all (map key built) ≡ m

  pub each-ok : (as' : List A) (n : ℕ) (xs : List Cell) (cs : List C) (m : ℕ)
      → emit_each key mark f n as' ≡ ok (xs, cs, m)
      → Listed as' n xs cs m
  unfolding emit_each ◌>>=◌ entries_of
  each-ok as' n xs cs m e = go (each f as') refl e
    where
      go : (r : Answer (List B)) → each f as' ≡ r → (r >>= λ bs. ok (entries_of key mark n bs)) ≡ ok (xs, cs, m)
          → Listed as' n xs cs m
      go (ok bs) q g =
          let t : ◌≡◌ {A = Entries C} (entries_of key mark n bs) (xs, cs, m) = cc in
          record {
            built = bs;
            answer = q;
            cells = ap (λ p. p.0) t;
            numbers = ap (λ p. p.1) t;
            next = ap (λ p. p.2) t;
          }
      go (refused w) q g = grind arith

  pub each-refused : (as' : List A) (n : ℕ) (w : Refusal) → emit_each key mark f n as' ≡ refused w
      → each f as' ≡ refused w
  unfolding emit_each ◌>>=◌
  each-refused as' n w e = go (each f as') e
    where
      go : (r : Answer (List B)) → (r >>= λ bs. ok (entries_of key mark n bs)) ≡ refused w → r ≡ refused w
      go (ok bs) g = ok-not-refused (entries_of key mark n bs) w g
      go (refused v) g = let q : v ≡ w = cc in ap refused q
