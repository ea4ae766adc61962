-- A right join's columns swapped back: the first a behind the b that follow them.
use Rattle.std.proofs.lemmas.List.{append_assoc, drop-take, take-append-drop, take-append-le}
use Rattle.std.proofs.lemmas.Slice.{drop-append-drop}
use Rattle.std.specs.Prelude.{ℕ, ◌+◌, ◌-◌, ◌≤◌, ◌≡◌, List, ◌++◌, length, take, drop}
use Rattle.std.proofs.Common.{arith, ap, sym, ◌∙◌, length-append, length-drop, take_at, take_all, length-take-le}
use Rattle.rules.specs.Lists.{Bytes}
use Rattle.rules.specs.Ast.{Expr}
use Rattle.rules.specs.Scope as rules
use Rattle.rules.specs.BuildFrom.{swapped}
use Rattle.scope.specs.Labels.{tables_of, columns_of, columns-length}
use Rattle.scope.specs.Slots.{below-append, below-take, below-drop}
use Rattle.scope.specs.Scopes.{scope_of, Valid, Plain, plain-scope, labels_of, table_numbers}
use Rattle.scope.specs.Remap.{remap-swapped, columns-swapped}
use Rattle.scope.specs.declared.Scope.{Scope}

-- numbers of which the first a stand behind the b that follow them, by two writes over what a copy has
pub rotated : (xs : List ℕ) {ys zs ps qs : List ℕ} (a b : ℕ) → a + b ≤ length xs → ps ≡ take (a + b - a) (drop a xs) → qs ≡ take a xs
    → ys ≡ take 0 xs ++ (ps ++ drop (0 + length ps) xs) → zs ≡ take b ys ++ (qs ++ drop (b + length qs) ys)
    → zs ≡ (drop a (take (a + b) xs) ++ take a (take (a + b) xs)) ++ drop (a + b) xs
rotated xs {ys} {zs} {ps} {qs} a b h p q y z =
    let n : a + b - a ≡ b = omega arith in
    let p' : ps ≡ take b (drop a xs) = rw n at p in
    let np : length ps ≡ b = rw p' (length-take-le b (drop a xs) (omega (arith, h, length-drop a xs))) in
    let nq : length qs ≡ a = rw q (length-take-le a xs (omega (arith, h))) in
    let e : 0 + b ≡ b = omega arith in
    let y' : ys ≡ ps ++ drop b xs = y ∙ rw (np, e) in
    let t : take b ys ≡ ps = rw y' (take_at ps (drop b xs) b np) in
    let d : drop (b + length qs) ys ≡ drop (a + b) xs =
    let m : b + length qs ≡ a + b = omega (arith, nq) in
    rw (m, y') (drop-append-drop b xs ps (a + b) (omega arith) np) in
    let f : take a (take (a + b) xs) ≡ take a xs =
    sym (take-append-le a (take (a + b) xs) (drop (a + b) xs) (omega (arith, length-take-le (a + b) xs h)))
    ∙ ap (take a) (take-append-drop (a + b) xs) in
    z ∙ rw (t, d, f, drop-take a b xs, p', q) (sym (append_assoc (take b (drop a xs)) (take a xs) (drop (a + b) xs)))

-- a join's scope, whose sides have a columns and b
pub record Swappable (s : Scope) (a b : ℕ) : Type 0 where
  pub valid : Valid s
  pub plain : Plain s
  pub all : a + b ≡ s.width

pub record Swapped (s : Scope) (a b : ℕ) (r : Scope) : Type 0 where
  pub valid : Valid r
  pub plain : Plain r
  pub count : r.count ≡ s.count
  pub is : (e : ℕ → Expr) (c q : Bytes) → scope_of e c q r ≡ rules.remap (scope_of e c q s) (swapped a b)

-- the numbers in use, swapped
swapped-is : (e : ℕ → Expr) (c q : Bytes) {s r : Scope} {a b : ℕ} → Swappable s a b → Plain r
    → table_numbers r ≡ table_numbers s → labels_of r ≡ take b (drop a (labels_of s)) ++ take a (labels_of s)
    → scope_of e c q r ≡ rules.remap (scope_of e c q s) (swapped a b)
swapped-is e c q {s} {r} {a} {b} t p et el =
    let w : length (labels_of s) ≡ s.width =
    length-take-le s.width s.labels (omega (arith, t.valid.width, t.valid.labels-room)) in
    let n : a + b ≡ length (columns_of c q (table_numbers s) (labels_of s)) =
    t.all ∙ sym (columns-length c q (table_numbers s) (labels_of s) ∙ w) in
    plain-scope e c q r p
    ∙ (rw (et, el, columns-swapped c q (table_numbers s) (labels_of s) a b)
    (sym (remap-swapped (columns_of c q (table_numbers s) (labels_of s)) (tables_of c q (table_numbers s)) a b n)))
    ∙ ap (λ (x : rules.Scope). rules.remap x (swapped a b)) (sym (plain-scope e c q s t.plain))

-- the labels in use are rotated
pub swapped-rotated : {s : Scope} {a b : ℕ} (r : Scope) → Swappable s a b
    → r.labels ≡ (drop a (take (a + b) s.labels) ++ take a (take (a + b) s.labels)) ++ drop (a + b) s.labels
    → r.matches ≡ s.matches → r.tables ≡ s.tables → r.width ≡ s.width → r.count ≡ s.count → r.hidden ≡ s.hidden
    → Swapped s a b r
swapped-rotated {s} {a} {b} r t el em et ew ec eh =
    let m : List ℕ = take (a + b) s.labels in
    let room : a + b ≤ length s.labels = omega (arith, t.all, t.valid.width, t.valid.labels-room) in
    let n : length m ≡ a + b = length-take-le (a + b) s.labels room in
    let k : length (drop a m ++ take a m) ≡ a + b =
    omega (arith, length-append (drop a m) (take a m), length-drop a m, length-take-le a m (omega (arith, n)), n) in
    let g : take b (drop a m) ≡ drop a m = take_all b (drop a m) (omega (arith, length-drop a m, n)) in
    let f : labels_of r ≡ take b (drop a (labels_of s)) ++ take a (labels_of s) =
    rw (ew, ← t.all, el, g) (take_at (drop a m ++ take a m) (drop (a + b) s.labels) (a + b) k) in
    let p : Plain r = record { unmatched = rw em t.plain.unmatched; shown = eh ∙ t.plain.shown } in
    let ts : table_numbers r ≡ table_numbers s = rw (ec, et) in
    record {
      valid = record {
        width = omega (arith, t.valid.width, ew);
        tables = omega (arith, t.valid.tables, ec);
        slots = rw (f, ec) (below-append (below-take b (below-drop a t.valid.slots)) (below-take a t.valid.slots));
        labels-room = rw el (omega (
          arith,
          length-append (drop a m ++ take a m) (drop (a + b) s.labels),
          k,
          length-drop (a + b) s.labels,
          room,
          t.valid.labels-room,
        ));
        matches-room = ap length em ∙ t.valid.matches-room;
        tables-room = ap length et ∙ t.valid.tables-room;
      };
      plain = p;
      count = ec;
      is = λ e c q. swapped-is e c q t p ts f;
    }
