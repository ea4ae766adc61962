-- The loops over parts of n numbers each, and the fields of parts and nodes by their numbers.
use Rattle.std.specs.Prelude.{ℕ, suc, ◌+◌, ◌*◌, ◌/◌, ◌^◌, ◌<◌, ◌≡◌, refl, List, [], ◌∷◌, ◌++◌, length, get_or, drop, take, Some, None}
use Rattle.std.specs.Slice.Iter.{chunks_exact_rest, chunks_exact_size, chunks_exact_steps}
use Rattle.std.specs.declared.slice.ChunksExact.{ChunksExact}
use Rattle.std.proofs.Common.{Bor, arith, add-one, sym, ap, ◌∙◌, append_assoc, append-nil, length-append}
use Rattle.std.proofs.Math.Nat.{add-div_left, div-eq_of_lt}
use Rattle.rules.specs.Lists.{Bytes}
use Rattle.listing.specs.declared.put.Writer.{Writer}
use Rattle.listing.specs.Fields.{FieldsIn, fields-none, fields-then, fields-same}
use Rattle.listing.specs.Lines.{each, listed, each_first}
use Rattle.rules.specs.Lines.{bytes}
use Rattle.rules.specs.Places.{bytes_at}
use Rattle.rules.specs.Print.{decimal_of}
use Rattle.listing.specs.Words.{word_of}
use Rattle.listing.specs.Nodes.{alias_fields, given_fields, number_fields, function_fields, functions_fields, item_fields}
use Rattle.listing.specs.Nodes.{items_fields, key_fields, keys_fields, targets_fields, scan_fields, join_fields}
use Rattle.listing.specs.Nodes.{filter_fields, aggregate_fields, project_fields, order_fields, limit_fields, remap_fields}
use Rattle.listing.specs.Nodes.{node_rest, node_word, node_fields, node_line}

-- the fields that e gives for each part of s, by the part's numbers
abbrev parts : ℕ → (List ℕ → List Bytes) → List ℕ → List Bytes
parts n e s = each (length s / n) n (λ i. e) s

-- the fields of the first parts are put, and those of the parts in it are left
pub record PartLoop (w w' : Writer) (n : ℕ) (e : Bytes → Bytes → List ℕ → List Bytes) (s : List ℕ) (it : ChunksExact ℕ) : Type 0 where
  pub size : chunks_exact_size it ≡ n
  pub done : Bytes → Bytes → List Bytes
  pub put : FieldsIn w w' done
  pub rest : (c q : Bytes) → done c q ++ parts n (e c q) (chunks_exact_rest it) ≡ parts n (e c q) s

module _ {n : ℕ} (e : Bytes → Bytes → List ℕ → List Bytes) (s : List ℕ) where
  pub parts-begin : {w : Writer} {it chunks : ChunksExact ℕ} → it ≡ chunks → chunks_exact_size chunks ≡ n → chunks_exact_rest chunks ≡ s
      → PartLoop w w n e s it
  parts-begin i g f = record { size = ap chunks_exact_size i ∙ g; done = λ c q. []; put = fields-none; rest = λ c q. rw (i, f) refl }

  pub parts-more : {w w' w'' : Writer} {it it' : ChunksExact ℕ} (x : Bor (List ℕ)) → PartLoop w w' n e s it → chunks_exact_steps it (Some x) it'
      → 0 < n → ((c q : Bytes) (u t : List ℕ) → length u ≡ n → e c q (u ++ t) ≡ e c q u)
      → FieldsIn w' w'' (λ c q. e c q x.now) → PartLoop w w'' n e s it'
  parts-more {it = it} {it' = it'} x h step pos only f = record {
    size = step.0 ∙ h.size;
    done = λ c q. h.done c q ++ e c q x.now;
    put = fields-then h.put f;
    rest = λ c q.
        let t = chunks_exact_rest it' in
        let l : length x.now ≡ n = step.1.1 ∙ h.size in
        let k : length (x.now ++ t) / n ≡ suc (length t / n) = rw (length-append x.now t, l) (add-div_left (length t) pos ∙ add-one (length t / n)) in
        let first : parts n (e c q) (x.now ++ t) ≡ e c q x.now ++ parts n (e c q) t =
        ap (λ j. each j n (λ i. e c q) (x.now ++ t)) k ∙ each_first (length t / n) n (λ i. e c q) x.now t l
        ∙ ap (λ y. y ++ parts n (e c q) t) (only c q x.now t l) in
        append_assoc (h.done c q) (e c q x.now) (parts n (e c q) t) ∙ ap (λ y. h.done c q ++ y) (sym first)
        ∙ (rw step.1.0 at (h.rest c q));
  }

  pub parts-all : {w w' : Writer} {it : ChunksExact ℕ} → PartLoop w w' n e s it → {it' : ChunksExact ℕ} → chunks_exact_steps it None it'
      → FieldsIn w w' (λ c q. parts n (e c q) s)
  unfolding each listed
  parts-all {it = it} h step =
      let k : length (chunks_exact_rest it) / n ≡ 0 = div-eq_of_lt (rw h.size at step.1.0) in
      fields-same h.put (λ c q. sym (append-nil (h.done c q)) ∙ (rw k at (h.rest c q)))

-- what is given by the first numbers of a part is the same whatever stands behind it
pub two-only : {B : Type 0} (f : ℕ → ℕ → B) (u t : List ℕ) → length u ≡ 2
    → f (get_or (u ++ t) 0 0) (get_or (u ++ t) 1 0) ≡ f (get_or u 0 0) (get_or u 1 0)
two-only f [] t h = absurd (omega (arith, h))
two-only f (a ∷ []) t h = absurd (omega (arith, h))
two-only f (a ∷ b ∷ u) t h = refl

pub three-only : {B : Type 0} (f : ℕ → ℕ → ℕ → B) (u t : List ℕ) → length u ≡ 3
    → f (get_or (u ++ t) 0 0) (get_or (u ++ t) 1 0) (get_or (u ++ t) 2 0) ≡ f (get_or u 0 0) (get_or u 1 0) (get_or u 2 0)
three-only f [] t h = absurd (omega (arith, h))
three-only f (a ∷ []) t h = absurd (omega (arith, h))
three-only f (a ∷ b ∷ []) t h = absurd (omega (arith, h))
three-only f (a ∷ b ∷ x ∷ u) t h = refl

-- THE NUMBERS of parts and of nodes are the area's
pub item-same : (c q : Bytes) (i : ℕ) (t : List ℕ) {x a n : ℕ} → x ≡ get_or t 0 0 → a ≡ get_or t 1 0 → n ≡ get_or t 2 0
    → decimal_of x ∷ alias_fields c q a n ≡ item_fields c q i t
unfolding item_fields
item-same c q i t e f g = rw (e, f, g)

pub function-same : (i : ℕ) (t : List ℕ) {f x : ℕ} → f ≡ get_or t 0 0 → x ≡ get_or t 1 0
    → word_of (bytes " avg count max min sum ") f ∷ decimal_of x ∷ [] ≡ function_fields i t
unfolding function_fields
function-same i t e f = rw (e, f)

pub key-same : (i : ℕ) (t : List ℕ) {x d : ℕ} → x ≡ get_or t 0 0 → d ≡ get_or t 1 0
    → decimal_of x ∷ word_of (bytes "asc desc ") d ∷ [] ≡ key_fields i t
unfolding key_fields
key-same i t e f = rw (e, f)

pub scan-same : (c q : Bytes) (b : List ℕ) {x y z u v : ℕ} → x ≡ get_or b 0 0 → y ≡ get_or b 1 0 → z ≡ get_or b 2 0
    → u ≡ get_or b 3 0 → v ≡ get_or b 4 0
    → bytes_at c q x y ∷ (alias_fields c q u v ++ given_fields z) ≡ scan_fields c q b
unfolding scan_fields
scan-same c q b e f g h k = rw (e, f, g, h, k)

pub join-same : (b : List ℕ) {x y z u : ℕ} → x ≡ get_or b 0 0 → y ≡ get_or b 1 0 → z ≡ get_or b 2 0 → u ≡ get_or b 3 0
    → decimal_of x ∷ decimal_of y ∷ word_of (bytes "inner outer ") z ∷ given_fields u ≡ join_fields b
unfolding join_fields
join-same b e f g h = rw (e, f, g, h)

pub filter_same : (b : List ℕ) {x y : ℕ} → x ≡ get_or b 0 0 → y ≡ get_or b 1 0
    → decimal_of x ∷ decimal_of y ∷ [] ≡ filter_fields b
unfolding filter_fields
filter_same b e f = rw (e, f)

pub aggregate-same : (b : List ℕ) {x n : ℕ} {t u : List ℕ} → x ≡ get_or b 0 0 → n ≡ get_or b 1 0 → t ≡ drop 2 b
    → u ≡ drop (2 + n) b → decimal_of x ∷ (each n 1 number_fields t ++ functions_fields u) ≡ aggregate_fields b
unfolding aggregate_fields
aggregate-same b e f g h = rw (h, g, e, f)

pub project-same : (c q : Bytes) (b : List ℕ) {x : ℕ} {t : List ℕ} → x ≡ get_or b 0 0 → t ≡ drop 1 b
    → decimal_of x ∷ items_fields c q t ≡ project_fields c q b
unfolding project_fields
project-same c q b e f = rw (e, f)

pub order_same : (b : List ℕ) {x : ℕ} {t : List ℕ} → x ≡ get_or b 0 0 → t ≡ drop 1 b
    → decimal_of x ∷ keys_fields t ≡ order_fields b
unfolding order_fields
order_same b e f = rw (e, f)

pub remap-same : (b : List ℕ) {x : ℕ} {t : List ℕ} → x ≡ get_or b 0 0 → t ≡ drop 1 b
    → decimal_of x ∷ targets_fields t ≡ remap_fields b
unfolding remap_fields
remap-same b e f = rw (e, f)

pub limit-same : (b : List ℕ) {x n y z : ℕ} → x ≡ get_or b 0 0 → n ≡ y + z * 2 ^ 32 → y ≡ get_or b 1 0 → z ≡ get_or b 2 0
    → decimal_of x ∷ decimal_of n ∷ [] ≡ limit_fields b
unfolding limit_fields
limit-same b e f g h = rw (e, f, g, h)

pub node-same : (c q : Bytes) (i : ℕ) (s : List ℕ) {k n : ℕ} {t b : List ℕ} → k ≡ get_or s 0 0 → n ≡ get_or s 1 0
    → t ≡ drop 2 s → b ≡ take n t
    → (bytes "node" ∷ decimal_of i ∷ node_word k ∷ node_rest c q k b) ∷ [] ≡ node_line c q i s
unfolding node_line node_fields
node-same c q i s e f g h = rw (h, g, f, e)
