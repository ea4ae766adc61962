-- What `finish` leaves in the area: the header, the cells, the nodes, the statement's own numbers, and zeros.
use Rattle.std.specs.Prelude.{ℕ, ◌+◌, ◌*◌, ◌-◌, ◌≤◌, ◌≡◌, refl, List, [], ◌∷◌, ◌++◌, length, take, drop, replicate}
use Rattle.std.proofs.Common.{arith, sym, ◌∙◌, append_assoc, append-nil, take-add, drop_at, drop_of_length-le, length-take-le}
use Rattle.std.proofs.lemmas.List.{length-replicate, length-drop}
use Rattle.std.proofs.lemmas.Slice.{put_mid-paste}
use borrow.Rule.Slice.PartMut.{put_mid}
use Rattle.std.proofs.lemmas.List.Edits.{sets, sets-eq, length-paste, take-paste, paste_all}
use Rattle.std.proofs.Math.Seq.{paste, length-sets, take-append-add}
use Rattle.rules.specs.Area.{layout, header_size}
use Rattle.appends.specs.Area.{header_of}
use Rattle.plan.specs.Layout.{cells_end}

-- CLEARED: all from place i on is zero
unfoldable pub cleared : ℕ → List ℕ → List ℕ
cleared i t = take i t ++ replicate (length t - i) 0

pub cleared-rest : (i : ℕ) (t zs : List ℕ) → i ≤ length t
    → zs ≡ replicate (length (take (length t - i) (drop i t))) 0 → put_mid i (length t - i) t zs ≡ cleared i t
unfolding cleared
cleared-rest i t zs h e =
    let n : length (take (length t - i) (drop i t)) ≡ length t - i =
    length-take-le (length t - i) (drop i t) (omega (arith, length-drop i t)) in
    let l : length t - i ≡ length (replicate {A = ℕ} (length t - i) 0) = sym (length-replicate (length t - i) 0) in
    put_mid-paste i (length t - i) t zs (replicate (length t - i) 0) (length t - i) (rw n at e) refl l
    ∙ paste_all t i (replicate (length t - i) 0) (length t - i) l
    ∙ rw (drop_of_length-le t {i = i + (length t - i)} (omega arith), append-nil)

pub cleared-all : (t : List ℕ) → cleared 0 t ≡ replicate (length t) 0
unfolding cleared
cleared-all t = let z : length t - 0 ≡ length t = omega arith in rw z

-- FINISHED: n cells stand in t behind the header's place, m nodes are the first k numbers of s, and the own numbers
-- those from k to e
unfoldable pub finished : ℕ → ℕ → ℕ → ℕ → ℕ → List ℕ → List ℕ → List ℕ
finished c n m k e s t =
    header_of c n m k (e - k)
    ++ (drop header_size (take (cells_end n) t) ++ (take e s ++ replicate (length t - (cells_end n + e)) 0))

-- by its three steps
pub finished-steps : (c n m k e : ℕ) (s t t₁ t₂ t₃ : List ℕ) → k ≤ e → e ≤ length s → cells_end n + e ≤ length t
    → t₁ ≡ sets t 0 (layout ∷ c ∷ n ∷ m ∷ (cells_end n + k) ∷ (cells_end n + e) ∷ [])
    → t₂ ≡ paste t₁ (cells_end n) s e → t₃ ≡ cleared (cells_end n + e) t₂ → t₃ ≡ finished c n m k e s t
unfolding cleared finished header_of
finished-steps c n m k e s t t₁ t₂ t₃ a b d f g h =
    let hs : List ℕ = layout ∷ c ∷ n ∷ m ∷ (cells_end n + k) ∷ (cells_end n + e) ∷ [] in
    let z : cells_end n + k + (e - k) ≡ cells_end n + e = omega (arith, a) in
    let l₁ : length t₁ ≡ length t = rw f (length-sets t 0 hs) in
    let l₂ : length t₂ ≡ length t = rw g (length-paste t₁ (cells_end n) s e (omega (arith, l₁, d)) b ∙ l₁) in
    let p : t₁ ≡ hs ++ drop header_size t = f ∙ sets-eq hs t 0 (omega (arith, d)) in
    let q : take (cells_end n) t₁ ≡ hs ++ take (4 * n) (drop header_size t) =
    rw p (take-append-add hs (drop header_size t) (4 * n)) in
    let r : drop header_size (take (cells_end n) t) ≡ take (4 * n) (drop header_size t) =
    rw (take-add header_size (4 * n) t) (drop_at (take header_size t) (take (4 * n) (drop header_size t)) header_size
    (length-take-le header_size t (omega (arith, d)))) in
    let y : take (cells_end n + e) t₂ ≡ take (cells_end n) t₁ ++ take e s =
    rw g (take-paste t₁ (cells_end n) s e (omega (arith, l₁, d)) b) in
    rw (h, y, q, l₂, r, z) (append_assoc (hs ++ take (4 * n) (drop header_size t)) (take e s)
    (replicate (length t - (cells_end n + e)) 0)
    ∙ append_assoc hs (take (4 * n) (drop header_size t)) (take e s ++ replicate (length t - (cells_end n + e)) 0))
