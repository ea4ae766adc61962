-- The remap that drops hidden columns: a target for each column that is shown, none for a hidden one.
use Rattle.std.specs.Prelude.{ℕ, zero, suc, ◌+◌, ◌-◌, ◌≤◌, ◌<◌, ◌≡◌, refl, Bool, true, false, List, [], ◌∷◌, ◌++◌, map, eqb, length, get_or}
use Rattle.std.proofs.Common.{arith, add-one, ap, sym, ◌∙◌, length-append, length-take-le, ne_eqb}
use Rattle.std.proofs.Math.Option.{Option, none, some, none-ne-some}
use Rattle.std.proofs.Math.Dec.{ltb}
use Rattle.std.specs.Bool.{then_some}
use Rattle.std.proofs.lemmas.List.{length-map}
use Rattle.std.proofs.lemmas.Bool.{eqb-false, ltb-true, ltb-false}
use Rattle.rules.specs.Lists.{Bytes, any, is_empty}
use Rattle.rules.specs.Ast.{Expr}
use Rattle.rules.specs.Scope as rules
use Rattle.rules.specs.Scope.{targets_from, remap_hidden}
use Rattle.rules.specs.Area.{option_number}
use Rattle.rules.specs.BuildFrom.{rising}
use Rattle.claims.specs.Widths.Swapped.{length-rising}
use Rattle.numbers.specs.Options.{option_of}
use Rattle.scope.specs.Labels.{columns-length}
use Rattle.scope.specs.Scopes.{up_to, scope_from, scope_of, Valid, labels_of, table_numbers}
use Rattle.scope.specs.declared.Scope.{Scope}

unfoldable pub nones : ℕ → List (Option ℕ)
nones zero = []
nones (suc n) = none ∷ nones n

-- the targets for a width w, h of it hidden; none where nothing is
unfoldable pub hidden_targets : ℕ → ℕ → Option (List (Option ℕ))
hidden_targets w zero = none
hidden_targets w (suc h) = some (rising 0 (w - suc h) ++ nones (suc h))

among_below : (i k h : ℕ) → i < k → any (eqb i) (up_to k h) ≡ false
unfolding any up_to
among_below i k zero l = refl
among_below i k (suc h) l = rw (any, ne_eqb i k (λ e. omega (arith, e))) (among_below i (suc k) h (omega arith))

among_in : (i k h : ℕ) → k ≤ i → i < k + h → any (eqb i) (up_to k h) ≡ true
unfolding any up_to
among_in i k zero l m = absurd (omega arith)
among_in i k (suc h) l m = go (eqb i k) refl (λ z. among_in i (suc k) h (omega arith) (omega arith))
  where
    go : (b : Bool) → eqb i k ≡ b → ((i ≡ k → ⊥) → any (eqb i) (up_to (suc k) h) ≡ true)
        → any (eqb i) (k ∷ up_to (suc k) h) ≡ true
    go true e f = rw (any, e)
    go false e f = rw (any, e) (f (eqb-false i k e))

targets-hidden : (hs : List ℕ) (n i t : ℕ) → ((j : ℕ) → i ≤ j → j < i + n → any (eqb j) hs ≡ true)
    → targets_from hs n i t ≡ nones n
unfolding targets_from nones
targets-hidden hs zero i t f = refl
targets-hidden hs (suc n) i t f =
    rw (targets_from, f i (omega arith) (omega arith))
    (ap (λ l. none ∷ l) (targets-hidden hs n (suc i) t (λ j l m. f j (omega arith) (omega arith))))

targets-shown : (hs : List ℕ) (m n i t : ℕ) → ((j : ℕ) → i ≤ j → j < i + m → any (eqb j) hs ≡ false)
    → targets_from hs (m + n) i t ≡ rising t m ++ targets_from hs n (i + m) (t + m)
unfolding targets_from rising
targets-shown hs zero n i t f =
    let a : i + 0 ≡ i = omega arith in
    let b : t + 0 ≡ t = omega arith in
    let z : 0 + n ≡ n = omega arith in
    rw (a, b, z)
targets-shown hs (suc m) n i t f =
    let a : i + suc m ≡ suc i + m = omega arith in
    let b : t + suc m ≡ suc t + m = omega arith in
    let z : suc m + n ≡ suc (m + n) = omega arith in
    let g : any (eqb i) hs ≡ false = f i (omega arith) (omega arith) in
    rw (a, b, z, targets_from, g, add-one t)
    (ap (λ l. some t ∷ l) (targets-shown hs m n (suc i) (suc t) (λ j l k. f j (omega arith) (omega arith))))

targets-both : (k h : ℕ) → targets_from (up_to k h) (k + h) 0 0 ≡ rising 0 k ++ nones h
targets-both k h =
    targets-shown (up_to k h) k h 0 0 (λ j l m. among_below j k h (omega arith))
    ∙ ap (λ l. rising 0 k ++ l)
    (targets-hidden (up_to k h) h (0 + k) (0 + k) (λ j l m. among_in j k h (omega arith) (omega arith)))

-- the targets for n columns of which hs are hidden
targets_for : List ℕ → ℕ → Option (List (Option ℕ))
targets_for hs n = elim (is_empty hs) [ true ↦ none | false ↦ some (targets_from hs n 0 0) ]

targets-for : (w h : ℕ) → h ≤ w → targets_for (up_to (w - h) h) w ≡ hidden_targets w h
unfolding targets_for hidden_targets up_to is_empty
targets-for w zero l = refl
targets-for w (suc h) l =
    let z : w ≡ w - suc h + suc h = omega arith in
    let t : targets_from (up_to (w - suc h) (suc h)) w 0 0 ≡ rising 0 (w - suc h) ++ nones (suc h) =
    rw (← z) at (targets-both (w - suc h) (suc h)) in
    ap some t

hidden-targets : (s : rules.Scope) (w h : ℕ) → h ≤ w → rules.width s ≡ w → s.hidden ≡ up_to (w - h) h
    → remap_hidden s ≡ hidden_targets w h
unfolding remap_hidden targets_for
hidden-targets s w h l ew e =
    ap (λ hs. targets_for hs (rules.width s)) e ∙ ap (targets_for (up_to (w - h) h)) ew ∙ targets-for w h l

pub remap-hidden : (e : ℕ → Expr) (c q : Bytes) (s : Scope) → Valid s → s.hidden ≤ s.width
    → remap_hidden (scope_of e c q s) ≡ hidden_targets s.width s.hidden
unfolding scope_of scope_from rules.width
remap-hidden e c q s v h =
    let n : length (labels_of s) ≡ s.width =
    length-take-le s.width s.labels (omega (arith, v.width, v.labels-room)) in
    let w : rules.width (scope_of e c q s) ≡ s.width = columns-length c q (table_numbers s) (labels_of s) ∙ n in
    hidden-targets (scope_of e c q s) s.width s.hidden h w (rw n)

-- AS NUMBERS
-- the targets of a width w, h of it hidden, as a plan has them
unfoldable pub target_numbers : ℕ → ℕ → List ℕ
target_numbers w h = map option_number (rising 0 (w - h) ++ nones h)

target-rising : (i n k : ℕ) (ts : List (Option ℕ)) → k < n
    → get_or (map option_number (rising i n ++ ts)) k 0 ≡ i + k + 1
unfolding rising option_number
target-rising i zero k ts h = absurd (omega arith)
target-rising i (suc n) zero ts h = omega arith
target-rising i (suc n) (suc k) ts h =
    let z : i + 1 + k + 1 ≡ i + suc k + 1 = omega arith in
    target-rising (i + 1) n k ts (omega arith) ∙ z

target_none : (h k : ℕ) → get_or (map option_number (nones h)) k 0 ≡ 0
unfolding nones option_number
target_none zero k = refl
target_none (suc h) zero = refl
target_none (suc h) (suc k) = target_none h k

target_past : (i n k h : ℕ) → n ≤ k → get_or (map option_number (rising i n ++ nones h)) k 0 ≡ 0
unfolding rising
target_past i zero k h l = target_none h k
target_past i (suc n) zero h l = absurd (omega arith)
target_past i (suc n) (suc k) h l = target_past (i + 1) n k h (omega arith)

-- a shown column, and a hidden one
pub target-shown : (w h k : ℕ) → k < w - h → k + 1 ≡ get_or (target_numbers w h) k 0
unfolding target_numbers
target-shown w h k l =
    let z : 0 + k + 1 ≡ k + 1 = omega arith in
    sym (target-rising 0 (w - h) k (nones h) l ∙ z)

pub target-hidden : (w h k : ℕ) → w - h ≤ k → 0 ≡ get_or (target_numbers w h) k 0
unfolding target_numbers
target-hidden w h k l = sym (target_past 0 (w - h) k h l)

-- a column's target, shown or hidden
pub target-at : (w h i : ℕ) {x : ℕ} → x ≡ option_number (option_of (then_some (ltb i (w - h)) i))
    → x ≡ get_or (target_numbers w h) i 0
unfolding option_number
target-at w h i {x} e = go (ltb i (w - h)) refl e
  where
    go : (b : Bool) → ltb i (w - h) ≡ b → x ≡ option_number (option_of (then_some b i)) → x ≡ get_or (target_numbers w h) i 0
    go true t e = e ∙ target-shown w h i (ltb-true i (w - h) t)
    go false t e = e ∙ target-hidden w h i (ltb-false i (w - h) t)

-- and it can be said
pub target-few : (n i : ℕ) → n < 4294967296 → option_number (option_of (then_some (ltb i n) i)) < 4294967296
unfolding option_number
target-few n i f = go (ltb i n) refl
  where
    go : (b : Bool) → ltb i n ≡ b → option_number (option_of (then_some b i)) < 4294967296
    go true t = omega (arith, ltb-true i n t, f)
    go false t = omega arith

-- one for each column
pub targets-length : (w h : ℕ) → h ≤ w → length (target_numbers w h) ≡ w
unfolding target_numbers rising nones
targets-length w h l =
    length-map (rising 0 (w - h) ++ nones h) option_number ∙ length-append (rising 0 (w - h)) (nones h)
    ∙ (let z : length (rising 0 (w - h)) + length (nones h) ≡ w =
    omega (arith, length-rising (w - h) 0, nones-length h) in z)
  where
    nones-length : (n : ℕ) → length (nones n) ≡ n
    nones-length zero = refl
    nones-length (suc n) = ap suc (nones-length n)

-- they are the numbers of the rules' targets
pub target-numbers : (w h : ℕ) (ts : List (Option ℕ)) → hidden_targets w h ≡ some ts → map option_number ts ≡ target_numbers w h
unfolding hidden_targets target_numbers
target-numbers w zero ts e = absurd (none-ne-some ts e)
target-numbers w (suc h) ts e = let z : rising 0 (w - suc h) ++ nones (suc h) ≡ ts = cc in ap (map option_number) (sym z)
