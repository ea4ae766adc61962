-- Bytes put into a window of a longer text.
use Rattle.std.specs.Prelude.{ℕ, zero, suc, ◌+◌, ◌-◌, ◌<◌, ◌≡◌, refl, List, [], ◌∷◌, ◌++◌, length, take, drop, get_or}
use Rattle.std.proofs.Common.{arith, add-one, sym, ap, ◌∙◌, append_assoc, append-nil, length-append, length-take, take-suc}
use Rattle.std.proofs.Math.Nat.{zero-sub, sub-zero, suc-sub-suc}
use Rattle.std.proofs.Math.Seq.{take-nil, drop-nil}
use Rattle.rules.specs.Lists.{Bytes}
use Rattle.listing.specs.declared.put.Writer.{Writer}

-- The bytes b, put into the window s, which is s' then. A position is how many bytes there are from it to the window's end: b
-- starts at the position at and ends at r. What stands before the window, or behind it, is passed over.
pub record Put (s s' : List ℕ) (at : ℕ) (b : Bytes) (r : ℕ) : Type 0 where
  pub room : length s' ≡ length s
  pub left : r ≡ at - length b
  pub written : take (length s - r) s' ≡ take (length s - at) s ++ drop (at - length s) (take at b)

pub put-none : (s : List ℕ) (at : ℕ) → Put s s at [] at
put-none s at = record {
  room = refl;
  left = omega arith;
  written = sym (rw (take-nil {A = ℕ} at, drop-nil {A = ℕ} (at - length s)) (append-nil (take (length s - at) s)));
}

take-both : (n : ℕ) (a b : Bytes) → take n (a ++ b) ≡ take n a ++ take (n - length a) b
take-both zero a b = rw (zero-sub (length a))
take-both (suc n) [] b = rw (sub-zero (suc n))
take-both (suc n) (x ∷ a) b = rw (suc-sub-suc n (length a)) (ap (λ r. x ∷ r) (take-both n a b))

drop-both : (n : ℕ) (a b : Bytes) → drop n (a ++ b) ≡ drop n a ++ drop (n - length a) b
drop-both zero a b = rw (zero-sub (length a))
drop-both (suc n) [] b = rw (sub-zero (suc n))
drop-both (suc n) (x ∷ a) b = rw (suc-sub-suc n (length a)) (drop-both n a b)

-- the part of a ++ b that the window has
window-both : (k n m : ℕ) (a b : Bytes) → k ≡ n - m
    → drop k (take n (a ++ b)) ≡ drop k (take n a) ++ drop ((n - length a) - m) (take (n - length a) b)
window-both k n m a b e =
    let f : k - length (take n a) ≡ (n - length a) - m = omega (arith, length-take n a) in
    ap (drop k) (take-both n a b) ∙ drop-both k (take n a) (take (n - length a) b)
    ∙ ap (λ (i : ℕ). drop k (take n a) ++ drop i (take (n - length a) b)) f

-- one put behind the other
pub put_then : {s s₁ s₂ : List ℕ} {at x r : ℕ} {a b : Bytes} → Put s s₁ at a x → Put s₁ s₂ x b r
    → Put s s₂ at (a ++ b) r
put_then {s} {s₁} {s₂} {at} {x} {r} {a} {b} h g =
    let w : take (length s - r) s₂ ≡ take (length s - x) s₁ ++ drop (x - length s) (take x b) =
    rw h.room at g.written in
    record {
      room = g.room ∙ h.room;
      left = omega (arith, h.left, g.left, length-append a b);
      written = w
          ∙ ap (λ (l : List ℕ). l ++ drop (x - length s) (take x b)) h.written
          ∙ append_assoc (take (length s - at) s) (drop (at - length s) (take at a)) (drop (x - length s) (take x b))
          ∙ ap (λ (l : List ℕ). take (length s - at) s ++ l)
          (sym (window-both (at - length s) at (length s) a b refl
          ∙ ap (λ (i : ℕ). drop (at - length s) (take at a) ++ drop (i - length s) (take i b)) (sym h.left)));
    }

pub put_same : {s s' : List ℕ} {at r : ℕ} {a b : Bytes} → Put s s' at a r → a ≡ b → Put s s' at b r
put_same h e = rw (← e) h

-- the bytes b put by a writer: its window and its texts stay the same ones
pub record Puts (w w' : Writer) (b : Bytes) : Type 0 where
  pub window : w'.window.ghost_name ≡ w.window.ghost_name
  pub texts : w'.texts ≡ w.texts
  pub put : Put w.window.now w'.window.now w.left b w'.left

pub puts-then : {w w₁ w₂ : Writer} {a b : Bytes} → Puts w w₁ a → Puts w₁ w₂ b → Puts w w₂ (a ++ b)
puts-then h g = record {
  window = g.window ∙ h.window;
  texts = g.texts ∙ h.texts;
  put = put_then h.put g.put;
}

pub puts-same : {w w' : Writer} {a b : Bytes} → Puts w w' a → a ≡ b → Puts w w' b
puts-same h e = rw (← e) h

pub puts-none : (w : Writer) → Puts w w []
puts-none w = record { window = refl; texts = refl; put = put-none w.window.now w.left }

pub puts-more : {w w' w'' : Writer} (b : Bytes) (i : ℕ) → i < length b → Puts w w' (take i b) → Puts w' w'' (get_or b i 0 ∷ [])
    → Puts w w'' (take (i + 1) b)
puts-more b i l h g = puts-same (puts-then h g) (sym (rw (add-one i) (take-suc b i 0 l)))
