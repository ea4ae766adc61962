-- What the bytes from an address on give to every field of a line makes reading sound.
use Prim.Native.Nat.{ℕ, suc, ◌+◌}
use native.Mathlib.Omega.{arith}
use Rattle.std.specs.Prelude.{◌≡◌, refl, Bool, eqb, drop}
use Rattle.std.proofs.Math.Bool.{true, false}
use mathlib.Core.List.{List, [], ◌∷◌}
use Rattle.rules.specs.Lists.{Bytes}
use Rattle.rules.specs.Lines.{Word, onto, empty, fields, line_size}
use Rattle.rules.specs.Schema.{Value, text}
use Rattle.rules.specs.Reader.{line_here, next}
use Rattle.rules.specs.ReadExpression.{counted}
use Rattle.rules.specs.ReadStatement.{tabled}
use Rattle.claims.specs.Answers.{All}
use Rattle.claims.specs.Values.Outcomes.{Kept}
use Rattle.claims.specs.Reading.Sound.{IsName, Sound}

-- L of an address and the bytes from it on gives F to the empty field there, and to a field with one more byte in front
pub record Running (L : ℕ → Bytes → Type 0) (F : Word → Type 0) : Type 0 where
  pub rest : (o x : ℕ) (xs : Bytes) → L o (x ∷ xs) → L (suc o) xs
  pub empties : (o : ℕ) (xs : Bytes) → L o xs → F (empty o)
  pub longer : (o x : ℕ) (xs : Bytes) (w : Word) → L o (x ∷ xs) → w.start ≡ suc o → F w → F (record { bytes = x ∷ w.bytes; start = o })

-- two such at once
pub running-both : {L M : ℕ → Bytes → Type 0} {F G : Word → Type 0} → Running L F → Running M G
    → Running (λ o xs. L o xs × M o xs) (λ w. F w × G w)
running-both k m = record {
  rest = λ o x xs h. (k.rest o x xs h.0, m.rest o x xs h.1);
  empties = λ o xs h. (k.empties o xs h.0, m.empties o xs h.1);
  longer = λ o x xs w h e g. (k.longer o x xs w h.0 e g.0, m.longer o x xs w h.1 e g.1);
}

module _ {L : ℕ → Bytes → Type 0} {F : Word → Type 0} (k : Running L F) where
  -- the first field starts at o, and all have F
  Fields : ℕ → List Word → Type 0
  Fields o [] = ⊥
  Fields o (w ∷ ws) = (w.start ≡ o) × F w × All F ws

  fields-all : (o : ℕ) (ws : List Word) → Fields o ws → All F ws
  unfolding Fields All
  fields-all o [] h = absurd h
  fields-all o (w ∷ ws) h = (h.1, h.2)

  fields-onto : (o x : ℕ) (xs : Bytes) (ws : List Word) → L o (x ∷ xs) → Fields (suc o) ws → Fields o (onto o x ws)
  unfolding Fields onto
  fields-onto o x xs [] l h = absurd h
  fields-onto o x xs (w ∷ ws) l h = (refl, k.longer o x xs w l h.0 h.1, h.2)

  fields-have : (xs : Bytes) (o : ℕ) → L o xs → Fields o (fields o xs)
  unfolding Fields fields empty All
  fields-have [] o l = let e = k.empties o [] l in (refl, e, (e, (e, tt)))
  fields-have (x ∷ xs) o l = go (eqb x 10) (eqb x 9) (k.empties o (x ∷ xs) l) (fields-have xs (suc o) (k.rest o x xs l))
    where
      go : (a b : Bool) → F (empty o) → Fields (suc o) (fields (suc o) xs)
          → Fields o (elim a [ true ↦ empty o ∷ [] | false ↦ elim b [ true ↦ empty o ∷ fields (suc o) xs | false ↦ onto o x (fields (suc o) xs) ] ])
      go true b e g = (refl, e, tt)
      go false true e g = (refl, e, fields-all (suc o) (fields (suc o) xs) g)
      go false false e g = fields-onto o x xs (fields (suc o) xs) l g

  -- behind the line
  line-rest : (xs : Bytes) (o : ℕ) → L o xs → L (o + line_size xs) (drop (line_size xs) xs)
  unfolding line_size
  line-rest [] o l = let e : o + 0 ≡ o = omega arith in rw e l
  line-rest (x ∷ xs) o l = go (eqb x 10) (k.rest o x xs l) (line-rest xs (suc o) (k.rest o x xs l))
    where
      go : (a : Bool) → L (suc o) xs → L (suc o + line_size xs) (drop (line_size xs) xs)
          → L (o + (elim a [ true ↦ 1 | false ↦ suc (line_size xs) ])) (drop (elim a [ true ↦ 1 | false ↦ suc (line_size xs) ]) (x ∷ xs))
      go true g h = let e : o + 1 ≡ suc o = omega arith in rw e g
      go false g h = let e : o + suc (line_size xs) ≡ suc o + line_size xs = omega arith in rw e h

  -- so reading is sound
  pub running : {Q : Value → Type 0} {N : Word → Type 0} → Kept Q → ((w : Word) → F w → Q (text w)) → ((w : Word) → F w → IsName w → N w) → Sound F Q N (λ p. L p.address p.left)
  unfolding line_here next counted tabled
  running q t n = record {
    kept = q;
    texts = t;
    names = n;
    fields = λ p l. fields-all p.address _ (fields-have p.left p.address l);
    next = λ p l. line-rest p.left p.address l;
    counted = λ p l. l;
    tabled = λ p l. l;
  }
