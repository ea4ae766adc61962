-- Names compared by their bytes, and labels held to a name.
use Prim.Native.Nat.{ℕ, zero, suc, ◌-◌}
use Rattle.std.proofs.Common.{arith, ◌∙◌, eqb-true}
use Rattle.std.specs.List.{list_any}
use Rattle.std.specs.Prelude.{◌≡◌, Bool, not, nat_eq, ◌&&◌, map, List, get_or}
use Rattle.std.proofs.Math.Path.{refl, sym}
use Rattle.std.proofs.Math.Bool.{true, false, and-false, and-true}
use Rattle.std.proofs.Math.Dec.{eqb}
use Rattle.std.proofs.lemmas.Bool.{eqb-false}
use Rattle.rules.specs.Lists.{Bytes, any}
use Rattle.rules.specs.Lines.{Word}
use Rattle.rules.specs.Equality.{same_name}
use Rattle.rules.specs.Scope.{is_named, is_qualified, shares}
use Rattle.scope.specs.Tests.{any-map}
use Rattle.text.specs.Order.{same-swap}
use Rattle.scope.specs.Labels.{slot_of, name_at, tables_of, in_slot, label_at}
use Rattle.scope.specs.Labels.{label-nameless, label-slot, label-in}

-- LABELS
module _ (c q : Bytes) (ts : List ℕ) (x : ℕ) (w : Word) where
  pub named_none : x ≡ 0 → is_named w (label_at c q ts x) ≡ false
  unfolding is_named
  named_none h = rw (label-nameless c q ts x h)

  pub named_some : (x ≡ 0 → ⊥) → is_named w (label_at c q ts x) ≡ same_name (name_at c q x) w
  unfolding is_named in_slot
  named_some h = rw (label-slot c q ts x h) (go (slot_of x))
    where
      go : (k : ℕ) → is_named w (in_slot c q ts k (name_at c q x)) ≡ same_name (name_at c q x) w
      go zero = refl
      go (suc k) = refl

  -- 0 is the label of none, whatever name stands at its place
  pub named-last : {b : Bool} → b ≡ same_name (name_at c q x) w → b ≡ true → not (nat_eq x 0) ≡ is_named w (label_at c q ts x)
  named-last {b} h g = go (eqb x 0) refl
    where
      go : (z : Bool) → eqb x 0 ≡ z → not z ≡ is_named w (label_at c q ts x)
      go true e = sym (named_none (eqb-true _ _ e))
      go false e = sym (named_some (eqb-false _ _ e) ∙ sym h ∙ g)

  pub named-other : {b : Bool} → b ≡ same_name (name_at c q x) w → b ≡ false → b ≡ is_named w (label_at c q ts x)
  named-other {b} h g = go (eqb x 0) refl
    where
      go : (z : Bool) → eqb x 0 ≡ z → b ≡ is_named w (label_at c q ts x)
      go true e = g ∙ sym (named_none (eqb-true _ _ e))
      go false e = h ∙ sym (named_some (eqb-false _ _ e))

  pub qualified-none : (v : Word) → slot_of x ≡ 0 → is_qualified v w (label_at c q ts x) ≡ false
  unfolding is_qualified in_slot
  qualified-none v h = go (eqb x 0) refl
    where
      go : (b : Bool) → eqb x 0 ≡ b → is_qualified v w (label_at c q ts x) ≡ false
      go true e = rw (label-nameless c q ts x (eqb-true _ _ e))
      go false e = rw (label-slot c q ts x (eqb-false _ _ e), h)

  qualified-some : (v : Word) → (slot_of x ≡ 0 → ⊥) → is_qualified v w (label_at c q ts x)
      ≡ (same_name (name_at c q (get_or ts (slot_of x - 1) 0)) v && same_name (name_at c q x) w)
  unfolding is_qualified
  qualified-some v h = rw (label-in c q ts x (slot_of x - 1) (omega arith))

-- d tells whether the label's name is w
module _ (c q : Bytes) (ts : List ℕ) (x : ℕ) (w v : Word) (d : Bool) (h : slot_of x ≡ 0 → ⊥)
    (e : d ≡ same_name (name_at c q x) w) where
  pub qualified-other : d ≡ false → is_qualified v w (label_at c q ts x) ≡ false
  qualified-other g =
      qualified-some c q ts x w v h ∙ rw (← e, g) (and-false (same_name (name_at c q (get_or ts (slot_of x - 1) 0)) v))

  pub qualified-both : (y : ℕ) → y ≡ get_or ts (slot_of x - 1) 0 → d ≡ true
      → is_qualified v w (label_at c q ts x) ≡ same_name (name_at c q y) v
  qualified-both y ey g = qualified-some c q ts x w v h ∙ rw (← e, g, ← ey) (and-true (same_name (name_at c q y) v))

-- a label of another name, whether it has a table or not
pub qualified-not : (c q : Bytes) (ts : List ℕ) (x : ℕ) (w v : Word) {d : Bool} → d ≡ same_name (name_at c q x) w → d ≡ false
    → is_qualified v w (label_at c q ts x) ≡ false
qualified-not c q ts x w v {d} e g = go (eqb (slot_of x) 0) refl
  where
    go : (z : Bool) → eqb (slot_of x) 0 ≡ z → is_qualified v w (label_at c q ts x) ≡ false
    go true h = qualified-none c q ts x w v (eqb-true _ _ h)
    go false h = qualified-other c q ts x w v d (eqb-false _ _ h) e g

-- TABLES
-- whether one of the tables has a name
unfoldable pub holds : Bytes → Bytes → List ℕ → Word → Bool
holds c q ts w = any (same_name w) (tables_of c q ts)

name-swap : (v w : Word) → same_name v w ≡ same_name w v
unfolding same_name
name-swap v w = same-swap v.bytes w.bytes

pub holds-any : (c q : Bytes) (ts : List ℕ) (w : Word) → list_any (λ x. same_name (name_at c q x) w) ts ≡ holds c q ts w
unfolding holds tables_of
holds-any c q ts w = any-map _ (same_name w) (name_at c q) (λ x. name-swap w (name_at c q x)) ts

-- whether one of the tables us has a name that one of ts has
unfoldable pub sharing : Bytes → Bytes → List ℕ → List ℕ → Bool
sharing c q ts us = shares (tables_of c q ts) (tables_of c q us)

pub sharing-any : (c q : Bytes) (ts us : List ℕ) → list_any (λ y. holds c q ts (name_at c q y)) us ≡ sharing c q ts us
unfolding sharing shares tables_of holds
sharing-any c q ts us = any-map _ (λ u. any (same_name u) (map (name_at c q) ts)) (name_at c q) (λ y. refl) us
