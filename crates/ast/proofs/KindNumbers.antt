-- Kinds and their numbers.
use Rattle.std.specs.Prelude.{ℕ, suc, ◌+◌, ◌≡◌, Bool, false, not, eqb}
use Rattle.std.proofs.Common.{◌∙◌, refl, sym, ap, add-one}
use Rattle.std.proofs.Math.Dec.{eqb-suc-suc}
use denote.Enum.Declared.{tag_of}
use denote.Enum.Bare.{sameb, differs_false}
use Rattle.ast.specs.Row.{number_of}
use Rattle.ast.specs.contracts.row.Kind.{the_type}
use Rattle.ast.specs.declared.row.Kind.{Kind}
use Rattle.ast.specs.declared.row.Kind.TheVariants as K

-- a kind's place in the order, from 1, is its number
pub number-is : (k : Kind) → tag_of the_type k + 1 ≡ number_of k
unfolding number_of
number-is K.Star = refl
number-is K.Column = refl
number-is K.Qualified = refl
number-is K.Call = refl
number-is K.Unary = refl
number-is K.Binary = refl
number-is K.Is = refl
number-is K.Literal = refl

-- kinds with the numbers m and n
module _ (k l : Kind) {m n : ℕ} (e : number_of k ≡ m) (f : number_of l ≡ n) where
  pub same-kinds : sameb the_type k l ≡ eqb m n
  same-kinds =
      let a : suc (tag_of the_type k) ≡ m = sym (add-one _) ∙ number-is k ∙ e in
      let b : suc (tag_of the_type l) ≡ n = sym (add-one _) ∙ number-is l ∙ f in
      rw (← a, ← b) (sym (eqb-suc-suc (tag_of the_type k) (tag_of the_type l)))

  pub one-kind : not (sameb the_type k l) ≡ false → m ≡ n
  one-kind h = sym e ∙ ap number_of (differs_false the_type tt k l h) ∙ f

  -- kinds that are found to be one, which is x
  pub both-kinds : {b : Bool} {x : Kind} → b ≡ not (sameb the_type k l) → b ≡ false → k ≡ x → (m ≡ number_of x) × (n ≡ number_of x)
  both-kinds g h i = let z = sym e ∙ ap number_of i in (z, sym (one-kind (sym g ∙ h)) ∙ z)
