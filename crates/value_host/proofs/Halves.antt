-- A literal by its kind's number and 64 bits: a text's halves are exchanged.
use Rattle.std.specs.Prelude.{ℕ, [], ◌∷◌, ◌/◌, ◌%◌, ◌^◌, ◌≡◌}
use Rattle.std.proofs.Common.{arith, sym, ap, ◌∙◌, eq-eqb, ne_eqb}
use Rattle.rules.specs.Lists.{Bytes}
use Rattle.numbers.specs.Codes.{coded, count_from, coded-map, coded-least, least_kept}
use Rattle.numbers.specs.Literals.{kind_number, kind_at, literal_of, numbered-value}
use Rattle.numbers.specs.declared.literals.LiteralKind.{LiteralKind}
use Rattle.numbers.specs.declared.literals.LiteralKind.TheVariants.{Null, Bool, Int, Float, Text}
use Rattle.value_host.specs.Numbers.{value_by}

-- the number of a text's kind
text-number : (k : ℕ) → kind_at k ≡ Text → k ≡ 5
unfolding kind_at kind_number count_from
text-number k e = least_kept 1 5 k 5 (sym (coded-map kind_number Null (Null ∷ Bool ∷ Int ∷ Float ∷ Text ∷ []) 1 k ∙ coded-least 4 1 k) ∙ ap kind_number e) (λ z. omega arith)

module _ (c q : Bytes) (n k : ℕ) {kind : LiteralKind} (e : kind ≡ kind_at k) {low high : ℕ} (l : low ≡ n % 2 ^ 32) (h : high ≡ n / 2 ^ 32) where
  pub text-by : kind ≡ Text → literal_of kind c q high low ≡ value_by c q k n
  unfolding value_by
  text-by z = rw (e, eq-eqb k 5 (text-number k (sym e ∙ z)), value_by, l, h) (sym (numbered-value c q k _ _))

  pub other-by : (kind ≡ Text → ⊥) → literal_of kind c q low high ≡ value_by c q k n
  unfolding value_by kind_at coded
  other-by z = rw (e, ne_eqb k 5 (λ f. z (e ∙ ap kind_at f)), value_by, l, h) (sym (numbered-value c q k _ _))
