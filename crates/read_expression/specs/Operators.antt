-- The operators' rows, by their number in the table of words.
use Rattle.std.specs.Prelude.{ℕ, ◌≤◌, ◌≡◌, refl, [], ◌∷◌, Some}
use Rattle.std.specs.Prelude as std
use Rattle.std.proofs.Common.{arith, ◌∙◌}
use Rattle.std.proofs.Math.Option.{none, some}
use Rattle.rules.specs.Lists.{Bytes, named}
use Rattle.rules.specs.Lines.{bytes}
use Rattle.rules.specs.Codes.{unary_code, binary_code}
use Rattle.rules.specs.Ast.{Unary, Binary}
use Rattle.rules.specs.ReadExpression.{Head, star_head, is_head, unary_head, binary_head, operators}
use Rattle.text.specs.Words.{find, words_of, push, keys, nth, named_by, nth-none}
use Rattle.text.specs.Packed.{Keywords, number, numbers, are_bytes, is_word, are_words}
use Rattle.ast.specs.Row.{number_of}
use Rattle.ast.specs.declared.row.Kind.{Kind}
use Rattle.read_expression.specs.declared.heads.Row.{Row}
use Rattle.read_expression.specs.Encode.{head_numbers, arity}
use Rattle.read_expression.specs.Fits.{HeadFits}
use Rattle.read_expression.specs.RowOf.{Plain, RowSays, RowOf, row-of-as}

-- a record with no place and no literal
pub record Plainly (h : Head) (kind code n : ℕ) : Type 0 where
  pub is : head_numbers h ≡ kind ∷ code ∷ 0 ∷ 0 ∷ 0 ∷ 0 ∷ []
  pub many : n ≡ arity h
  pub small : n ≤ 2
  pub fits : (c t : Bytes) → HeadFits c t h

pub row-of-plain : (t : Bytes) (h : Head) (r : Row) (kind : Kind) (code n : ℕ) → Plainly h (number_of kind) code n → Plain r kind code n → RowOf t (some h) (Some r)
unfolding RowSays
row-of-plain t h r kind code n p e = record {
  says = record {
    is = rw e p.is;
    many = rw e p.many;
    small = rw e (omega (arith, p.small));
    fits = λ c. p.fits c t;
  };
}

pub unary-plainly : (o : Unary) → Plainly (unary_head o) 5 (unary_code o) 1
unfolding head_numbers arity HeadFits
unary-plainly o = record { is = refl; many = refl; small = omega arith; fits = λ c t. tt }

pub binary-plainly : (o : Binary) → Plainly (binary_head o) 6 (binary_code o) 2
unfolding head_numbers arity HeadFits
binary-plainly o = record { is = refl; many = refl; small = omega arith; fits = λ c t. tt }

pub is-plainly : Plainly is_head 7 0 1
unfolding head_numbers arity HeadFits
is-plainly = record { is = refl; many = refl; small = omega arith; fits = λ c t. tt }

pub star-plainly : Plainly star_head 1 0 0
unfolding head_numbers arity HeadFits
star-plainly = record { is = refl; many = refl; small = omega arith; fits = λ c t. tt }

pub operator-words : keys operators ≡ words_of (bytes "and not or eq gt ge is lt le ne add div pow fact ident mul neg rem sub like ")
unfolding operators keys words_of push bytes
operator-words = refl

pub operator-table : Keywords (bytes "and not or eq gt ge is lt le ne add div pow fact ident mul neg rem sub like ") (23359073 ∷ 24407918 ∷ 94831 ∷ 94565 ∷ 95335 ∷ 91495 ∷ 95081 ∷ 95340 ∷ 91500 ∷ 91502 ∷ 23356513 ∷ 24537444 ∷ 24604528 ∷ 6247637350 ∷ 1599579972713 ∷ 23885165 ∷ 23553390 ∷ 23946610 ∷ 23229811 ∷ 5996505452 ∷ [])
unfolding words_of push bytes number numbers are_bytes is_word are_words
operator-table = record { are = refl; is = refl }

module _ (x : Bytes) (k : ℕ) (words : Bytes) (e : keys operators ≡ words_of words) (h : k ≡ find (words_of words) x) where
  operator-is : named operators x ≡ nth operators k
  operator-is = named_by operators words x k e h

  pub operator-none : 20 ≤ k → named operators x ≡ none
  operator-none l = operator-is ∙ nth-none operators k (unfold operators in l)

  pub operator-as : {r : std.Option Row} → ((t : Bytes) → RowOf t (nth operators k) r) → (t : Bytes) → RowOf t (named operators x) r
  operator-as {r} s t = row-of-as t _ _ r operator-is (s t)
