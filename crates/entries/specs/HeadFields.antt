-- What the fields of one record say: names by their places, and the contracts of the functions of each shape.
use Rattle.std.specs.Prelude.{ℕ, zero, suc, ◌+◌, ◌-◌, ◌≤◌, ◌≡◌, refl, true, false, length, Result, Ok, Err, Some, None}
use Rattle.std.specs.Prelude as std
use Rattle.std.proofs.Common.{arith}
use mathlib.Core.List.{List, [], ◌∷◌}
use Rattle.std.proofs.Math.Option.{Option, none, some}
use Rattle.rules.specs.Limits.{most_bytes, most_cells}
use Rattle.rules.specs.Lists.{Bytes, map_option}
use Rattle.rules.specs.Lines.{Word}
use Rattle.rules.specs.Reader.{Place, at, rest, name, no_field}
use Rattle.rules.specs.Area.{span, option_span}
use Rattle.text.specs.Places.{option_numbers}
use Rattle.text.specs.declared.places.Place as places
use Rattle.text.specs.Lines.{field}
use Rattle.text.specs.Numbers.{is_name}
use Rattle.text.specs.Fields.{Inside, field-length, field-named, field-unnamed}
use Rattle.read_expression.specs.Heads.{field_fits}
use Rattle.ast.specs.Names.{NameFits}
use Rattle.read_expression.specs.Reading.{here}
use Rattle.entries.specs.Entries.{EntryHead, keyword_of, plain_head, named_head, fields_of, name_of}
use Rattle.entries.specs.Heads.{head_numbers, last_name, words_numbers, saying, Entered, IsHead}
use Rattle.entries.specs.declared.Head.{Head}
use Rattle.entries.specs.declared.Words.{Words}
use Rattle.numbers.specs.declared.refusals.Reason.TheVariants.{WrongRecord}
use Rattle.numbers.specs.declared.refusals.Refusal as code

-- CONTRACTS
-- a name of the statement by its place, or none
pub record NameIs (t : Bytes) (w : Option Word) (n : std.Option places.Place) : Type 0 where
  pub numbers : option_span w ≡ option_numbers n
  pub fits : (c : Bytes) → NameFits c t w
  pub last : last_name t n ≡ map_option (λ (w : Word). w.bytes) w

-- what a record's fields say
pub record HeadSays (t : Bytes) (h : EntryHead) (r : Head) : Type 0 where
  pub named : NameIs t h.name r.name
  pub says : h.code ∷ h.key ∷ h.nullable ∷ h.unique ∷ h.index ∷ option_span h.reference ≡ words_numbers r.words
  pub refers : (c : Bytes) → NameFits c t h.reference
  pub expressions : r.expressions ≡ h.expressions
  pub few : r.expressions ≤ suc most_cells

-- fields that do not fit, or what they say
unfoldable pub HeadIs : Bytes → Option EntryHead → std.Option Head → Type 0
HeadIs t none r = r ≡ None
HeadIs t (some h) r = (x : Head) × (r ≡ Some x) × HeadSays t h x

-- what a rule says of the fields at position p
unfoldable pub HeadIsHere : Bytes → ℕ → (List Word → Option EntryHead) → std.Option Head → Type 0
HeadIsHere t p g r = (l c k : ℕ) → HeadIs t (g (rest (here t p l c k))) r

-- no field, and n expressions
unfoldable pub clause_fields : ℕ → List Word → Option EntryHead
clause_fields n r = map_option (λ u. plain_head n) (no_field r)

-- a name, and n expressions
unfoldable pub name_head : ℕ → Word → Option EntryHead
name_head n w = map_option (λ v. named_head n (some v)) (name w)

-- NAMES
pub no_name : (t : Bytes) → NameIs t none None
unfolding option_span NameFits last_name map_option
no_name t = record { numbers = refl; fits = λ c. tt; last = refl }

name-some : (n : ℕ) → is_name n ≡ true → 1 ≤ n
unfolding is_name
name-some zero h = grind arith
name-some (suc n) h = omega arith

module _ (t : Bytes) (a n : ℕ) (i : Inside t a n) where
  pub name-is : is_name n ≡ true → NameIs t (some (field most_bytes t a n)) (Some (record { address = most_bytes + a; length = n }))
  unfolding option_span span NameFits map_option last_name field
  name-is h = record {
    numbers = rw (field-length t a n i);
    fits = λ c. (field_fits t a n i c, rw (field-length t a n i) (name-some n h));
    last = let e : most_bytes + a - most_bytes ≡ a = omega arith in rw e;
  }

-- RECORDS
pub head-is-as : (t : Bytes) (g h : Option EntryHead) (r : std.Option Head) → g ≡ h → HeadIs t h r → HeadIs t g r
head-is-as t g h r e s = rw e s

-- fields that do not fit
pub head-none : (t : Bytes) (o : Option EntryHead) (r : std.Option Head) → o ≡ none → r ≡ None → HeadIs t o r
unfolding HeadIs
head-none t o r e s = rw e s

-- no names
pub head_plain : (t : Bytes) (h : EntryHead) (r : std.Option Head) (w : std.Option Words) → h.name ≡ none → h.reference ≡ none → r ≡ Some (saying h.expressions None w)
    → h.code ∷ h.key ∷ h.nullable ∷ h.unique ∷ h.index ∷ 0 ∷ 0 ∷ [] ≡ words_numbers w → h.expressions ≤ suc most_cells → HeadIs t (some h) r
unfolding HeadIs option_span NameFits
head_plain t h r w e f g s l = (
  saying h.expressions None w,
  g,
  record {
    named = rw e (no_name t);
    says = rw f s;
    refers = λ c. rw f tt;
    expressions = refl;
    few = l;
  },
)

-- a name
pub head-name : (t : Bytes) (a n e : ℕ) (r : std.Option Head) → Inside t a n → is_name n ≡ true → e ≤ 1
    → r ≡ Some (saying e (Some (record { address = most_bytes + a; length = n })) None) → HeadIs t (name_head e (field most_bytes t a n)) r
unfolding name_head map_option named_head HeadIs option_span NameFits words_numbers
head-name t a n e r i h l g = rw (field-named t a n i h) ((
  _,
  g,
  record {
    named = name-is t a n i h;
    says = refl;
    refers = λ c. tt;
    expressions = refl;
    few = omega arith;
  },
))

pub head-unnamed : (t : Bytes) (a n e : ℕ) (r : std.Option Head) → Inside t a n → is_name n ≡ false → r ≡ None → HeadIs t (name_head e (field most_bytes t a n)) r
unfolding name_head map_option
head-unnamed t a n e r i h s = head-none t _ r (rw (field-unnamed t a n i h)) s

-- ENTRIES
module _ (t : Bytes) (kind : ℕ) (b : Option Bytes) (line : ℕ) (p : Place) where
  pub no-head : at (keyword_of kind) p ≡ false → IsHead t kind b line p (Ok None)
  no-head h = record { missing = λ e. h; wrong = λ w e. grind arith; entered = λ x e. grind arith }

  entered-head : (r : Head) (h : EntryHead) → at (keyword_of kind) p ≡ true → fields_of kind b (rest p) ≡ some h → HeadSays t h r → Entered t kind b p r
  entered-head r h e f s = record {
    head = h;
    stands = e;
    is = f;
    numbers = unfold head_numbers in rw (s.named.numbers, s.says);
    expressions = s.expressions;
    few = s.few;
    named = s.named.fits;
    refers = s.refers;
    last = unfold name_of in s.named.last;
  }

  wrong-line : (v w : code.Refusal) → ◌≡◌ {A = Result (std.Option Head) code.Refusal} (Err v) (Err w) → w ≡ v
  wrong-line v w e = cc

  pub head-wrong : at (keyword_of kind) p ≡ true → HeadIs t (fields_of kind b (rest p)) None → IsHead t kind b line p (Err (record { reason = WrongRecord; line = line }))
  head-wrong h s = go (fields_of kind b (rest p)) refl s
    where
      go : (o : Option EntryHead) → fields_of kind b (rest p) ≡ o → HeadIs t o None → IsHead t kind b line p (Err (record { reason = WrongRecord; line = line }))
      go none e f = record { missing = λ z. grind arith; wrong = λ w z. (wrong-line _ _ z, h, e); entered = λ x z. grind arith }
      go (some x) e f = unfold HeadIs in absurd (let z : ◌≡◌ {A = std.Option Head} None (Some f.0) = f.1 in grind arith)

  pub head-fits : (r : Head) → at (keyword_of kind) p ≡ true → HeadIs t (fields_of kind b (rest p)) (Some r) → IsHead t kind b line p (Ok (Some r))
  head-fits r h s = go (fields_of kind b (rest p)) refl s
    where
      go : (o : Option EntryHead) → fields_of kind b (rest p) ≡ o → HeadIs t o (Some r) → IsHead t kind b line p (Ok (Some r))
      go none e f = unfold HeadIs in absurd (let z : ◌≡◌ {A = std.Option Head} (Some r) None = f in grind arith)
      go (some x) e f = unfold HeadIs in
          let q : ◌≡◌ {A = std.Option Head} (Some r) (Some f.0) = f.1 in
          let z : f.0 ≡ r = cc in
          let g : HeadSays t x r = rw z at f.2 in
          record {
            missing = λ y. grind arith;
            wrong = λ v y. grind arith;
            entered = λ v y. let u : r ≡ v = cc in rw u at (entered-head r x h e g);
          }
