-- The words of CREATE's column record: each by its field, and what they say together.
use Rattle.std.specs.Prelude.{ℕ, suc, ◌≤◌, ◌≡◌, Bool, true, false, List, [], ◌∷◌, None, Some}
use Rattle.std.specs.Prelude as std
use Rattle.std.proofs.Common.{arith}
use Rattle.std.proofs.Math.Option.{Option, none, some}
use Rattle.rules.specs.Refusals.{statement}
use Rattle.rules.specs.Limits.{most_cells}
use Rattle.rules.specs.Lists.{Bytes, map_option}
use Rattle.rules.specs.Lines.{Word, bytes}
use Rattle.rules.specs.Schema.{Datatype}
use Rattle.rules.specs.Reader.{word}
use Rattle.rules.specs.ReadColumn.{◌>>=◌, datatypes, flagged, nullness}
use Rattle.rules.specs.Area.{flag, type_code}
use Rattle.numbers.specs.Options.{option_of}
use Rattle.numbers.specs.Datatypes.{type_of}
use Rattle.numbers.specs.declared.datatypes.DataType.{DataType}
use Rattle.text.specs.Reading.{field_of}
use Rattle.text.specs.declared.Line.{Line}
use Rattle.text.specs.declared.places.Place as places
use Rattle.entries.specs.Entries.{EntryHead, null_number}
use Rattle.entries.specs.Heads.{words_numbers, saying}
use Rattle.entries.specs.HeadFields.{NameIs, HeadIs, head-none}
use Rattle.entries.specs.declared.Head.{Head}
use Rattle.entries.specs.declared.Words.TheVariants.{Column}

-- what the words say: type, key, nullable, unique, index, default
unfoldable pub words_by : Option Datatype → Option Bool → Option (Option Bool) → Option Bool → Option Bool → Option Bool → Option EntryHead
words_by t k u q i d = do
  type' ← t
  key' ← k
  nullable' ← u
  unique' ← q
  index' ← i
  default' ← d
  some (record {
    name = none;
    reference = none;
    code = type_code type';
    key = flag key';
    nullable = null_number nullable';
    unique = flag unique';
    index = flag index';
    expressions = flag default';
  })

-- the same of the fields by their numbers
unfoldable pub words_head : (ℕ → Word) → Option EntryHead
words_head w = words_by (word datatypes (w 2)) (flagged (bytes "pk") (w 3)) (word nullness (w 4)) (flagged (bytes "unique") (w 5)) (flagged (bytes "index") (w 6)) (flagged (bytes "default") (w 7))

-- a column's name and reference put to its words
unfoldable pub named : Word → EntryHead → Option Word → EntryHead
named n h x = record {
  name = some n;
  reference = x;
  code = h.code;
  key = h.key;
  nullable = h.nullable;
  unique = h.unique;
  index = h.index;
  expressions = h.expressions;
}

unfoldable pub column_said : Word → (ℕ → Word) → Option Word → Option EntryHead
column_said n w x = map_option (λ (h : EntryHead). named n h x) (words_head w)

-- a flag's name, or `-`
abbrev pub flags : Bytes → List (Bytes × Bool)
flags w = (w, true) ∷ (bytes "-", false) ∷ []

-- ALL SIX
few-flag : (b : Bool) → flag b ≤ suc most_cells
unfolding flag
few-flag true = omega arith
few-flag false = omega arith

-- the first that does not fit, or all
module _ (w : ℕ → Word) where
  type-no : word datatypes (w 2) ≡ none → words_head w ≡ none
  unfolding words_head words_by ◌>>=◌
  type-no e = rw e

  module _ (t : Datatype) (e2 : word datatypes (w 2) ≡ some t) where
    key-no : flagged (bytes "pk") (w 3) ≡ none → words_head w ≡ none
    unfolding words_head words_by ◌>>=◌
    key-no e = rw (e2, e)

    module _ (k : Bool) (e3 : flagged (bytes "pk") (w 3) ≡ some k) where
      null-no : word nullness (w 4) ≡ none → words_head w ≡ none
      unfolding words_head words_by ◌>>=◌
      null-no e = rw (e2, e3, e)

      module _ (u : Option Bool) (e4 : word nullness (w 4) ≡ some u) where
        unique-no : flagged (bytes "unique") (w 5) ≡ none → words_head w ≡ none
        unfolding words_head words_by ◌>>=◌
        unique-no e = rw (e2, e3, e4, e)

        module _ (q : Bool) (e5 : flagged (bytes "unique") (w 5) ≡ some q) where
          index-no : flagged (bytes "index") (w 6) ≡ none → words_head w ≡ none
          unfolding words_head words_by ◌>>=◌
          index-no e = rw (e2, e3, e4, e5, e)

          module _ (i : Bool) (e6 : flagged (bytes "index") (w 6) ≡ some i) where
            default-no : flagged (bytes "default") (w 7) ≡ none → words_head w ≡ none
            unfolding words_head words_by ◌>>=◌
            default-no e = rw (e2, e3, e4, e5, e6, e)

            words_are : (d : Bool) → flagged (bytes "default") (w 7) ≡ some d → words_head w ≡ some (record {
              name = none;
              reference = none;
              code = type_code t;
              key = flag k;
              nullable = null_number u;
              unique = flag q;
              index = flag i;
              expressions = flag d;
            })
            unfolding words_head words_by ◌>>=◌
            words_are d e = rw (e2, e3, e4, e5, e6, e)

module _ (t : Bytes) (f : Line) (n : Word) (x : Option Word) (r : std.Option Head) where
  abbrev w : ℕ → Word
  w = field_of statement t f

  none_said : words_head w ≡ none → r ≡ None → HeadIs t (column_said n w x) r
  unfolding column_said map_option
  none_said e s = head-none t _ r (rw e) s

  pub no-type : word datatypes (w 2) ≡ none → r ≡ None → HeadIs t (column_said n w x) r
  no-type h s = none_said (type-no w h) s

  module _ (d : DataType) (e2 : word datatypes (w 2) ≡ some (type_of d)) where
    pub no-key : flagged (bytes "pk") (w 3) ≡ none → r ≡ None → HeadIs t (column_said n w x) r
    no-key h s = none_said (key-no w _ e2 h) s

    module _ (k : Bool) (e3 : flagged (bytes "pk") (w 3) ≡ some k) where
      pub no-null : word nullness (w 4) ≡ none → r ≡ None → HeadIs t (column_said n w x) r
      no-null h s = none_said (null-no w _ e2 _ e3 h) s

      module _ (u : std.Option Bool) (e4 : word nullness (w 4) ≡ some (option_of u)) where
        pub no-unique : flagged (bytes "unique") (w 5) ≡ none → r ≡ None → HeadIs t (column_said n w x) r
        no-unique h s = none_said (unique-no w _ e2 _ e3 _ e4 h) s

        module _ (q : Bool) (e5 : flagged (bytes "unique") (w 5) ≡ some q) where
          pub no-index : flagged (bytes "index") (w 6) ≡ none → r ≡ None → HeadIs t (column_said n w x) r
          no-index h s = none_said (index-no w _ e2 _ e3 _ e4 _ e5 h) s

          module _ (i : Bool) (e6 : flagged (bytes "index") (w 6) ≡ some i) where
            pub no-default : flagged (bytes "default") (w 7) ≡ none → r ≡ None → HeadIs t (column_said n w x) r
            no-default h s = none_said (default-no w _ e2 _ e3 _ e4 _ e5 _ e6 h) s

            pub all-words : (p : places.Place) (y : std.Option places.Place) → NameIs t (some n) (Some p) → NameIs t x y → (z : Bool) (c : ℕ)
                → flagged (bytes "default") (w 7) ≡ some z → c ≡ flag z
                → r ≡ Some (saying c (Some p) (Some (Column (record { datatype = d; key = k; nullable = u; unique = q; index = i; reference = y }))))
                → HeadIs t (column_said n w x) r
            unfolding column_said map_option named words_numbers HeadIs
            all-words p y named refers z c h7 l s = rw (words_are w _ e2 _ e3 _ e4 _ e5 _ e6 z h7) ((
              _,
              s,
              record {
                named = named;
                says = rw refers.numbers;
                refers = refers.fits;
                expressions = l;
                few = rw l (few-flag z);
              },
            ))
