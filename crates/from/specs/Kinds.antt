-- What a FROM record is, by what was read.
use Rattle.std.specs.Prelude.{ℕ, ◌≡◌, Bool, [], ◌∷◌, length, Some, None}
use Rattle.std.specs.Prelude as std
use Rattle.std.proofs.Math.Path.{refl}
use Rattle.std.proofs.Math.Option.{Option, none, some}
use Rattle.rules.specs.Lists.{Bytes}
use Rattle.rules.specs.Lines.{Word}
use Rattle.rules.specs.Places.{word_at}
use Rattle.rules.specs.Ast.{Join}
use Rattle.rules.specs.ReadStatement.{FromHead, table_head, join_head}
use Rattle.rules.specs.Area.{span, option_span}
use Rattle.numbers.specs.Values.{WordFits}
use Rattle.text.specs.Places.{option_numbers}
use Rattle.text.specs.declared.places.Place.{Place}
use Rattle.ast.specs.Names.{name_at, names-back}
use Rattle.from.specs.Records.{join_number, alias_first, alias_second, Says, FromFits, RowSays, IsFromRow}
use Rattle.from.specs.Numbers.{number_of}
use Rattle.from.specs.declared.row.Kind.{Kind}
use Rattle.from.specs.declared.record.FromRecord.{FromRecord}
use Rattle.from.specs.declared.record.Said.TheVariants as S

-- a table, and its names read back from their places
pub record IsTable (t : Bytes) (h : Option FromHead) (p : Place) (o : std.Option Place) : Type 0 where
  pub name : Word
  pub alias : Option Word
  pub is : h ≡ some (table_head name alias)
  pub word : (b : Bytes) → word_at b t p.address p.length ≡ name
  pub other : (b : Bytes) → name_at b t (alias_first o) (alias_second o) ≡ alias

-- a join
pub record IsJoin (h : Option FromHead) (k : Kind) (o : Bool) : Type 0 where
  pub join : Join
  pub is : h ≡ some (join_head join o)
  pub kind : number_of k ≡ join_number join

module _ {t : Bytes} {e : ℕ} {r : FromRecord} where
  pub row-end : (h : Option FromHead) → IsFromRow t e h (Some r) → r.next ≡ e
  unfolding RowSays
  row-end none s = absurd s.says
  row-end (some h) s = s.says.next

  pub row-table : (h : Option FromHead) {p : Place} {o : std.Option Place} → IsFromRow t e h (Some r) → r.said ≡ S.Table p o → IsTable t h p o
  unfolding RowSays Says span FromFits WordFits
  row-table none s z = absurd s.says
  row-table (some (join_head j b)) s z = absurd (rw z at s.says.is)
  row-table (some (table_head n a)) {p} {o} s z =
      let i : (span n ≡ p.address ∷ p.length ∷ []) × (option_span a ≡ option_numbers o) = (rw z at s.says.is) in
      let x : n.start ≡ p.address = cc i.0 in
      let y : length n.bytes ≡ p.length = cc i.0 in
      record {
        name = n;
        alias = a;
        is = refl;
        word = λ b. rw (← x, ← y) (s.says.fits b).0;
        other = λ b. rw (← i.1) (names-back b t a (s.says.fits b).1);
      }

  pub row-join : (h : Option FromHead) {k : Kind} {o : Bool} → IsFromRow t e h (Some r) → r.said ≡ S.Join k o → IsJoin h k o
  unfolding RowSays Says
  row-join none s z = absurd s.says
  row-join (some (table_head n a)) s z = absurd (rw z at s.says.is)
  row-join (some (join_head j b)) {k} {o} s z =
      let i : (number_of k ≡ join_number j) × (o ≡ b) = (rw z at s.says.is) in
      record { join = j; is = rw i.1; kind = i.0 }

pub row-none : {t : Bytes} {e : ℕ} (h : Option FromHead) → IsFromRow t e h None → h ≡ none
unfolding RowSays
row-none none s = refl
row-none (some h) s = absurd s.says
