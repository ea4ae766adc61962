-- A section that has an entry at least.
use Rattle.std.specs.Prelude.{ℕ, suc, ◌-◌, ◌≤◌, ◌≡◌, refl, Bool, true, false, Ok, Err}
use Rattle.std.proofs.Common.{arith, sym, ◌∙◌}
use Rattle.std.proofs.Math.Path.{ap}
use mathlib.Core.List.{List, []}
use Rattle.std.proofs.Math.Option.{Option, none}
use Rattle.std.proofs.Math.ListN.{length, get_or}
use Rattle.rules.specs.Refusals.{wrong_record, Refusal, ok, refused}
use Rattle.rules.specs.Lists.{Bytes}
use Rattle.rules.specs.Reader.{Place, Read, ◌>>=◌, at, stop, at_least_one}
use Rattle.claims.specs.Answers.{anything, ensured}
use Rattle.claims.specs.Reading.Rules.{Reaches, reads_then, reads-give}
use Rattle.text.specs.Reading.{place}
use Rattle.numbers.specs.Kept.{kept-all}
use Rattle.read_expression.specs.Reading.{here, Took, Given}
use Rattle.entries.specs.Entries.{Entry, keyword_of, entries, turns_of, section, some_section}
use Rattle.sections.specs.Layout.{start_of, section_at}
use Rattle.sections.specs.Terms.{SectionRead}
use Rattle.sections.specs.Kinds.{turns-some}
use Rattle.sections.specs.Store.{entries-length}
use Rattle.sections.specs.OneEntry.{entries-end}
use Rattle.numbers.specs.declared.refusals.Reason.TheVariants.{WrongRecord}
use Rattle.numbers.specs.declared.refusals.Refusal as code
use Rattle.numbers.specs.Reasons.{reason_of}
use Rattle.read_expression.specs.declared.reading.Cursor.{Cursor}

-- a step of whose value nothing is wanted
reads-past : {A B : Type 0} (m : Read A) (f : A → Read B) (p : Place) (Q : B → Place → Type 0) → ((a : A) (q : Place) → Reaches (f a q) Q) → Reaches (◌>>=◌ m f p) Q
reads-past m f p Q h = reads_then m f p (λ a q. Unit {0}) Q (anything (m p)) λ a q u. h a q

-- a record of the kind stands there: one entry at least
entries-some : (kind fuel n : ℕ) (b : Option Bytes) (p : Place) → at (keyword_of kind) p ≡ true → Reaches (entries kind (suc fuel) n b p) (λ xs q. 1 ≤ length xs)
unfolding entries
entries-some kind fuel n b p s = rw (entries, s) (reads-past _ _ p _ λ h q₁. reads-past _ _ q₁ _ λ es q₂. reads-past _ _ q₂ _ λ xs q₃. reads-give _ q₃ _ (omega arith))

module _ (kind : ℕ) (p : Place) where
  turn : {m : ℕ} → turns_of kind (length p.left) ≡ suc m → section kind p ≡ entries kind (suc m) 0 none p
  unfolding section
  turn e = rw e

  section-turn : section kind p ≡ entries kind (suc (turns_of kind (length p.left) - 1)) 0 none p
  section-turn = turn (let h = turns-some kind (length p.left) in omega arith)

  -- no record of the kind stands there
  section-none : at (keyword_of kind) p ≡ false → section kind p ≡ ok ([], p)
  section-none e = section-turn ∙ entries-end kind _ 0 none p e

  section-some : (xs : List Entry) (q : Place) → section kind p ≡ ok (xs, q) → at (keyword_of kind) p ≡ true → 1 ≤ length xs
  section-some xs q e s = ensured _ (λ (r : List Entry × Place). 1 ≤ length r.0) (entries-some kind (turns_of kind (length p.left) - 1) 0 none p s) (xs, q) (sym section-turn ∙ e)

  some-there : at (keyword_of kind) p ≡ true → some_section kind p ≡ section kind p
  unfolding some_section at_least_one
  some-there s = rw (some_section, at_least_one, s)

  some-missing : at (keyword_of kind) p ≡ false → some_section kind p ≡ stop wrong_record p
  unfolding some_section at_least_one
  some-missing s = rw (some_section, at_least_one, s)

  some-refused : {r : Refusal} → section kind p ≡ refused r → some_section kind p ≡ refused r
  some-refused {r} e = go (at (keyword_of kind) p) refl
    where
      go : (b : Bool) → at (keyword_of kind) p ≡ b → some_section kind p ≡ refused r
      go true s = some-there s ∙ e
      go false s = absurd (let x = sym e ∙ section-none s in grind arith)

  some-empty : {xs : List Entry} {q : Place} → section kind p ≡ ok (xs, q) → length xs ≡ 0 → some_section kind p ≡ stop wrong_record p
  some-empty {xs} {q} e z = go (at (keyword_of kind) p) refl
    where
      go : (b : Bool) → at (keyword_of kind) p ≡ b → some_section kind p ≡ stop wrong_record p
      go true s = absurd (omega (arith, section-some xs q e s))
      go false s = some-missing s

  some_more : {xs : List Entry} {q : Place} → section kind p ≡ ok (xs, q) → (length xs ≡ 0 → ⊥) → some_section kind p ≡ ok (xs, q)
  some_more {xs} {q} e z = go (at (keyword_of kind) p) refl
    where
      go : (b : Bool) → at (keyword_of kind) p ≡ b → some_section kind p ≡ ok (xs, q)
      go true s = some-there s ∙ e
      go false s = absurd (z (let x = sym e ∙ section-none s in let y : ◌≡◌ {A = List Entry × Place} (xs, q) ([], p) = cc in ap (λ (r : List Entry × Place). length r.0) y))

-- the answer for a section, whose number of entries is stored at s
module _ (t : Bytes) (p l c kind : ℕ) (cells cells' parts parts' : List ℕ) where
  pub some-no : (w : code.Refusal) → ((k : ℕ) → Given (section kind) (SectionRead t kind c cells cells' parts parts') t p l c k (Err w))
      → (k : ℕ) → Given (some_section kind) (SectionRead t kind c cells cells' parts parts') t p l c k (Err w)
  unfolding Given
  some-no w h k = some-refused kind (here t p l c k) (h k)

  module _ (q : Cursor) (h : (k : ℕ) → Given (section kind) (SectionRead t kind c cells cells' parts parts') t p l c k (Ok q)) {s : ℕ} (z : s ≡ start_of kind) where
    took : (k : ℕ) → Took (section kind) (SectionRead t kind c cells cells' parts parts' q.rows) t p l c k q.position q.line q.rows
    unfolding Given
    took k = h k

    count : (k : ℕ) → length (took k).value ≡ get_or parts' s 0
    unfolding section_at
    count k = ap length (sym ((took k).holds.is cells' parts' (kept-all 0 _ cells') (kept-all 0 _ parts') [])) ∙ entries-length [] t cells' parts' _ _ ∙ ap (λ i. get_or parts' i 0) (sym z)

    pub some-none : get_or parts' s 0 ≡ 0 → (k : ℕ) → Given (some_section kind) (SectionRead t kind c cells cells' parts parts') t p l c k (Err (record { reason = WrongRecord; line = l }))
    unfolding Given reason_of stop place
    some-none n k = some-empty kind (here t p l c k) (took k).is (count k ∙ n)

    pub some-done : (get_or parts' s 0 ≡ 0 → ⊥) → (k : ℕ) → Given (some_section kind) (SectionRead t kind c cells cells' parts parts') t p l c k (Ok q)
    unfolding Given
    some-done n k =
        let x = took k in
        record {
          value = x.value;
          is = some_more kind (here t p l c k) x.is (λ y. n (sym (count k) ∙ y));
          position = x.position;
          moved = x.moved;
          more = x.more;
          holds = x.holds;
        }
