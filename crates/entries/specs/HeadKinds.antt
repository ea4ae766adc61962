-- The records of each kind by their keywords: none stands here, or one whose fields fit or do not.
use Rattle.std.specs.Prelude.{ℕ, ◌≡◌, true, false, take, drop, eqb, Ok, Err, Some, None}
use Rattle.std.proofs.Common.{◌∙◌}
use Rattle.std.proofs.Math.Path.{sym}
use Rattle.std.proofs.Math.Option.{Option}
use borrow.Author.Tests.{eq-eqb, ne_eqb}
use Rattle.rules.specs.Refusals.{statement}
use Rattle.rules.specs.Lists.{Bytes}
use Rattle.rules.specs.Reader.{at}
use Rattle.text.specs.Lines.{nth_field, Fields}
use Rattle.text.specs.Order.{same-swap}
use Rattle.text.specs.Packed.{Packed, number}
use Rattle.text.specs.Reading.{at-is}
use Rattle.text.specs.declared.Line.{Line}
use Rattle.read_expression.specs.Reading.{here}
use Rattle.entries.specs.Entries.{keyword_of, fields_of}
use Rattle.entries.specs.Sections.{number_of}
use Rattle.entries.specs.Keywords.{section-word}
use Rattle.entries.specs.Heads.{IsHead}
use Rattle.entries.specs.HeadFields.{HeadIsHere, no-head, head-wrong, head-fits}
use Rattle.entries.specs.declared.Head.{Head}
use Rattle.entries.specs.declared.Section.{Section}
use Rattle.numbers.specs.declared.refusals.Reason.TheVariants.{WrongRecord}

-- f is the line at p, and its first field is packed into r
module _ (t : Bytes) (p line : ℕ) (f : Line) (g : Fields t p f) {r : ℕ} (s : Section)
    (w : Packed (take (nth_field f.fields 0).length (drop (nth_field f.fields 0).start t)) r) where
  abbrev kind : ℕ
  kind = number_of s

  stands : (l c n : ℕ) → at (keyword_of kind) (here t p l c n) ≡ eqb r (number (keyword_of kind))
  stands l c n = at-is statement t p l c n f g (keyword_of kind) ∙ same-swap _ (keyword_of kind) ∙ sym (w.only (keyword_of kind) (section-word s))

  kind-here : {v : ℕ} → v ≡ number (keyword_of kind) → r ≡ v → (l c n : ℕ) → at (keyword_of kind) (here t p l c n) ≡ true
  kind-here h e l c n = stands l c n ∙ eq-eqb _ _ (e ∙ h)

  kind-not : {v : ℕ} → v ≡ number (keyword_of kind) → (r ≡ v → ⊥) → (l c n : ℕ) → at (keyword_of kind) (here t p l c n) ≡ false
  kind-not h e l c n = stands l c n ∙ ne_eqb _ _ (λ z. e (z ∙ sym h))

  module _ {v : ℕ} (h : v ≡ number (keyword_of kind)) (b : Option Bytes) where
    pub head-missing : (r ≡ v → ⊥) → (l c n : ℕ) → IsHead t kind b line (here t p l c n) (Ok None)
    head-missing e l c n = no-head t kind b line _ (kind-not h e l c n)

    pub head-unfit : r ≡ v → HeadIsHere t p (fields_of kind b) None
        → (l c n : ℕ) → IsHead t kind b line (here t p l c n) (Err (record { reason = WrongRecord; line = line }))
    unfolding HeadIsHere
    head-unfit e x l c n = head-wrong t kind b line _ (kind-here h e l c n) (x l c n)

    pub head-fit : (o : Head) → r ≡ v → HeadIsHere t p (fields_of kind b) (Some o)
        → (l c n : ℕ) → IsHead t kind b line (here t p l c n) (Ok (Some o))
    unfolding HeadIsHere
    head-fit o e x l c n = head-fits t kind b line _ o (kind-here h e l c n) (x l c n)
