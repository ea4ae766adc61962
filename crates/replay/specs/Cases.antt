-- What comes of a case of the fixed list.
use Rattle.std.specs.Prelude.{ℕ, ◌+◌, ◌-◌, ◌≤◌, ◌<◌, ◌≡◌, refl, Bool, true, false, ltb, length, take, drop, Option, Some, None}
use Rattle.std.proofs.Common.{arith, ◌∙◌, length-take}
use Rattle.std.proofs.Math.Path.{sym, ap}
use borrow.Author.Tests.{lt-ltb, le-ltb}
use Rattle.rules.specs.Lists.{Bytes, same}
use Rattle.rules.specs.Listing.{listing}
use Rattle.text.specs.Order.{same_true}
use Rattle.text.specs.Lines.{line-most}
use Rattle.listing.specs.Listed.{Holds, ended, filled}
use Rattle.answer_list.specs.Records.{record_at, record-inside}
use Rattle.answer_list.specs.declared.Record.{Record}
use Rattle.replay.specs.declared.Case.{Case}

-- where the texts of a record start, and where it ends
abbrev pub statement_of : Record → ℕ
statement_of r = r.start + r.catalog

abbrev pub answer_of : Record → ℕ
answer_of r = statement_of r + r.statement

abbrev pub behind : Record → ℕ
behind r = answer_of r + r.answer

-- the rules' listing of its catalog and statement is its answer
unfoldable pub agrees : Bytes → Record → Bool
agrees t r =
    same (listing (take r.catalog (drop r.start t)) (take r.statement (drop (statement_of r) t))) (take r.answer (drop (answer_of r) t))

-- An answer of 65,536 bytes or more is none.
unfoldable pub case_of : Bytes → Option Record → Option Case
case_of t None = None
case_of t (Some r) = elim (ltb r.answer 65536) [ true ↦ Some (record { agrees = agrees t r; next = behind r }) | false ↦ None ]

unfoldable pub case_at : Bytes → ℕ → Option Case
case_at t p = case_of t (record_at t p)

-- an answer shorter than a window is no listing that fills one
not_full : (b e s : Bytes) → length s ≡ 65536 → s ≡ take 65536 b → length e < 65536 → false ≡ same b e
not_full b e s w h l = go (same b e) refl
  where
    longer : length e < length b
    longer = omega (arith, ap length h ∙ length-take 65536 b)

    go : (k : Bool) → same b e ≡ k → false ≡ k
    go true m = absurd (omega (arith, longer, ap length (same_true b e m)))
    go false m = refl

module _ (t : Bytes) (p : ℕ) where
  pub no_record : record_at t p ≡ None → None ≡ case_at t p
  unfolding case_at case_of
  no_record h = sym (ap (case_of t) h)

  module _ (r : Record) (h : record_at t p ≡ Some r) where
    pub answer-long : 65536 ≤ r.answer → None ≡ case_at t p
    unfolding case_at case_of
    answer-long l = sym (rw (case_of, le-ltb r.answer 65536 l)) ∙ sym (ap (case_of t) h)

    -- where the case ends
    pub case-fits : behind r ≤ p + (length t - p)
    case-fits = let k = record-inside t p r h in omega (arith, k.0, k.1, line-most t p)

    pub case-whole : r.answer < 65536 → {k : Bool} {x y z : Bytes} → k ≡ same (listing x y) z → x ≡ take r.catalog (drop r.start t)
        → y ≡ take r.statement (drop (statement_of r) t) → z ≡ take r.answer (drop (answer_of r) t)
        → Some (record { agrees = k; next = behind r }) ≡ case_at t p
    unfolding case_at case_of agrees
    case-whole l {k} m a b d =
        ap (λ (u : Bool). Some (record { agrees = u; next = behind r })) (rw (a, b, d) at m)
        ∙ sym (rw (case_of, lt-ltb r.answer 65536 l)) ∙ sym (ap (case_of t) h)

-- THE WINDOW
module _ (b e s : Bytes) {r : Option ℕ} (h : Holds b s r) where
  pub full-differs : r ≡ None → length e < 65536 → false ≡ same b e
  full-differs f l = let g = filled b s h f in not_full b e s g.0 g.1 l

  pub bytes_same : (n : ℕ) (k : Bool) → r ≡ Some n → k ≡ same (take n s) e → k ≡ same b e
  bytes_same n k f o = o ∙ ap (λ (y : Bytes). same y e) (ended b s h f)
