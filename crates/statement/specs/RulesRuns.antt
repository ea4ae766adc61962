-- The runs of records that the rules read are sections, each entry made what it stands for.
use Prim.Native.Nat.{ℕ, zero, suc}
use Rattle.std.specs.Prelude.{◌≡◌, refl, false}
use Rattle.std.proofs.Math.Path.{sym, ap, fun_ext}
use Rattle.std.proofs.Common.{◌∙◌}
use mathlib.Core.List.{List, [], ◌∷◌}
use Rattle.std.proofs.Math.Option.{Option, none}
use Rattle.rules.specs.Lists.{Bytes, map_option}
use Rattle.rules.specs.Lines.{Word}
use Rattle.rules.specs.Reader.{Read, give, ◌>>=◌, record_within, many, turns, at_least_one}
use Rattle.rules.specs.ReadExpression.{times, expression}
use Rattle.entries.specs.Entries.{EntryHead, Entry, keyword_of, most_of, is_once, fields_of, name_of, entries, turns_of, section, some_section}
use Rattle.statement.specs.Layout.{map_entries}
use Rattle.statement.specs.Mapped.{mapped, same-steps, mapped-steps, steps-mapped, given-mapped, turns-mapped, if_at, if_at-mapped, at_least_one-mapped, within-mapped}

-- an entry's expressions, made what it stands for
unfoldable pub entry_body : {A : Type 0} → (Entry → A) → ℕ → EntryHead → Read A
entry_body to l h = mapped (λ es. to (record { line = l; head = h; exprs = es })) (times h.expressions expression)

-- a record of the kind after n of them, what follows it, and the rest
unfoldable pub turn : {H A : Type 0} → ℕ → (List Word → Option H) → (ℕ → H → Read A) → ℕ → (H → Read (List A)) → Read (List A)
turn k f body n more = do
  h ← record_within f n (most_of k)
  a ← body h.0 h.1
  as' ← more h.1
  give (a ∷ as')

-- A run of records of a kind: fields and bodies are those of entries, and each turn hands its name on.
pub record Run {H A : Type 0} (k : ℕ) (f : Option Bytes → List Word → Option H) (body : ℕ → H → Read A) (head : H → EntryHead) (to : Entry → A)
    (run : ℕ → ℕ → Option Bytes → Read (List A)) : Type 0 where
  pub fields : (b : Option Bytes) (r : List Word) → fields_of k b r ≡ map_option head (f b r)
  pub bodies : (l : ℕ) (h : H) → body l h ≡ entry_body to l (head h)
  pub ends : (n : ℕ) (b : Option Bytes) → run zero n b ≡ give []
  pub turns : (fuel n : ℕ) (b : Option Bytes) → run (suc fuel) n b ≡ if_at (keyword_of k) [] (turn k (f b) body n λ h. run fuel (suc n) (name_of (head h)))

-- an entry's expressions and the rest of the entries
unfoldable entered : ℕ → EntryHead → Read (List Entry) → Read (List Entry)
entered l h more = do
  es ← times h.expressions expression
  xs ← more
  give (record { line = l; head = h; exprs = es } ∷ xs)

entered-mapped : {A : Type 0} (to : Entry → A) (l : ℕ) (h : EntryHead) (more : Read (List Entry))
    → (entry_body to l h >>= λ a. (mapped (map_entries to) more >>= λ as'. give (a ∷ as'))) ≡ mapped (map_entries to) (entered l h more)
unfolding entry_body map_entries entered
entered-mapped to l h more = simp (mapped-steps, steps-mapped, given-mapped)

module _ {H A : Type 0} {k : ℕ} {f : Option Bytes → List Word → Option H} {body : ℕ → H → Read A} {head : H → EntryHead} {to : Entry → A}
    {run : ℕ → ℕ → Option Bytes → Read (List A)} (r : Run k f body head to run) where
  turn-entries : (n : ℕ) (b : Option Bytes) (more : EntryHead → Read (List Entry))
      → turn k (f b) body n (λ h. mapped (map_entries to) (more (head h))) ≡ mapped (map_entries to) (record_within (fields_of k b) n (most_of k) >>= λ h. entered h.0 h.1 (more h.1))
  unfolding turn
  turn-entries n b more = rw (within-mapped (f b) (fields_of k b) head (r.fields b) n (most_of k), mapped-steps, steps-mapped)
      (same-steps _ _ _ λ h. rw (r.bodies h.0 h.1) (entered-mapped to h.0 (head h.1) _))

  -- A run is the entries of its kind, each made what it stands for.
  pub run-entries : (fuel n : ℕ) (b : Option Bytes) → run fuel n b ≡ mapped (map_entries to) (entries k fuel n b)
  unfolding entries map_entries if_at entered
  run-entries zero n b = r.ends n b ∙ sym (given-mapped _ _)
  run-entries (suc fuel) n b = r.turns fuel n b
      ∙ ap (λ m. if_at (keyword_of k) [] (turn k (f b) body n m)) (fun_ext λ h. run-entries fuel (suc n) (name_of (head h)))
      ∙ ap (if_at (keyword_of k) []) (turn-entries n b λ h. entries k fuel (suc n) (name_of h))
      ∙ sym (if_at-mapped (map_entries to) (keyword_of k) [] _)

  module _ (many : is_once k ≡ false) where
    pub run-section : turns (λ fuel. run fuel 0 none) ≡ mapped (map_entries to) (section k)
    unfolding section turns turns_of
    run-section = ap turns (fun_ext λ fuel. run-entries fuel 0 none) ∙ turns-mapped (map_entries to) (λ fuel. entries k fuel 0 none)
        ∙ ap (mapped (map_entries to)) (fun_ext λ p. rw (section, turns_of, many))

    pub run-some : at_least_one (keyword_of k) (turns (λ fuel. run fuel 0 none)) ≡ mapped (map_entries to) (some_section k)
    unfolding some_section
    run-some = ap (at_least_one (keyword_of k)) run-section ∙ at_least_one-mapped (map_entries to) (keyword_of k) (section k)

-- the rules' runs of one kind, which pass no name on
pub many-run : {H A : Type 0} (k : ℕ) (f : List Word → Option H) (body : ℕ → H → Read A) (head : H → EntryHead) (to : Entry → A)
    → ((b : Option Bytes) (r : List Word) → fields_of k b r ≡ map_option head (f r)) → ((l : ℕ) (h : H) → body l h ≡ entry_body to l (head h))
    → Run k (λ b. f) body head to (λ fuel n b. many (keyword_of k) f (most_of k) body fuel n)
unfolding many if_at turn
many-run k f body head to g h = record { fields = g; bodies = h; ends = λ n b. refl; turns = λ fuel n b. refl }
