-- `read_section`: the entries read, and the rest by the rules from here, are what the rules read in all.
use Prim.Native.Nat.{ℕ, ◌-◌}
use lib.ListN.{length}
use Rattle.entries.specs.Sections.{number_of}
use Rattle.sections.specs.Runs.{SectionLoop}
use Rattle.sections.proofs.read_section.Given as goal

abbrev pub invariant-loop-next : goal.invariant-loop-next
invariant-loop-next l =
    (k : ℕ) → SectionLoop l.t l.fn.at.position l.fn.at.line l.fn.at.rows (number_of l.kind) l.initial.cells l.initial.parts k l.run.at.position l.run.at.line l.run.at.rows l.run.count l.run.last l.cells l.parts

abbrev pub decreases-loop-next : goal.decreases-loop-next
decreases-loop-next l =
    length l.t - l.run.at.position
