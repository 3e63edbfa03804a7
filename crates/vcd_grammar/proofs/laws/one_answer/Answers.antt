use Rattle.std.proofs.Common.{◌≡◌, ℕ, List, ◌⊎◌, inl, inr, refl, Option, Some, None}
use Rattle.fsb_signal.specs.declared.marks.Marks.{Marks}
use Rattle.fsb_signal.specs.declared.sample.Sample.{Sample}
use Rattle.vcd_grammar.specs.declared.fault.VcdFault.{VcdFault}
use Rattle.vcd_grammar.specs.Reading.{Reads, FirstFault, first_fault, marks_of, samples_of}
use Rattle.vcd_grammar.proofs.laws.one_answer.Goals as goal

-- a text has no fault, or a first one
answered : (text : List ℕ) (fault : Option VcdFault) → first_fault text ≡ fault
    → ((m : Marks) × (w : List Sample) × Reads text m w) ⊎ ((f : VcdFault) × FirstFault text f)
answered text None h = inl (marks_of text, samples_of text, (h, refl, refl))
answered text (Some f) h = inr (f, h)

pub returns-clause-either : goal.returns-clause-either
returns-clause-either c = λ text. answered text (first_fault text) refl
