use Rattle.std.proofs.Common.{◌≡◌, ℕ, List, ◌⊎◌, inl, inr, refl, Option, Some, None}
use Rattle.vcd_grammar.specs.declared.fault.VcdFault.{VcdFault}
use Rattle.vcd_way.specs.Ways.{Way}
use Rattle.vcd_way.specs.Events.{DumpEvent}
use Rattle.vcd_way.specs.Answers.{ReadsBy, FirstFaultBy, first_fault_by, header_by, events_by}
use Rattle.vcd_way.proofs.laws.one_answer.Goals as goal

-- a text has no fault, or a first one
answered : {W : Type 0} (way : Way W) (text : List ℕ) (fault : Option VcdFault) → first_fault_by way text ≡ fault
    → ((h : W) × (e : List DumpEvent) × ReadsBy way text h e) ⊎ ((f : VcdFault) × FirstFaultBy way text f)
answered way text None h = inl (header_by way text, events_by way text, (h, refl, refl))
answered way text (Some f) h = inr (f, h)

pub returns-clause-either : goal.returns-clause-either
returns-clause-either g c = λ way text. answered way text (first_fault_by way text) refl
