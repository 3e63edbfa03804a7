-- Nothing is found in a part exactly where a coherent system could have made it.
use Rattle.std.proofs.Common.{◌≡◌, ◌↔◌, ℕ, Bool, true, false, List, Option, Some, None, refl, sym, ap, ◌∙◌}
use Rattle.fsb_signal.specs.declared.marks.Marks.{Marks}
use Rattle.fsb_trace.specs.At.{Trace}
use Rattle.fsb_trace.specs.Verdict.{verdict}
use Rattle.fsb_count.specs.Clocks.{all_where}
use Rattle.fsb_owners.specs.Joint.{every_joint}
use Rattle.fsb_owners.specs.Rules.{is_none_left}
use Rattle.fsb_owner_laws.specs.Losses.{AreCoherent}
use Rattle.fsb_owner_verdict.specs.Coherence.{coherence_verdict}
use Rattle.fsb_courses.specs.Coherent.{CouldBeMade}
use Rattle.fsb_courses.proofs.Explaining.{coherence_explained}
use Rattle.fsb_courses.proofs.Writers.{empty_coherent, unknown_coherent}
use Rattle.vcd_way.specs.Declarations.{Declaration}
use Rattle.vcd_way.specs.Events.{samples_among}
use Rattle.vcd_way.specs.Ways.{Way}
use Rattle.scope_check.specs.declared.part.Part.{Part}
use Rattle.scope_coherence.specs.Answers.{IsCoheredPart}
use Rattle.scope_coherence.specs.Found.{first_joints, pair_of}
use Rattle.scope_coherence.specs.declared.answer.CoheredPart.{CoheredPart}
use Rattle.scope_coherence.specs.declared.cohering.Incoherent.{Incoherent}

-- the first joint states of a part are those of a coherent line, and there are some
first-coherent : (is-later : Bool) → AreCoherent (first_joints is-later)
first-coherent true = unknown_coherent
first-coherent false = empty_coherent

first-some : (is-later : Bool) → is_none_left (first_joints is-later) ≡ false
unfolding every_joint all_where
first-some true = refl
first-some false = refl

-- a finding is none exactly where its pair is
pair-none : (found : Option Incoherent) → pair_of found ≡ None → found ≡ None
pair-none None e = refl
pair-none (Some b) e = absurd (let no : ⊥ = cc in no)

explained : (m : Marks) (is-later : Bool) (w : Trace) → (coherence_verdict m (first_joints is-later) w ≡ None)
    ↔ ((verdict m w ≡ None) × CouldBeMade (first_joints is-later) w)
explained m is-later w =
    coherence_explained m (first_joints is-later) w (first-coherent is-later) (first-some is-later)

pub part-explained : (told : CoheredPart) (p : Part) (m : Marks) (way : Way (List Declaration)) (text : List ℕ)
    → (x : IsCoheredPart told p m way text) → (told.found ≡ None)
    ↔ ((verdict m (samples_among x.part) ≡ None) × CouldBeMade (first_joints told.is_later) (samples_among x.part))
part-explained told p m way text x =
    let both = explained m told.is_later (samples_among x.part) in (
      λ e. both.0 (sym x.found ∙ ap pair_of e),
      λ h. pair-none told.found (x.found ∙ both.1 h),
    )
