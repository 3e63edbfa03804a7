-- A timely run is coherent: of all rules, phase rules and rules of ownership, its trace breaks none.
use Rattle.std.proofs.Common.{◌≡◌, [], ◌∷◌, None, ◌∙◌, refl}
use Rattle.fsb_signal.specs.Parity.{marks_in}
use Rattle.fsb_timely.specs.Runs.{Run}
use Rattle.fsb_timely.specs.Timely.{Timely}
use Rattle.fsb_lawful.specs.Beginning.{KeepsBounds}
use Rattle.fsb_lawful.proofs.Interface.{accepted}
use Rattle.fsb_tied.proofs.Interface.{writes-back-alone}
use Rattle.fsb_owner_verdict.specs.Coherence.{coherence_verdict, earlier_of}
use Rattle.fsb_owner_verdict.proofs.Earlier.{earlier}
use Rattle.fsb_owners.specs.Joint.{unheld}
use Rattle.fsb_courses.specs.Coherent.{CouldBeMade}
use Rattle.fsb_courses.proofs.Explaining.{coherence_explained}
use Rattle.fsb_courses.proofs.Writers.{empty_coherent}
use Rattle.fsb_owner_run.proofs.Verdict.{none-broken-empty}

pub coherent-run : (r : Run) → Timely r → KeepsBounds r.plan
    → coherence_verdict (marks_in r.plan.profile) (unheld ∷ []) r.trace ≡ None
coherent-run r h bounds =
    earlier (marks_in r.plan.profile) (unheld ∷ []) r.trace
    ∙ (λ i. earlier_of (accepted r h bounds (writes-back-alone r h bounds) i) (none-broken-empty r h bounds i))

pub could-be-made : (r : Run) → Timely r → KeepsBounds r.plan → CouldBeMade (unheld ∷ []) r.trace
could-be-made r h bounds =
    ((coherence_explained (marks_in r.plan.profile) (unheld ∷ []) r.trace empty_coherent refl).0 (coherent-run r h bounds)).1
