use Rattle.std.proofs.Common.{◌∙◌, subst, sym}
use Rattle.fsb_headline.proofs.Decided.{by-finding, by-match, by-verdict}
use Rattle.fsb_calls.specs.StatusSays.{TellsFinding, TellsMatch, TellsVerdict}
use Rattle.fsb_headline.proofs.laws.files_decide_the_status.Goals as goal

pub returns-clause-check : goal.returns-clause-check
returns-clause-check g c call ends tells marks trace reads name e runs apart =
    let it = c.files_are_read_as_told.ensures.judged call ends tells name e runs in
    by-verdict call.status marks trace apart
    (subst (λ w. TellsVerdict call.status marks w) (it.reads.2 ∙ sym reads.2)
    (subst (λ m. TellsVerdict call.status m it.trace) (it.reads.1 ∙ sym reads.1) it.told))

pub returns-clause-table : goal.returns-clause-table
returns-clause-table g c call ends tells marks trace reads name e runs apart =
    let it = c.files_are_read_as_told.ensures.tabled call ends tells name e runs in
    by-verdict call.status marks trace apart
    (subst (λ w. TellsVerdict call.status marks w) (it.reads.2 ∙ sym reads.2)
    (subst (λ m. TellsVerdict call.status m it.trace) (it.reads.1 ∙ sym reads.1) it.told))

pub returns-clause-audit : goal.returns-clause-audit
returns-clause-audit g c call ends tells marks trace reads name e runs apart =
    let it = c.files_are_read_as_told.ensures.audited call ends tells name e runs in
    by-finding call.status marks trace apart
    (subst (λ w. TellsFinding call.status marks w) (it.reads.2 ∙ sym reads.2)
    (subst (λ m. TellsFinding call.status m it.trace) (it.reads.1 ∙ sym reads.1) it.told))

pub returns-clause-search : goal.returns-clause-search
returns-clause-search g c call ends tells marks trace reads name steps e runs apart =
    let it = c.files_are_read_as_told.ensures.searched call ends tells name steps e runs in
    by-match call.status steps trace apart
    (subst (λ w. TellsMatch steps call.status w) (it.reads.2 ∙ sym reads.2) it.told)
