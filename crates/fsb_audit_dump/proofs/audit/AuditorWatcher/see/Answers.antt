use Rattle.std.proofs.Common.{◌≡◌, Some, Ok, [], ◌∷◌, ◌++◌, sym, ap, ◌∙◌, subst}
use Rattle.fsb_audit.specs.declared.audit.Audit.{Audit}
use Rattle.fsb_audit.specs.Audit.{Stands}
use Rattle.fsb_audit_dump.specs.Audited.{audited_as}
use Rattle.fsb_audit_dump.proofs.audit.AuditorWatcher.see.Goals as goal
use Rattle.fsb_audit_dump.proofs.audit.AuditorWatcher.see.Goals.{in-Some-2, in-None}

same_audit : (a b : Audit) → Some a ≡ Some b → a ≡ b
same_audit a b e = cc

pub returns-clause-seen : goal.returns-clause-seen
unfolding audited_as
returns-clause-seen c marks h seen =
    let same : seen.audit ≡ c.in-Some.audit = same_audit seen.audit c.in-Some.audit (sym seen.held ∙ c.in-Some.is) in
    let stood : Stands c.in-Some.audit marks h = subst (λ (a : Audit). Stands a marks h) same seen.stands in
    let stands = c.in_ok-finding.ensures.stands marks h stood in
    let found = c.in_ok-finding.ensures.found marks h stood in
    elim c.match-branch-2.branch [
      | in-Some-2 w ↦ record {
        audit = c.feed.new.self;
        held = ap (λ auditor. auditor.audit) w.self-is;
        stands = stands;
        room = c.in_ok-finding.ensures.room;
        found = w.self2-is ∙ sym (ap (λ f. audited_as f (h ++ c.args.sample.now ∷ [])) (sym found ∙ w.in-Some-2.is));
      }
      | in-None w ↦ record {
        audit = c.feed.new.self;
        held = ap (λ auditor. auditor.audit) w.self-is;
        stands = stands;
        room = c.in_ok-finding.ensures.room;
        found = w.self2-is ∙ ap (λ n. Ok n) (w.chunks.ensures marks (h ++ c.args.sample.now ∷ []) stands)
            ∙ sym (ap (λ f. audited_as f (h ++ c.args.sample.now ∷ [])) (sym found ∙ w.in-None.is));
      }
    ]
