use Rattle.std.proofs.Common.{sym, ap, ◌∙◌}
use Rattle.fsb_owner_judge.specs.Sights.{ended_for}
use Rattle.fsb_owner_judge.specs.Verdicts.{unfit_by}
use Rattle.fsb_owner_judge.proofs.LineSights.{end-own, ended-at, ended-own}
use Rattle.fsb_owner_judge.proofs.RuleForms.{begun-set, end-kept, end-lost, lost-set, owned-set, shown-set}
use Rattle.fsb_joint.specs.Sets.{joints_of}
use Rattle.fsb_owner_judge.specs.Lines.{kept_of}
use Rattle.fsb_owner_judge.proofs.lines.OwnerLines.end_rules.Goals as goal

pub after_answer-requires : goal.after_answer-requires
after_answer-requires c = rw c.snoop_end.ensures (end-own c.args.end.now c.requires.ended)

pub returns-then-is_lost : goal.returns-then-is_lost
returns-then-is_lost c = λ first v s f n e b.
    let end = c.args.end.now in
    let set = begun-set first v end.line s (kept_of c.args.self.now end.line) (joints_of c.begun_set-set.result) (f end.line)
    (c.begun_set-set.ensures v s b) in
    let left = shown-set first v end.line s (joints_of c.begun_set-set.result) (joints_of c.after_answer.result) set
    (c.after_answer.ensures v end.line s
    (c.snoop_end.ensures ∙ sym (ended-at v end.line s ∙ ap (ended_for end.line) (sym e) ∙ ended-own end))) in
    c.unfit.ensures
    ∙ ap (unfit_by end) (c.is_owned_elsewhere.ensures ∙ owned-set first v end.line s end.asker (joints_of c.begun_set-set.result) set)
    ∙ end-lost first v s end (sym e) n
    (sym (lost-set first v end.line s (joints_of c.begun_set-set.result) (joints_of c.after_answer.result) set left)
    ∙ sym c.is_lost.ensures ∙ c.if-is_lost.true)

pub returns-else-is_lost : goal.returns-else-is_lost
returns-else-is_lost c = λ first v s f n e b.
    let end = c.args.end.now in
    let set = begun-set first v end.line s (kept_of c.args.self.now end.line) (joints_of c.begun_set-set.result) (f end.line)
    (c.begun_set-set.ensures v s b) in
    let left = shown-set first v end.line s (joints_of c.begun_set-set.result) (joints_of c.after_answer.result) set
    (c.after_answer.ensures v end.line s
    (c.snoop_end.ensures ∙ sym (ended-at v end.line s ∙ ap (ended_for end.line) (sym e) ∙ ended-own end))) in
    c.nothing.ensures
    ∙ end-kept first v s end (sym e) n
    (sym (lost-set first v end.line s (joints_of c.begun_set-set.result) (joints_of c.after_answer.result) set left)
    ∙ sym c.is_lost.ensures ∙ c.if-is_lost.false)
