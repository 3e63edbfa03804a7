use Rattle.std.proofs.Common.{sym, ap, subst, ◌∙◌, [], ◌∷◌, ◌++◌}
use Rattle.fsb_trace.specs.Rules.{next_response}
use Rattle.fsb_laws.proofs.Interface.{next_response-new, one_more}
use Rattle.fsb_why_queue.specs.Next.{SaysNext}
use Rattle.fsb_why_queue.proofs.Codes.{code-new, code-none, code-quiet, sound-new}
use Rattle.fsb_why_queue.proofs.queue.Queue.response_code.Goals as goal

pub returns-in-Some : goal.returns-in-Some
returns-in-Some c = λ m h g.
    let x : _ = c.args.sample.now in
    let v : _ = h ++ c.args.sample.now ∷ [] in
    c.wrong_code.ensures m v c.args.clock (subst (SaysNext v c.args.clock) c.in-Some.is (c.next.ensures h g))
    (sym (sound-new h x c.args.clock g.clock) ∙ (sym c.is_sound.ensures ∙ c.if-is_sound.true))
    (code-new h x c.args.clock g.clock ∙ sym c.response.ensures)

pub returns-in-None : goal.returns-in-None
returns-in-None c = λ m h g.
    let x : _ = c.args.sample.now in
    let v : _ = h ++ c.args.sample.now ∷ [] in
    code-none m v c.args.clock _ _
    (sym (sound-new h x c.args.clock g.clock) ∙ (sym c.is_sound.ensures ∙ c.if-is_sound.true))
    (code-new h x c.args.clock g.clock ∙ sym c.response-in-None.ensures)
    ((g.stands).responses ∙ sym (ap (next_response v) g.clock ∙ next_response-new h x v (one_more h x)))
    (subst (SaysNext v c.args.clock) c.in-None.is (c.next.ensures h g))

pub returns-else-is_sound : goal.returns-else-is_sound
returns-else-is_sound c = λ m h g.
    code-quiet m (h ++ c.args.sample.now ∷ []) c.args.clock
    (sym (sound-new h c.args.sample.now c.args.clock g.clock) ∙ (sym c.is_sound.ensures ∙ c.if-is_sound.false))
