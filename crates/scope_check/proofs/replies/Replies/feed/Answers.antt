use Rattle.std.proofs.Common.{◌≡◌, ◌∙◌, ℕ, Option, ap, refl}
use Rattle.fsb_encode.specs.declared.request.Request.{Request}
use Rattle.scope_check.specs.Replies.{asked_id, begun_on, reply_id}
use Rattle.scope_check.specs.Following.{is_unmarked, marked}
use Rattle.scope_check.proofs.Replying.{follows-more, low-of}
use Rattle.scope_check.proofs.replies.Replies.feed.Goals as goal

pub returns : goal.returns
returns c part f =
    let r = c.args.self.now in
    let x = c.args.sample.now in
    let request = c.begun_on-request.ensures in
    let asked : c.asked_id.result ≡ asked_id (begun_on r.last x) =
    c.asked_id.ensures.id ∙ ap (λ (q : Option Request). asked_id q) request in
    let reply : c.reply_id.result ≡ reply_id (begun_on r.last x) =
    c.reply_id.ensures.id ∙ ap (λ (q : Option Request). reply_id q) request in
    follows-more r _ part x f (low-of c.asked_id.result _ asked c.asked_id.ensures.low)
    (low-of c.reply_id.result _ reply c.reply_id.ensures.low) refl
    (c.mark.ensures ∙ ap (λ (i : Option ℕ). marked r.asked i) asked)
    (c.is_unmarked-self.ensures ∙ ap (λ (i : Option ℕ). is_unmarked c.mark.new.asked i) reply)
