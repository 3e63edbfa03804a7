use Rattle.std.proofs.Common.{sym, ap, cond, ◌∙◌, [], ◌∷◌, ◌++◌, ◌+◌, arith}
use Rattle.std.proofs.Common.{is_some}
use Rattle.fsb_laws.specs.OneMore.{responds}
use Rattle.fsb_laws.proofs.Interface.{one_more, response_count-more}
use Rattle.fsb_why_queue.proofs.Ends.{end-fed, few_responses, few_snoops}
use Rattle.fsb_why_queue.proofs.Busy.{last-fed}
use Rattle.fsb_why_queue.proofs.Asking.{count-after, last-after}
use Rattle.fsb_why_queue.proofs.queue.Queue.feed.Goals as goal

pub returns-clause-stands : goal.returns-clause-stands
returns-clause-stands c = λ h s o after.
    let x : _ = c.args.sample.now in
    let table = (c.in_ok-feed.ensures).stands h (record { stands = s.table; before = o; after = after }) in
    let clock = c.clock-clock.ensures ∙ (s.table).clock in
    let size = (s.table).clock in
    let room = c.requires in
    let low = s.responses in
    let fits = few_responses h in
    let low_snoops = s.snooped in
    let fits_snoops = few_snoops h in
    let end = c.asking_snoop-end.ensures h (record { stands = s; orderly = o; clock = clock }) in
    let before = c.ended_with-before.ensures h (record { stands = s; orderly = o; clock = clock }) in
    record {
      table = table;
      responses = c.responses_after-self.ensures (omega (arith, low, fits, size, room))
          ∙ (ap (λ k. k + cond (responds x) 1 0) s.responses
          ∙ sym (response_count-more h x (h ++ x ∷ []) (one_more h x)));
      snooped = c.snooped_after-self.ensures (omega (arith, low_snoops, fits_snoops, size, room))
          ∙ count-after h x o.spaced c.asking_snoop-end.result c.args.self.now.snooped end s.snooped;
      last = c.last_after-self.ensures
          ∙ last-after h x o.spaced c.asking_snoop-end.result c.args.self.now.last end s.last;
      ended = c.ended_after-self.ensures
          ∙ end-fed h x c.clock-clock.result c.ended_with-before.result c.is_some-moving.result o after clock
          (c.is_some-moving.ensures ∙ ap is_some (c.chunks.ensures (h ++ x ∷ []) table)) before;
      answered = c.answered_after-self.ensures
          ∙ last-fed h x c.clock-clock.result c.args.self.now.answered clock s.answered;
    }
