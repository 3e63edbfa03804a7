use Rattle.std.proofs.Common.{◌∙◌, ◌+◌, Bool, if◌then◌else◌, ap, sym, subst}
use Rattle.fsb_trace.specs.At.{Trace}
use Rattle.vcd_way.specs.Events.{samples_among}
use Rattle.vcd_way.specs.Events.{Sampled}
use Rattle.vcd_course.specs.Told.{last_told}
use Rattle.scope_later.specs.Standing.{PartStands}
use Rattle.scope_check.specs.Following.{Follows}
use Rattle.scope_check.proofs.Samples.{samples_snoc}
use Rattle.scope_check.proofs.Growing.{none_more}
use Rattle.scope_check.proofs.Stamping.{found-more}
use Rattle.scope_check.proofs.Turns.{count_snoc}
use Rattle.scope_check.proofs.judging.Judging.judge.Goals as goal

pub returns-clause-judged : goal.returns-clause-judged
returns-clause-judged c l m part h =
    let j = c.args.self.now in
    let x = c.args.sample.now in
    let t = last_told c.args.stamp in
    let one = samples_snoc part x t in
    let some = none_more part (Sampled x t) in (
      record {
        stands = subst (λ (w : Trace). PartStands c.feed-self.new.self l m w) (sym one)
            (c.feed-self.ensures.stands l m (samples_among part) h.stands);
        count = c.in_ok-judged.ensures.more ∙ ap (λ n. n + 1) h.count ∙ sym (count_snoc part x t);
        follows = subst (λ (w : Trace). Follows c.feed.new.self w) (sym one)
            (c.feed.ensures (samples_among part) h.follows);
        found_on = found-more j.broken j.stamp c.args.stamp c.first_stamp-self.result l m part x c.feed-self.result h.found_on
            some (c.feed-self.ensures.found l m (samples_among part) h.stands) (c.first_stamp-self.ensures
            ∙ ap (λ (b : Bool). if b then j.stamp else c.args.stamp) c.is_some.ensures);
      },
      some,
    )
