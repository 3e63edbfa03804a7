use Rattle.std.proofs.Common.{refl, sym}
use Rattle.fsb_phase.specs.Drive.{phased_at}
use Rattle.fsb_phase.proofs.Course.{taken}
use Rattle.fsb_phase.proofs.Responses.{last_response-more}
use Rattle.fsb_phase.proofs.phases.Phases.absorb.Goals as goal

pub returns-clause-result : goal.returns-clause-result
unfolding phased_at
returns-clause-result c = λ h turns k t.
    let snooped = c.snooped_with-snooped.ensures h turns k t in
    let transfer = c.chunks-transfer.ensures _ (c.heads_with-heads.ensures h turns k t snooped) in
    rw (
      c.number_of.ensures,
      c.number_of-2.ensures,
      snooped,
      c.ended_with-ended.ensures h c.args.clock turns k t transfer,
      t.clock_is,
    ) refl

pub returns-clause-stands : goal.returns-clause-stands
returns-clause-stands c = λ h turns k t.
    let snooped = c.snooped_with-snooped.ensures h turns k t in
    let heads = c.heads_with-heads.ensures h turns k t snooped in
    record {
      heads = heads;
      from = c.from_with.ensures h turns k t snooped (c.chunks-transfer.ensures _ heads);
      response = rw (c.clock_if.ensures, t.clock_is, k.response)
          (sym (last_response-more h c.args.sample.now _ c.responds.result (taken k t).1.more
          (sym c.responds.ensures)));
      orderly = (taken k t).1.orderly;
    }
