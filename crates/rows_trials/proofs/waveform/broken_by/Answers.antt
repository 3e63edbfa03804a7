use Rattle.std.proofs.Common.{◌++◌, ◌∷◌, [], take, arith, sym}
use Rattle.std.proofs.lemmas.List.{length-append, length-take, take_more}
use Rattle.rows_trials.proofs.waveform.broken_by.Goals as goal

pub feed-found-requires-in-Some : goal.feed-found-requires-in-Some
feed-found-requires-in-Some c = (
  c.args.marks,
  take c.loop-sample.sample-index c.args.w.now ++ c.sample.result ∷ [],
  c.feed-found.ensures.stands c.args.marks (take c.loop-sample.sample-index c.args.w.now) c.loop-sample.invariant,
  (let size = length-append (take c.loop-sample.sample-index c.args.w.now) (c.sample.result ∷ []) in
      let some = length-take c.loop-sample.sample-index c.args.w.now in
      omega (arith, c.requires)),
)

-- the samples so far, and the one that is fed
pub loop-sample-preserved : goal.loop-sample-preserved
loop-sample-preserved c =
    let more = take_more c.args.w.now c.loop-sample.sample-index c.sample-item.result c.loop-sample-test.true in
    rw (more, sym c.sample-item.is)
    (c.feed.ensures.stands c.args.marks (take c.loop-sample.sample-index c.args.w.now) c.loop-sample.invariant)
