use Rattle.std.proofs.Common.{◌≡◌, ◌∙◌, refl, ap, arith, length-set}
use Rattle.fsb_access.specs.FlatView.{FlatView}
use Rattle.fsb_access.proofs.Chunks.{put_bytes-held, chunk-set, memory_of_chunks-chunk}
use Rattle.fsb_access.proofs.flat.Flat.set.Goals as goal

pub loop-count-init : goal.loop-count-init
loop-count-init c = record {
  within = omega arith;
  eight = c.chunk-chunk.ensures.eight;
  puts = rw c.chunk-chunk.ensures.bytes
      (put_bytes-held c.args.self.now.chunks _ (rw c.chunk-chunk.ensures.bytes at c.chunk-chunk.ensures.eight));
}

pub loop-count-preserved : goal.loop-count-preserved
loop-count-preserved c =
    let l = c.loop-count in
    record {
      within = omega (arith, c.loop-count-test.true);
      eight = length-set _ _ _ ∙ l.invariant.eight;
      puts = chunk-set _ l.chunk _ l.count c.args.sets.now _ l.invariant.puts l.invariant.eight
          c.loop-count-test.true refl c.if-sets-count.true;
    }

pub returns-clause-put : goal.returns-clause-put
returns-clause-put c =
    let chunks_are : c.self.inside.chunks.entries ≡ c.args.self.now.chunks =
    ap (λ (view : FlatView). view.chunks) c.self.view_is in
    memory_of_chunks-chunk c.args.self.now.chunks c.insert.new.self.entries _ c.loop-count.chunk
    (λ other. rw (← chunks_are) (c.in_ok-insert.ensures.updates.0 other)) c.loop-count.invariant.eight
    ∙ c.loop-count.invariant.puts
