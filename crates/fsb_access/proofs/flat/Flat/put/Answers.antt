use Rattle.std.proofs.Common.{◌≡◌, ◌+◌, ◌-◌, ◌%◌, length, ap, arith}
use Rattle.fsb_access.specs.FlatView.{FlatView}
use Rattle.fsb_access.proofs.Chunks.{memory_of_chunks-put}
use Rattle.fsb_access.proofs.flat.Flat.put.Goals as goal

pub returns-clause-put : goal.returns-clause-put
returns-clause-put c =
    let within = c.requires in
    let chunks_are : c.self.inside.chunks.entries ≡ c.args.self.now.chunks =
    ap (λ (view : FlatView). view.chunks) c.self.view_is in
    memory_of_chunks-put c.args.self.now.chunks c.insert.new.self.entries c.args.addr
    (c.args.addr % 8 + length c.args.bytes.now - c.args.addr % 8) c.args.bytes.now
    (λ other. rw (← c.chunk-chunk.ensures.bytes, ← chunks_are)
    (rw c.copy_from_slice.ensures.after at (c.in_ok-insert.ensures.updates.0 other)))
    (omega arith) within (rw (← c.chunk-chunk.ensures.bytes) c.chunk-chunk.ensures.eight)
