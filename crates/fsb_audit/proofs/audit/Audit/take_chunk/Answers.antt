use Rattle.std.proofs.Common.{◌≡◌, Some, cond, ap, ◌∙◌, slice_index, subst}
use Rattle.std.specs.Prelude.{◌==◌}
use Rattle.fsb_audit.specs.AuditRegisters.{chunk_by, data_in, foul_by, nth_from}
use Rattle.fsb_audit.proofs.audit.Audit.take_chunk.Goals as goal

pub returns-clause-moved : goal.returns-clause-moved
unfolding chunk_by
returns-clause-moved c = λ other.
    subst (λ chunk. data_in c.insert.new.self.entries other
    ≡ cond (chunk == other) (Some c.args.bits) (data_in c.args.self.now.moved.entries other))
    (c.nth_chunk-chunk.ensures.value
    ∙ ap (λ did. nth_from (slice_index c.args.self.now.asked did) c.args.coming.place) c.from.ensures)
    (c.in-Ok.ensures.updates other)

pub returns-clause-found : goal.returns-clause-found
unfolding chunk_by
returns-clause-found c =
    c.foul_of-self.ensures
    ∙ ap (λ before. foul_by c.args.self.now.from_memory c.args.clock c.nth_chunk-chunk.result before
    c.args.bits) c.in-Ok.ensures.old
    ∙ ap (λ chunk. foul_by c.args.self.now.from_memory c.args.clock chunk
    (data_in c.args.self.now.moved.entries chunk) c.args.bits)
    (c.nth_chunk-chunk.ensures.value
    ∙ ap (λ did. nth_from (slice_index c.args.self.now.asked did) c.args.coming.place) c.from.ensures)
