use Rattle.std.proofs.Common.{sym, ap, ◌∙◌}
use Rattle.fsb_audit.specs.AuditRegisters.{chunk_by, count_after, data_in, foul_by, found_after, from_memory_after}
use Rattle.fsb_audit.proofs.audit.Audit.absorb.Goals.{in-Some+in_ok-take_chunk, in_default}
use Rattle.fsb_audit.proofs.audit.Audit.absorb.Goals as goal

pub returns-clause-count : goal.returns-clause-count
unfolding count_after
returns-clause-count c =
    ap (λ a. a.count) c.note_request.ensures.rest
    ∙ elim c.match-coming.branch [
      | in-Some+in_ok-take_chunk w ↦
          ap (λ a. a.count) w.self-is ∙ w.in_ok-take_chunk.ensures.count
          ∙ sym (ap (count_after c.args.self.now.count) w.in-Some.is)
      | in_default w ↦ ap (λ a. a.count) w.self-is ∙ sym (ap (count_after c.args.self.now.count) w.in_default.is)
    ]

pub returns-clause-found : goal.returns-clause-found
unfolding found_after
returns-clause-found c =
    ap (λ a. a.found) c.note_request.ensures.rest
    ∙ elim c.match-coming.branch [
      | in-Some+in_ok-take_chunk w ↦
          ap (λ a. a.found) w.self-is ∙ w.in_ok-take_chunk.ensures.found
          ∙ ap (λ from. foul_by from c.args.clock (chunk_by c.args.self.now.asked w.in-Some.coming)
          (data_in c.args.self.now.moved.entries (chunk_by c.args.self.now.asked w.in-Some.coming))
          c.args.sample.now.dbus.bits) c.is_from_memory-self.ensures
          ∙ sym (ap (λ o. found_after c.args.self.now.found
          (from_memory_after c.args.self.now.from_memory c.args.sample.now) c.args.clock
          c.args.self.now.moved.entries c.args.self.now.asked o c.args.sample.now.dbus.bits) w.in-Some.is)
      | in_default w ↦
          ap (λ a. a.found) w.self-is
          ∙ sym (ap (λ o. found_after c.args.self.now.found
          (from_memory_after c.args.self.now.from_memory c.args.sample.now) c.args.clock
          c.args.self.now.moved.entries c.args.self.now.asked o c.args.sample.now.dbus.bits) w.in_default.is)
    ]
