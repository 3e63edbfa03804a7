use Rattle.std.proofs.Common.{sym, ◌∙◌}
use Rattle.fsb_phase.specs.Phases.{IsNext}
use Rattle.fsb_phase.proofs.Driven.{drive_none, drive_some}
use Rattle.fsb_phase.proofs.phases.Phases.drive.Goals as goal

pub returns-in-Some : goal.returns-in-Some
returns-in-Some c = λ h turns k e f.
    let n : IsNext c.args.self.now c.args.clock c.args.queue.now turns h =
    record { stands = k; clock_is = e; flight = f } in
    let snooping = c.snooping-snooping.ensures h turns n in
    let at = sym c.at.ensures ∙ sym c.copied.ensures ∙ c.in-Some.is in
    let responds = c.has_response-responds.ensures h c.args.queue.now turns n at in
    rw (
      c.number_of-snoop.ensures,
      snooping,
      c.is_stalled-stall.ensures h c.args.queue.now turns n snooping,
      c.code_if.ensures,
      c.is_busy.ensures,
      c.chunk_due.ensures,
    ) (drive_some n c.in-Some.oldest c.has_ready.result c.has_response-responds.result c.answered-answered.result at
    (c.has_ready.ensures h c.args.queue.now turns n at) responds
    (c.answered-answered.ensures h c.args.queue.now turns c.in-Some.oldest n at responds))

pub returns-in-None : goal.returns-in-None
returns-in-None c = λ h turns k e f.
    let n : IsNext c.args.self.now c.args.clock c.args.queue.now turns h =
    record { stands = k; clock_is = e; flight = f } in
    let snooping = c.snooping-snooping.ensures h turns n in
    rw (
      c.number_of-snoop.ensures,
      snooping,
      c.is_stalled-stall.ensures h c.args.queue.now turns n snooping,
    ) (drive_none n (sym c.at.ensures ∙ sym c.copied.ensures ∙ c.in-None.is))
