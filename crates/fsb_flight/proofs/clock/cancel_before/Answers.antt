use Rattle.std.proofs.Common.{◌≡◌, length, sym, ap, ◌∙◌, arith}
use Rattle.fsb_queue.specs.Entries.{without}
use Rattle.fsb_queue.proofs.Interface.{length-without}
use Rattle.fsb_flight.specs.Steps.{without_if, cancel_before}
use Rattle.fsb_flight.proofs.clock.cancel_before.Goals as goal

pub returns-in-Some-clause-entries : goal.returns-in-Some-clause-entries
unfolding cancel_before without_if
returns-in-Some-clause-entries c =
    c.cancel.ensures.rest ∙ sym (ap (λ o. without_if o c.args.queue.now) (sym c.number_before.ensures ∙ c.in-Some.is))

pub returns-in-Some-clause-room : goal.returns-in-Some-clause-room
returns-in-Some-clause-room c =
    let size : length c.cancel.new.self ≡ length (without c.in-Some.number c.args.queue.now) =
    ap length c.cancel.ensures.rest in
    let less = length-without c.in-Some.number c.args.queue.now in
    omega arith

pub returns-in_default-clause-entries : goal.returns-in_default-clause-entries
unfolding cancel_before without_if
returns-in_default-clause-entries c =
    sym (ap (λ o. without_if o c.args.queue.now) (sym c.number_before.ensures ∙ c.in_default.is))
