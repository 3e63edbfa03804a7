use Rattle.std.proofs.Common.{◌≤◌, Some, length, refl, ap, ◌∙◌, arith}
use Rattle.std.proofs.lemmas.Option.{slice_get_past}
use Rattle.fsb_agent.specs.Parts.{parts_view}
use Rattle.fsb_agent.proofs.Ready.{at_index}
use Rattle.fsb_agent.proofs.Wants.{among-is, from-is, want-idle, want-locked, want-none, want-one}
use Rattle.fsb_agent.proofs.parts.Parts.look_ahead.Goals as goal

pub returns-then-items-number : goal.returns-then-items-number
returns-then-items-number c =
    let past : length c.args.self.now.script ≤ c.args.number =
    omega (arith, ap length c.as_slice-items.ensures, c.if-items-number.true) in
    want-none (parts_view c.args.self.now) c.args.number (slice_get_past c.args.self.now.script c.args.number past)

pub returns-in-Locked : goal.returns-in-Locked
returns-in-Locked c =
    let v = parts_view c.args.self.now in
    let there = at_index c.args.self.now.script c.as_slice-items.result.now c.args.number c.args.number
    c.index-items-number.result c.as_slice-items.ensures refl c.if-items-number.false c.index-items-number.is in
    c.want_among.ensures
    ∙ among-is v c.as_slice.result.now c.as_slice-in-Locked.result.now c.in-Locked.group c.as_slice.ensures
    c.as_slice-in-Locked.ensures
    ∙ want-locked v c.args.number c.in-Locked.group (there ∙ ap Some c.in-Locked.is)

pub returns-in-One : goal.returns-in-One
returns-in-One c =
    let v = parts_view c.args.self.now in
    let there = at_index c.args.self.now.script c.as_slice-items.result.now c.args.number c.args.number
    c.index-items-number.result c.as_slice-items.ensures refl c.if-items-number.false c.index-items-number.is in
    c.want_from.ensures
    ∙ from-is v c.new.result.items c.as_slice-items.result.now c.args.self.now.script c.args.number c.args.number
    c.new.ensures c.as_slice-items.ensures refl
    ∙ want-one v c.args.number c.in-One.field-0 c.requires.sound.some_ahead (there ∙ ap Some c.in-One.is)

pub returns-in-Idle : goal.returns-in-Idle
returns-in-Idle c =
    let there = at_index c.args.self.now.script c.as_slice-items.result.now c.args.number c.args.number
    c.index-items-number.result c.as_slice-items.ensures refl c.if-items-number.false c.index-items-number.is in
    absurd (want-idle c.args.self.now.script c.args.number c.in-Idle.field-0 c.requires.busy
    (there ∙ ap Some c.in-Idle.is))
