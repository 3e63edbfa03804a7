use Rattle.std.proofs.Common.{◌≡◌, ◌-◌, ◌<◌, length, take, drop, ap, sym, ◌∙◌, List, arith}
use Rattle.std.specs.Prelude.{ℕ}
use Rattle.std.proofs.lemmas.Grind.{common_steps}
use Rattle.fsb_timely.specs.Scripts.{plain_items}
use Rattle.fsb_agent_view.specs.Wanting.{is_missing_by}
use Rattle.fsb_agent.specs.Parts.{need_after, parts_view}
use Rattle.fsb_agent.proofs.Windows.{after-idle, after-locked, after-missing, after-next, after-none, after-zero}
use Rattle.fsb_agent.proofs.Windows.{want_after}
use Rattle.fsb_agent.proofs.parts.Parts.+want_from.Goals as goal

pub returns-then-more-eq0 : goal.returns-then-more-eq0
returns-then-more-eq0 t c = after-zero (parts_view c.args.self.now) c.args.earlier.now.items c.args.more
    c.args.items.now c.if-more-eq0.true

pub returns-then-is_empty : goal.returns-then-is_empty
returns-then-is_empty t c =
    let empty : length c.args.items.now ≡ 0 = grind (arith, common_steps) in
    after-none (parts_view c.args.self.now) c.args.earlier.now.items c.args.more c.args.items.now empty

pub returns-in-Locked : goal.returns-in-Locked
returns-in-Locked t c =
    let some : 0 < length c.args.items.now = grind (arith, common_steps) in
    after-locked (parts_view c.args.self.now) c.args.earlier.now.items c.args.more c.args.items.now
    c.index-items-0.result c.in-Locked.field-0 (some, c.index-items-0.is) c.in-Locked.is

pub returns-in-Idle : goal.returns-in-Idle
returns-in-Idle t c =
    let some : 0 < length c.args.items.now = grind (arith, common_steps) in
    after-idle (parts_view c.args.self.now) c.args.earlier.now.items c.args.more c.args.items.now
    c.index-items-0.result c.in-Idle.field-0 (some, c.index-items-0.is) c.in-Idle.is

pub returns-then-is_missing : goal.returns-then-is_missing
returns-then-is_missing t c =
    let v = parts_view c.args.self.now in
    let earlier = c.args.earlier.now.items in
    let some : 0 < length c.args.items.now = grind (arith, common_steps) in
    let more : 0 < c.args.more = omega arith in
    after-missing v earlier c.args.more c.args.items.now c.index-items-0.result c.in-One.access
    (need_after earlier c.plain-need.result) c.want_for.result more (some, c.index-items-0.is) c.in-One.is
    (c.plain-need.ensures earlier)
    (ap (λ lines. is_missing_by v (need_after lines c.plain-need.result)) (sym c.as_slice.ensures.value)
    ∙ sym c.is_missing.ensures ∙ c.if-is_missing.true) (c.want_for.ensures earlier)

pub returns-else-is_missing : goal.returns-else-is_missing
returns-else-is_missing t c =
    let v = parts_view c.args.self.now in
    let earlier = c.args.earlier.now.items in
    let some : 0 < length c.args.items.now = grind (arith, common_steps) in
    let more : 0 < c.args.more = omega arith in
    c.want_from.ensures
    ∙ ap (λ (lines : List ℕ). want_after v lines
    (plain_items (c.args.more - 1) (take (length c.args.items.now - 1) (drop 1 c.args.items.now))))
    c.push.ensures.items
    ∙ after-next v earlier c.args.more c.args.items.now c.index-items-0.result c.in-One.access
    (need_after earlier c.plain-need.result) more (some, c.index-items-0.is) c.in-One.is
    (c.plain-need.ensures earlier)
    (ap (λ lines. is_missing_by v (need_after lines c.plain-need.result)) (sym c.as_slice.ensures.value)
    ∙ sym c.is_missing.ensures ∙ c.if-is_missing.false)
