use Rattle.std.proofs.Common.{◌∙◌, ◌∷◌, [], length, ap, arith, sym, subst}
use Rattle.std.proofs.lemmas.List.{length-append}
use Rattle.vcd_way.specs.Events.{samples_among}
use Rattle.vcd_course.specs.Told.{last_told}
use Rattle.scope_ring.specs.Ring.{Stands as RingStands}
use Rattle.scope_watch.specs.Checking.{kept_to}
use Rattle.scope_watch.proofs.Clocks.{kept-few, kept-full, kept-more, kept-still, told-sampled, told-hole, told-resumed}
use Rattle.scope_watch.proofs.check.keep.Goals as goal

pub feed-requires : goal.feed-requires
feed-requires c =
    let before = c.requires.0 in
    let es = c.requires.1 in
    let event = c.args.event.now in
    let one = told-sampled event.told c.in-Sampled.sample (last_told event.stamp) es c.in-Sampled.is in
    let count = c.requires.4 ∙ ap length one ∙ length-append (samples_among es) (c.in-Sampled.sample ∷ []) in
    let few = kept-few before (samples_among es) in (kept_to before (samples_among es), c.requires.2, omega (arith, count, few))

pub returns-then-is_kept : goal.returns-then-is_kept
returns-then-is_kept c = λ before es fed goes counted.
    let event = c.args.event.now in
    let xs = samples_among es in
    let x = c.in-Sampled.sample in
    let one = told-sampled event.told x (last_told event.stamp) es c.in-Sampled.is in
    let count = counted ∙ ap length one ∙ length-append xs (x ∷ []) in
    let kept = sym c.is_kept.ensures ∙ c.if-is_kept.true in
    subst (λ ys. RingStands c.feed.new.self (kept_to c.args.fault ys)) (sym one)
    (subst (λ ys. RingStands c.feed.new.self ys) (sym (kept-more before c.args.fault xs x c.args.clocks count goes kept))
    (c.feed.ensures (kept_to before xs) fed))

pub returns-else-is_kept : goal.returns-else-is_kept
returns-else-is_kept c = λ before es fed goes counted.
    let event = c.args.event.now in
    let xs = samples_among es in
    let x = c.in-Sampled.sample in
    let one = told-sampled event.told x (last_told event.stamp) es c.in-Sampled.is in
    let count = counted ∙ ap length one ∙ length-append xs (x ∷ []) in
    let full = sym c.is_kept.ensures ∙ c.if-is_kept.false in
    subst (λ ys. RingStands c.args.last.now (kept_to c.args.fault ys)) (sym one)
    (subst (λ ys. RingStands c.args.last.now ys) (sym (kept-full before c.args.fault xs x c.args.clocks count goes full)) fed)

pub returns-in-Hole : goal.returns-in-Hole
returns-in-Hole c = λ before es fed goes counted.
    let event = c.args.event.now in
    let same = told-hole event.told (last_told event.stamp) es c.in-Hole.is in
    subst (λ ys. RingStands c.args.last.now ys)
    (sym (kept-still before c.args.fault (samples_among es) _ c.args.clocks same counted goes)) fed

pub returns-in-Resumed : goal.returns-in-Resumed
returns-in-Resumed c = λ before es fed goes counted.
    let event = c.args.event.now in
    let same = told-resumed event.told (last_told event.stamp) es c.in-Resumed.is in
    subst (λ ys. RingStands c.args.last.now ys)
    (sym (kept-still before c.args.fault (samples_among es) _ c.args.clocks same counted goes)) fed
