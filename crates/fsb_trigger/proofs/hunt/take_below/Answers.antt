use Rattle.std.proofs.Common.{◌<◌, ◌-◌, ◌++◌, ◌∷◌, [], ℕ, List, ◌∙◌, arith}
use Rattle.fsb_signal.specs.declared.sample.Sample.{Sample}
use Rattle.fsb_trigger.specs.Hunt.{KeepsAt, steps_in}
use Rattle.fsb_trigger.proofs.Taken.{keeps-same, from-here}
use Rattle.fsb_trigger.proofs.hunt.take_below.Goals as goal

pub loop-i-preserved : goal.loop-i-preserved
loop-i-preserved c =
    let trigger = c.args.trigger.now in
    let steps = steps_in trigger in
    let first = c.args.latest.now in
    let before = c.loop-i.latest in
    let after = c.take_at.new.latest in
    let here : ℕ = c.loop-i.i - 1 in
    let was = c.loop-i.invariant in
    let some : 0 < c.loop-i.i = c.loop-i-test.true in
    record {
      within = (let w = was.within in omega (arith, w));
      below = λ k l. c.take_at.ensures.rest_stays k (λ e. omega (arith, e, l)) ∙ was.below k (omega (arith, l, some));
      rest = λ k l. c.take_at.ensures.rest_stays k (λ e. let w = was.within in omega (arith, e, l, w, some))
          ∙ was.rest k l;
      done = λ h e keeps.
          let v : List Sample = h ++ c.args.sample.now ∷ [] in
          let w = was.within in
          from-here (KeepsAt after steps v) here c.args.end
          (c.take_at.ensures.keeps h e
          (λ j l. keeps-same before first steps h j (was.below j (omega (arith, l, some)))
          (keeps j (omega (arith, l, w, some)))))
          (λ k l m. keeps-same after before steps v k (c.take_at.ensures.rest_stays k (λ e. omega (arith, e, l)))
          (was.done h e keeps k (omega (arith, l, some)) m));
    }
