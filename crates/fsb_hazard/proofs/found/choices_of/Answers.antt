use Rattle.std.proofs.Common.{arith, ap, ◌∙◌}
use Rattle.std.proofs.lemmas.List.{take_all}
use Rattle.fsb_hazard.specs.declared.choice.Ask.TheVariants.{Begun}
use Rattle.fsb_hazard.specs.Entry.{entry}
use Rattle.fsb_hazard.proofs.FoundEntries.{chosen-more}
use Rattle.fsb_hazard.proofs.found.choices_of.Goals as goal

pub loop-line-preserved : goal.loop-line-preserved
loop-line-preserved c =
    chosen-more c.loop-line.choices c.keep_choice.new.choices c.args.lines.now c.loop-line.line-index _
    (omega (arith, c.loop-line-test.true)) c.in_ok-keep_choice.ensures c.loop-line.invariant

pub returns : goal.returns
returns c number request =
    c.loop-line.invariant number request
    ∙ ap (λ l. entry l (Begun number request))
    (take_all c.loop-line.line-index c.args.lines.now (omega (arith, c.loop-line-test.false)))
