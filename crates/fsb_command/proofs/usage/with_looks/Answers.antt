use Rattle.std.proofs.Common.{◌∙◌, refl}
use Rattle.clap.specs.Simple.{app_of}
use Rattle.fsb_command.proofs.NeededMore.{looks_all, looks_more}
use Rattle.fsb_command.proofs.usage.with_looks.Goals as goal

pub loop-look-init : goal.loop-look-init
loop-look-init c = refl

pub loop-look-preserved : goal.loop-look-preserved
loop-look-preserved c =
    c.in_ok-usage.ensures
    ∙ looks_more (app_of c.args.usage) _ c.args.looks.now c.loop-look.look-index _ c.loop-look.invariant
    c.loop-look-test.true

pub returns : goal.returns
returns c = c.loop-look.invariant
    ∙ looks_all (app_of c.args.usage) c.args.looks.now c.loop-look.look-index c.loop-look-test.false
