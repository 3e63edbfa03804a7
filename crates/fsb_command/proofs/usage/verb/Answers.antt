use Rattle.std.proofs.Common.{◌∙◌, ◌∷◌, ◌++◌, ◌||◌, [], ap, ap₂}
use Rattle.clap.specs.Walk.{Rule}
use Rattle.clap.specs.Simple.{Shape}
use Rattle.fsb_command.specs.Usage.{verb, verb_of}
use Rattle.fsb_command.proofs.NeededMore.{needed_all, needed_more}
use Rattle.fsb_command.proofs.usage.verb.Goals as goal

pub loop-id-init : goal.loop-id-init
loop-id-init c = (ap (λ a. a.top) c.new-verb.ensures.app, c.new-verb.ensures.local)

pub loop-id-preserved : goal.loop-id-preserved
loop-id-preserved c =
    let added = c.in_ok-verb.ensures in
    let stood = c.loop-id.invariant in (
      ap (λ a. a.top) (added.shape c.needed.ensures.local)
          ∙ ap₂ (λ (s : Shape) (r : Rule). record s { rules = s.rules ++ r ∷ [] }) stood.0 c.needed.ensures.rule
          ∙ ap (λ rs. verb c.args.name.now rs) (needed_more c.args.ids.now c.loop-id.id-index _ c.loop-id-test.true),
      added.globals ∙ ap₂ ◌||◌ stood.1 c.needed.ensures.local,
    )

pub returns-clause-shape : goal.returns-clause-shape
returns-clause-shape c = c.loop-id.invariant.0
    ∙ ap (verb_of c.args.name.now) (needed_all c.args.ids.now c.loop-id.id-index c.loop-id-test.false)

pub returns-clause-local : goal.returns-clause-local
returns-clause-local c = c.loop-id.invariant.1
