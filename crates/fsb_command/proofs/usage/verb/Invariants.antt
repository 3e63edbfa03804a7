use Rattle.std.proofs.Common.{◌≡◌, false, map, take}
use Rattle.clap.specs.Simple.{shape_of}
use Rattle.clap.specs.declared.builder.command.Command.TheViews.{out-Command as fields_of}
use Rattle.fsb_command.specs.Usage.{verb_of}
use Rattle.fsb_command.proofs.usage.verb.Given as goal

-- the verb has the arguments that were gone over
abbrev pub invariant-loop-id : goal.invariant-loop-id
invariant-loop-id l = (shape_of l.verb ≡ verb_of l.name (map (λ s. s.now) (take l.id-index l.ids))) ×
    ((fields_of l.verb).has_globals ≡ false)
