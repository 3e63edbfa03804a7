use Rattle.std.proofs.Common.{◌≡◌, map, take}
use Rattle.std.specs.List.{fold}
use Rattle.clap.specs.Simple.{app_of, with_subcommand}
use Rattle.fsb_command.specs.Usage.{verb_told}
use Rattle.fsb_command.proofs.usage.with_looks.Given as goal

-- the verbs that were gone over stand behind the others
abbrev pub invariant-loop-look : goal.invariant-loop-look
invariant-loop-look l = app_of l.usage ≡ fold with_subcommand (app_of l.fn.usage) (map verb_told (take l.look-index l.looks))
