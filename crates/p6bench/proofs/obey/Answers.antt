use Rattle.fsb_command.specs.Command.{form_meant}
use Rattle.p6bench.proofs.Endings.{may_end_kept}
use Rattle.p6bench.proofs.obey.Goals as goal

pub returns : goal.returns
returns g c =
    may_end_kept (form_meant c.args.command) c.perform-status.result c.kept.result c.names_dump-names_dump.result
    c.names_dump-names_dump.ensures c.kept.ensures.unnamed c.kept.ensures.ends c.perform-status.ensures.may_end
