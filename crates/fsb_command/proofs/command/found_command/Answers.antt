use Rattle.std.proofs.Common.{◌∙◌, sym, ap, subst}
use Rattle.std.specs.Prelude.{option_and_then}
use Rattle.clap.specs.Matches.{found_of}
use Rattle.clap.proofs.WalkLemmas.{first_value-rows}
use Rattle.fsb_command.specs.Command.{IsCommand}
use Rattle.fsb_command.specs.Found.{form_found, form_in}
use Rattle.fsb_command.proofs.FoundRows.{rows_found}
use Rattle.fsb_command.proofs.command.found_command.Goals as goal

pub returns : goal.returns
returns c =
    let rows = rows_found c.args.found.now _ _ c.in_ok-verb.ensures.name c.in_ok-verb.ensures.rows in
    subst (λ form. IsCommand form c.command_of.result)
    ((λ i. form_found c.in_ok-verb.verb.now (λ id. first_value-rows (found_of c.in_ok-verb.arguments.now) id i))
    ∙ sym (ap (option_and_then form_in) rows))
    c.command_of.ensures
