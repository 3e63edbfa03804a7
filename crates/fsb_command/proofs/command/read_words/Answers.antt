use Rattle.std.proofs.Common.{◌∙◌, None, Some, sym, subst}
use Rattle.clap.specs.Simple.{subcommand_rows_of}
use Rattle.fsb_command.specs.Command.{IsCommand}
use Rattle.fsb_command.specs.Form.{form_of}
use Rattle.fsb_command.specs.Usage.{IsFound}
use Rattle.fsb_command.proofs.Limits.{command_keeps}
use Rattle.fsb_command.proofs.Readings.{found_is_form, no_form, refused_is_none, words_read}
use Rattle.fsb_command.proofs.command.read_words.Goals as goal

pub returns-then-not-may_stand-clause-form : goal.returns-then-not-may_stand-clause-form
returns-then-not-may_stand-clause-form c = no_form c.args.words.now (sym c.may_stand.ensures ∙ c.if-not-may_stand.true)

pub returns-in-Some-clause-form : goal.returns-in-Some-clause-form
returns-in-Some-clause-form c =
    let words = c.args.words.now in
    let found : IsFound words (Some c.in-Some.found) = subst (λ o. IsFound words o) c.in-Some.is
    (subst (λ ws. IsFound ws c.in_ok-found.field-0) c.as_slice.ensures c.in_ok-found.ensures) in
    let reads = words_read words (sym c.may_stand.ensures ∙ c.if-not-may_stand.false) in
    subst (λ form. IsCommand form c.found_command.result)
    (found_is_form words (form_of words) (subcommand_rows_of c.in-Some.found) reads found.0 found.1)
    c.found_command.ensures

pub returns-in-Some-clause-limits : goal.returns-in-Some-clause-limits
returns-in-Some-clause-limits c =
    let words = c.args.words.now in
    let found : IsFound words (Some c.in-Some.found) = subst (λ o. IsFound words o) c.in-Some.is
    (subst (λ ws. IsFound ws c.in_ok-found.field-0) c.as_slice.ensures c.in_ok-found.ensures) in
    let reads = words_read words (sym c.may_stand.ensures ∙ c.if-not-may_stand.false) in
    command_keeps words c.found_command.result
    (subst (λ form. IsCommand form c.found_command.result)
    (found_is_form words (form_of words) (subcommand_rows_of c.in-Some.found) reads found.0 found.1)
    c.found_command.ensures)

pub returns-in-None-clause-form : goal.returns-in-None-clause-form
returns-in-None-clause-form c =
    let words = c.args.words.now in
    let refused : IsFound words None = subst (λ o. IsFound words o) c.in-None.is
    (subst (λ ws. IsFound ws c.in_ok-found.field-0) c.as_slice.ensures c.in_ok-found.ensures) in
    refused_is_none words (form_of words) (words_read words
    (sym c.may_stand.ensures ∙ c.if-not-may_stand.false)) refused
