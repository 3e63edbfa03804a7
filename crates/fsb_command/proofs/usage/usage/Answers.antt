use Rattle.std.proofs.Common.{◌≡◌, ◌∙◌, ◌∷◌, ◌||◌, [], true, ap, ap₂, codes, map, subst}
use Rattle.std.specs.Prelude.{IfOk}
use Rattle.std.specs.List.{fold}
use Rattle.clap.specs.Simple.{App, app_of, app_of_fields, new_rule, on_top, shape_of, with_rule, with_subcommand}
use Rattle.fsb_command.specs.Form.{looks}
use Rattle.fsb_command.specs.Usage.{look_verb, needed, usage, verb, verb_of}
use Rattle.fsb_command.proofs.usage.usage.Goals as goal

pub returns : goal.returns
unfolding usage
returns c =
    let run_is : shape_of c.in_ok-run.run' ≡ verb (codes "run")
    (needed (codes "bench") ∷ new_rule (codes "dump") ∷ []) =
    ap (λ a. a.top) (c.in_ok-run.ensures.shape c.new-2.ensures.optional.1
    ∙ ap₂ with_rule (c.in_ok-arg.ensures.shape c.needed.ensures.local
    ∙ ap₂ with_rule c.new.ensures.app c.needed.ensures.rule) c.new-2.ensures.rule) in
    let run_local = c.in_ok-run.ensures.globals
    ∙ ap₂ ◌||◌ (c.in_ok-arg.ensures.globals ∙ ap₂ ◌||◌ c.new.ensures.local c.needed.ensures.local)
    c.new-2.ensures.optional.1 in
    let no_verbs = ap app_of_fields c.subcommand_required.ensures
    ∙ ap (on_top (λ s. record s { subcommand_required = true })) (ap app_of_fields c.disable_help_subcommand.ensures
    ∙ ap (on_top (λ s. record s { disable_help_subcommand = true })) (ap app_of_fields c.disable_help_flag.ensures
    ∙ ap (on_top (λ s. record s { disable_help_flag = true })) (ap app_of_fields c.no_binary_name.ensures
    ∙ ap (on_top (λ s. record s { no_binary_name = true })) c.new-3.ensures.app))) in
    let with_run = c.in_ok-usage.ensures.shape run_local ∙ ap₂ with_subcommand no_verbs run_is in
    let with_gen = c.in_ok-usage-2.ensures
    ∙ ap (λ (a : App). with_subcommand a (verb_of (codes "gen")
    (codes "seed" ∷ codes "agents" ∷ codes "items" ∷ []))) with_run in
    subst (λ (a : App). IfOk c.with_looks.result (λ made. app_of made ≡ a))
    (ap (λ (a : App). fold with_subcommand a (map look_verb looks)) with_gen) c.with_looks.ensures
