use Rattle.std.proofs.Common.{◌≡◌, ◌∙◌, [], ⊎_elim, ap, map, subst}
use Rattle.std.specs.String.{string_bytes}
use Rattle.clap.specs.Values.{kind_of}
use Rattle.clap.specs.Simple.{is_simple, subcommand_of, subcommand_rows_of}
use Rattle.clap.specs.Faults.{fault_of, is_simple_and_free}
use Rattle.clap.specs.Kinds.{IsAmong}
use Rattle.fsb_command.proofs.Verbs.{usage_is_free, usage_is_simple}
use Rattle.fsb_command.proofs.usage.find_words.Goals as goal

pub returns-in-Ok : goal.returns-in-Ok
returns-in-Ok c =
    let is = c.in_ok-usage.ensures in (
      subst (λ a. fault_of a (map (λ s. string_bytes s) c.args.words.now) ≡ []) is
          (c.in-Ok.ensures.kinds (ap is_simple_and_free is ∙ usage_is_free)),
      subst (λ a. subcommand_rows_of c.in-Ok.matches ≡ subcommand_of a
          (map (λ s. string_bytes s) c.args.words.now)) is
          (c.in-Ok.ensures.matches (ap is_simple is ∙ usage_is_simple)).1,
    )

pub returns : goal.returns
returns c =
    let is = c.in_ok-usage.ensures in
    λ none. ⊎_elim (λ memory. c.in_default.not-OutOfMemory (c.kind.ensures ∙ memory))
    (λ among. subst (IsAmong (kind_of c.in-Err.error))
    (ap (λ a. fault_of a (map (λ s. string_bytes s) c.args.words.now)) is ∙ none) among)
    (c.in-Err.ensures.kinds (ap is_simple_and_free is ∙ usage_is_free))
