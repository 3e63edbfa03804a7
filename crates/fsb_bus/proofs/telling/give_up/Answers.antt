use Rattle.std.proofs.Common.{◌≡◌, ◌<◌, Some, length, set, sym, ap, ◌∙◌, arith}
use Rattle.std.proofs.lemmas.Option.{slice_get-get_or}
use Rattle.std.specs.Prelude.{slice_get}
use Rattle.fsb_agent_view.specs.AgentEvents.{GivenUp}
use Rattle.fsb_agent_view.specs.Arriving.{given_up}
use Rattle.fsb_bus.proofs.Told.{told-one}
use Rattle.fsb_bus.proofs.telling.give_up.Goals as goal

pub returns : goal.returns
returns c =
    let agents = c.args.agents.now in
    let x = c.index-agents-from.result in
    let within : c.from.result < length agents = omega (arith, c.requires.known, c.from.ensures) in
    let there : slice_get agents c.from.result ≡ Some x = slice_get-get_or agents c.from.result x within
    ∙ ap Some (sym c.index-agents-from.is) in
    ap (set agents c.from.result) (c.give_up.ensures ∙ ap (λ v. given_up v c.args.first) (sym c.index-agents-from.is))
    ∙ sym (told-one c.args.number 0 c.from.result (GivenUp c.args.first) agents x (omega (arith, c.from.ensures)) there)
