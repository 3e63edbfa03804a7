use Rattle.std.proofs.Common.{◌≡◌, zero-add, ap, sym, ◌∙◌, arith, length}
use Rattle.fsb_cache.proofs.Interface.{power_is_positive}
use Rattle.fsb_agent_view.specs.Idling.{idle_clocks_in_front, idle_count_in_front, idle_from, place_from}
use Rattle.fsb_agent_view.proofs.Interface.{sound_first}
use Rattle.fsb_agent.proofs.CacheSizes.{cache_power}
use Rattle.fsb_agent.proofs.Performing.{few_items}
use Rattle.fsb_agent.proofs.agent.Agent.new.Goals as goal

pub idle_in_front-idling-requires : goal.idle_in_front-idling-requires
idle_in_front-idling-requires c =
    omega (arith, few_items c.args.cache c.args.script c.requires.script, ap length c.as_slice.ensures)

pub new-requires-clause-power : goal.new-requires-clause-power
new-requires-clause-power c = cache_power c.args.cache c.requires.cache

pub invariant_of-result : goal.invariant_of-result
invariant_of-result c =
    let place : place_from c.args.script 0 ≡ c.idle_in_front-idling.result.count =
    zero-add (idle_count_in_front c.args.script)
    ∙ sym (c.idle_in_front-idling.ensures.count ∙ ap idle_count_in_front c.as_slice.ensures) in
    let idle_to : idle_from c.args.script 0 ≡ c.idle_in_front-idling.result.clocks =
    sym (c.idle_in_front-idling.ensures.clocks ∙ ap idle_clocks_in_front c.as_slice.ensures) in
    rw (c.in_ok-lines.ensures.sets, c.new-2.ensures, c.new-3.ensures, ← place, ← idle_to) (
      sound_first c.args.number c.args.script c.args.cache c.args.ahead c.args.profile c.requires.number
          (power_is_positive c.args.cache (cache_power c.args.cache c.requires.cache)) c.requires.script
          c.requires.some_ahead c.requires.few_ahead c.requires.profile,
      tt,
    )
