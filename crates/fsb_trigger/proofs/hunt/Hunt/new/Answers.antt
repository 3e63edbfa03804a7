use Rattle.std.proofs.Common.{◌+◌, option_map, refl, ap, arith}
use Rattle.std.proofs.lemmas.List.{length-map}
use Rattle.fsb_count.specs.Clocks.{first_where, last_where}
use Rattle.fsb_trigger.specs.TriggerSteps.{view_of}
use Rattle.fsb_trigger.specs.Match.{latest, least_match}
use Rattle.fsb_trigger.specs.Hunt.{kept}
use Rattle.fsb_trigger.proofs.Newest.{none_kept}
use Rattle.fsb_trigger.proofs.hunt.Hunt.new.Goals as goal

pub returns : goal.returns
unfolding first_where last_where latest least_match
returns c =
    let few = c.args.trigger.few in
    record {
      searches = refl;
      counts = refl;
      finds = refl;
      keeps = λ none. record {
        each =
            λ i l. ap (option_map (kept (i + 1)))
            (none_kept i (omega (arith, l, few, length-map c.args.trigger.steps.items view_of)));
      };
    }
