use Rattle.std.proofs.Common.{◌≡◌, map, take}
use Rattle.fsb_hazard.specs.Asking.{IsJoined}
use Rattle.fsb_hazard.proofs.asking.ask_all.Given as goal

abbrev pub invariant-loop-hazard : goal.invariant-loop-hazard
invariant-loop-hazard g l = record {
  joined : IsJoined (take l.hazard-index (map (λ b. g.H.Hazard.told b) l.fn.hazards)) l.ask l.choice;
  told_stays : map (λ b. g.H.Hazard.told b) l.hazard-items
      ≡ map (λ b. g.H.Hazard.told b) l.fn.hazards;
  kinds_stay : map (λ b. g.H.Hazard.is_scripted b) l.hazard-items
      ≡ map (λ b. g.H.Hazard.is_scripted b) l.fn.hazards;
}
