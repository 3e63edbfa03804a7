use Rattle.std.proofs.Common.{◌≡◌, ◌++◌, map, take, drop}
use Rattle.fsb_hazard.specs.Told.{told_after}
use Rattle.fsb_hazard.proofs.asking.load_all.Given as goal

abbrev pub invariant-loop-hazard : goal.invariant-loop-hazard
invariant-loop-hazard g l = record {
  loaded : map (λ b. g.H.Hazard.told b) l.hazard-items
      ≡ map (λ b. told_after (g.H.Hazard.is_scripted b) l.lines (g.H.Hazard.told b)) (take l.hazard-index l.fn.hazards)
      ++ map (λ b. g.H.Hazard.told b) (drop l.hazard-index l.fn.hazards);
  kinds_stay : map (λ b. g.H.Hazard.is_scripted b) l.hazard-items
      ≡ map (λ b. g.H.Hazard.is_scripted b) l.fn.hazards;
}
