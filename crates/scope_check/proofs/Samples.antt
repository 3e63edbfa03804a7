-- The samples among events.
use Rattle.std.proofs.Common.{◌≡◌, ◌++◌, ◌∷◌, [], List, Option, refl, ap}
use Rattle.fsb_signal.specs.declared.sample.Sample.{Sample}
use Rattle.vcd_way.specs.Pieces.{Stamp}
use Rattle.vcd_way.specs.Events.{DumpEvent, Sampled, Hole, Resumed, samples_among}

-- one more sample
pub samples_snoc : (es : List DumpEvent) (s : Sample) (t : Option Stamp)
    → samples_among (es ++ Sampled s t ∷ []) ≡ samples_among es ++ s ∷ []
samples_snoc [] s t = refl
samples_snoc (Sampled a u ∷ es) s t = ap (λ x. a ∷ x) (samples_snoc es s t)
samples_snoc (Hole u ∷ es) s t = samples_snoc es s t
samples_snoc (Resumed u ∷ es) s t = samples_snoc es s t

-- one more event that is none
pub samples_hole : (es : List DumpEvent) (t : Option Stamp)
    → samples_among (es ++ Hole t ∷ []) ≡ samples_among es
samples_hole [] t = refl
samples_hole (Sampled a u ∷ es) t = ap (λ x. a ∷ x) (samples_hole es t)
samples_hole (Hole u ∷ es) t = samples_hole es t
samples_hole (Resumed u ∷ es) t = samples_hole es t

pub samples_resumed : (es : List DumpEvent) (t : Option Stamp)
    → samples_among (es ++ Resumed t ∷ []) ≡ samples_among es
samples_resumed [] t = refl
samples_resumed (Sampled a u ∷ es) t = ap (λ x. a ∷ x) (samples_resumed es t)
samples_resumed (Hole u ∷ es) t = samples_resumed es t
samples_resumed (Resumed u ∷ es) t = samples_resumed es t
