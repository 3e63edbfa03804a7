-- What a monitor receives of a trace, one sample of which may be lost on the way.
use Rattle.std.specs.Prelude.{ℕ, ◌+◌, nat_eq, Bool, false, if◌then◌else◌, Option, Some, None, List, [], ◌∷◌}
use Rattle.fsb_signal.specs.declared.sample.Sample.{Sample}
use Rattle.fsb_signal.specs.Samples.{idle}

-- whether the sample of the clock is lost
abbrev pub is_lost : Option ℕ → ℕ → Bool
is_lost None clock = false
is_lost (Some lost) clock = nat_eq lost clock

-- what is received of the sample of the clock: an idle one, if it is lost
abbrev pub received_at : Option ℕ → ℕ → Sample → Sample
received_at lost clock sample = if is_lost lost clock then idle else sample

-- what is received of samples, the first of which is that of the clock
abbrev pub received_from : Option ℕ → ℕ → List Sample → List Sample
received_from lost clock [] = []
received_from lost clock (sample ∷ w) = received_at lost clock sample ∷ received_from lost (clock + 1) w

-- what is received of a trace
abbrev pub received : Option ℕ → List Sample → List Sample
received lost w = received_from lost 0 w
