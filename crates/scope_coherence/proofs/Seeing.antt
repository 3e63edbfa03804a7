-- What the watcher has seen, with one more event.
use Rattle.std.proofs.Common.{◌≡◌, ◌<◌, ◌++◌, ◌∷◌, [], List, Result, Ok, Err, OnOk, length, length-append, append-nil, arith, subst}
use Rattle.fsb_signal.specs.declared.marks.Marks.{Marks}
use Rattle.fsb_signal.specs.declared.sample.Sample.{Sample}
use Rattle.vcd_way.specs.Events.{DumpEvent}
use Rattle.scope_check.specs.declared.part.Part.{Part}
use Rattle.scope_check.specs.declared.parting.Parting.{Parting}
use Rattle.scope_check.specs.Parting.{HasParted}
use Rattle.scope_coherence.specs.declared.coherer.Coherer.{Coherer}
use Rattle.scope_coherence.specs.declared.part.PartJudge.{PartJudge}
use Rattle.scope_coherence.specs.Parting.{HasCohered, IsNext, PartStands}
use Rattle.scope_coherence.proofs.Places.{stays-there, begins-there}

-- where the part stands with a clock more
pub is-next : {g h : Parting} {p : Part} {es : List DumpEvent} {w : List Sample} (s : HasParted g p es w) (e : DumpEvent)
    (x : Sample) (n : HasParted h p (es ++ e ∷ []) (w ++ x ∷ [])) → IsNext w es s.before n.before
is-next {g} {h} {p} {es} {w} s e x n = record {
  stays = λ some. stays-there s e n some;
  begins = λ none. begins-there s e n (omega (arith, length-append w (x ∷ []))) none;
}

-- what one that takes a clock leaves
abbrev Judges : {T E : Type 0} → Result T E → PartJudge → PartJudge → Sample → Type 0
Judges r old new x =
    (p : Part) (m : Marks) (es before after : List DumpEvent) (e : DumpEvent) (w : List Sample) → PartStands old p m es before w
    → IsNext w es before after → OnOk r (PartStands new p m (es ++ e ∷ []) after (w ++ x ∷ []))

-- or takes an event that is none
abbrev Passes : {T E : Type 0} → Result T E → PartJudge → PartJudge → DumpEvent → Type 0
Passes r old new e =
    (p : Part) (m : Marks) (es before after : List DumpEvent) (w : List Sample) → PartStands old p m es before w
    → (0 < length w → after ≡ before) → OnOk r (PartStands new p m (es ++ e ∷ []) after w)

pub judged-by : {T E : Type 0} (r : Result T E) (old : Coherer) (e : DumpEvent) (x : Sample) (g : Parting) (j : PartJudge)
    → ((first : Coherer) (es : List DumpEvent) (s : HasCohered first old es)
    → HasParted g first.part (es ++ e ∷ []) (s.samples ++ x ∷ [])) → Judges r old.judge j x
    → OnOk r ((first : Coherer) (es : List DumpEvent) → HasCohered first old es
    → HasCohered first (record old { parting = g; judge = j }) (es ++ e ∷ []))
judged-by (Ok t) old e x g j parted judges = λ first es s.
    let n = parted first es s in
    record {
      samples = s.samples ++ x ∷ [];
      parted = n;
      stands = judges first.part first.marks es s.parted.before n.before e s.samples s.stands (is-next s.parted e x n);
    }
judged-by (Err f) old e x g j parted judges = tt

pub passed-by : {T E : Type 0} (r : Result T E) (old : Coherer) (e : DumpEvent) (g : Parting) (j : PartJudge)
    → ((first : Coherer) (es : List DumpEvent) (s : HasCohered first old es)
    → HasParted g first.part (es ++ e ∷ []) (s.samples ++ [])) → Passes r old.judge j e
    → OnOk r ((first : Coherer) (es : List DumpEvent) → HasCohered first old es
    → HasCohered first (record old { parting = g; judge = j }) (es ++ e ∷ []))
passed-by (Ok t) old e g j parted passes = λ first es s.
    let n : HasParted g first.part (es ++ e ∷ []) s.samples =
    subst (λ w. HasParted g first.part (es ++ e ∷ []) w) (append-nil s.samples) (parted first es s) in
    record {
      samples = s.samples;
      parted = n;
      stands = passes first.part first.marks es s.parted.before n.before s.samples s.stands (λ some. stays-there s.parted e n some);
    }
passed-by (Err f) old e g j parted passes = tt
