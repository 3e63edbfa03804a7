-- What is judged of a dump, from what was read of it.
use Rattle.std.proofs.Common.{◌≡◌, ◌∙◌, ℕ, inl, inr, List, [], ◌∷◌, Result, Err, length, option_map, refl, sym, ap, subst, arith}
use Rattle.fsb_signal.specs.declared.marks.Marks.{Marks}
use Rattle.fsb_signal.specs.declared.sample.Sample.{Sample}
use Rattle.fsb_owner_verdict.specs.Coherence.{coherence_verdict}
use Rattle.vcd_way.specs.Declarations.{Declaration}
use Rattle.vcd_way.specs.Ways.{Way}
use Rattle.vcd_way.specs.Answers.{events_by}
use Rattle.vcd_way.specs.Events.{DumpEvent}
use Rattle.vcd_scan.specs.Ending.{early_told}
use Rattle.scope_check.specs.declared.part.Part.{Part}
use Rattle.scope_check.specs.Bounds.{most_counted}
use Rattle.scope_wiring.specs.declared.wiring.Choice.{Choice}
use Rattle.scope_wiring.specs.declared.wiring.Wiring.{Wiring}
use Rattle.scope_way.specs.Wired.{wired_way}
use Rattle.scope_watch.specs.declared.header.Header.{Header}
use Rattle.scope_watch.specs.declared.stop.ScopeStop.{ScopeStop}
use Rattle.scope_watch.specs.declared.stop.ScopeStop.TheVariants as stops
use Rattle.scope_watch.specs.declared.values.Ended.{Ended}
use Rattle.scope_watch.specs.declared.values.Sampling.{Sampling}
use Rattle.scope_watch.specs.Checking.{IsWiredBy}
use Rattle.scope_watch.specs.Heading.{IsHeaded}
use Rattle.scope_watch.specs.Watching.{rules_for, IsRead, IsWatched}
use Rattle.scope_coherence.specs.declared.answer.CoheredPart.{CoheredPart}
use Rattle.scope_coherence.specs.declared.coherer.Coherer.{Coherer}
use Rattle.scope_coherence.specs.declared.part.PartTold.{PartTold}
use Rattle.scope_coherence.specs.Found.{first_joints, pair_of}
use Rattle.scope_coherence.specs.Parting.{HasCohered, PartStands, TellsBehind, TellsPart}
use Rattle.scope_coherence.specs.Answers.{IsCohered, IsCoheredAs, IsCoheredPart}
use Rattle.scope_coherence.proofs.Places.{all-before}

-- ---- the text

-- a watcher that stops does so for want of memory or of numbers
abbrev pub watched : ScopeStop → Result Ended ScopeStop
watched stop = Err stop

pub cohered-stop : (stop : ScopeStop) (seen : List DumpEvent → Type 0) (p : Part) (m : Marks)
    (way : Way (List Declaration)) (text : List ℕ) → (watched stop ≡ watched stops.WriteFault → ⊥)
    → IsWatched (Err stop) seen most_counted way text → IsCoheredAs (Err stop) p m way text
cohered-stop (stops.Bad fault) seen p m way text never h = h
cohered-stop stops.ReadFault seen p m way text never h = tt
cohered-stop stops.NoHeader seen p m way text never h = h
cohered-stop stops.TooLong seen p m way text never h = h
cohered-stop stops.TooMany seen p m way text never h = h
cohered-stop stops.WriteFault seen p m way text never h = never refl
cohered-stop stops.Memory seen p m way text never h = tt

-- what is told of a part, whether it has samples or not
told-of : (t : PartTold) (p : Part) (m : Marks) (es before : List DumpEvent) (w v : List Sample) → w ≡ v
    → TellsPart t p m es before w → (w ≡ [] → before ≡ es) → TellsBehind t p m before w
told-of t p m es before [] v e h all = subst (λ l. TellsBehind t p m l []) (sym (all refl)) (h.none refl)
told-of t p m es before (x ∷ w) v e h all = h.some (omega (arith))

-- what a watcher tells at the end of a text
pub cohered-whole : (first last : Coherer) (ended : Ended) (told : CoheredPart) (t : PartTold) (p : Part) (m : Marks)
    (way : Way (List Declaration)) (text : List ℕ) → first.part ≡ p → first.marks ≡ m
    → (r : IsRead ended (λ es. HasCohered first last es) way text) → told.early_end ≡ ended.early_end
    → told.start ≡ t.start → told.is_later ≡ t.is_later → told.found ≡ t.found → told.judged ≡ length r.shown.samples
    → ((q : Part) (n : Marks) (es before : List DumpEvent) (w : List Sample) → PartStands last.judge q n es before w
    → TellsPart t q n es before w)
    → IsCoheredPart told p m way text
cohered-whole first last ended told t p m way text e f r same_end start later found judged tells =
    let s = r.shown.parted in
    let h : TellsBehind t first.part first.marks s.before r.shown.samples =
    told-of t first.part first.marks (events_by way text) s.before r.shown.samples r.shown.samples refl
    (tells first.part first.marks (events_by way text) s.before r.shown.samples r.shown.stands) (all-before s) in
    let here : IsCoheredPart told first.part first.marks way text = record {
      none = r.none;
      early_end = ap (λ x. option_map early_told x) same_end ∙ r.early_end;
      before = s.before;
      part = s.part;
      behind = s.behind;
      parted = s.parted;
      start = start ∙ h.start;
      judged = judged ∙ ap length s.samples_are;
      is_later = later ∙ h.later;
      found = ap pair_of found ∙ h.found ∙ ap (λ b. coherence_verdict first.marks (first_joints b) r.shown.samples) (sym later)
          ∙ ap (λ w. coherence_verdict first.marks (first_joints told.is_later) w) s.samples_are;
    } in
    subst (λ q. IsCoheredPart told q m way text) e (subst (λ n. IsCoheredPart told first.part n way text) f here)

-- ---- the whole

pub cohered-header : (stop : ScopeStop) (choice : Choice) (p : Part) (s : Sampling) (text left : List ℕ)
    → IsHeaded (Err stop) text left → IsCohered (Err stop) choice p s text
cohered-header (stops.Bad fault) choice p s text left h = inl h
cohered-header stops.ReadFault choice p s text left h = tt
cohered-header stops.NoHeader choice p s text left h = h
cohered-header stops.TooLong choice p s text left h = h
cohered-header stops.TooMany choice p s text left h = absurd h
cohered-header stops.WriteFault choice p s text left h = h
cohered-header stops.Memory choice p s text left h = tt

pub cohered-values : (stop : ScopeStop) (choice : Choice) (p : Part) (s : Sampling) (h : Header) (w : Wiring)
    (m : Marks) (text : List ℕ) → IsWiredBy choice s h w text
    → IsCoheredAs (Err stop) p m (wired_way w.wires.items (rules_for s)) text → IsCohered (Err stop) choice p s text
cohered-values (stops.Bad fault) choice p s h w m text wired e =
    inr (record { header = h; wiring = w; wired = wired; fault_is = e })
cohered-values stops.ReadFault choice p s h w m text wired e = tt
cohered-values stops.NoHeader choice p s h w m text wired e = absurd e
cohered-values stops.TooLong choice p s h w m text wired e = (e, wired.declares.is_dump)
cohered-values stops.TooMany choice p s h w m text wired e =
    record { header = h; wiring = w; wired = wired; many = e }
cohered-values stops.WriteFault choice p s h w m text wired e = e
cohered-values stops.Memory choice p s h w m text wired e = tt

-- the same with the marks and the way of the wires
pub cohered-by : (answer : Result CoheredPart ScopeStop) (p : Part) (m known : Marks)
    (way wired : Way (List Declaration)) (text : List ℕ) → m ≡ known → wired ≡ way → IsCoheredAs answer p m way text
    → IsCoheredAs answer p known wired text
cohered-by answer p m known way wired text e f h =
    subst (λ x. IsCoheredAs answer p x wired text) e (subst (λ x. IsCoheredAs answer p m x text) (sym f) h)
