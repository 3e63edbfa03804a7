-- One clock of a bench: what its calls ask for, and what they answer, in the words of the bench's view.
use Rattle.std.proofs.Common.{◌≡◌, ◌<◌, ℕ, Bool, true, false, List, [], ◌∷◌, ◌++◌, length, Option, Some, None, refl}
use Rattle.std.proofs.Common.{sym, subst, ap, ◌∙◌, arith}
use Rattle.std.proofs.lemmas.Bool.{false≢true}
use Rattle.std.proofs.lemmas.Bool.Decides.{nat_tests}
use Rattle.std.proofs.lemmas.Option.{none-some}
use Rattle.std.specs.Option.{option_map}
use Rattle.std.specs.Prelude.{IfSome, if◌then◌else◌, nat_lt, not, ◌&&◌}
use Rattle.fsb_arbiter.specs.Arbiter as arbiters
use Rattle.fsb_encode.specs.Request.{is_lawful_request}
use Rattle.fsb_flight.specs.GoesOn.{Rising, goes_on}
use Rattle.fsb_flight.specs.Steps.{begun_list}
use Rattle.fsb_hazard.specs.declared.choice.Choice.{Choice}
use Rattle.fsb_phase.specs.Drive.{drive_of, phased_at}
use Rattle.fsb_phase.specs.FitQueue.{HoldsInFlight}
use Rattle.fsb_phase.specs.Phases as phases
use Rattle.fsb_phase.specs.declared.drive.Drive.{Drive}
use Rattle.fsb_phase.specs.declared.drive.Phased.{Phased}
use Rattle.fsb_phase.specs.declared.phases.Phases.{Phases}
use Rattle.fsb_queue.specs.declared.entry.Entry.{Entry}
use Rattle.fsb_signal.specs.Samples.{has_line}
use Rattle.fsb_signal.specs.declared.lines.TheConstants.Lines.{AERR}
use Rattle.fsb_signal.specs.declared.sample.Sample.{Sample}
use Rattle.fsb_trace.specs.At.{Trace}
use Rattle.fsb_trace.specs.Winner.{winner_at}
use Rattle.fsb_trace.specs.declared.outcome.Outcome.{Outcome}
use Rattle.fsb_trace.specs.declared.who.Who.{Who}
use Rattle.fsb_bench_view.specs.BenchSteps.{step_decided, step_drive, step_performed, step_phased, step_sample}
use Rattle.fsb_bench_view.specs.BenchSteps.{was_held_at}
use Rattle.fsb_bench_view.specs.BusDecisions.{bus_decided}
use Rattle.fsb_bench_view.specs.BusEvents.{bus_performed, entry_started}
use Rattle.fsb_bench_view.specs.BusSample.{sample_by}
use Rattle.fsb_bench_view.specs.BusStarting.{is_spaced_by, may_start}
use Rattle.fsb_bench_view.specs.BusViews.{BenchView, BusView, next_clock_of}
use Rattle.fsb_bench_view.specs.BytesFetched.{bus_fetched, bytes_source}
use Rattle.fsb_bench_view.specs.MaySteps.{HasLawfulWords, MayHear, MayStep, run_turns}
use Rattle.fsb_bench_view.specs.declared.beginning.Starting.{Starting}
use Rattle.fsb_bench_view.specs.declared.decided.BytesFrom.{BytesFrom}
use Rattle.fsb_bench_view.specs.declared.decided.BytesFrom.TheVariants.{Memory, Agents}
use Rattle.fsb_bench_view.specs.declared.decided.Decided.{Decided}
use Rattle.fsb_bus.specs.Buses.{bus_view}
use Rattle.fsb_bus.specs.declared.bus.Bus.{Bus}
use Rattle.fsb_core.specs.BareBenches.{IsFit, fetched_by, bare_view}
use Rattle.fsb_core.specs.declared.bare.BareBench.{BareBench}
use Rattle.fsb_core.proofs.DueChunks.{chunk-below}

-- what is decided at the clock, on the bus after the hits
pub record IsDecided (v : BenchView) (hold : Bool) (clock : ℕ) (p : BusView) (decided : Decided) : Type 0 where
  pub clock_is : clock ≡ next_clock_of v
  pub performed : p ≡ step_performed v
  pub decided_is : decided ≡ step_decided v hold

-- the bus is as it was but for the agents and the bytes that move
abbrev pub Moves : Bus → Bus → Type 0
Moves old new = new ≡ record old { agents = new.agents; moved = new.moved }

pub decided-is :
    (m : BareBench) (b : Bus) (hold : Bool) (clock : ℕ) (drive : Drive) (winner : Option Who) (held : Bool)
    (decided : Decided)
    (named : ℕ → Bool) → IsFit m → MayStep named (bare_view m) hold → clock ≡ length m.trace.items
    → ((h : Trace) (turns : List ℕ) → phases.Stands m.bus.phases h → clock ≡ length h
    → HoldsInFlight m.bus.queue turns h → drive ≡ drive_of h m.bus.queue)
    → bus_view b ≡ bus_performed (fetched_by (bus_view m.bus) drive) clock → Moves m.bus b
    → ((h : Trace) → arbiters.Stands b.arbiter h → winner ≡ winner_at h (length h))
    → held ≡ was_held_at m.holds.items clock
    → decided ≡ bus_decided (bus_view b) winner clock drive hold held
    → IsDecided (bare_view m) hold clock (bus_view b) decided
decided-is m b hold clock drive winner held decided named fit may clock_is drives performs moves wins was decides =
    let v = bare_view m in
    let h = m.trace.items in
    let e_drive : drive ≡ step_drive v = drives h (run_turns v.run) fit.stands.phases clock_is may.flight.flight in
    let P : Rattle.fsb_arbiter.specs.declared.arbiter.Arbiter.Arbiter → Type 0 = λ a. arbiters.Stands a h in
    let e_winner : winner ≡ winner_at h (length h) = wins h (subst P
    (sym (ap (λ x. x.arbiter) moves)) fit.stands.arbiter) in
    let e_performed : bus_view b ≡ step_performed v =
    performs ∙ ap (λ d. bus_performed (fetched_by v.bus d) clock) e_drive
    ∙ ap (bus_performed (fetched_by v.bus (step_drive v))) clock_is in
    record {
      clock_is = clock_is;
      performed = e_performed;
      decided_is =
          decides
          ∙ ap (λ p. bus_decided p winner clock drive hold held) e_performed
          ∙ ap (λ w. bus_decided (step_performed v) w clock drive hold held) e_winner
          ∙ ap (λ d. bus_decided (step_performed v) (winner_at h (length h)) clock d hold held) e_drive
          ∙ ap (λ x. bus_decided (step_performed v) (winner_at h (length h)) clock (step_drive v) hold x) was
          ∙ ap (λ n. bus_decided (step_performed v) (winner_at h (length h)) n (step_drive v) hold
          (was_held_at v.run.holds n)) clock_is;
    }

-- the words of the clock come from lawful requests
pub words-lawful : (named : ℕ → Bool) (v : BenchView) (hold : Bool) (clock : ℕ) (p : BusView) (decided : Decided)
    → IsDecided v hold clock p decided → MayStep named v hold → HasLawfulWords p
words-lawful named v hold clock p decided at may =
    let P : BusView → Type 0 = HasLawfulWords in subst P (sym at.performed) may.words

pub start-lawful : (named : ℕ → Bool) (v : BenchView) (hold : Bool) (clock : ℕ) (p : BusView) (decided : Decided)
    → IsDecided v hold clock p decided → MayStep named v hold → (starting : Starting) → decided.starting ≡ Some starting
    → is_lawful_request starting.request ≡ true
start-lawful named v hold clock p decided at may starting begins =
    (may.hears.starts starting (ap (λ d. d.starting) (sym at.decided_is) ∙ begins)).lawful

pub driven-chunk : (v : BenchView) (hold : Bool) (clock : ℕ) (p : BusView) (decided : Decided)
    → IsDecided v hold clock p decided
    → IfSome decided.drive.chunk (λ chunk. chunk.1 < 4)
driven-chunk v hold clock p decided at =
    let P : Option (ℕ × ℕ) → Type 0 = λ o. IfSome o (λ chunk. chunk.1 < 4) in
    subst P (sym (ap (λ d. d.drive.chunk) at.decided_is)) (chunk-below v.run.trace v.bus.queue)

-- the sample of the clock, and what the phases tell of it
pub record IsSampled (v : BenchView) (hold : Bool) (sample : Sample) (phased : Phased) (after : Phases) : Type 0 where
  pub sample_is : sample ≡ step_sample v hold
  pub phased_is : phased ≡ step_phased v hold
  pub may_take : phases.MayTake (next_clock_of v) sample v.bus.queue (run_turns v.run) v.run.trace
  pub stands : phases.Stands after (v.run.trace ++ sample ∷ [])

sample-taken : (named : ℕ → Bool) (v : BenchView) (hold : Bool) (sample : Sample) → MayStep named v hold
    → sample ≡ step_sample v hold
    → phases.MayTake (next_clock_of v) sample v.bus.queue (run_turns v.run) v.run.trace
sample-taken named v hold sample may is =
    let P : Sample → Type 0 = λ x. phases.MayTake (next_clock_of v) x v.bus.queue (run_turns v.run) v.run.trace in
    subst P (sym is)
    (record { clock_is = refl; flight = may.flight.flight; answers = may.sample.answers; spaced = may.sample.spaced })

pub sampled-is :
    (m : BareBench) (b : Bus) (hold : Bool) (clock : ℕ) (decided : Decided) (sample : Sample) (phased : Phased)
    (after : Phases)
    (named : ℕ → Bool) → IsFit m → MayStep named (bare_view m) hold
    → IsDecided (bare_view m) hold clock (bus_view b) decided → Moves m.bus b
    → sample ≡ sample_by (bus_view b) clock m.plan.profile decided
    → ((h : Trace) (turns : List ℕ) → phases.Stands b.phases h → phases.MayTake clock sample b.queue turns h
    → phased ≡ phased_at (h ++ sample ∷ []) clock b.queue)
    → ((h : Trace) (turns : List ℕ) → phases.Stands b.phases h → phases.MayTake clock sample b.queue turns h
    → phases.Stands after (h ++ sample ∷ []))
    → IsSampled (bare_view m) hold sample phased after
sampled-is m b hold clock decided sample phased after named fit may at moves samples tells stands =
    let v = bare_view m in
    let h = m.trace.items in
    let e_sample : sample ≡ step_sample v hold =
    samples
    ∙ ap (λ p. sample_by p clock m.plan.profile decided) at.performed
    ∙ ap (λ n. sample_by (step_performed v) n m.plan.profile decided) at.clock_is
    ∙ ap (sample_by (step_performed v) (next_clock_of v) m.plan.profile) at.decided_is in
    let take = sample-taken named v hold sample may e_sample in
    let Q : List Entry → Type 0 = λ q. phases.MayTake clock sample q (run_turns v.run) h in
    let N : ℕ → Type 0 = λ n. phases.MayTake n sample m.bus.queue (run_turns v.run) h in
    let S : Phases → Type 0 = λ x. phases.Stands x h in
    let here : phases.MayTake clock sample b.queue (run_turns v.run) h =
    subst Q (sym (ap (λ x. x.queue) moves)) (subst N (sym at.clock_is) take) in
    let stood : phases.Stands b.phases h = subst S (sym (ap (λ x. x.phases) moves)) fit.stands.phases in
    record {
      sample_is = e_sample;
      phased_is =
          tells h (run_turns v.run) stood here
          ∙ ap (λ q. phased_at (h ++ sample ∷ []) clock q) (ap (λ x. x.queue) moves)
          ∙ ap (λ n. phased_at (h ++ sample ∷ []) n m.bus.queue) at.clock_is
          ∙ ap (λ x. phased_at (h ++ x ∷ []) (next_clock_of v) m.bus.queue) e_sample;
      may_take = take;
      stands = stands h (run_turns v.run) stood here;
    }

hear-more : (named mapped : ℕ → Bool) (p : BusView) (clock : ℕ) (decided : Decided) (phased : Phased)
    → ((line : ℕ) → named line ≡ true → mapped line ≡ true) → MayHear named p clock decided phased
    → MayHear mapped p clock decided phased
hear-more named mapped p clock decided phased more may = record {
  starts = may.starts;
  cancels = may.cancels;
  snoops = may.snoops;
  ends = λ ending is. let end = may.ends ending is in record {
    known = end.known;
    ends = end.ends;
    puts = λ takes. more ending.served.request.line (end.puts takes);
  };
}

-- the bus may take what the clock brings
pub hear-may :
    (named mapped : ℕ → Bool) (v : BenchView) (hold : Bool) (clock : ℕ) (p : BusView) (decided : Decided)
    (sample : Sample) (phased : Phased)
    (after : Phases) → IsDecided v hold clock p decided → IsSampled v hold sample phased after → MayStep named v hold
    → ((line : ℕ) → named line ≡ true → mapped line ≡ true) → MayHear mapped p clock decided phased
hear-may named mapped v hold clock p decided sample phased after at took may more =
    rw (at.performed, at.clock_is, at.decided_is, took.phased_is)
    (hear-more named mapped (step_performed v) (next_clock_of v) (step_decided v hold)
    (step_phased v hold) more may.hears)

fetched-queue : (bus : BusView) (from : Option BytesFrom) → (bus_fetched bus from).queue ≡ bus.queue
fetched-queue bus None = refl
fetched-queue bus (Some (Memory line)) = refl
fetched-queue bus (Some (Agents number)) = refl

passed-if : {A : Type 0} (b : Bool) (x : Option A) (a : A) → (if b then x else None) ≡ Some a → b ≡ true
passed-if true x a is = refl
passed-if false x a is = absurd (none-some a is)

below-eight : (held spaced : Bool) (n : ℕ) → (not held && (spaced && nat_lt n 8)) ≡ true → n < 8
below-eight false true n is = grind (arith, nat_tests, is)
below-eight false false n is = absurd (false≢true is)
below-eight true spaced n is = absurd (false≢true is)

if-begun : {A B : Type 0} (f : A → B) (o : Option A) (P : Type 0) → ((a : A) → o ≡ Some a → P)
    → IfSome (option_map f o) (λ b. P)
if-begun f None P says = tt
if-begun f (Some a) P says = says a refl

-- where a request begins there is room for it
pub begun-room :
    (v : BenchView) (hold : Bool) (clock : ℕ) (p : BusView) (decided : Decided) (choice : Choice)
    (begun : Option Entry) (queue : List Entry)
    → IsDecided v hold clock p decided → queue ≡ v.bus.queue
    → begun ≡ option_map (λ first. entry_started p clock first choice) decided.starting
    → IfSome begun (λ e. length queue < 8)
begun-room v hold clock p decided choice begun queue at is begins =
    let says : (first : Starting) → decided.starting ≡ Some first → length queue < 8 = λ first starts.
    let performed = step_performed v in
    let held = was_held_at v.run.holds (next_clock_of v) in
    let passes = passed-if (may_start performed (next_clock_of v) held) _ first
    (ap (λ d. d.starting) (sym at.decided_is) ∙ starts) in
    let room = below-eight held (is_spaced_by performed.latest (next_clock_of v)) (length performed.queue) passes in
    let same : length queue ≡ length performed.queue =
    ap length (is ∙ sym (fetched-queue v.bus (bytes_source v.bus (step_drive v)))) in
    omega (arith, room, same) in
    let P : Option Entry → Type 0 = λ o. IfSome o (λ e. length queue < 8) in
    subst P (sym begins) (if-begun (λ first. entry_started p clock first choice) decided.starting
    (length queue < 8) says)

-- the queue after the clock
pub queue-taken :
    (m : BareBench) (hold : Bool) (clock : ℕ) (sample : Sample) (phased : Phased) (after : Phases)
    (queue new : List Entry) (outcome : Outcome) (error : Bool)
    (begun : Option Entry) (named : ℕ → Bool)
    → IsFit m → MayStep named (bare_view m) hold → clock ≡ length m.trace.items
    → IsSampled (bare_view m) hold sample phased after
    → queue ≡ m.bus.queue → error ≡ has_line sample AERR
    → ((p : Phases) (h : Trace) (x : Sample) (turns : List ℕ) → phases.Stands p h
    → phases.MayTake clock x queue turns h → Rising queue
    → phased ≡ phased_at (h ++ x ∷ []) clock queue → error ≡ has_line x AERR
    → new ≡ goes_on h x outcome queue ++ begun_list begun)
    → new ≡ goes_on m.trace.items sample outcome m.bus.queue ++ begun_list begun
queue-taken m hold clock sample phased after queue new outcome error begun named fit may clock_is took is cancels
    takes =
    let v = bare_view m in
    let h = m.trace.items in
    let Q : List Entry → Type 0 = λ q. phases.MayTake clock sample q (run_turns v.run) h in
    let N : ℕ → Type 0 = λ n. phases.MayTake n sample m.bus.queue (run_turns v.run) h in
    let R : List Entry → Type 0 = Rising in
    let e_phased : phased ≡ phased_at (h ++ sample ∷ []) clock queue =
    took.phased_is
    ∙ ap (λ x. phased_at (h ++ x ∷ []) (next_clock_of v) m.bus.queue) (sym took.sample_is)
    ∙ ap (λ n. phased_at (h ++ sample ∷ []) n m.bus.queue) (sym clock_is)
    ∙ ap (λ q. phased_at (h ++ sample ∷ []) clock q) (sym is) in
    takes m.bus.phases h sample (run_turns v.run) fit.stands.phases
    (subst Q (sym is) (subst N (sym clock_is) took.may_take)) (subst R (sym is) may.flight.rising) e_phased cancels
    ∙ ap (λ q. goes_on h sample outcome q ++ begun_list begun) is
