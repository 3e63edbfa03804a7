-- What is asked for at the clock: the wants of the agents after their hits, and the reply that is due.
use Rattle.fsb_bench_run.proofs.Words
use Words.{ℕ, suc, ◌+◌, ◌<◌, ◌≡◌, Bool, false, Option, Some, None, List, [], ◌∷◌, if◌then◌else◌, refl, sym, ap, subst}
use Words.{◌∙◌, arith, option_and_then, option_map, option_map_or, eq-eqb, lt-leb, Done, AgentView, Want, IsThatOf}
use Words.{Bridged, due_deferral, ShowsBegun, grown-due, shows-second, last_where, pairs_of, Choice, ADS, line_at}
use Words.{wants_lock, past_of, due_number, want_of, Who, locked-by, want-by, get-there, Latest, Starting, step_decided}
use Words.{step_performed, was_held_at, want_at, pair_driven, is_spaced_by, may_start, starting_for, want_in, BenchView}
use Words.{BusView, next_clock_of, IsBenchOf, longer}
use Rattle.std.proofs.Common.{slice_get}
use Rattle.fsb_agent_view.specs.Wanting.{want_by}
use Rattle.fsb_bench_run.proofs.AgentsTold.{performed-there}
use Rattle.fsb_bench_run.proofs.BegunStays.{begun-lawful, begun-request, begun-stays}
use Rattle.fsb_bench_run.proofs.PairWords.{begun-before, lawful-fits, last-at, pair-shown}
use Rattle.fsb_bench_run.proofs.RunWith.{run_with}
use Rattle.fsb_bench_run.proofs.SameBus.{same-performed}
use Rattle.fsb_bench_run.proofs.StepFields.{performed-begun}
use Rattle.fsb_bench_run.proofs.StepWith.{IsStepWith}

agent-there : (v : BenchView) (a : ℕ) → IsBenchOf v → a < 4
    → (w : AgentView) × (slice_get (step_performed v).agents a ≡ Some w)
agent-there v a b few =
    let four = b.agents.four in
    let u = get-there v.bus.agents a (omega arith) in
    performed-there v a u.0 u.1

want-found : (agents : List AgentView) (clock a : ℕ) (w : AgentView) → a < 4 → slice_get agents a ≡ Some w
    → option_map_or (λ (want : Option Want). want) (slice_get (want_at agents clock 0 ∷ (want_at agents clock 1
    ∷ (want_at agents clock 2 ∷ (want_at agents clock 3 ∷ [])))) a) None ≡ want_by w clock
want-found agents clock a w h1 h2 = grind arith

pub wants-told : (v : BenchView) (hold : Bool) (choice : Choice) (entries : List Done) (a : ℕ)
    → IsStepWith v hold choice entries → a < 4
    → option_map (λ (want : Want). want.request) (want_in (step_decided v hold).asked a)
    ≡ want_of (past_of (run_with v hold choice entries)) a (next_clock_of v)
wants-told v hold choice entries a b few =
    let there = agent-there v a b.bench few in
    let view = b.hits.after a there.0 there.1 in
    grind (arith, want-found, want-by)

pub locked-told : (v : BenchView) (hold : Bool) (choice : Choice) (entries : List Done) (a : ℕ) (want : Want)
    → IsStepWith v hold choice entries → a < 4
    → want_in (step_decided v hold).asked a ≡ Some want
    → want.locked ≡ wants_lock (past_of (run_with v hold choice entries)) a (next_clock_of v)
locked-told v hold choice entries a want b few at =
    let there = agent-there v a b.bench few in
    let view = b.hits.after a there.0 there.1 in
    locked-by (past_of (run_with v hold choice entries)) a (next_clock_of v) there.0 want view
    (sym (want-found (step_performed v).agents (next_clock_of v) a there.0 few there.1) ∙ at)

-- nothing begins in the clock after a beginning
spaced-off : (latest : Option Latest) (last : Latest) (clock : ℕ) → latest ≡ Some last → last.clock + 1 ≡ clock
    → is_spaced_by latest clock ≡ false
spaced-off latest last clock e at = rw e (lt-leb (last.clock + 3) clock (omega arith))

none-starts : (bus : BusView) (winner : Option Who) (clock : ℕ) (held : Bool) (f : Who → Option Starting)
    → is_spaced_by bus.latest clock ≡ false
    → (if may_start bus clock held then option_and_then f winner else None) ≡ None
none-starts bus winner clock held f e = grind arith

second-pair : (latest : Option Latest) (o : Option Starting) (last : Latest) (clock : ℕ) → latest ≡ Some last → o ≡ None
    → last.clock + 1 ≡ clock → pair_driven latest clock o ≡ (pairs_of last.request).1
second-pair latest o last clock e f at = rw (e, f) (rw (eq-eqb (last.clock + 1) clock at) refl)

-- the request that began at the clock before shows as what it is
pub shows-now : (v : BenchView) (hold : Bool) (choice : Choice) (entries : List Done) → IsStepWith v hold choice entries
    → ShowsBegun v.run (run_with v hold choice entries)
shows-now v hold choice entries b =
    let r = v.run in
    let s = run_with v hold choice entries in
    let n = next_clock_of v in
    shows-second r s b.grows b.bench.bounds (λ d at ads.
    let size = longer r s b.grows in
    let suc-d : suc d ≡ n = omega arith in
    let found = b.bench.latest.clock ∙ sym (ap (last_where (line_at ADS r.trace)) suc-d)
    ∙ last-at (line_at ADS r.trace) d ads in
    let l = latest-there v.bus.latest d found in
    let last : Latest = l.0 in
    let same : last.clock ≡ d = l.2 in
    let before : last.clock + 1 ≡ n = omega arith in
    let old = b.bench.latest.begun last l.1 in
    let begun = begun-stays r s last.clock last.who last.request b.grows (omega arith) old in
    let request = begun-request s last.clock last.who last.request (omega arith) begun in
    let lawful = begun-lawful s last.clock last.who last.request b.bench.bounds (omega arith) begun in
    let kept = (performed-begun v).latest in
    let off = none-starts (step_performed v) _ n (was_held_at r.holds n)
    (starting_for (step_performed v) (step_decided v hold).asked)
    (spaced-off (step_performed v).latest last n (kept ∙ l.1) before) in
    let pair = second-pair (step_performed v).latest (step_decided v hold).starting last n (kept ∙ l.1) off before in (
      last.request,
      begun-before s n last.clock last.request before request,
      pair-shown v hold choice entries (pairs_of last.request).1 (lawful-fits last.request lawful).1 pair,
    ))
  where
    latest-there : (o : Option Latest) (d : ℕ) → option_map (λ (last : Latest). last.clock) o ≡ Some d
        → (last : Latest) × (o ≡ Some last) × (last.clock ≡ d)
    latest-there o d h1 = grind arith

pub due-told : (v : BenchView) (hold : Bool) (choice : Choice) (entries : List Done) → IsStepWith v hold choice entries
    → IsThatOf (run_with v hold choice entries).trace (step_decided v hold).asked.due
    (due_number (run_with v hold choice entries) (past_of (run_with v hold choice entries)) (next_clock_of v))
due-told v hold choice entries b =
    let s = run_with v hold choice entries in
    subst (λ waiting. IsThatOf s.trace (due_deferral (next_clock_of v) waiting)
    (due_number s (past_of s) (next_clock_of v)))
    (sym (ap (λ (bridge : Bridged). bridge.waiting) (same-performed v).bridge))
    (grown-due v.run s v.bus.bridge.waiting b.grows b.bench.bounds (shows-now v hold choice entries b)
    b.bench.bridge.deferrals)
