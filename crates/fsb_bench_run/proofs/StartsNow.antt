-- ADS# is at a bench's clock exactly where a request may begin.
use Rattle.fsb_bench_run.proofs.Words
use Words.{ℕ, ◌+◌, ◌<◌, ◌≤◌, ◌≡◌, ◌&&◌, ◌||◌, Bool, true, false, not, is_some, if◌then◌else◌, nat_lt, Option, Some}
use Words.{None, List, length, refl, sym, ap, ◌∙◌, arith, option_and_then, option_map, and_from, Done, Want, Deferral}
use Words.{is_some_and, Request, Choice, ADS, BNR, line_at, winner-four, GoesOn, past_of, drives_ads, drives_pair}
use Words.{due_number, has_free_winner, has_room, is_kept_back, is_spaced, may_begin, starts_requests, holds_at}
use Words.{is_held_back, is_open_to_other, want_of, past-goes_on, Trace, line_back, is_write_back_kind, winner_at, Who}
use Words.{Symmetric, Priority, Starting, step_decided, step_performed, was_held_at, is_kept_from, is_spaced_by}
use Words.{starting_for, starting_reply, starting_want, want_in, BenchView, next_clock_of}
use Rattle.fsb_bench_run.proofs.AdsGrown.{ads-old}
use Rattle.fsb_bench_run.proofs.AskedNow.{due-told, wants-told}
use Rattle.fsb_bench_run.proofs.AsksNow.{due-some}
use Rattle.fsb_bench_run.proofs.DueNow.{winner-due}
use Rattle.fsb_bench_run.proofs.LockNow.{same-beq}
use Rattle.fsb_bench_run.proofs.OpenNow.{open-told}
use Rattle.fsb_bench_run.proofs.PairNow.{drives-pair-now}
use Rattle.fsb_bench_run.proofs.RunWith.{run_with}
use Rattle.fsb_bench_run.proofs.SameBus.{same-performed}
use Rattle.fsb_bench_run.proofs.SampleSpaced.{not-soon}
use Rattle.fsb_bench_run.proofs.SpacedNow.{held-told, room-told, spaced-told}
use Rattle.fsb_bench_run.proofs.StartingNow.{winner-grown}
use Rattle.fsb_bench_run.proofs.StepWith.{IsStepWith, begins-with}
use Rattle.fsb_bench_run.proofs.ThisClock.{holds-now}
use Rattle.fsb_bench_run.proofs.WinnersAsk.{winner-wants}

-- nothing began at the two clocks before
quiet-by : (w : Trace) (q : ℕ) → (line_back ADS w (length w) 1 || line_back ADS w (length w) 2) ≡ false
    → length w ≤ q + 2 → q < length w → line_at ADS w q ≡ false
unfolding line_back
quiet-by w q e above below = grind arith

pub quiet-before : (v : BenchView) (hold : Bool) (choice : Choice) (entries : List Done) (q : ℕ)
    → IsStepWith v hold choice entries
    → is_spaced_by (step_performed v).latest (next_clock_of v) ≡ true → next_clock_of v ≤ q + 2 → q < next_clock_of v
    → line_at ADS v.run.trace q ≡ false
quiet-before v hold choice entries q b spaced above below =
    let n = next_clock_of v in
    let far : is_spaced_by v.bus.latest n
    ≡ true = ap (λ o. is_spaced_by o n) (sym (same-performed v).latest) ∙ spaced in
    quiet-by v.run.trace q (not-soon v.run.trace v.bus.latest b.bench.latest.clock far) above below

unless : (b : Bool) (x : Starting) → is_some (if b then None else Some x) ≡ not b
unless b x = grind arith

-- what an agent wants begins unless the agent is held back
want-free : (v : BenchView) (hold : Bool) (choice : Choice) (entries : List Done) (a : ℕ)
    → IsStepWith v hold choice entries
    → (o : Option Want)
    → option_map (λ (want : Want). want.request) o ≡ want_of (past_of (run_with v hold choice entries)) a
    (next_clock_of v)
    → is_some (want_of (past_of (run_with v hold choice entries)) a (next_clock_of v)) ≡ true
    → is_some (option_and_then (starting_want (step_performed v) a) o)
    ≡ not (is_held_back (past_of (run_with v hold choice entries)) a (next_clock_of v))
unfolding is_held_back is_some_and
want-free v hold choice entries a b None told wants = absurd
    (let e = ap (λ o. is_some o) told ∙ wants in let no : ⊥ = cc in no)
want-free v hold choice entries a b (Some want) told wants =
    let s = run_with v hold choice entries in
    let p = past_of s in
    let n = next_clock_of v in
    let open_line = open-told v hold choice entries a want.request.line b in
    let held : is_kept_from (step_performed v) a want
    ≡ (is_write_back_kind want.request.kind && is_open_to_other p a n want.request.line) =
    (λ i. is_write_back_kind want.request.kind && sym open_line i) in
    unless (is_kept_from (step_performed v) a want)
    (record { who = Symmetric a; request = want.request; locked = want.locked })
    ∙ ap not (held
    ∙ ap (λ o. is_some_and o (λ (request : Request). is_write_back_kind request.kind
    && is_open_to_other p a n request.line)) told)

some-reply : (o : Option Deferral) → is_some (option_map starting_reply o) ≡ is_some o
some-reply o = grind arith

-- where the distance is kept, something begins exactly where there is a winner that is not held back
free-winner : (v : BenchView) (hold : Bool) (choice : Choice) (entries : List Done) → IsStepWith v hold choice entries
    → is_spaced_by (step_performed v).latest (next_clock_of v) ≡ true
    → (o : Option Who) → winner_at v.run.trace (next_clock_of v) ≡ o
    → is_some (option_and_then (starting_for (step_performed v) (step_decided v hold).asked) o)
    ≡ is_some_and o (λ who. not (is_kept_back (past_of (run_with v hold choice entries)) (next_clock_of v) who))
unfolding is_some_and is_kept_back
free-winner v hold choice entries b spaced None won = refl
free-winner v hold choice entries b spaced (Some (Symmetric a)) won =
    let r = v.run in
    let s = run_with v hold choice entries in
    let few = winner-four r.trace (next_clock_of v) a won in
    let goes : GoesOn (length r.trace) (past_of r) (past_of s) =
    past-goes_on r s b.grows.next
    (record { one_hold = b.grows.timely.one_hold; one_choice = b.grows.timely.one_choice }) in
    let wants = winner-wants r s a b.grows goes few won
    (λ q above below. quiet-before v hold choice entries q b spaced above below) in
    want-free v hold choice entries a b (want_in (step_decided v hold).asked a)
    (wants-told v hold choice entries a b few) wants
free-winner v hold choice entries b spaced (Some Priority) won =
    let r = v.run in
    let s = run_with v hold choice entries in
    let n = next_clock_of v in
    let due = winner-due r s b.grows won
    (λ q above below. ads-old r s b.grows q below ∙ quiet-before v hold choice entries q b spaced above below) in
    some-reply (step_decided v hold).asked.due
    ∙ due-some s.trace (step_decided v hold).asked.due (due_number s (past_of s) n) (due-told v hold choice entries b)
    ∙ due

starts-if : (spaced room held free : Bool) (o : Option Starting) → (spaced ≡ true → is_some o ≡ free)
    → is_some (if (not held && (spaced && room)) then o else None) ≡ (spaced && room && not held && free)
starts-if spaced room held free o h1 = grind arith

-- so ADS# is as it must be
pub ads-now : (v : BenchView) (hold : Bool) (choice : Choice) (entries : List Done) → IsStepWith v hold choice entries
    → drives_ads (run_with v hold choice entries) (past_of (run_with v hold choice entries)) (next_clock_of v) ≡ true
unfolding drives_ads may_begin has_free_winner
ads-now v hold choice entries b =
    let r = v.run in
    let s = run_with v hold choice entries in
    let p = past_of s in
    let n = next_clock_of v in
    let bus = step_performed v in
    let test : Who → Bool = λ who. not (is_kept_back p n who) in
    let won = winner-grown r s b.grows in
    let spaced = spaced-told v hold choice entries b in
    let room = room-told v hold choice entries b in
    let held = held-told v hold choice entries b in
    let free : is_spaced_by bus.latest n ≡ true
    → is_some (option_and_then (starting_for bus (step_decided v hold).asked) (winner_at r.trace n))
    ≡ is_some_and (winner_at s.trace n) test =
    (λ e. free-winner v hold choice entries b e (winner_at r.trace n) refl ∙ ap (λ o. is_some_and o test) (sym won)) in
    let whole = starts-if (is_spaced_by bus.latest n) (nat_lt (length bus.queue) 8) (was_held_at r.holds n)
    (is_some_and (winner_at s.trace n) test)
    (option_and_then (starting_for bus (step_decided v hold).asked) (winner_at r.trace n)) free in
    same-beq (line_at ADS s.trace n) (is_spaced s n && has_room s n && not (line_back BNR s.trace n 2)
    && is_some_and (winner_at s.trace n) test)
    (begins-with v hold choice entries ∙ whole
    ∙ (λ i. sym spaced i && sym room i && not (sym held i) && is_some_and (winner_at s.trace n) test))

-- and requests start as they must
pub starts-now : (v : BenchView) (hold : Bool) (choice : Choice) (entries : List Done)
    → IsStepWith v hold choice entries
    → holds_at starts_requests (run_with v hold choice entries) (next_clock_of v) ≡ true
unfolding starts_requests
starts-now v hold choice entries b =
    let s = run_with v hold choice entries in
    holds-now starts_requests v.run s b.grows
    (and_from (drives_ads s (past_of s) (next_clock_of v)) (drives_pair s (past_of s) (next_clock_of v))
    (ads-now v hold choice entries b) (drives-pair-now v hold choice entries b))
