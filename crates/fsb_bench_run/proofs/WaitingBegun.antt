-- What a request that begins, and one that is cancelled, make of the deferrals of a bench.
use Rattle.fsb_bench_run.proofs.Words
use Words.{ℕ, ◌+◌, ◌<◌, ◌≡◌, ◌&&◌, Bool, true, false, Option, Some, None, List, length, refl, arith, option_map}
use Words.{option_map_or, Waiting, after_cancellation, after_reply, reply_begun, reply-shown, cancelled_in, is_some_and}
use Words.{Request, Entry, Reaches, ADS, line_at, Run, past_of, Trace, begins_at, is_agent, is_same_agent, winner_at}
use Words.{Who, Symmetric, Priority, line_at-agree, winner_at-agree, Starting, bus_cancelled, bus_started}
use Words.{waiting_cancelled, waiting_started, BusView, IsBegunAt}
use Rattle.fsb_lawful.proofs.Interface.{run_to-agrees}

-- the reply that a request is: what the bridge begins
abbrev pub reply_of : Who → Request → Option Request
reply_of (Symmetric agent) request = None
reply_of Priority request = Some request

begins-by : (w : Trace) (n : ℕ) (who : Who) → line_at ADS w n ≡ true → winner_at w n ≡ Some who
    → begins_at w n Priority ≡ is_same_agent Priority who
unfolding begins_at is_agent is_some_and
begins-by w n who ads won = λ i. ads i && is_agent (won i) Priority

begins-off : (w : Trace) (n : ℕ) → line_at ADS w n ≡ false → begins_at w n Priority ≡ false
unfolding begins_at
begins-off w n ads = λ i. ads i && is_agent (winner_at w n) Priority

pub reply-begun : (s : Run) (n : ℕ) (who : Who) (request : Request) → n < length s.trace → IsBegunAt s n who request
    → reply_begun s n ≡ reply_of who request
unfolding reply_begun is_same_agent
reply-begun s n who request l k = grind (arith, run_to-agrees, line_at-agree, winner_at-agree, begins-by)

-- and none where nothing begins
pub reply-none : (s : Run) (n : ℕ) → n < length s.trace → line_at ADS s.trace n ≡ false → reply_begun s n ≡ None
unfolding reply_begun
reply-none s n l off = grind (arith, run_to-agrees, line_at-agree, begins-off)

started-told : (who : Who) (request : Request) (list : List Waiting)
    → waiting_started request.did who list ≡ after_reply (reply_of who request) true list
unfolding after_reply
started-told who request list = grind arith

cancelled-told : (who : Who) (request : Request) (list : List Waiting)
    → waiting_cancelled request.did who list ≡ after_reply (reply_of who request) false list
unfolding after_reply
cancelled-told who request list = grind arith

unreplied : (begun : Bool) (list : List Waiting) → after_reply None begun list ≡ list
unfolding after_reply
unreplied begun list = refl

-- the deferrals after what begins at the clock
pub waiting-begun : (s : Run) (n : ℕ) (bus : BusView) (o : Option Starting) → n < length s.trace
    → (o ≡ None → line_at ADS s.trace n ≡ false) → ((x : Starting) → o ≡ Some x → IsBegunAt s n x.who x.request)
    → (option_map_or (bus_started bus n) o bus).bridge.waiting ≡ after_reply (reply_begun s n) true bus.bridge.waiting
waiting-begun s n bus o h1 h2 h3 = grind (arith, reply-none, unreplied, started-told, reply-begun)

-- and after what is cancelled
pub waiting-cancelled : (s : Run) (n : ℕ) (bus : BusView) (o : Option Entry) → Reaches s (n + 1)
    → cancelled_in (past_of s) n ≡ option_map (λ (e : Entry). e.clock) o
    → ((e : Entry) → o ≡ Some e → (e.clock < n) × IsBegunAt s e.clock e.who e.request)
    → (option_map_or (bus_cancelled bus) o bus).bridge.waiting ≡ after_cancellation s n bus.bridge.waiting
unfolding after_cancellation
waiting-cancelled s n bus o h1 h2 h3 = grind (arith, reply-shown, reply-begun, cancelled-told)
