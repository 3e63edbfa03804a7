-- Request starts and request lines: what is said of a clock of the run up to it is said of the whole run.
use Rattle.fsb_timely_laws.proofs.Words
use Words.{ℕ, ◌+◌, ◌-◌, ◌<◌, ◌≤◌, ◌≡◌, true, false, not, ◌&&◌, nat_le, nat_lt, Some, is_some, length, refl, sym, ap}
use Words.{inl, inr, arith, beq, option_and_then, option_map, cases_Bool, leb-true, each_where, is_some_and, is_pair}
use Words.{pairs_of, ADS, BNR, BPRI, line_at, known_pair, known_pair_at, line_back, AgreeTo, is_reply, begins_at}
use Words.{bus_request_of, is_agent, line_at-agree, request_at-agree, winner_at-agree, GoesOn, Run, past_of, run_to}
use Words.{asks_for_bus, asks_for_priority, began_before, drives_ads, drives_pair, drives_request_lines, due_number}
use Words.{has_free_winner, has_room, is_kept_back, is_spaced, may_begin, no_pair, pair_due, reply_before, reply_to}
use Words.{request_begun, request_begun_before, starts_requests, would_begin, IsSaidOfTheWhole, KeepsOrder}
use Rattle.fsb_signal.specs.declared.lines.Lines.{Lines}
use Rattle.fsb_trace.specs.declared.who.Who.{Who}
use Rattle.fsb_trace.specs.declared.who.Who.TheVariants.{Priority, Symmetric}
use Rattle.fsb_timely_laws.proofs.Flights.{in_flight-same}
use Rattle.fsb_timely_laws.proofs.Pairs.{Ordered, due-same, ordered-cut, request-due}
use Rattle.fsb_timely_laws.proofs.SameUpTo.{SameUpTo, goes-on, held_back-on, said, same-up-to, want-on}

pub agree-of : (c : ℕ) (r s : Run) → SameUpTo c r s → AgreeTo (c + 1) r.trace s.trace
agree-of c r s h = h.paired.traces

-- a line at a clock up to c
pub line-same : (line : Lines) (c t : ℕ) (r s : Run) → SameUpTo c r s → t ≤ c
    → line_at line r.trace t ≡ line_at line s.trace t
line-same line c t r s h l = line_at-agree line (c + 1) r.trace s.trace t (agree-of c r s h) (omega arith)

back-same : (line : Lines) (c d : ℕ) (r s : Run) → SameUpTo c r s → line_back line r.trace c d ≡ line_back line s.trace c d
unfolding line_back
back-same line c d r s h = ap (λ b. nat_le d c && b) (line-same line c (c - d) r s h (omega arith))

due-number : (c : ℕ) (r s : Run) → Ordered c r s → due_number r (past_of r) c ≡ due_number s (past_of s) c
unfolding due_number
due-number c r s o = due-same c r s o

would-same : (c : ℕ) (r s : Run) (who : Who) → Ordered c r s → GoesOn (c + 1) (past_of s) (past_of r)
    → would_begin r (past_of r) c who ≡ would_begin s (past_of s) c who
unfolding would_begin due_number
would-same c r s (Symmetric a) o g = sym (want-on c (past_of s) (past_of r) a g)
would-same c r s Priority o g = ap (option_map reply_to) (request-due c r s o)

begun-same : (c : ℕ) (r s : Run) → Ordered c r s → GoesOn (c + 1) (past_of s) (past_of r)
    → request_begun r (past_of r) c ≡ request_begun s (past_of s) c
unfolding request_begun
begun-same c r s o g =
    let winner = winner_at-agree (c + 1) r.trace s.trace c o.paired.traces (omega arith) in
    let would : (who : Who) → would_begin r (past_of r) c who ≡ would_begin s (past_of s) c who =
    λ who. would-same c r s who o g in
    λ i. option_and_then (λ who. would who i) (winner i)

before-begun : (c : ℕ) (r s : Run) → SameUpTo c r s
    → request_begun_before r (past_of r) c ≡ request_begun_before s (past_of s) c
unfolding request_begun_before
before-begun c r s h =
    let run = h.runs (c - 1) (omega arith) in
    let past = h.pasts (c - 1) (omega arith) in
    sym (λ i. request_begun (run i) (past i) (c - 1))

kept_back-same : (c : ℕ) (r s : Run) (who : Who) → GoesOn (c + 1) (past_of s) (past_of r)
    → is_kept_back (past_of r) c who ≡ is_kept_back (past_of s) c who
unfolding is_kept_back
kept_back-same c r s (Symmetric a) g = sym (held_back-on c (past_of s) (past_of r) a g)
kept_back-same c r s Priority g = refl

may-same : (c : ℕ) (r s : Run) → SameUpTo c r s → Ordered c r s → GoesOn (c + 1) (past_of s) (past_of r)
    → may_begin r (past_of r) c ≡ may_begin s (past_of s) c
unfolding may_begin is_spaced has_room has_free_winner
may-same c r s h o g =
    let one = back-same ADS c 1 r s h in
    let two = back-same ADS c 2 r s h in
    let room = in_flight-same (c + 1) c r.trace s.trace o.traces (omega arith) in
    let bnr = back-same BNR c 2 r s h in
    let winner = winner_at-agree (c + 1) r.trace s.trace c (agree-of c r s h) (omega arith) in
    let kept : (who : Who) → is_kept_back (past_of r) c who ≡ is_kept_back (past_of s) c who =
    λ who. kept_back-same c r s who g in
    λ i. (not (one i) && not (two i)) && nat_lt (length (room i)) 8 && not (bnr i)
    && is_some_and (winner i) (λ who. not (kept who i))

pair-same : (c : ℕ) (r s : Run) → SameUpTo c r s → Ordered c r s → GoesOn (c + 1) (past_of s) (past_of r)
    → pair_due r (past_of r) c ≡ pair_due s (past_of s) c
unfolding pair_due
pair-same c r s h o g =
    let ads = line-same ADS c c r s h (omega arith) in
    let back = back-same ADS c 1 r s h in
    let now = begun-same c r s o g in
    let before = before-begun c r s h in
    λ i. elim (ads i) [
      | true ↦ option_map (λ request. (pairs_of request).0) (now i)
      | false ↦ elim (back i) [
        | true ↦ option_map (λ request. (pairs_of request).1) (before i)
        | false ↦ Some no_pair
      ]
    ]

starts-same : (c : ℕ) (r s : Run) → SameUpTo c r s → Ordered c r s → GoesOn (c + 1) (past_of s) (past_of r)
    → starts_requests r (past_of r) c ≡ starts_requests s (past_of s) c
unfolding starts_requests drives_ads drives_pair known_pair_at
starts-same c r s h o g =
    let ads = line-same ADS c c r s h (omega arith) in
    let may = may-same c r s h o g in
    let due = pair-same c r s h o g in
    let sample = (agree-of c r s h).same c (omega arith) in
    λ i. beq (ads i) (may i)
    && is_some_and (due i) (λ pair. is_some_and (option_and_then known_pair (sample i)) (is_pair pair))

pub starts-said : (r : Run) (c : ℕ) → KeepsOrder r → c < length r.trace → IsSaidOfTheWhole starts_requests r c
starts-said r c h l =
    said starts_requests r c l
    (starts-same c r (run_to r c) (same-up-to r c l) (ordered-cut r c h.orderly l) (goes-on r c h.in_time l))

-- who began a request at the clock before
began-same : (c : ℕ) (r s : Run) (who : Who) → SameUpTo c r s → began_before r c who ≡ began_before s c who
unfolding began_before begins_at
began-same c r s who h =
    let ads = line-same ADS c (c - 1) r s h (omega arith) in
    let winner = winner_at-agree (c + 1) r.trace s.trace (c - 1) (agree-of c r s h) (omega arith) in
    λ i. nat_le 1 c && (ads i && is_agent (winner i) who)

asks-same : (c : ℕ) (r s : Run) (a : ℕ) → SameUpTo c r s → GoesOn (c + 1) (past_of s) (past_of r)
    → asks_for_bus r (past_of r) c a ≡ asks_for_bus s (past_of s) c a
unfolding asks_for_bus
asks-same c r s a h g =
    let line = line-same (bus_request_of a) c c r s h (omega arith) in
    let want = want-on c (past_of s) (past_of r) a g in
    let began = began-same c r s (Symmetric a) h in
    λ i. beq (line i) (is_some (sym want i) && not (began i))

reply_before-same : (c : ℕ) (r s : Run) → SameUpTo c r s → reply_before r c ≡ reply_before s c
unfolding reply_before line_back
reply_before-same c r s h =
    elim (cases_Bool (nat_le 1 c)) [
      | inl t ↦
          let one = leb-true 1 c t in
          let ads = line-same ADS c (c - 1) r s h (omega arith) in
          let request = request_at-agree (c + 1) r.trace s.trace (c - 1) (agree-of c r s h) (omega arith) in
          λ i. (nat_le 1 c && ads i) && is_reply (request i)
      | inr none ↦ rw none refl
    ]

lines-same : (c : ℕ) (r s : Run) → SameUpTo c r s → Ordered c r s → GoesOn (c + 1) (past_of s) (past_of r)
    → drives_request_lines r (past_of r) c ≡ drives_request_lines s (past_of s) c
unfolding drives_request_lines asks_for_priority
lines-same c r s h o g =
    let asks : (a : ℕ) → asks_for_bus r (past_of r) c a ≡ asks_for_bus s (past_of s) c a = λ a. asks-same c r s a h g in
    let line = line-same BPRI c c r s h (omega arith) in
    let due = due-number c r s o in
    let reply = reply_before-same c r s h in
    λ i. each_where (λ a. asks a i) 4 && beq (line i) (is_some (due i) && not (reply i))

pub lines-said : (r : Run) (c : ℕ) → KeepsOrder r → c < length r.trace → IsSaidOfTheWhole drives_request_lines r c
lines-said r c h l =
    said drives_request_lines r c l
    (lines-same c r (run_to r c) (same-up-to r c l) (ordered-cut r c h.orderly l) (goes-on r c h.in_time l))
