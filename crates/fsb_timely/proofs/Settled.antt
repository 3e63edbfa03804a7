-- What is settled, and who claims what, rests on the samples so far.
use Rattle.std.proofs.Common.{ℕ, ◌<◌, ◌≤◌, ◌≡◌, Some, refl, arith}
use Rattle.fsb_trace.specs.At.{Trace}
use Rattle.fsb_trace.specs.Agree.{AgreeTo}
use Rattle.fsb_trace.specs.Requests.{line_of}
use Rattle.fsb_trace.specs.Snoop.{snoop_end_of}
use Rattle.fsb_trace.specs.Outcome.{settled_by}
use Rattle.fsb_signal.specs.declared.lines.TheConstants.Lines.{HITM}
use Rattle.fsb_trace.proofs.Interface.{line_at-agree, winner_at-agree, live_request_of-stays}
use Rattle.fsb_timely.specs.Moments.{claim_at, agent_at}

-- what is settled rests on the samples up to the snoop end
pub settled_by-agree : (n : ℕ) (w v : Trace) (turn i t : ℕ) → AgreeTo n w v → t < n → snoop_end_of w i ≡ Some t
    → settled_by w turn i t ≡ settled_by v turn i t
unfolding settled_by
settled_by-agree n w v turn i t a l e =
    let handed = line_at-agree HITM n w v t a l in
    let request = live_request_of-stays n w v i t a l e in
    rw (handed, request) refl

pub agent_at-agree : (n : ℕ) (w v : Trace) (q : ℕ) → AgreeTo n w v → q ≤ n → agent_at w q ≡ agent_at v q
unfolding agent_at
agent_at-agree n w v q a l = grind (arith, winner_at-agree)

pub line_of-agree : (n : ℕ) (w v : Trace) (q : ℕ) → AgreeTo n w v → q < n → line_of w q ≡ line_of v q
unfolding line_of
line_of-agree n w v q a l = grind (arith, winner_at-agree)

pub claim_at-agree : (n : ℕ) (w v : Trace) (q : ℕ) → AgreeTo n w v → q < n → claim_at w q ≡ claim_at v q
unfolding claim_at
claim_at-agree n w v q a l = grind (arith, agent_at-agree, line_of-agree)
