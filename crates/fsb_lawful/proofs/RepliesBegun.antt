-- Replies are begun by the priority agent, and by no other agent.
use Rattle.fsb_lawful.proofs.Words
use Words.{ℕ, suc, ◌-◌, ◌<◌, ◌≤◌, ◌≡◌, Bool, true, ◌&&◌, Option, length, refl, ◌∙◌, arith, le-leb, is_some_and, Request}
use Words.{ADS, line_at, Who, Priority, Trace, line_back, request_at, is_reply, is_identified, is_own_id, begins_at}
use Words.{is_agent, is_same_agent, winner_at, Run, run_to, reply_before, Timely, WantsLawfully}
use Rattle.fsb_lawful.proofs.Identity.{identified-at}

-- the priority agent begins replies, and no other agent does
reply-priority : (o : Option Who) (q : Option Request) (b : Bool) → is_identified o q ≡ true → is_reply q ≡ b
    → is_agent o Priority ≡ b
unfolding is_identified is_agent is_some_and is_same_agent is_own_id
reply-priority o q b h1 h2 = grind arith

reply-by : (w : Trace) (d : ℕ) (b : Bool) → line_at ADS w d ≡ b
    → (b ≡ true → is_agent (winner_at w d) Priority ≡ is_reply (request_at w d))
    → (line_at ADS w d && is_reply (request_at w d)) ≡ (line_at ADS w d && is_agent (winner_at w d) Priority)
reply-by w d b h1 h2 = grind arith

back-one : (w : Trace) (d : ℕ) → line_back ADS w (suc d) 1 ≡ line_at ADS w d
unfolding line_back
back-one w d = let one : suc d - 1 ≡ d = omega arith in rw (one, le-leb 1 (suc d) (omega arith)) refl

pub reply-before : (v : Run) (d : ℕ)
    → reply_before v (suc d) ≡ (line_at ADS v.trace d && is_reply (request_at v.trace d))
unfolding reply_before
reply-before v d = grind (arith, back-one)

-- a reply began at the clock before exactly where the priority agent did
pub reply-is : (r : Run) (d : ℕ) → Timely r → WantsLawfully r → r.plan.ahead ≤ 4 → suc d < length r.trace
    → reply_before (run_to r (suc d)) (suc d) ≡ begins_at (run_to r (suc d)).trace d Priority
unfolding begins_at
reply-is r d h wants few l =
    let v = run_to r (suc d) in
    reply-before v d
    ∙ reply-by v.trace d (line_at ADS v.trace d) refl
    (λ t. reply-priority (winner_at v.trace d) (request_at v.trace d) (is_reply (request_at v.trace d))
    (identified-at r d h few wants l (back-one v.trace d ∙ t)) refl)
