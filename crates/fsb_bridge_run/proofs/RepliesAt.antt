-- The reply that begins at a clock.
use Rattle.fsb_bridge_run.proofs.Words
use Words.{ℕ, ◌+◌, ◌<◌, arith, ◌≡◌, true, false, ◌&&◌, Some, None, refl, is_some_and, Request, ADS, line_at, AgreeTo}
use Words.{Trace, request_at, line_at-agree, request_at-agree, is_reply, reply_at}

pub reply_at-parts : (w : Trace) (q : ℕ) (x : Request) → reply_at w q ≡ Some x
    → (line_at ADS w q ≡ true) × (is_reply (request_at w q) ≡ true) × (request_at w q ≡ Some x)
unfolding reply_at
reply_at-parts w q x e = grind arith

pub reply_at-from : (w : Trace) (q : ℕ) → line_at ADS w q ≡ true → is_reply (request_at w q) ≡ true
    → reply_at w q ≡ request_at w q
unfolding reply_at
reply_at-from w q ads reply = rw (reply_at, ads, reply) refl

pub reply_at-off : (w : Trace) (q : ℕ) → (line_at ADS w q && is_reply (request_at w q)) ≡ false → reply_at w q ≡ None
unfolding reply_at
reply_at-off w q off = rw (reply_at, off) refl

none-is : is_reply None ≡ false
unfolding is_reply is_some_and
none-is = refl

pub reply_at-none : (w : Trace) (q : ℕ) → reply_at w q ≡ None → line_at ADS w q ≡ true
    → is_reply (request_at w q) ≡ true → ⊥
reply_at-none w q e ads reply = grind (arith, reply_at-from, none-is)

pub reply_at-agree : (n : ℕ) (w v : Trace) (q : ℕ) → AgreeTo n w v → q + 1 < n → reply_at w q ≡ reply_at v q
unfolding reply_at
reply_at-agree n w v q a l = grind (arith, line_at-agree, request_at-agree)
