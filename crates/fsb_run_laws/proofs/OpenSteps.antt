-- The open requests, one clock further: one is cancelled or snooped, and one begins.
use Rattle.fsb_run_laws.proofs.Words
use Words.{ℕ, ◌+◌, ◌<◌, ◌≡◌, Bool, not, ◌&&◌, ◌++◌, Option, Some, sym, ap, ◌∙◌, arith, filter, is_at, is_some_and}
use Words.{any_where-more, begun_at, snooped_at, is_snoop_of, Claim, Past, past_of, Run, unsnooped_at, cancelled_in}
use Words.{is_cancelled_below, is_snooped_below, clock-facts, uncancelled-below, unsnooped-below, Reaches}
use Words.{is_open_below, listed, open_claims, stays_open}
use Rattle.fsb_run_laws.proofs.Lists.{given, given-more, kept, kept-alike}
use Rattle.fsb_run_laws.proofs.OpenRequests.{open-told}

-- open one clock on: open, and neither cancelled nor snooped at the clock
open-more : (p : Past) (n q : ℕ) → is_open_below p (n + 1) q
    ≡ (is_open_below p n q
    && (not (is_at (cancelled_in p n) q) && not (is_some_and (snooped_at p n) (is_snoop_of q))))
unfolding is_open_below is_cancelled_below is_snooped_below
open-more p n q = grind (arith, any_where-more)

kept-by : (f : Claim → Bool) (b c : Bool) (o : Option Claim) → ((claim : Claim) → o ≡ Some claim → f claim ≡ c)
    → kept f (given b o) ≡ given (b && c) o
kept-by f b c o h1 = grind arith

claims-step : (r : Run) (n : ℕ) → Reaches r (n + 1) → open_claims (past_of r) (n + 1)
    ≡ filter (stays_open (past_of r) n) (open_claims (past_of r) n) ++ listed (begun_at (past_of r) n)
unfolding open_claims stays_open is_open_below
claims-step r n h =
    let p = past_of r in
    let first : (q : ℕ) (claim : Claim) → q < n → begun_at p q ≡ Some claim → claim.first ≡ q =
    λ q claim l e. (clock-facts r 0 q h.timely h.bounds (omega arith)).begins.first claim e in
    let here : ℕ → Bool = λ q. not (is_at (cancelled_in p n) q) && not (is_some_and (snooped_at p n) (is_snoop_of q)) in
    let before = sym (kept-alike (λ (claim : Claim). here claim.first) (is_open_below p n)
    (is_open_below p (n + 1)) (begun_at p) (begun_at p) n
    (λ q l. kept-by (λ claim. here claim.first) (is_open_below p n q) (here q) (begun_at p q)
    (λ claim e. ap here (first q claim l e))
    ∙ ap (λ b. given b (begun_at p q)) (sym (open-more p n q)))) in
    grind (arith, uncancelled-below, unsnooped-below, given-more)

pub open-step : (r : Run) (n : ℕ) → Reaches r (n + 1) → unsnooped_at (past_of r) (n + 1)
    ≡ filter (stays_open (past_of r) n) (unsnooped_at (past_of r) n) ++ listed (begun_at (past_of r) n)
open-step r n h = grind (arith, open-told, claims-step)
