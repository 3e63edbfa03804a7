-- The bus lock, one clock further, and whether a request is locked as a run goes on.
use Rattle.std.proofs.Common.{ℕ, ◌+◌, ◌<◌, ◌≡◌, not, ◌&&◌, ◌||◌, nat_eq, length, sym, ap, arith}
use Rattle.fsb_count.specs.Options.{is_some_and}
use Rattle.fsb_count.proofs.Interface.{holds_since-more}
use Rattle.fsb_timely.specs.BusLock.{is_begun_by, is_locked_request, is_release, is_released_before, keeps_lock}
use Rattle.fsb_timely.specs.Growth.{IsNext, IsWhole}
use Rattle.fsb_timely.specs.Past.{Past}
use Rattle.fsb_timely.specs.Runs.{Run, past_of}
use Rattle.fsb_timely.proofs.GoingOn.{going-alike, begun-same}
use Rattle.fsb_timely.proofs.Next.{past-same, past-goes_on}

pub keeps_lock-more : (p : Past) (a c : ℕ)
    → keeps_lock p (c + 1) a ≡ (is_locked_request p a (c + 1) || (keeps_lock p c a && not (is_release p a c)))
unfolding keeps_lock is_released_before
keeps_lock-more p a c = grind (arith, holds_since-more)

begun_by-same : (r s : Run) (a t : ℕ) → IsNext r s → IsWhole r → t < length r.trace
    → is_begun_by (past_of s) a t ≡ is_begun_by (past_of r) a t
unfolding is_begun_by
begun_by-same r s a t next whole l =
    let alike = going-alike (length r.trace) (past_of r) (past_of s) (past-goes_on r s next whole) in
    sym (ap (λ o. is_some_and o (λ claim. nat_eq claim.agent a))
    (begun-same (length r.trace) (past_of r) (past_of s) t alike l))

pub is_locked_request-same : (r s : Run) (a t : ℕ) → IsNext r s → IsWhole r → t < length r.trace
    → is_locked_request (past_of s) a t ≡ is_locked_request (past_of r) a t
unfolding is_locked_request
is_locked_request-same r s a t next whole l = grind (arith, begun_by-same, past-same)
