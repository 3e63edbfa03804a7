-- What an agent completes where its request ends is what the run completes by an arrival there.
use Rattle.fsb_bench_run.proofs.Words
use Words.{ℕ, ◌+◌, ◌<◌, ◌≡◌, ◌≢◌, ◌⊎◌, true, false, Option, Some, None, List, [], map, refl, sym, ap, arith, inl, inr}
use Words.{EndsFor, NothingEndsFor, number_left, IsViewAfterSnoop, IsSettledAs, arrived-entries, settled-as, ungranted}
use Words.{ungranted-arrival, upgrade-entries, AgentView, arrived_entries, snoop_end_below, first_where-found, Reaches}
use Words.{replied-on, ended-number, one-ends, orderly-whole, completed_if, is_arrival, is_end_at, snooped_at, is_got}
use Words.{makes_grant, Claim, Grant, Past, SnoopEnd, Run, past_of, is_deferral, Outcome, Granted, Handed, Retried}
use Words.{Deferred, Written, Replied, Failed, Upgraded, Served, entries_ended}
use Rattle.fsb_coherent.specs.Fitting.{fits_getting, fits_kind, fits_upgrade, fits_write_back}
use Rattle.fsb_bench_run.proofs.ArrivalsNow.{quiet-completes}
use Rattle.fsb_bench_run.proofs.EndHeard.{IsEndHeard}
use Rattle.fsb_bench_run.proofs.EntriesNow.{completed_of}

-- one request ends at a clock
one-ended : (s : Run) (n q u : ℕ) → Reaches s (n + 1) → is_end_at (past_of s) n q ≡ true
    → is_end_at (past_of s) n u ≡ true → q ≡ u
one-ended s n q u h first second =
    let i = ended-number s n q h.timely (omega arith) first in
    let j = ended-number s n u h.timely (omega arith) second in
    let same : i.0 ≡ j.0 = one-ends s.trace i.0 j.0 n (orderly-whole s n h.timely (omega arith)) i.1.end j.1.end in
    grind arith

-- of each agent for which the request that ends leaves nothing, nothing ends
pub quiet-end : (s : Run) (n a : ℕ) (served : Served) (settled : Option Outcome) → Reaches s (n + 1)
    → (k : IsEndHeard s n served settled) → number_left (past_of s) a n k.end ≡ None → NothingEndsFor (past_of s) a n
quiet-end s n a served settled h k leaves = grind (arith, one-ended)

-- nothing ends for an agent other than the one whose request ends
pub others-quiet : (s : Run) (n a : ℕ) (served : Served) (settled : Option Outcome) → Reaches s (n + 1)
    → IsEndHeard s n served settled → a ≢ served.agent → NothingEndsFor (past_of s) a n
others-quiet s n a served settled h k other = quiet-end s n a served settled h k (k.others a other)

-- the clock of a snoop end
snooped-when : (p : Past) (n q : ℕ) (end : SnoopEnd) → snoop_end_below p n q ≡ Some end
    → (t : ℕ) × (t < n) × (snooped_at p t ≡ Some end)
unfolding snoop_end_below
snooped-when p n q end e = grind (arith, first_where-found)

-- what leaves is an agent's own request, or a reply grants it its line
claims-or-grants : (p : Past) (a n number : ℕ) (end : SnoopEnd) → number_left p a n end ≡ Some number
    → ((claim : Claim) × (end.claim ≡ Some claim)) ⊎ ((grant : Grant) × (end.claim ≡ None) × (end.grant ≡ Some grant))
unfolding number_left
claims-or-grants p a n number end e = grind arith

-- the own request that ends was settled so, or its reply is
pub record IsOwnSettled (s : Run) (end : SnoopEnd) : Type 0 where
  clock : ℕ
  claim : Claim
  settled : IsSettledAs s clock end claim

pub record IsRepliedGrant (end : SnoopEnd) : Type 0 where
  grant : Grant
  grants : end.grant ≡ Some grant
  replied : end.outcome ≡ Replied

pub settled-or-replied : (s : Run) (a n number : ℕ) (end : SnoopEnd) → Reaches s (n + 1)
    → EndsFor (past_of s) a n number end
    → IsOwnSettled s end ⊎ IsRepliedGrant end
settled-or-replied s a n number end h ends =
    let below = snooped-when (past_of s) (n + 1) ends.first end ends.snooped in
    let low = below.1 in
    let long = h.long in
    let at : Reaches s (below.0 + 1) = record { timely = h.timely; bounds = h.bounds; long = omega arith } in
    elim (claims-or-grants (past_of s) a n number end ends.left) [
      | inl own ↦
          inl (record { clock = below.0; claim = own.0; settled = settled-as s below.0 end own.0 at below.2 own.1 })
      | inr reply ↦
          inr (record {
            grant = reply.0;
            grants = reply.2;
            replied = (replied-on s below.0 end reply.0 at below.2 reply.1 reply.2).replied;
          })
    ]

-- the grant of a request whose bytes come
pub made-by : (s : Run) (end : SnoopEnd) (o : Outcome) → end.outcome ≡ o → (is_got o ≡ true) ⊎ (o ≡ Replied)
    → IsOwnSettled s end ⊎ IsRepliedGrant end → (grant : Grant) × (end.grant ≡ Some grant)
unfolding fits_kind fits_getting fits_upgrade fits_write_back makes_grant is_got
made-by s end o h1 h2 h3 = grind arith

-- an end that fails is none of an agent's request
pub never-failed : (s : Run) (end : SnoopEnd) → end.outcome ≡ Failed → IsOwnSettled s end ⊎ IsRepliedGrant end → ⊥
unfolding fits_kind fits_getting fits_upgrade fits_write_back
never-failed s end h1 h2 = grind arith

-- where nothing arrives nothing is completed
none-arrives : (p : Past) (a n : ℕ) → is_arrival p a n ≡ false → [] ≡ completed_if p n (is_arrival p a n) a
unfolding completed_if
none-arrives p a n none = rw none refl

pub own-completes : (s : Run) (n : ℕ) (served : Served) (settled : Option Outcome) (bytes : List ℕ) (w : AgentView)
    → Reaches s (n + 1) → (k : IsEndHeard s n served settled) → IsViewAfterSnoop (past_of s) served.agent n w
    → map completed_of (entries_ended n served.first bytes k.end.outcome w)
    ≡ completed_if (past_of s) n (is_arrival (past_of s) served.agent n) served.agent
unfolding is_deferral is_got
own-completes s n served settled bytes w h k view = by k.end.outcome refl
  where
    ends : (o : Outcome) → k.end.outcome ≡ o → is_deferral o ≡ false
        → EndsFor (past_of s) served.agent n served.first k.end
    ends o e kept = grind arith

    come : (o : Outcome) → k.end.outcome ≡ o → is_deferral o ≡ false → (is_got o ≡ true) ⊎ (o ≡ Replied)
        → map completed_of (arrived_entries w n served.first bytes)
        ≡ completed_if (past_of s) n (is_arrival (past_of s) served.agent n) served.agent
    come o e kept which =
        let f = ends o e kept in
        let made = made-by s k.end o e which (settled-or-replied s served.agent n served.first k.end h f) in
        (arrived-entries s served.agent n served.first k.end made.0 bytes w h f made.1 view).accessed

    gone : (o : Outcome) → k.end.outcome ≡ o → is_deferral o ≡ false → (o ≡ Retried) ⊎ (o ≡ Written)
        → [] ≡ completed_if (past_of s) n (is_arrival (past_of s) served.agent n) served.agent
    gone o e kept which = grind (arith, ends, ungranted, none-arrives, ungranted-arrival)

    by : (o : Outcome) → k.end.outcome ≡ o
        → map completed_of (entries_ended n served.first bytes o w)
        ≡ completed_if (past_of s) n (is_arrival (past_of s) served.agent n) served.agent
    by Granted e = come Granted e refl (inl refl)
    by Handed e = come Handed e refl (inl refl)
    by Retried e = gone Retried e refl (inl refl)
    by Deferred e =
        sym (quiet-completes s n served.agent h
        (quiet-end s n served.agent served settled h k (k.put_off (ap is_deferral e) served.agent)))
    by Written e = gone Written e refl (inr refl)
    by Replied e = come Replied e refl (inr refl)
    by Failed e = grind (arith, never-failed, settled-or-replied, ends)
    by Upgraded e = (upgrade-entries s served.agent n served.first k.end w h (ends Upgraded e refl) e view).accessed
