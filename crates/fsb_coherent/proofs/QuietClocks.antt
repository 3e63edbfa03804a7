-- At a clock at which nothing happens no line has an event, and the line of the machine stays that of the run.
use Rattle.fsb_coherent.proofs.Words
use Words.{ℕ, zero, suc, ◌+◌, ◌<◌, ◌≡◌, Bool, false, ◌&&◌, ◌||◌, nat_eq, nat_lt, List, [], ◌∷◌, take, slice_get, None}
use Words.{refl, sym, ap, subst, ◌∙◌, inl, inr, arith, append-nil, cases_lt, filter, list_any, option_and_then}
use Words.{option_map, option_map_or, is_at, is_some_and, any_where-more, any_where-same, Done, accessed_line, Event}
use Words.{MemoryLine, OpenRequest, MayRun, run, Past, begun_at, ended_requests, grant_at, holds_line, is_end_at}
use Words.{is_ended, is_evicted, is_exclusive, is_granted, is_lost, is_named_by_other, is_taken_away, is_written_back}
use Words.{latest_grant, snooped_at, is_store_on, entries_to, past_to, holds_line-more, is_ended-more}
use Words.{is_exclusive-more, latest_grant-more, cancelled_in, responded_in, begins_on, cancels_on, ends_on, entries_on}
use Words.{events_at, events_of_clock, events_of_ends, hits_on, others_on, responds_on, snoops_on, KeepsTie, IsOpen}
use Words.{Tied, chain_below, deferral_below, defers_line, is_dirty_below, is_moved_below, is_responded_below}
use Words.{is_stored_below, replies_line}
use Rattle.fsb_coherent.specs.Quiet.{IsQuiet}
use Rattle.fsb_coherent.proofs.Steps.{chain-kept, deferral-more, moved_at-same, open-before, open-kept}
use Rattle.fsb_coherent.proofs.Steps.{responded-more}

-- the past up to n has the same at n
pub slice_get-take : {X : Type 0} (n : ℕ) (xs : List X) (k : ℕ) → k < n → slice_get (take n xs) k ≡ slice_get xs k
slice_get-take zero xs k l = absurd (omega arith)
slice_get-take (suc n) [] k l = refl
slice_get-take (suc n) (x ∷ xs) zero l = refl
slice_get-take (suc n) (x ∷ xs) (suc k) l = slice_get-take n xs k (omega arith)

moment-to : (p : Past) (n : ℕ) → slice_get (past_to p n).moments n ≡ slice_get p.moments n
unfolding past_to
moment-to p n = slice_get-take (n + 1) p.moments n (omega arith)

pub begun-to : (p : Past) (n : ℕ) → begun_at (past_to p n) n ≡ begun_at p n
unfolding begun_at
begun-to p n = ap (λ o. option_map (λ owing. owing.claim) (option_and_then (λ moment. moment.begun) o)) (moment-to p n)

pub cancelled-to : (p : Past) (n : ℕ) → cancelled_in (past_to p n) n ≡ cancelled_in p n
unfolding cancelled_in
cancelled-to p n = ap (option_and_then (λ moment. moment.cancelled)) (moment-to p n)

pub snooped-to : (p : Past) (n : ℕ) → snooped_at (past_to p n) n ≡ snooped_at p n
unfolding snooped_at
snooped-to p n = ap (option_and_then (λ moment. moment.snooped)) (moment-to p n)

pub responded-to : (p : Past) (n : ℕ) → responded_in (past_to p n) n ≡ responded_in p n
unfolding responded_in
responded-to p n = ap (option_and_then (λ moment. moment.responded)) (moment-to p n)

pub ended-to : (p : Past) (n : ℕ) → ended_requests (past_to p n) n ≡ ended_requests p n
unfolding ended_requests
ended-to p n = ap (λ o. option_map_or (λ moment. moment.ended) o []) (moment-to p n)

no-entries : (n line : ℕ) (log : List Done) → list_any (λ done. nat_eq done.clock n) log ≡ false
    → filter (λ done. nat_eq done.clock n && nat_eq (accessed_line done.access) line) (entries_to n log) ≡ []
unfolding entries_to
no-entries n line [] e = refl
no-entries n line (done ∷ log) e = grind (arith, no-entries n line log)

entries-none : (p : Past) (line n : ℕ) → list_any (λ done. nat_eq done.clock n) p.log ≡ false
    → entries_on (past_to p n) line n ≡ []
unfolding entries_on past_to
entries-none p line n e = no-entries n line p.log e

-- a past with nothing at n has no event there
nothing-in : (q : Past) (line n : ℕ) → begun_at q n ≡ None → cancelled_in q n ≡ None → snooped_at q n ≡ None
    → responded_in q n ≡ None → ended_requests q n ≡ [] → entries_on q line n ≡ []
    → events_of_clock q line n ≡ []
unfolding events_of_clock responds_on hits_on begins_on cancels_on snoops_on ends_on others_on events_of_ends
    is_some_and
nothing-in q line n begun cancelled snooped responded ended entries = grind arith

pub no_events : (p : Past) (line n : ℕ) → IsQuiet p n → events_at p line n ≡ []
unfolding events_at
no_events p line n h =
    grind (arith, nothing-in, begun-to, cancelled-to, snooped-to, responded-to, ended-to, entries-none)

or-nothing : (b : Bool) → (b || false) ≡ b
or-nothing b = grind arith

ungranted : (p : Past) (a line n : ℕ) → snooped_at p n ≡ None → is_granted p a line n ≡ false
unfolding is_granted grant_at is_some_and
ungranted p a line n e = rw e refl

unlost : (p : Past) (a line n : ℕ) → begun_at p n ≡ None → snooped_at p n ≡ None → is_lost p a line n ≡ false
unfolding is_lost is_evicted is_written_back is_taken_away is_some_and
unlost p a line n e f = rw (e, f) refl

unnamed : (p : Past) (a line n : ℕ) → snooped_at p n ≡ None → is_named_by_other p a line n ≡ false
unfolding is_named_by_other is_some_and
unnamed p a line n e = rw e refl

holds-quiet : (p : Past) (a line n : ℕ) → IsQuiet p n → holds_line p a line (n + 1) ≡ holds_line p a line n
holds-quiet p a line n h = grind (arith, ungranted, unlost, holds_line-more)

exclusive-quiet : (p : Past) (a line n : ℕ) → IsQuiet p n → is_exclusive p a line (n + 1) ≡ is_exclusive p a line n
exclusive-quiet p a line n h = grind (arith, ungranted, unlost, unnamed, is_exclusive-more)

latest-quiet : (p : Past) (a line n : ℕ) → IsQuiet p n → latest_grant p a line (n + 1) ≡ latest_grant p a line n
latest-quiet p a line n h = grind (arith, ungranted, latest_grant-more)

no-new : (p : Past) (a line n q : ℕ) (log : List Done) → list_any (λ done. nat_eq done.clock n) log ≡ false
    → list_any (λ done. is_store_on a line done && is_ended p done.clock q && nat_lt done.clock (n + 1)) log
    ≡ list_any (λ done. is_store_on a line done && is_ended p done.clock q && nat_lt done.clock n) log
no-new p a line n q [] e = refl
no-new p a line n q (done ∷ log) e = grind (arith, no-new p a line n q log)

stored-quiet : (p : Past) (a line n q : ℕ) → IsQuiet p n
    → is_stored_below p a line (n + 1) q ≡ is_stored_below p a line n q
unfolding is_stored_below
stored-quiet p a line n q h = no-new p a line n q p.log h.completed

dirty-quiet : (p : Past) (a line n : ℕ) → IsQuiet p n → is_dirty_below p a line (n + 1) ≡ is_dirty_below p a line n
unfolding is_dirty_below
dirty-quiet p a line n h = grind (arith, exclusive-quiet, latest-quiet, stored-quiet)

unended : (p : Past) (n q : ℕ) → ended_requests p n ≡ [] → is_end_at p n q ≡ false
unfolding is_end_at
unended p n q e = rw e refl

ended-quiet : (p : Past) (n q : ℕ) → IsQuiet p n → is_ended p (n + 1) q ≡ is_ended p n q
ended-quiet p n q h = grind (arith, unended, is_ended-more)

unresponded : (p : Past) (n q : ℕ) → responded_in p n ≡ None → is_at (responded_in p n) q ≡ false
unfolding is_at is_some_and
unresponded p n q e = rw e refl

responded-quiet : (p : Past) (n q : ℕ) → IsQuiet p n → is_responded_below p (n + 1) q ≡ is_responded_below p n q
responded-quiet p n q h = grind (arith, unresponded, responded-more)

chain-quiet : (p : Past) (line n : ℕ) → IsQuiet p n → chain_below p line (n + 1) ≡ chain_below p line n
chain-quiet p line n h = grind (arith, chain-kept, ended-quiet, append-nil)

undeferred : (p : Past) (line n : ℕ) → snooped_at p n ≡ None → defers_line p line n ≡ false
unfolding defers_line is_some_and
undeferred p line n e = rw e refl

unreplied : (p : Past) (line n : ℕ) → snooped_at p n ≡ None → replies_line p line n ≡ false
unfolding replies_line is_some_and
unreplied p line n e = rw e refl

deferral-quiet : (p : Past) (line n : ℕ) → IsQuiet p n → deferral_below p line (n + 1) ≡ deferral_below p line n
deferral-quiet p line n h = grind (arith, undeferred, unreplied, deferral-more)

moved-quiet : (p : Past) (line n : ℕ) → IsQuiet p n → is_moved_below p line (n + 1) ≡ is_moved_below p line n
unfolding is_moved_below is_some_and
moved-quiet p line n h =
    grind (arith, any_where-more, any_where-same, moved_at-same, ended-quiet, responded-quiet, or-nothing)

uncancelled : (p : Past) (n q : ℕ) → cancelled_in p n ≡ None → is_at (cancelled_in p n) q ≡ false
unfolding is_at is_some_and
uncancelled p n q e = rw e refl

open-quiet : (p : Past) (a line n : ℕ) (request : OpenRequest) → IsQuiet p n → IsOpen p a line n request
    → IsOpen p a line (n + 1) request
unfolding is_some_and
open-quiet p a line n request h open_there =
    open-kept p a line n request open_there (uncancelled p n request.number h.cancelled) (rw h.snooped refl)

opened-quiet : (p : Past) (a line n : ℕ) (request : OpenRequest) → IsQuiet p n → IsOpen p a line (n + 1) request
    → IsOpen p a line n request
opened-quiet p a line n request h open_there =
    elim (cases_lt request.number n) [
      | inl l ↦ open-before p a line n request open_there l
      | inr m ↦
          let below = open_there.before in
          let same : request.number ≡ n = omega arith in
          let begun = sym (ap (begun_at p) same) ∙ open_there.begun in
          let none = sym h.begun ∙ begun in
          absurd (let impossible : ⊥ = cc in impossible)
    ]

pub tied-quiet : (p : Past) (line n : ℕ) (x : MemoryLine) → IsQuiet p n → Tied p line n x → Tied p line (n + 1) x
tied-quiet p line n x h t = record {
  held = λ a. t.held a ∙ sym (holds-quiet p a line n h);
  sole = λ a. t.sole a ∙ sym (exclusive-quiet p a line n h);
  modified = λ a. t.modified a ∙ sym (dirty-quiet p a line n h);
  asked = λ a request e. open-quiet p a line n request h (t.asked a request e);
  opened = λ a request o. t.opened a request (opened-quiet p a line n request h o);
  chain = t.chain ∙ sym (chain-quiet p line n h);
  deferral = t.deferral ∙ sym (deferral-quiet p line n h);
  moved = t.moved ∙ sym (moved-quiet p line n h);
}

no-run : (x : MemoryLine) (es : List Event) → es ≡ [] → MayRun x es × (run x es ≡ x)
no-run x es h1 = grind arith

pub keeps-quiet : (p : Past) (line n : ℕ) → IsQuiet p n → KeepsTie p line n
keeps-quiet p line n h = record {
  may = λ x ordered valued t. (no-run x (events_at p line n) (no_events p line n h)).0;
  tied = λ x ordered valued t. subst (Tied p line (n + 1))
      (sym (no-run x (events_at p line n) (no_events p line n h)).1) (tied-quiet p line n x h t);
}
