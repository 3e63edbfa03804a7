-- A list that has the deferrals of a run has those of the run that grows from it; and lists are short.
use Rattle.fsb_bridge_run.proofs.Words
use Words.{ℕ, ◌+◌, ◌-◌, ◌<◌, ◌≤◌, ◌≡◌, true, List, [], ◌∷◌, Some, length, take, slice_index, refl, sym, ap, subst, ◌∙◌}
use Words.{arith, length-append, length-map, take_all, take-append-le, due_number, would_begin, AgreeTo, all_where}
use Words.{count_where, is_deferral, live_count, snoop_end_of, AgreeTo-sym, snoop_end_of-stays, one_more, snooped_at}
use Words.{GrowsTo, SnoopEnd, Run, past_of, past_to, run_to, length-moments, moments-grow, past-before, snoop-tied}
use Words.{tied-snoop, snooped-to, wants-lawfully, asked-at, deferred-held, held-plain, snooped-by, Reaches, Waiting}
use Words.{StandsFor, waiting_at, IsEntryOf, IsEntryOf-StandsFor, after_beginning, after_reply, reply_begun}
use Words.{FindsDeferrals, HasDeferrals, ShowsDeferrals, turns_of}
use Rattle.fsb_bridge_run.proofs.Alike.{stands-kept, waiting_at-same}
use Rattle.fsb_bridge_run.proofs.FewDeferrals.{few-waiting}
use Rattle.fsb_bridge_run.proofs.Listed.{Matched-length}
use Rattle.fsb_bridge_run.proofs.RunLists.{found-whole, own-turns, take-agrees}
use Rattle.fsb_bridge_run.proofs.WaitingSteps.{deferred-waiting}

pub agree-grown : (r s : Run) → GrowsTo r s → AgreeTo (length r.trace) r.trace s.trace
agree-grown r s grows = grind (arith, one_more)

snooped-grown : (r s : Run) (t : ℕ) → GrowsTo r s → t < length r.trace
    → snooped_at (past_of r) t ≡ snooped_at (past_of s) t
snooped-grown r s t grows l =
    let m : ℕ = length r.trace - 1 in
    let last : m + 1 ≡ length r.trace = omega arith in
    ap (λ p. snooped_at p t) (sym (past-before r s m grows last)) ∙ snooped-to (past_of s) m t (omega arith)

-- the turns of both runs are the same
pub turns-grown : (r s : Run) (i t : ℕ) → GrowsTo r s → snoop_end_of r.trace i ≡ Some t → t < length r.trace
    → slice_index (turns_of r) i ≡ slice_index (turns_of s) i
turns-grown r s i t grows e l =
    let there = snoop_end_of-stays (length r.trace) r.trace s.trace i t (agree-grown r s grows) l e in
    grind (arith, snoop-tied, snooped-grown)

shown-grown : (r s : Run) (list : List Waiting) → GrowsTo r s → ShowsDeferrals list r (length r.trace)
    → ShowsDeferrals list s (length r.trace)
shown-grown r s list grows has =
    let n = length r.trace in
    let whole : take n r.trace ≡ r.trace = take_all n r.trace (omega arith) in
    let cut : take n s.trace ≡ r.trace = grind (arith, take-append-le) in
    let here : StandsFor list r.trace (turns_of r) n = subst (λ w. StandsFor list w (turns_of r) n) whole has in
    subst (λ w. StandsFor list w (turns_of s) n) (sym cut)
    (stands-kept n r.trace r.trace (turns_of r) (turns_of s) n list
    (record {
      agree = record { left = omega arith; right = omega arith; same = λ c m. refl };
      same = λ i t e l. turns-grown r s i t grows e l;
    }) (omega arith) (λ i waiting. refl) here)

-- the reply that began at a clock of both runs
begun-grown : (r s : Run) (d : ℕ) → GrowsTo r s → d + 1 ≡ length r.trace → reply_begun r d ≡ reply_begun s d
unfolding reply_begun would_begin due_number run_to past_to past_of
begun-grown r s d grows last =
    let trace : take (d + 1) r.trace ≡ take (d + 1) s.trace =
    sym (ap (take (d + 1)) grows.next.more_trace ∙ take-append-le (d + 1) r.trace _ (omega arith)) in
    let size = length-moments r (length r.trace) in
    let moments : take (d + 1) (past_of r).moments ≡ take (d + 1) (past_of s).moments =
    sym (ap (take (d + 1)) (moments-grow r s grows) ∙ take-append-le (d + 1) (past_of r).moments _ (omega arith)) in
    grind arith

after-grown : (r s : Run) (n : ℕ) (list : List Waiting) → GrowsTo r s → n ≡ length r.trace
    → after_beginning r n list ≡ after_beginning s n list
unfolding after_beginning
after-grown r s n list h1 h2 = grind (arith, begun-grown)

pub list-grown : (r s : Run) (list : List Waiting) → GrowsTo r s → HasDeferrals list r (length r.trace)
    → HasDeferrals list s (length r.trace)
list-grown r s list grows has = record {
  shown = has.shown;
  shows = shown-grown r s has.shown grows has.shows;
  begun = has.begun ∙ after-grown r s (length r.trace) has.shown grows refl;
}

-- before the first clock nothing waits
none-waits : (turns : List ℕ) → waiting_at [] turns 0 ≡ []
unfolding waiting_at live_count count_where all_where
none-waits turns = refl

pub list-first : (r : Run) → HasDeferrals [] r 0
unfolding after_beginning
list-first r = grind (arith, none-waits)

beginning-length : (r : Run) (n : ℕ) (list : List Waiting) → length (after_beginning r n list) ≡ length list
unfolding after_beginning after_reply
beginning-length r n list = grind (arith, length-map)

-- the list is as long as there are requests that wait
pub list-length : (r : Run) (n : ℕ) (list : List Waiting) → Reaches r n → HasDeferrals list r n
    → length list ≡ length (waiting_at r.trace (turns_of r) n)
list-length r n list h has =
    let w = r.trace in
    let v = take n w in
    let back = AgreeTo-sym n w v (take-agrees w n h.long) in
    ap length has.begun ∙ beginning-length r n has.shown
    ∙ Matched-length (IsEntryOf v (turns_of r) n) has.shown (waiting_at v (turns_of r) n)
    (IsEntryOf-StandsFor has.shown v (turns_of r) n has.shows)
    ∙ ap length (waiting_at-same n v w (turns_of r) (turns_of r) n (own-turns n v w (turns_of r) back) (omega arith))

pub list-most : (r : Run) (n : ℕ) (list : List Waiting) → Reaches r n → HasDeferrals list r n → length list ≤ 16
list-most r n list h has =
    let size = list-length r n list h has in
    let few = few-waiting r n n h (omega arith) in
    omega arith

-- and one more has room where a request is Deferred
pub list-room : (r : Run) (n : ℕ) (s : SnoopEnd) (list : List Waiting) → Reaches r (n + 1) → FindsDeferrals list r n
    → snooped_at (past_of r) n ≡ Some s → is_deferral s.outcome ≡ true → length list < 16
list-room r n s list h finds there deferred =
    let w = r.trace in
    let tied = tied-snoop r n s there in
    let k = snooped-by r n tied.0 s tied.1 in
    let a = asked-at r n tied.0 s h.timely (wants-lawfully r h.bounds) k in
    let plain = held-plain a.request.kind (deferred-held r n tied.0 s a.request h.timely k a.decoded deferred) in
    let more = deferred-waiting r n tied.0 s a.request h (record { snooped = k; decoded = a.decoded }) plain deferred in
    let few = few-waiting r (n + 1) (n + 1) h (omega arith) in
    let size = Matched-length (IsEntryOf w (turns_of r) n) list (waiting_at w (turns_of r) n)
    (IsEntryOf-StandsFor list w (turns_of r) n (found-whole r n list h finds)) in
    let longer = ap length more ∙ length-append (waiting_at w (turns_of r) n) (tied.0 ∷ []) in
    omega arith
