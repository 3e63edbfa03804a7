-- The words of a run's next clock, by a list that has the run's deferrals: before it is known that the clock is timely.
use Rattle.fsb_bridge_run.proofs.Words
use Words.{ℕ, ◌<◌, ◌≡◌, true, false, List, Some, is_some, length, refl, sym, subst, arith, option_map, option_map_or}
use Words.{is_some_and, Request, effective, request_at, is_pending, is_reply, is_reply_kind, begins_at, is_agent}
use Words.{is_same_agent, Priority, line_at-agree, snooped_at, GrowsTo, choice_at, effective_choice, SnoopEnd, Run}
use Words.{past_of, past_to, number_served_at, was_hit_before, due_number, reply_to, request_begun, would_begin}
use Words.{tied-snoop, KeepsBounds, run_to-agrees, want-own, Reaches, Waiting, deferral_of_id, due_deferral, is_covered}
use Words.{is_waited_for, IsThatOf, StandsFor, is_waited_for-StandsFor, HasDeferrals, ShowsBegun, turns_of}
use Rattle.fsb_bridge_run.proofs.Alike.{SameDeferrals}
use Rattle.fsb_bridge_run.proofs.FewDeferrals.{room-for}
use Rattle.fsb_bridge_run.proofs.GrownLists.{agree-grown, list-length, turns-grown}
use Rattle.fsb_bridge_run.proofs.LaterTraces.{GoesOnFrom, trace-finds}
use Rattle.fsb_bridge_run.proofs.ListWords.{any-by, covered, due-in, reply-by}
use Rattle.fsb_bridge_run.proofs.PriorityReplies.{begun-off, begun-on}
use Rattle.fsb_bridge_run.proofs.RepliesAt.{reply_at-from, reply_at-off}
use Rattle.fsb_bridge_run.proofs.RepliesTake.{hit-by, taken-in, there-in}

whole : (r : Run) → (s : Run) → GrowsTo r s → KeepsBounds r.plan → Reaches r (length r.trace)
whole r s grows bounds = record { timely = grows.timely; bounds = bounds; long = omega arith }

-- with its own turns, or with those of the run before, the longer trace has the deferrals of that run
pub grown-same : (r s : Run) → GrowsTo r s
    → SameDeferrals (length r.trace) r.trace s.trace (turns_of r) (turns_of s)
grown-same r s grows = record { agree = agree-grown r s grows; same = λ i t e l. turns-grown r s i t grows e l }

pub grown-before : (r s : Run) → GrowsTo r s
    → SameDeferrals (length r.trace) r.trace s.trace (turns_of r) (turns_of r)
grown-before r s grows = record { agree = agree-grown r s grows; same = λ i t e l. refl }

goes-on : (r s : Run) (turns : List ℕ) → GrowsTo r s → KeepsBounds r.plan → ShowsBegun r s
    → SameDeferrals (length r.trace) r.trace s.trace (turns_of r) turns
    → GoesOnFrom r (length r.trace) s.trace turns
unfolding request_begun begins_at is_agent is_some_and is_same_agent is_reply would_begin reply_to is_reply_kind
    past_to past_of
goes-on r s turns grows bounds shows same =
    grind (arith, run_to-agrees, line_at-agree, reply_at-off, begun-off, begun-on, reply_at-from, want-own)

-- the longer trace finds the list
pub grown-finds : (r s : Run) (list : List Waiting) → GrowsTo r s → KeepsBounds r.plan → ShowsBegun r s
    → HasDeferrals list r (length r.trace) → StandsFor list s.trace (turns_of s) (length r.trace)
grown-finds r s list grows bounds shows has =
    subst (λ xs. StandsFor xs s.trace (turns_of s) (length r.trace)) (sym has.begun)
    (trace-finds r (length r.trace) s.trace (turns_of s) has.shown (whole r s grows bounds)
    (goes-on r s (turns_of s) grows bounds shows (grown-same r s grows)) has.shows)

finds-before : (r s : Run) (list : List Waiting) → GrowsTo r s → KeepsBounds r.plan → ShowsBegun r s
    → HasDeferrals list r (length r.trace) → StandsFor list s.trace (turns_of r) (length r.trace)
finds-before r s list grows bounds shows has =
    subst (λ xs. StandsFor xs s.trace (turns_of r) (length r.trace)) (sym has.begun)
    (trace-finds r (length r.trace) s.trace (turns_of r) has.shown (whole r s grows bounds)
    (goes-on r s (turns_of r) grows bounds shows (grown-before r s grows)) has.shows)

pub grown-pending : (r s : Run) (line : ℕ) (list : List Waiting) → GrowsTo r s → KeepsBounds r.plan → ShowsBegun r s
    → HasDeferrals list r (length r.trace)
    → is_pending s.trace (turns_of r) line (length r.trace) ≡ is_waited_for line list
grown-pending r s line list grows bounds shows has = grind (arith, is_waited_for-StandsFor, finds-before)

pub grown-choice : (r s : Run) (q : ℕ) (request : Request) (list : List Waiting) → GrowsTo r s → KeepsBounds r.plan
    → ShowsBegun r s → HasDeferrals list r (length r.trace) → request_at s.trace q ≡ Some request
    → effective_choice s.plan.bridge s.choices s.trace (turns_of r) q (length r.trace)
    ≡ effective (choice_at s.choices s.trace q) request (is_covered s.plan.bridge request.line)
    (is_waited_for request.line list)
unfolding effective_choice
grown-choice r s q request list grows bounds shows has e = grind (arith, covered, grown-pending)

pub grown-due : (r s : Run) (list : List Waiting) → GrowsTo r s → KeepsBounds r.plan → ShowsBegun r s
    → HasDeferrals list r (length r.trace)
    → IsThatOf s.trace (due_deferral (length r.trace) list) (due_number s (past_of s) (length r.trace))
unfolding due_number
grown-due r s list grows bounds shows has = grind (arith, due-in, grown-same, grown-finds)

pub grown-any : (r s : Run) (list : List Waiting) → GrowsTo r s → KeepsBounds r.plan → ShowsBegun r s
    → HasDeferrals list r (length r.trace)
    → is_some (due_number s (past_of s) (length r.trace)) ≡ is_some (due_deferral (length r.trace) list)
grown-any r s list grows bounds shows has =
    any-by s.trace (due_deferral (length r.trace) list) (due_number s (past_of s) (length r.trace))
    (grown-due r s list grows bounds shows has)

pub grown-would : (r s : Run) (list : List Waiting) → GrowsTo r s → KeepsBounds r.plan → ShowsBegun r s
    → HasDeferrals list r (length r.trace)
    → would_begin s (past_of s) (length r.trace) Priority
    ≡ option_map (λ deferral. reply_to deferral.request) (due_deferral (length r.trace) list)
unfolding would_begin
grown-would r s list grows bounds shows has = grind (arith, reply-by, grown-due)

pub grown-taken : (r s : Run) (end : SnoopEnd) (reply : Request) (list : List Waiting) → GrowsTo r s
    → KeepsBounds r.plan → ShowsBegun r s → HasDeferrals list r (length r.trace)
    → snooped_at (past_of s) (length r.trace) ≡ Some end → request_at s.trace end.first ≡ Some reply
    → is_reply_kind reply.kind ≡ true
    → IsThatOf s.trace (deferral_of_id reply.did list) (number_served_at s (past_of s) (length r.trace))
unfolding number_served_at
grown-taken r s end reply list grows bounds shows has there decoded replies =
    grind (arith, tied-snoop, taken-in, grown-same, grown-finds)

pub grown-hit : (r s : Run) (end : SnoopEnd) (reply : Request) (list : List Waiting) → GrowsTo r s
    → KeepsBounds r.plan → ShowsBegun r s → HasDeferrals list r (length r.trace)
    → snooped_at (past_of s) (length r.trace) ≡ Some end → request_at s.trace end.first ≡ Some reply
    → is_reply_kind reply.kind ≡ true
    → was_hit_before s (past_of s) (length r.trace)
    ≡ option_map_or (λ deferral. deferral.shared) (deferral_of_id reply.did list) false
unfolding was_hit_before
grown-hit r s end reply list grows bounds shows has there decoded replies = grind (arith, hit-by, grown-taken)

pub grown-there : (r s : Run) (end : SnoopEnd) (reply : Request) (list : List Waiting) → GrowsTo r s
    → KeepsBounds r.plan → ShowsBegun r s → HasDeferrals list r (length r.trace)
    → snooped_at (past_of s) (length r.trace) ≡ Some end → request_at s.trace end.first ≡ Some reply
    → is_reply_kind reply.kind ≡ true → is_some (deferral_of_id reply.did list) ≡ true
grown-there r s end reply list grows bounds shows has there decoded replies =
    let n = length r.trace in
    let tied = tied-snoop s n end there in
    there-in r n tied.0 end.first s.trace (turns_of s) reply list (whole r s grows bounds) (grown-same r s grows)
    (record { reached = tied.1.reached; first = tied.1.first; decoded = decoded; replies = replies })
    (grown-finds r s list grows bounds shows has)

-- a request that is no reply finds room where its snoop end is
pub grown-room : (r s : Run) (end : SnoopEnd) (request : Request) (list : List Waiting) → GrowsTo r s
    → KeepsBounds r.plan → HasDeferrals list r (length r.trace)
    → snooped_at (past_of s) (length r.trace) ≡ Some end → request_at s.trace end.first ≡ Some request
    → is_reply_kind request.kind ≡ false → length list < 16
grown-room r s end request list grows bounds has there decoded plain =
    let n = length r.trace in
    let h = whole r s grows bounds in
    let tied = tied-snoop s n end there in
    let few = room-for r n tied.0 end.first s.trace (turns_of r) request h (grown-before r s grows) tied.1.reached
    tied.1.first decoded plain in
    let size = list-length r n list h has in
    omega arith
