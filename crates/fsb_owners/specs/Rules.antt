-- The rules of ownership, 21 to 31. Each test says that the rule is broken at clock c of v, and v is to end with clock c:
-- a rule is judged over the samples up to its clock alone. A verdict means something of a trace that breaks no phase rule
-- up to its clock. `first` are the joint states that a line may have at first: `unheld` alone where the trace begins with
-- empty caches, `every_joint` where it begins in traffic. Only what the caches hold is open then: nothing is pending or
-- under way.
use Rattle.std.specs.Prelude.{ℕ, ◌+◌, ◌-◌, nat_lt, nat_le, Bool, true, false, ◌&&◌, ◌||◌, not, take, length, if◌then◌else◌, List, [], ◌∷◌, Option, slice_get}
use Rattle.std.specs.List.{list_all}
use Rattle.std.specs.Option.{option_and_then}
use Rattle.fsb_count.specs.Options.{is_some_and, is_before}
use Rattle.fsb_count.specs.Clocks.{any_where}
use Rattle.fsb_signal.specs.declared.lines.TheConstants.Lines.{ADS, DEFER, HIT, HITM}
use Rattle.fsb_signal.specs.Samples.{line_at}
use Rattle.fsb_line.specs.declared.purpose.Purpose.{Purpose}
use Rattle.fsb_line.specs.Links.{upgrades}
use Rattle.fsb_line.specs.States.{asks_line, gets_line}
use Rattle.fsb_trace.specs.At.{Trace, line_back}
use Rattle.fsb_trace.specs.Requests.{is_reply, is_write_back, line_of, live_clock_of, live_count, live_request_of}
use Rattle.fsb_trace.specs.Snoop.{line_at_snoop_end, snoop_end_of}
use Rattle.fsb_trace.specs.Outcome.{is_deferred}
use Rattle.fsb_trace.specs.Flight.{reply_number_of}
use Rattle.fsb_owners.specs.Joint.{Joint, has_other_owner}
use Rattle.fsb_owners.specs.Shown.{agent_at, origin_clock_of, is_held_back, is_spoiled, is_still_asking, names, purpose_at, origin_of, snooped_at}
use Rattle.fsb_owners.specs.Least.{least_broken}
use Rattle.fsb_owners.specs.Possible.{possible, possible_begun, possible_shown}

-- no joint state is left
abbrev pub is_none_left : List Joint → Bool
is_none_left [] = true
is_none_left (joint ∷ set) = false

-- the test of the line that the request names which begins at q, and of its agent, where both are known and the line is
-- not spoiled
unfoldable pub of_request : Trace → ℕ → (ℕ → ℕ → Bool) → Bool
of_request v q test =
    is_some_and (line_of v q) (λ line. names v line q && not (is_spoiled v line)
    && is_some_and (agent_at v q) (λ a. test line a))

-- the test of the request that begins at c - 1 and is decoded at c
unfoldable pub at_decoding : Trace → ℕ → (ℕ → ℕ → ℕ → Bool) → Bool
at_decoding v c test = line_back ADS v c 1 && of_request v (c - 1) (test (c - 1))

-- what is asked is a write-back
unfoldable pub is_write_back_purpose : Purpose → Bool
is_write_back_purpose kind = not (asks_line kind)

-- joint states were possible before the request at q, and none of them lets its agent ask so
unfoldable pub is_begun_unfit : List Joint → (Purpose → Bool) → Trace → ℕ → ℕ → Bool
is_begun_unfit first is_kind v q line =
    is_some_and (purpose_at v q) is_kind && not (is_none_left (possible first v line q))
    && is_none_left (possible_begun first v line q)

-- 21 one request per line: a request begins while an earlier one of its agent for its line is outstanding
unfoldable pub is_asked_twice : List Joint → Trace → ℕ → Bool
is_asked_twice first v c = at_decoding v c (λ q line a. is_still_asking v line a q)

-- 22 write-back: begun by an agent that cannot have the line Modified, or while a request of another agent for the line is
-- open
unfoldable pub is_write_back_unfit : List Joint → Trace → ℕ → Bool
is_write_back_unfit first v c =
    at_decoding v c (λ q line a. is_some_and (purpose_at v q) is_write_back_purpose
    && (is_begun_unfit first is_write_back_purpose v q line || is_held_back v line a q))

-- 23 upgrade: begun by an agent that cannot have the line Shared
unfoldable pub is_upgrade_unfit : List Joint → Trace → ℕ → Bool
is_upgrade_unfit first v c = at_decoding v c (λ q line a. is_begun_unfit first upgrades v q line)

-- 24 asks for what it has: a read by an agent that must hold the line, or a read and invalidate by one that must have it
-- Exclusive or Modified
unfoldable pub is_asked_in_vain : List Joint → Trace → ℕ → Bool
is_asked_in_vain first v c = at_decoding v c (λ q line a. is_begun_unfit first gets_line v q line)

-- joint states were left before the snoop end at s, and none fits it
unfoldable pub is_answer_unfit : List Joint → Trace → ℕ → ℕ → Bool
is_answer_unfit first v s line =
    not (is_none_left (possible_begun first v line s)) && is_none_left (possible_shown first v line s)

-- in each joint state left before the snoop end at s another agent has the line Modified
unfoldable pub is_owned_elsewhere : List Joint → Trace → ℕ → ℕ → ℕ → Bool
is_owned_elsewhere first v s line a = list_all (has_other_owner a) (possible_begun first v line s)

-- the snoop end at s fits no joint state, and its request, line and agent pass the test
unfoldable pub of_answer : List Joint → Trace → ℕ → (ℕ → ℕ → ℕ → Bool) → Bool
of_answer first v s test =
    is_some_and (snooped_at v s) (λ j. is_some_and (origin_clock_of v j) (λ q. of_request v q (λ line a.
    is_answer_unfit first v s line && test j line a)))

-- the same at c, or at c - 1, where a request that began there is decoded now
unfoldable pub at_answer : List Joint → Trace → ℕ → (ℕ → ℕ → ℕ → ℕ → Bool) → Bool
at_answer first v c test = of_answer first v c (test c) || (nat_lt 0 c && of_answer first v (c - 1) (test (c - 1)))

-- live request j is a write-back
unfoldable pub is_of_write_back : Trace → ℕ → Bool
is_of_write_back v j = is_write_back (live_request_of v j)

-- 25 HITM# without an owner: no other agent can have the line Modified
unfoldable pub is_owner_lacking : List Joint → Trace → ℕ → Bool
is_owner_lacking first v c =
    at_answer first v c (λ s j line a. not (is_of_write_back v j) && line_at HITM v s)

-- 26 HITM# missing: another agent must have the line Modified
unfoldable pub is_owner_silent : List Joint → Trace → ℕ → Bool
is_owner_silent first v c =
    at_answer first v c (λ s j line a. not (is_of_write_back v j) && not (line_at HITM v s)
    && is_owned_elsewhere first v s line a)

-- 27 HIT# missing: HIT# and HITM# are both off, and another agent must hold the line
unfoldable pub is_holder_silent : List Joint → Trace → ℕ → Bool
is_holder_silent first v c =
    at_answer first v c (λ s j line a. not (is_of_write_back v j) && not (line_at HITM v s) && not (line_at HIT v s)
    && not (is_owned_elsewhere first v s line a))

-- 28 HIT# without a holder: no other agent can hold the line clean
unfoldable pub is_holder_lacking : List Joint → Trace → ℕ → Bool
is_holder_lacking first v c =
    at_answer first v c (λ s j line a. not (is_of_write_back v j) && not (line_at HITM v s) && line_at HIT v s
    && not (is_owned_elsewhere first v s line a))

-- 29 write-back of a lost line: at its snoop end its agent cannot have the line Modified any more. Rule 22 is broken before
-- it, so it is never a first finding
unfoldable pub is_written_when_lost : List Joint → Trace → ℕ → Bool
is_written_when_lost first v c = at_answer first v c (λ s j line a. is_of_write_back v j)

-- HIT# at c differs from HIT# at the snoop end of live request i
unfoldable pub has_other_hit : Trace → ℕ → ℕ → Bool
has_other_hit v c i = if line_at_snoop_end HIT v i then not (line_at HIT v c) else line_at HIT v c

-- 30 a reply's HIT#: it is not that of the snoop end of the request that is answered
unfoldable pub is_hit_of_reply_wrong : List Joint → Trace → ℕ → Bool
is_hit_of_reply_wrong first v c =
    is_some_and (snooped_at v c) (λ j. is_reply (live_request_of v j)
    && is_some_and (origin_of v j) (λ i. has_other_hit v c i)
    && is_some_and (origin_clock_of v j) (λ q. of_request v q (λ line a. true)))

-- the reply to live request i has its snoop end below s
unfoldable pub is_answered_below : Trace → ℕ → ℕ → Bool
is_answered_below v i s = is_before (option_and_then (snoop_end_of v) (reply_number_of v i)) s

-- live request j has neither DEFER# nor HITM#, or it is told Deferred
unfoldable pub is_served_or_deferred : Trace → ℕ → Bool
is_served_or_deferred v j =
    (not (line_at_snoop_end DEFER v j) && not (line_at_snoop_end HITM v j)) || is_deferred v j

-- live request j is given the line of live request i, which is Deferred and not answered yet
unfoldable pub is_given_again_to : Trace → ℕ → ℕ → Bool
is_given_again_to v i j =
    is_some_and (snoop_end_of v i) (λ t. is_some_and (snoop_end_of v j) (λ s. nat_lt t s && not (is_answered_below v i s)))
    && is_some_and (live_clock_of v i) (λ q. of_request v q (λ line a. is_some_and (live_clock_of v j) (names v line)))
    && is_some_and (option_and_then (purpose_at v) (live_clock_of v j)) asks_line && is_served_or_deferred v j

-- 31 pending line given again: a request is Deferred and not answered, and a later one for its line is served or Deferred.
-- It stays broken at later clocks; the verdict names the first
unfoldable pub is_given_again : List Joint → Trace → ℕ → Bool
is_given_again first v c =
    any_where (λ i. is_deferred v i && any_where (is_given_again_to v i) (live_count v)) (live_count v)

-- the rules of ownership, rule 21 first
unfoldable pub ownership_rules : List Joint → List (Trace → ℕ → Bool)
ownership_rules first =
    is_asked_twice first ∷ is_write_back_unfit first ∷ is_upgrade_unfit first ∷ is_asked_in_vain first
    ∷ is_owner_lacking first ∷ is_owner_silent first ∷ is_holder_silent first ∷ is_holder_lacking first
    ∷ is_written_when_lost first ∷ is_hit_of_reply_wrong first ∷ is_given_again first ∷ []

-- rule j, 21 to 31, is broken at c: c is a clock of w, and the rule is judged over the first c + 1 samples of w
unfoldable pub is_ownership_broken : List Joint → Trace → ℕ → ℕ → Bool
is_ownership_broken first w c j =
    nat_lt c (length w) && nat_le 21 j
    && is_some_and (slice_get (ownership_rules first) (j - 21)) (λ rule. rule (take (c + 1) w) c)

-- of a trace that breaks no phase rule up to that clock: the least clock with a broken rule of ownership and, there, the
-- least such rule; none where no rule is broken
unfoldable pub ownership_verdict : List Joint → Trace → Option (ℕ × ℕ)
ownership_verdict first w = least_broken (is_ownership_broken first w) 32 (length w)
