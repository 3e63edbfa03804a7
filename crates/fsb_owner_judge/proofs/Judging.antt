-- What is kept of all lines goes on, one sample on.
use Rattle.std.proofs.Common.{ℕ, zero, suc, ◌+◌, ◌-◌, ◌<◌, ◌≡◌, Bool, true, false, ◌||◌, not, length, List, Option, Some, None}
use Rattle.std.proofs.Common.{refl, sym, ap, ◌∙◌, arith, add-one, if◌then◌else◌}
use Rattle.std.specs.Option.{option_and_then}
use Rattle.std.proofs.lemmas.Bool.{lt-ltb}
use Rattle.std.proofs.lemmas.Option.{slice_get_past}
use Rattle.fsb_count.specs.Options.{is_at}
use Rattle.fsb_encode.specs.declared.request.Pair.{Pair}
use Rattle.fsb_encode.specs.declared.request.Request.{Request}
use Rattle.fsb_signal.specs.declared.sample.Sample.{Sample}
use Rattle.fsb_trace.specs.At.{Trace, known_pair_at, line_back, request_at}
use Rattle.fsb_owners.specs.Joint.{Joint}
use Rattle.fsb_owners.specs.Least.{least_at}
use Rattle.fsb_owners.specs.Rules.{at_decoding, is_asked_in_vain, is_asked_twice, is_given_again, is_hit_of_reply_wrong}
use Rattle.fsb_owners.specs.Rules.{is_ownership_broken, is_upgrade_unfit, is_write_back_unfit}
use Rattle.fsb_owners.specs.Possible.{after_clock, after_unseen, possible}
use Rattle.fsb_owners.specs.Shown.{agent_at, is_coming, may_drop_at, names, purpose_at}
use Rattle.fsb_owner_laws.proofs.Interface.{Alike, clock_quiet, possible-agree, unseen_quiet}
use Rattle.fsb_joint.specs.declared.line_clock.Begun.{Begun}
use Rattle.fsb_joint.specs.LineClock.{begun_at}
use Rattle.fsb_owner_judge.specs.declared.judge.Shown.{Shown}
use Rattle.fsb_owner_judge.specs.declared.sights.Waiting.{Waiting}
use Rattle.fsb_owner_judge.specs.declared.lines.OwnerLines.{OwnerLines}
use Rattle.fsb_owner_judge.specs.Judge.{IsQuiet, IsSettled, LinesStand, Shows}
use Rattle.fsb_owner_judge.specs.Lines.{Follows, KnowsSpoiled, is_kept_spoiled, is_waiting, kept_of, walked}
use Rattle.fsb_owner_judge.specs.Sights.{begun_for}
use Rattle.fsb_owner_judge.specs.declared.answered.Answered.{Answered}
use Rattle.fsb_owner_judge.specs.Verdicts.{answered_at, answered_before, begun_rule, nothing_broken, rule_by}
use Rattle.fsb_owner_judge.proofs.LeastRule.{ownership-least}

-- what was possible before the last clock is so with one sample more
past : (n : ℕ) (first : List Joint) (h v : Trace) (line : ℕ) → Alike n h v → possible first h line (n - 1) ≡ possible first v line (n - 1)
unfolding possible
past zero first h v line k = refl
past (suc m) first h v line k = possible-agree (suc m) first h v line (suc m - 1) k (omega arith)

pub follow-on : (lines on : OwnerLines) (first : List Joint) (h : Trace) (x : Sample) (v : Trace) (shown : Shown) (waits : List Waiting)
    → LinesStand lines first h → Shows first h x v shown waits → ((line : ℕ) → kept_of on line ≡ kept_of lines line)
    → Follows on first v (length h - 1)
follow-on lines on first h x v shown waits s w k line =
    k line ∙ s.follows line
    ∙ past (length h) first h v line (record { agree = w.more.agree; left = w.before; right = w.after })

pub spoiled-on : (lines on : OwnerLines) (first : List Joint) (h : Trace) (x : Sample) (v : Trace) (shown : Shown) (waits : List Waiting)
    → LinesStand lines first h → Shows first h x v shown waits
    → ((line : ℕ) → is_kept_spoiled on line ≡ (is_at shown.failed line || is_kept_spoiled lines line))
    → KnowsSpoiled on v
spoiled-on lines on first h x v shown waits s w k line =
    k line ∙ ap (λ b. is_at shown.failed line || b) (s.spoiled line) ∙ sym (w.spoiled line)

settled_unseen : (first : List Joint) (v : Trace) (line : ℕ) → IsSettled first → after_unseen v line 0 first ≡ first
unfolding after_unseen
settled_unseen first v line s = s (λ a. not (is_coming v line a (0 + 1))) (may_drop_at v line 0)

again : (v : Trace) (line b : ℕ) (set : List Joint) → IsQuiet v line (suc b)
    → after_unseen v line (suc b) (after_clock v line b set) ≡ after_clock v line b set
unfolding after_clock
again v line b set q =
    unseen_quiet v line b (suc b) _
    (λ a. q.coming (omega arith) a ∙ ap (is_coming v line a) (sym (add-one b)))
    (λ a. q.dropping (omega arith) a ∙ ap (λ n. may_drop_at v line n a) (let e : suc b - 1 ≡ b = omega arith in e))

-- a line of which a clock shows nothing keeps its joint states
steady : (first : List Joint) (v : Trace) (line c : ℕ) → IsSettled first → IsQuiet v line c
    → possible first v line (suc c) ≡ possible first v line c
unfolding possible
steady first v line zero s q = clock_quiet v line 0 first q.unnamed q.unsnooped ∙ settled_unseen first v line s
steady first v line (suc b) s q =
    clock_quiet v line (suc b) (possible first v line (suc b)) q.unnamed q.unsnooped
    ∙ again v line b (possible first v line b) q

closed_by : (first : List Joint) (v : Trace) (line c : ℕ) (b : Bool) (was : List Joint)
    → (b ≡ false → possible first v line (suc c) ≡ possible first v line c) → was ≡ possible first v line c → walked v c line b was ≡ possible first v line (suc c)
unfolding possible
closed_by first v line c true was o e = ap (after_clock v line c) e
closed_by first v line c false was o e = e ∙ sym (o refl)

pub close-on : (old on : OwnerLines) (first : List Joint) (v : Trace) (c n : ℕ) (waits : List Waiting) → c + 1 ≡ n → IsSettled first
    → Follows old first v c → ((line : ℕ) → kept_of on line ≡ walked v c line (is_waiting waits line) (kept_of old line))
    → ((line : ℕ) → is_waiting waits line ≡ false → IsQuiet v line c) → Follows on first v n
close-on old on first v c n waits e s f k q line =
    k line
    ∙ closed_by first v line c (is_waiting waits line) (kept_of old line) (λ o. steady first v line c s (q line o)) (f line)
    ∙ ap (possible first v line) (sym (add-one c) ∙ e)

pub stand-next : (lines : OwnerLines) (first : List Joint) (v : Trace) (n : ℕ) → IsSettled first → Follows lines first v n
    → KnowsSpoiled lines v → length v ≡ n + 1 → LinesStand lines first v
stand-next lines first v n s f k e = record {
  settled = s;
  follows = λ line. f line ∙ ap (possible first v line) (let g : n ≡ length v - 1 = omega (arith, e) in g);
  spoiled = k;
}

-- a request that begins with the last sample is not decoded yet
no_word : (o : Option Pair) → option_and_then {U = Request} (λ a. None) o ≡ None
no_word None = refl
no_word (Some a) = refl

no_pair : (v : Trace) (n : ℕ) → length v ≡ n + 1 → known_pair_at v (n + 1) ≡ None
unfolding known_pair_at
no_pair v n e = rw (slice_get_past v (n + 1) (omega (arith, e))) refl

no_request : (v : Trace) (n : ℕ) → length v ≡ n + 1 → request_at v n ≡ None
unfolding request_at
no_request v n e = rw (no_pair v n e) (no_word (known_pair_at v n))

no_begun : (b : Bool) (g : Option ℕ) → None ≡ (if b then option_and_then {U = Begun} (λ a. None) g else None)
no_begun true None = refl
no_begun true (Some a) = refl
no_begun false g = refl

pub not-decoded : (v : Trace) (line n : ℕ) → length v ≡ n + 1 → begun_for line None ≡ begun_at v line n
unfolding begun_for begun_at purpose_at
not-decoded v line n e = rw (no_request v n e) (no_begun (names v line n) (agent_at v n))

-- the rules of the last clock
pub rules-now : (first : List Joint) (v : Trace) (n : ℕ) (begun : Option ℕ) (late : Answered) (given : Bool) → length v ≡ n + 1
    → begun ≡ begun_rule first v n → late ≡ answered_before first v n → given ≡ is_given_again first v n
    → rule_by begun (answered_at first v n) late (is_hit_of_reply_wrong first v n) given
    ≡ least_at (is_ownership_broken first v) 32 n
rules-now first v n begun late given e b l g = rw (b, l, g) (sym (ownership-least first v n e))

pub begun-zero : (first : List Joint) (v : Trace) (n : ℕ) → n ≡ 0 → None ≡ begun_rule first v n
unfolding begun_rule is_asked_twice is_write_back_unfit is_upgrade_unfit is_asked_in_vain at_decoding line_back
begun-zero first v n e = rw e refl

pub late-zero : (first : List Joint) (v : Trace) (n : ℕ) → n ≡ 0 → nothing_broken ≡ answered_before first v n
unfolding answered_before
late-zero first v n e = rw e refl

pub late-then : (first : List Joint) (v : Trace) (n : ℕ) → 0 < n → answered_at first v (n - 1) ≡ answered_before first v n
unfolding answered_before
late-then first v n l = rw (lt-ltb 0 n l) refl
