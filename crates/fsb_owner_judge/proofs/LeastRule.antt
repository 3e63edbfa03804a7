-- The least rule of ownership at the last clock of a trace.
use Rattle.std.proofs.Common.{ℕ, suc, ◌+◌, ◌-◌, ◌<◌, ◌≡◌, Bool, true, false, ◌&&◌, ◌||◌, not, nat_le, nat_lt, take, length, List, Option, Some, None, slice_get}
use Rattle.std.proofs.lemmas.List.{take_all}
use Rattle.std.proofs.Common.{refl, ◌∙◌, arith, if◌then◌else◌}
use Rattle.std.proofs.lemmas.Bool.Decides.{nat_tests}
use Rattle.std.proofs.lemmas.Bool.{lt-ltb}
use Rattle.fsb_count.specs.Options.{is_some_and}
use Rattle.fsb_count.specs.Clocks.{first_where}
use Rattle.fsb_count.proofs.Interface.{first_where-off}
use Rattle.fsb_signal.specs.declared.lines.TheConstants.Lines.{HIT, HITM}
use Rattle.fsb_signal.specs.Samples.{line_at}
use Rattle.fsb_trace.specs.At.{Trace}
use Rattle.fsb_owners.specs.Joint.{Joint}
use Rattle.fsb_owners.specs.Least.{least_at}
use Rattle.fsb_owners.specs.Rules.{at_answer, is_asked_in_vain, is_asked_twice, is_given_again, is_hit_of_reply_wrong}
use Rattle.fsb_owners.specs.Rules.{is_holder_lacking, is_holder_silent, is_of_write_back, is_owned_elsewhere, is_owner_lacking}
use Rattle.fsb_owners.specs.Rules.{is_owner_silent, is_ownership_broken, is_upgrade_unfit, is_write_back_unfit}
use Rattle.fsb_owners.specs.Rules.{is_written_when_lost, of_answer, ownership_rules}
use Rattle.fsb_owner_judge.specs.Verdicts.{answered_at, answered_before, begun_rule, nothing_broken, or_rule, rule_by}

by_found : (o : Option ℕ) (b : Bool) (n : ℕ) → elim o [ Some c ↦ Some c | None ↦ if b then Some n else None ] ≡ or_rule o b n
by_found None b n = refl
by_found (Some c) b n = refl

-- with one rule more
more : (t : ℕ → Bool) (n : ℕ) (o : Option ℕ) (b : Bool) → first_where t n ≡ o → t n ≡ b → first_where t (suc n) ≡ or_rule o b n
unfolding first_where
more t n o b e h = by_found (first_where t n) (t n) n ∙ rw (e, h) refl

off : (a r : Bool) → (a && false && r) ≡ false
off true r = refl
off false r = refl

-- a rule at the last clock is judged over the whole trace
pub whole : (v : Trace) (n : ℕ) → length v ≡ n + 1 → take (n + 1) v ≡ v
whole v n e = take_all (n + 1) v (omega (arith, e))

below : (first : List Joint) (v : Trace) (n j : ℕ) → j < 21 → is_ownership_broken first v n j ≡ false
unfolding is_ownership_broken
below first v n j l =
    let low : nat_le 21 j ≡ false = grind (arith, nat_tests) in
    rw low (off (nat_lt n (length v)) (is_some_and (slice_get (ownership_rules first) (j - 21)) (λ rule. rule (take (n + 1) v) n)))

-- the four rules of a request
four : (a b c d : Bool) → or_rule (or_rule (or_rule (or_rule None a 21) b 22) c 23) d 24
    ≡ (if a then Some 21 else (if b then Some 22 else (if c then Some 23 else (if d then Some 24 else None))))
four true b c d = refl
four false true c d = refl
four false false true d = refl
four false false false d = refl

rule_21 : (first : List Joint) (v : Trace) (n : ℕ) → nat_lt n (length v) ≡ true → take (n + 1) v ≡ v
    → is_ownership_broken first v n 21 ≡ is_asked_twice first v n
unfolding is_ownership_broken ownership_rules is_some_and
rule_21 first v n l w = rw (l, w) refl

rule_22 : (first : List Joint) (v : Trace) (n : ℕ) → nat_lt n (length v) ≡ true → take (n + 1) v ≡ v
    → is_ownership_broken first v n 22 ≡ is_write_back_unfit first v n
unfolding is_ownership_broken ownership_rules is_some_and
rule_22 first v n l w = rw (l, w) refl

rule_23 : (first : List Joint) (v : Trace) (n : ℕ) → nat_lt n (length v) ≡ true → take (n + 1) v ≡ v
    → is_ownership_broken first v n 23 ≡ is_upgrade_unfit first v n
unfolding is_ownership_broken ownership_rules is_some_and
rule_23 first v n l w = rw (l, w) refl

rule_24 : (first : List Joint) (v : Trace) (n : ℕ) → nat_lt n (length v) ≡ true → take (n + 1) v ≡ v
    → is_ownership_broken first v n 24 ≡ is_asked_in_vain first v n
unfolding is_ownership_broken ownership_rules is_some_and
rule_24 first v n l w = rw (l, w) refl

rule_25 : (first : List Joint) (v : Trace) (n : ℕ) → nat_lt n (length v) ≡ true → take (n + 1) v ≡ v
    → is_ownership_broken first v n 25 ≡ is_owner_lacking first v n
unfolding is_ownership_broken ownership_rules is_some_and
rule_25 first v n l w = rw (l, w) refl

rule_26 : (first : List Joint) (v : Trace) (n : ℕ) → nat_lt n (length v) ≡ true → take (n + 1) v ≡ v
    → is_ownership_broken first v n 26 ≡ is_owner_silent first v n
unfolding is_ownership_broken ownership_rules is_some_and
rule_26 first v n l w = rw (l, w) refl

rule_27 : (first : List Joint) (v : Trace) (n : ℕ) → nat_lt n (length v) ≡ true → take (n + 1) v ≡ v
    → is_ownership_broken first v n 27 ≡ is_holder_silent first v n
unfolding is_ownership_broken ownership_rules is_some_and
rule_27 first v n l w = rw (l, w) refl

rule_28 : (first : List Joint) (v : Trace) (n : ℕ) → nat_lt n (length v) ≡ true → take (n + 1) v ≡ v
    → is_ownership_broken first v n 28 ≡ is_holder_lacking first v n
unfolding is_ownership_broken ownership_rules is_some_and
rule_28 first v n l w = rw (l, w) refl

rule_29 : (first : List Joint) (v : Trace) (n : ℕ) → nat_lt n (length v) ≡ true → take (n + 1) v ≡ v
    → is_ownership_broken first v n 29 ≡ is_written_when_lost first v n
unfolding is_ownership_broken ownership_rules is_some_and
rule_29 first v n l w = rw (l, w) refl

rule_30 : (first : List Joint) (v : Trace) (n : ℕ) → nat_lt n (length v) ≡ true → take (n + 1) v ≡ v
    → is_ownership_broken first v n 30 ≡ is_hit_of_reply_wrong first v n
unfolding is_ownership_broken ownership_rules is_some_and
rule_30 first v n l w = rw (l, w) refl

pub rule_31 : (first : List Joint) (v : Trace) (n : ℕ) → nat_lt n (length v) ≡ true → take (n + 1) v ≡ v
    → is_ownership_broken first v n 31 ≡ is_given_again first v n
unfolding is_ownership_broken ownership_rules is_some_and
rule_31 first v n l w = rw (l, w) refl

-- what the rules of snoop ends ask
abbrev test_owner_lacking : List Joint → Trace → ℕ → ℕ → ℕ → ℕ → Bool
test_owner_lacking first v s j line a = not (is_of_write_back v j) && line_at HITM v s

abbrev test_owner_silent : List Joint → Trace → ℕ → ℕ → ℕ → ℕ → Bool
test_owner_silent first v s j line a = not (is_of_write_back v j) && not (line_at HITM v s)
    && is_owned_elsewhere first v s line a

abbrev test_holder_silent : List Joint → Trace → ℕ → ℕ → ℕ → ℕ → Bool
test_holder_silent first v s j line a = not (is_of_write_back v j) && not (line_at HITM v s) && not (line_at HIT v s)
    && not (is_owned_elsewhere first v s line a)

abbrev test_holder_lacking : List Joint → Trace → ℕ → ℕ → ℕ → ℕ → Bool
test_holder_lacking first v s j line a = not (is_of_write_back v j) && not (line_at HITM v s) && line_at HIT v s
    && not (is_owned_elsewhere first v s line a)

abbrev test_written_when_lost : List Joint → Trace → ℕ → ℕ → ℕ → ℕ → Bool
test_written_when_lost first v s j line a = is_of_write_back v j

-- a rule of snoop ends, by the snoop end now and that of the clock before
two_owner_lacking : (first : List Joint) (v : Trace) (n : ℕ) (b : Bool)
    → (of_answer first v n (test_owner_lacking first v n) || (b && of_answer first v (n - 1) (test_owner_lacking first v (n - 1))))
    ≡ ((answered_at first v n).owner_lacking || (if b then answered_at first v (n - 1) else nothing_broken).owner_lacking)
unfolding answered_at
two_owner_lacking first v n true = refl
two_owner_lacking first v n false = refl

looks_owner_lacking : (first : List Joint) (v : Trace) (n : ℕ)
    → is_owner_lacking first v n ≡ ((answered_at first v n).owner_lacking || (answered_before first v n).owner_lacking)
unfolding is_owner_lacking at_answer answered_before
looks_owner_lacking first v n = two_owner_lacking first v n (nat_lt 0 n)

two_owner_silent : (first : List Joint) (v : Trace) (n : ℕ) (b : Bool)
    → (of_answer first v n (test_owner_silent first v n) || (b && of_answer first v (n - 1) (test_owner_silent first v (n - 1))))
    ≡ ((answered_at first v n).owner_silent || (if b then answered_at first v (n - 1) else nothing_broken).owner_silent)
unfolding answered_at
two_owner_silent first v n true = refl
two_owner_silent first v n false = refl

looks_owner_silent : (first : List Joint) (v : Trace) (n : ℕ)
    → is_owner_silent first v n ≡ ((answered_at first v n).owner_silent || (answered_before first v n).owner_silent)
unfolding is_owner_silent at_answer answered_before
looks_owner_silent first v n = two_owner_silent first v n (nat_lt 0 n)

two_holder_silent : (first : List Joint) (v : Trace) (n : ℕ) (b : Bool)
    → (of_answer first v n (test_holder_silent first v n) || (b && of_answer first v (n - 1) (test_holder_silent first v (n - 1))))
    ≡ ((answered_at first v n).holder_silent || (if b then answered_at first v (n - 1) else nothing_broken).holder_silent)
unfolding answered_at
two_holder_silent first v n true = refl
two_holder_silent first v n false = refl

looks_holder_silent : (first : List Joint) (v : Trace) (n : ℕ)
    → is_holder_silent first v n ≡ ((answered_at first v n).holder_silent || (answered_before first v n).holder_silent)
unfolding is_holder_silent at_answer answered_before
looks_holder_silent first v n = two_holder_silent first v n (nat_lt 0 n)

two_holder_lacking : (first : List Joint) (v : Trace) (n : ℕ) (b : Bool)
    → (of_answer first v n (test_holder_lacking first v n) || (b && of_answer first v (n - 1) (test_holder_lacking first v (n - 1))))
    ≡ ((answered_at first v n).holder_lacking || (if b then answered_at first v (n - 1) else nothing_broken).holder_lacking)
unfolding answered_at
two_holder_lacking first v n true = refl
two_holder_lacking first v n false = refl

looks_holder_lacking : (first : List Joint) (v : Trace) (n : ℕ)
    → is_holder_lacking first v n ≡ ((answered_at first v n).holder_lacking || (answered_before first v n).holder_lacking)
unfolding is_holder_lacking at_answer answered_before
looks_holder_lacking first v n = two_holder_lacking first v n (nat_lt 0 n)

two_written_when_lost : (first : List Joint) (v : Trace) (n : ℕ) (b : Bool)
    → (of_answer first v n (test_written_when_lost first v n) || (b && of_answer first v (n - 1) (test_written_when_lost first v (n - 1))))
    ≡ ((answered_at first v n).written_when_lost || (if b then answered_at first v (n - 1) else nothing_broken).written_when_lost)
unfolding answered_at
two_written_when_lost first v n true = refl
two_written_when_lost first v n false = refl

looks_written_when_lost : (first : List Joint) (v : Trace) (n : ℕ)
    → is_written_when_lost first v n ≡ ((answered_at first v n).written_when_lost || (answered_before first v n).written_when_lost)
unfolding is_written_when_lost at_answer answered_before
looks_written_when_lost first v n = two_written_when_lost first v n (nat_lt 0 n)

-- the least rule is that of the request, of the snoop ends, or one of the two others
pub ownership-least : (first : List Joint) (v : Trace) (n : ℕ) → length v ≡ n + 1
    → least_at (is_ownership_broken first v) 32 n
    ≡ rule_by (begun_rule first v n) (answered_at first v n) (answered_before first v n) (is_hit_of_reply_wrong first v n) (is_given_again first v n)
unfolding least_at rule_by begun_rule
ownership-least first v n e =
    let l : nat_lt n (length v) ≡ true = lt-ltb n (length v) (omega (arith, e)) in
    let w = whole v n e in
    let t = is_ownership_broken first v n in
    let none = first_where-off t 21 (λ j k. below first v n j k) in
    let r21 = more t 21 None (is_asked_twice first v n) none (rule_21 first v n l w) in
    let r22 = more t 22 _ (is_write_back_unfit first v n) r21 (rule_22 first v n l w) in
    let r23 = more t 23 _ (is_upgrade_unfit first v n) r22 (rule_23 first v n l w) in
    let r24 = more t 24 _ (is_asked_in_vain first v n) r23 (rule_24 first v n l w) in
    let b = r24 ∙ four (is_asked_twice first v n) (is_write_back_unfit first v n) (is_upgrade_unfit first v n) (is_asked_in_vain first v n) in
    let r25 = more t 25 _ _ b (rule_25 first v n l w ∙ looks_owner_lacking first v n) in
    let r26 = more t 26 _ _ r25 (rule_26 first v n l w ∙ looks_owner_silent first v n) in
    let r27 = more t 27 _ _ r26 (rule_27 first v n l w ∙ looks_holder_silent first v n) in
    let r28 = more t 28 _ _ r27 (rule_28 first v n l w ∙ looks_holder_lacking first v n) in
    let r29 = more t 29 _ _ r28 (rule_29 first v n l w ∙ looks_written_when_lost first v n) in
    let r30 = more t 30 _ _ r29 (rule_30 first v n l w) in
    more t 31 _ _ r30 (rule_31 first v n l w)
