-- A timely run breaks none of the rules of ownership.
use Rattle.std.proofs.Common.{ℕ, ◌+◌, ◌-◌, ◌<◌, ◌≡◌, Bool, true, false, ◌&&◌, nat_lt}
use Rattle.std.proofs.Common.{List, Some, arith, inl, inr}
use Rattle.std.proofs.lemmas.Bool.{and_parts, both_ways, false_from_ne_true, ltb-true, or_cases}
use Rattle.std.specs.List.{Contains}
use Rattle.fsb_count.specs.Options.{is_some_and}
use Rattle.fsb_lawful.proofs.Interface.{some-and}
use Rattle.fsb_line.specs.declared.purpose.Purpose.{Purpose}
use Rattle.fsb_line.specs.States.{gets_line}
use Rattle.fsb_line.specs.Links.{upgrades}
use Rattle.fsb_timely.specs.Runs.{Run, past_of}
use Rattle.fsb_run_laws.specs.Reaches.{Reaches}
use Rattle.fsb_owners.specs.Joint.{Joint, unheld}
use Rattle.fsb_owners.specs.Possible.{possible_begun, possible_shown}
use Rattle.fsb_owners.specs.Rules.{at_answer, at_decoding, is_answer_unfit, is_asked_in_vain, is_begun_unfit}
use Rattle.fsb_owners.specs.Rules.{is_holder_lacking, is_holder_silent, is_none_left, is_owner_lacking, is_owner_silent}
use Rattle.fsb_owners.specs.Rules.{is_upgrade_unfit, is_written_when_lost, of_answer, of_request}
use Rattle.fsb_owners.specs.Shown.{agent_at, names, origin_clock_of, snooped_at}
use Rattle.fsb_owner_run.proofs.AskedOnce.{decoding-parts, request-parts}
use Rattle.fsb_owner_run.proofs.Contained.{contained-begun, contained-shown}
use Rattle.fsb_owner_run.proofs.Sets.{some_left}
use Rattle.fsb_owner_run.proofs.States.{joint_at}

-- a request that begins leaves a joint state
pub begun-fit : (first : List Joint) (r : Run) (line q : ℕ) (is_kind : Purpose → Bool)
    → Contains first unheld → Reaches r (q + 1)
    → is_begun_unfit first is_kind r.trace q line ≡ false
unfolding is_begun_unfit
begun-fit first r line q is_kind empty h =
    let left = some_left (possible_begun first r.trace line q) (joint_at (past_of r) line q) (contained-begun first r line q empty h) in
    false_from_ne_true _ (λ t.
    let none = and_parts _ (is_none_left (possible_begun first r.trace line q)) t in
    both_ways (is_none_left (possible_begun first r.trace line q)) left none.1)

-- and so does a snoop end
answer-fit : (first : List Joint) (r : Run) (line s : ℕ)
    → Contains first unheld → Reaches r (s + 1)
    → is_answer_unfit first r.trace s line ≡ false
unfolding is_answer_unfit
answer-fit first r line s empty h =
    let left = some_left (possible_shown first r.trace line s) (joint_at (past_of r) line s) (contained-shown first r line s empty h) in
    false_from_ne_true _ (λ t.
    let none = and_parts _ (is_none_left (possible_shown first r.trace line s)) t in
    both_ways (is_none_left (possible_shown first r.trace line s)) left none.1)

no-answer : (first : List Joint) (r : Run) (s : ℕ) (test : ℕ → ℕ → ℕ → Bool)
    → Contains first unheld → Reaches r (s + 1)
    → of_answer first r.trace s test ≡ false
unfolding of_answer
no-answer first r s test empty h =
    let w = r.trace in
    false_from_ne_true _ (λ t.
    let j = some-and (snooped_at w s) (λ j. is_some_and (origin_clock_of w j) (λ q. of_request w q (λ line a.
    is_answer_unfit first w s line && test j line a))) t in
    let q = some-and (origin_clock_of w j.0) (λ q. of_request w q (λ line a.
    is_answer_unfit first w s line && test j.0 line a)) j.2 in
    let k = request-parts w q.0 (λ line a. is_answer_unfit first w s line && test j.0 line a) q.2 in
    let unfit = and_parts (is_answer_unfit first w s k.line) (test j.0 k.line k.agent) k.passes in
    both_ways (is_answer_unfit first w s k.line) (answer-fit first r k.line s empty h) unfit.0)

no-answer-at : (first : List Joint) (r : Run) (c : ℕ) (test : ℕ → ℕ → ℕ → ℕ → Bool)
    → Contains first unheld → Reaches r (c + 1)
    → at_answer first r.trace c test ≡ false
unfolding at_answer
no-answer-at first r c test empty h =
    let w = r.trace in
    let long = h.long in
    false_from_ne_true _ (λ t.
    elim (or_cases (of_answer first w c (test c)) (nat_lt 0 c && of_answer first w (c - 1) (test (c - 1))) t) [
      | inl here ↦ both_ways (of_answer first w c (test c)) (no-answer first r c (test c) empty h) here
      | inr before ↦
          let p = and_parts (nat_lt 0 c) (of_answer first w (c - 1) (test (c - 1))) before in
          let later : 0 < c = ltb-true 0 c p.0 in
          let earlier : Reaches r (c - 1 + 1) = record { timely = h.timely; bounds = h.bounds; long = omega arith } in
          both_ways (of_answer first w (c - 1) (test (c - 1))) (no-answer first r (c - 1) (test (c - 1)) empty earlier) p.1
    ])

pub no-decoding : (r : Run) (c : ℕ) (test : ℕ → ℕ → ℕ → Bool) → Reaches r (c + 1)
    → ((q line a : ℕ) → q + 1 ≡ c → names r.trace line q ≡ true → agent_at r.trace q ≡ Some a → test q line a ≡ false)
    → at_decoding r.trace c test ≡ false
no-decoding r c test h none =
    false_from_ne_true _ (λ t.
    let k = decoding-parts r.trace c test t in
    let d = k.1 in
    let below = k.0 in
    both_ways (test (c - 1) d.line d.agent) (none (c - 1) d.line d.agent (omega arith) d.names_line d.is_agent) d.passes)

pub upgrades-fit : (first : List Joint) (r : Run) (c : ℕ)
    → Contains first unheld → Reaches r (c + 1)
    → is_upgrade_unfit first r.trace c ≡ false
unfolding is_upgrade_unfit
upgrades-fit first r c empty h =
    no-decoding r c (λ q line a. is_begun_unfit first upgrades r.trace q line) h (λ q line a same shown agent.
    let long = h.long in
    let before : Reaches r (q + 1) = record { timely = h.timely; bounds = h.bounds; long = omega arith } in
    begun-fit first r line q upgrades empty before)

pub never-in-vain : (first : List Joint) (r : Run) (c : ℕ)
    → Contains first unheld → Reaches r (c + 1)
    → is_asked_in_vain first r.trace c ≡ false
unfolding is_asked_in_vain
never-in-vain first r c empty h =
    no-decoding r c (λ q line a. is_begun_unfit first gets_line r.trace q line) h (λ q line a same shown agent.
    let long = h.long in
    let before : Reaches r (q + 1) = record { timely = h.timely; bounds = h.bounds; long = omega arith } in
    begun-fit first r line q gets_line empty before)

pub owners-there : (first : List Joint) (r : Run) (c : ℕ)
    → Contains first unheld → Reaches r (c + 1)
    → is_owner_lacking first r.trace c ≡ false
unfolding is_owner_lacking
owners-there first r c empty h = no-answer-at first r c _ empty h

pub owners-told : (first : List Joint) (r : Run) (c : ℕ)
    → Contains first unheld → Reaches r (c + 1)
    → is_owner_silent first r.trace c ≡ false
unfolding is_owner_silent
owners-told first r c empty h = no-answer-at first r c _ empty h

pub holders-told : (first : List Joint) (r : Run) (c : ℕ)
    → Contains first unheld → Reaches r (c + 1)
    → is_holder_silent first r.trace c ≡ false
unfolding is_holder_silent
holders-told first r c empty h = no-answer-at first r c _ empty h

pub holders-there : (first : List Joint) (r : Run) (c : ℕ)
    → Contains first unheld → Reaches r (c + 1)
    → is_holder_lacking first r.trace c ≡ false
unfolding is_holder_lacking
holders-there first r c empty h = no-answer-at first r c _ empty h

pub written-kept : (first : List Joint) (r : Run) (c : ℕ)
    → Contains first unheld → Reaches r (c + 1)
    → is_written_when_lost first r.trace c ≡ false
unfolding is_written_when_lost
written-kept first r c empty h = no-answer-at first r c _ empty h
