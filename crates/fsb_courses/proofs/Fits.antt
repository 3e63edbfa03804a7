-- What is explained breaks no rule of ownership.
use Rattle.std.proofs.Common.{ℕ, zero, suc, ◌+◌, ◌-◌, ◌<◌, ◌≡◌, Bool, true, false, ◌&&◌, ◌||◌, not, nat_le, nat_lt}
use Rattle.std.proofs.Common.{length, take, List, [], ◌∷◌, Some, refl, sym, ap, ◌∙◌, arith, inl, inr, if◌then◌else◌}
use Rattle.std.specs.Option.{option_and_then}
use Rattle.std.specs.Prelude.{slice_get}
use Rattle.std.proofs.lemmas.Bool.{and_parts, both_ways, false_from_ne_true, ltb-true, not-true, or_cases}
use Rattle.fsb_count.specs.Clocks.{any_where}
use Rattle.fsb_count.specs.Options.{is_some_and}
use Rattle.fsb_count.proofs.Interface.{any_where-found}
use Rattle.fsb_signal.specs.declared.lines.TheConstants.Lines.{HIT, HITM}
use Rattle.fsb_signal.specs.Samples.{line_at}
use Rattle.fsb_line.specs.Links.{upgrades}
use Rattle.fsb_line.specs.States.{asks_line, gets_line}
use Rattle.fsb_trace.specs.At.{Trace}
use Rattle.fsb_trace.specs.Requests.{is_reply, live_clock_of, live_count, live_request_of}
use Rattle.fsb_trace.specs.Snoop.{line_at_snoop_end, snoop_end_of}
use Rattle.fsb_trace.specs.Outcome.{is_deferred}
use Rattle.fsb_owners.specs.Joint.{Joint}
use Rattle.fsb_owners.specs.Possible.{possible_begun, possible_shown}
use Rattle.fsb_owners.specs.Rules.{at_answer, at_decoding, has_other_hit, is_answered_below, is_asked_in_vain, is_asked_twice, is_begun_unfit}
use Rattle.fsb_owners.specs.Rules.{is_given_again, is_given_again_to, is_hit_of_reply_wrong, is_holder_lacking, is_holder_silent}
use Rattle.fsb_owners.specs.Rules.{is_none_left, is_of_write_back, is_owned_elsewhere, is_owner_lacking, is_owner_silent, is_ownership_broken}
use Rattle.fsb_owners.specs.Rules.{is_served_or_deferred, is_upgrade_unfit, is_write_back_purpose, is_write_back_unfit}
use Rattle.fsb_owners.specs.Rules.{is_written_when_lost, of_answer, of_request, ownership_rules}
use Rattle.fsb_owners.specs.Shown.{is_held_back, is_spoiled, is_still_asking, names, origin_clock_of, origin_of, purpose_at, snooped_at}
use Rattle.fsb_owner_laws.proofs.AgreePossible.{some_and}
use Rattle.fsb_courses.specs.Coherent.{IsCoherentlyMade, AreCoherentlyMade}
use Rattle.fsb_courses.proofs.Ends.{course_begun, course_shown}
use Rattle.fsb_courses.proofs.Tests.{answer_unfit, asks_from, decoding_out, kind_of_clock, of_request_out, unfit_out}
use Rattle.fsb_courses.proofs.Tests.{write_back_out}

same_hit : (a b : Bool) → a ≡ b → (if b then not a else a) ≡ false
same_hit true true e = refl
same_hit true false e = absurd (let no : ⊥ = cc in no)
same_hit false true e = absurd (let no : ⊥ = cc in no)
same_hit false false e = refl

right_hit : (v : Trace) (c i : ℕ) → line_at HIT v c ≡ line_at_snoop_end HIT v i → has_other_hit v c i ≡ false
unfolding has_other_hit
right_hit v c i e = same_hit (line_at HIT v c) (line_at_snoop_end HIT v i) e

-- c is the last clock of v, of which each line is explained
module _ (first : List Joint) (v : Trace) (c : ℕ) (all : (line : ℕ) → is_spoiled v line ≡ false → IsCoherentlyMade first v line c) where
  no_begun : (q line : ℕ) → is_spoiled v line ≡ false → q < c + 1 → is_none_left (possible_begun first v line q) ≡ true → ⊥
  no_begun q line s l t =
      both_ways (is_none_left (possible_begun first v line q)) (course_begun first v line (c + 1) q (all line s).course l) t

  asked_once : is_asked_twice first v c ≡ false
  unfolding is_asked_twice
  asked_once =
      false_from_ne_true (at_decoding v c (λ q line a. is_still_asking v line a q)) (λ t.
      let d = decoding_out v c (λ q line a. is_still_asking v line a q) t in
      let r = d.1 in
      both_ways (is_still_asking v r.line r.agent (c - 1))
      ((all r.line r.sound).turns.asks_once (c - 1) r.agent (let l = d.0 in omega (arith, l))
      (asks_from v r.line r.agent (c - 1) r.named r.is_agent)) r.passes)

  write_backs_fit : is_write_back_unfit first v c ≡ false
  unfolding is_write_back_unfit
  write_backs_fit =
      let test = λ (q line a : ℕ). is_some_and (purpose_at v q) is_write_back_purpose
      && (is_begun_unfit first is_write_back_purpose v q line || is_held_back v line a q) in
      false_from_ne_true (at_decoding v c test) (λ t.
      let d = decoding_out v c test t in
      let r = d.1 in
      let q = c - 1 in
      let p = and_parts (is_some_and (purpose_at v q) is_write_back_purpose)
      (is_begun_unfit first is_write_back_purpose v q r.line || is_held_back v r.line r.agent q) r.passes in
      elim (or_cases (is_begun_unfit first is_write_back_purpose v q r.line) (is_held_back v r.line r.agent q) p.1) [
        | inl unfit ↦ no_begun q r.line r.sound (omega arith) (unfit_out first is_write_back_purpose v q r.line unfit)
        | inr held ↦
            both_ways (is_held_back v r.line r.agent q)
            ((all r.line r.sound).turns.lets_others_go q r.agent (let l = d.0 in omega (arith, l))
            (asks_from v r.line r.agent q r.named r.is_agent) (write_back_out (purpose_at v q) p.0)) held
      ])

  upgrades_fit : is_upgrade_unfit first v c ≡ false
  unfolding is_upgrade_unfit
  upgrades_fit =
      false_from_ne_true (at_decoding v c (λ q line a. is_begun_unfit first upgrades v q line)) (λ t.
      let r = (decoding_out v c (λ q line a. is_begun_unfit first upgrades v q line) t).1 in
      no_begun (c - 1) r.line r.sound (omega arith) (unfit_out first upgrades v (c - 1) r.line r.passes))

  reads_fit : is_asked_in_vain first v c ≡ false
  unfolding is_asked_in_vain
  reads_fit =
      false_from_ne_true (at_decoding v c (λ q line a. is_begun_unfit first gets_line v q line)) (λ t.
      let r = (decoding_out v c (λ q line a. is_begun_unfit first gets_line v q line) t).1 in
      no_begun (c - 1) r.line r.sound (omega arith) (unfit_out first gets_line v (c - 1) r.line r.passes))

  no_answer : (s : ℕ) (test : ℕ → ℕ → ℕ → Bool) → s < c + 1 → of_answer first v s test ≡ true → ⊥
  no_answer s test l t =
      let u = answer_unfit first v s test t in
      both_ways (is_none_left (possible_shown first v u.0 s)) (course_shown first v u.0 (c + 1) s (all u.0 u.1).course l) u.2

  answers_fit : (test : ℕ → ℕ → ℕ → ℕ → Bool) → at_answer first v c test ≡ false
  unfolding at_answer
  answers_fit test =
      false_from_ne_true (of_answer first v c (test c) || (nat_lt 0 c && of_answer first v (c - 1) (test (c - 1)))) (λ t.
      elim (or_cases (of_answer first v c (test c)) (nat_lt 0 c && of_answer first v (c - 1) (test (c - 1))) t) [
        | inl now ↦ no_answer c (test c) (omega arith) now
        | inr late ↦
            no_answer (c - 1) (test (c - 1)) (omega arith) (and_parts (nat_lt 0 c) (of_answer first v (c - 1) (test (c - 1))) late).1
      ])

  hits_repeated : is_hit_of_reply_wrong first v c ≡ false
  unfolding is_hit_of_reply_wrong origin_clock_of
  hits_repeated =
      let of_line = λ (j : ℕ). is_some_and (option_and_then (live_clock_of v) (origin_of v j)) (λ q. of_request v q (λ line a. true)) in
      let test = λ (j : ℕ). is_reply (live_request_of v j) && is_some_and (origin_of v j) (λ i. has_other_hit v c i) && of_line j in
      false_from_ne_true (is_some_and (snooped_at v c) test) (λ t.
      let j = some_and (snooped_at v c) test t in
      let p = and_parts (is_reply (live_request_of v j.0) && is_some_and (origin_of v j.0) (λ i. has_other_hit v c i)) (of_line j.0) j.2 in
      let r = and_parts (is_reply (live_request_of v j.0)) (is_some_and (origin_of v j.0) (λ i. has_other_hit v c i)) p.0 in
      let i = some_and (origin_of v j.0) (λ i. has_other_hit v c i) r.1 in
      let q = some_and (option_and_then (live_clock_of v) (origin_of v j.0)) (λ q. of_request v q (λ line a. true)) p.1 in
      let b = of_request_out v q.0 (λ line a. true) q.2 in
      let clock : live_clock_of v i.0 ≡ Some q.0 = ap (option_and_then (live_clock_of v)) (sym i.1) ∙ q.1 in
      both_ways (has_other_hit v c i.0)
      (right_hit v c i.0 ((all b.line b.sound).turns.repeats_hit j.0 i.0 q.0 b.agent j.1 r.0 i.1 clock
      (asks_from v b.line b.agent q.0 b.named b.is_agent))) i.2)

  not_given_to : (i j : ℕ) → is_deferred v i ≡ true → is_given_again_to v i j ≡ true → ⊥
  unfolding is_given_again_to
  not_given_to i j d t =
      let order = is_some_and (snoop_end_of v i) (λ t. is_some_and (snoop_end_of v j) (λ s. nat_lt t s && not (is_answered_below v i s))) in
      let line = is_some_and (live_clock_of v i) (λ q. of_request v q (λ line a. is_some_and (live_clock_of v j) (names v line))) in
      let kind = is_some_and (option_and_then (purpose_at v) (live_clock_of v j)) asks_line in
      let x = and_parts (order && line && kind) (is_served_or_deferred v j) t in
      let y = and_parts (order && line) kind x.0 in
      let z = and_parts order line y.0 in
      let s = some_and (snoop_end_of v i) (λ t. is_some_and (snoop_end_of v j) (λ s. nat_lt t s && not (is_answered_below v i s))) z.0 in
      let u = some_and (snoop_end_of v j) (λ u. nat_lt s.0 u && not (is_answered_below v i u)) s.2 in
      let w = and_parts (nat_lt s.0 u.0) (not (is_answered_below v i u.0)) u.2 in
      let q = some_and (live_clock_of v i) (λ q. of_request v q (λ line a. is_some_and (live_clock_of v j) (names v line))) z.1 in
      let b = of_request_out v q.0 (λ line a. is_some_and (live_clock_of v j) (names v line)) q.2 in
      let n = some_and (live_clock_of v j) (names v b.line) b.passes in
      let k = kind_of_clock v asks_line (live_clock_of v j) n.0 n.1 y.1 in
      both_ways (is_served_or_deferred v j)
      ((all b.line b.sound).turns.keeps_pending i j (record {
        deferred = d;
        clock = q.0;
        begins = q.1;
        agent = b.agent;
        asked = asks_from v b.line b.agent q.0 b.named b.is_agent;
        snoop = s.0;
        is_snoop = s.1;
        later_clock = n.0;
        later_begins = n.1;
        later_names = n.2;
        kind = k.0;
        is_kind = k.1;
        asks_for_line = k.2;
        later_snoop = u.0;
        is_later_snoop = u.1;
        behind = ltb-true s.0 u.0 w.0;
        unanswered = not-true (is_answered_below v i u.0) w.1;
      })) x.1

  given_once : is_given_again first v c ≡ false
  unfolding is_given_again
  given_once =
      let test = λ (i : ℕ). is_deferred v i && any_where (is_given_again_to v i) (live_count v) in
      false_from_ne_true (any_where test (live_count v)) (λ t.
      let i = any_where-found test (live_count v) t in
      let p = and_parts (is_deferred v i.0) (any_where (is_given_again_to v i.0) (live_count v)) i.2 in
      let j = any_where-found (is_given_again_to v i.0) (live_count v) p.1 in
      not_given_to i.0 j.0 p.0 j.2)

  -- all rules of the list
  abbrev AllOff : List (Trace → ℕ → Bool) → Type 0
  AllOff [] = Unit {0}
  AllOff (rule ∷ rules) = (rule v c ≡ false) × AllOff rules

  one_off : (rules : List (Trace → ℕ → Bool)) (k : ℕ) → AllOff rules → is_some_and (slice_get rules k) (λ rule. rule v c) ≡ false
  unfolding is_some_and
  one_off [] k a = refl
  one_off (rule ∷ rules) zero (a, b) = a
  one_off (rule ∷ rules) (suc k) (a, b) = one_off rules k b

  pub rules_off : (k : ℕ) → is_some_and (slice_get (ownership_rules first) k) (λ rule. rule v c) ≡ false
  unfolding ownership_rules is_owner_lacking is_owner_silent is_holder_silent is_holder_lacking is_written_when_lost
  rules_off k =
      one_off (ownership_rules first) k (
        asked_once,
        (
          write_backs_fit,
          (
            upgrades_fit,
            (
              reads_fit,
              (
                answers_fit (λ s j line a. not (is_of_write_back v j) && line_at HITM v s),
                (
                  answers_fit (λ s j line a. not (is_of_write_back v j) && not (line_at HITM v s) && is_owned_elsewhere first v s line a),
                  (
                    answers_fit (λ s j line a. not (is_of_write_back v j) && not (line_at HITM v s) && not (line_at HIT v s)
                        && not (is_owned_elsewhere first v s line a)),
                    (
                      answers_fit (λ s j line a. not (is_of_write_back v j) && not (line_at HITM v s) && line_at HIT v s
                          && not (is_owned_elsewhere first v s line a)),
                      (answers_fit (λ s j line a. is_of_write_back v j), (hits_repeated, (given_once, tt))),
                    ),
                  ),
                ),
              ),
            ),
          ),
        ),
      )

last_false : (a b c : Bool) → c ≡ false → (a && b && c) ≡ false
last_false true true c e = e
last_false true false c e = refl
last_false false b c e = refl

pub explained_unbroken : (first : List Joint) (w : Trace) (c j : ℕ) → AreCoherentlyMade first w c
    → is_ownership_broken first w c j ≡ false
unfolding is_ownership_broken
explained_unbroken first w c j all =
    last_false (nat_lt c (length w)) (nat_le 21 j)
    (is_some_and (slice_get (ownership_rules first) (j - 21)) (λ rule. rule (take (c + 1) w) c))
    (rules_off first (take (c + 1) w) c all (j - 21))
