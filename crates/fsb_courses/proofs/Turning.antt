-- Where no rule is broken at the last clock, the requests for a line wait for their turn.
use Rattle.std.proofs.Common.{ℕ, ◌+◌, ◌-◌, ◌<◌, ◌≡◌, Bool, true, false, ◌&&◌, ◌||◌, not, nat_le, length, take, List, Some}
use Rattle.std.proofs.Common.{refl, ap, ◌∙◌, arith, if◌then◌else◌}
use Rattle.std.specs.Prelude.{slice_get}
use Rattle.std.proofs.lemmas.Bool.{both_ways, false_from_ne_true, lt-ltb}
use Rattle.fsb_count.specs.Options.{is_some_and}
use Rattle.fsb_signal.specs.declared.lines.TheConstants.Lines.{HIT}
use Rattle.fsb_signal.specs.Samples.{line_at}
use Rattle.fsb_line.specs.declared.purpose.Purpose.TheVariants.{WriteBack}
use Rattle.fsb_trace.specs.At.{Trace}
use Rattle.fsb_trace.specs.Requests.{is_reply, live_clock_of, live_request_of}
use Rattle.fsb_trace.specs.Snoop.{line_at_snoop_end}
use Rattle.fsb_owners.specs.Joint.{Joint}
use Rattle.fsb_owners.specs.Rules.{at_decoding, has_other_hit, is_asked_in_vain, is_asked_twice, is_begun_unfit, is_given_again}
use Rattle.fsb_owners.specs.Rules.{is_hit_of_reply_wrong, is_holder_lacking, is_holder_silent, is_owner_lacking, is_owner_silent}
use Rattle.fsb_owners.specs.Rules.{is_ownership_broken, is_served_or_deferred, is_upgrade_unfit, is_write_back_purpose}
use Rattle.fsb_owners.specs.Rules.{is_write_back_unfit}
use Rattle.fsb_owners.specs.Rules.{is_written_when_lost, of_request, ownership_rules}
use Rattle.fsb_owners.specs.Shown.{agent_at, asks, is_held_back, is_spoiled, is_still_asking, names, origin_clock_of, origin_of}
use Rattle.fsb_owners.specs.Shown.{purpose_at, snooped_at}
use Rattle.fsb_owner_laws.proofs.AskedOnce.{not_given}
use Rattle.fsb_owner_laws.proofs.BrokenRules.{decoded, of_request-at}
use Rattle.fsb_owner_laws.proofs.Replies.{middle_off}
use Rattle.fsb_courses.specs.Turns.{IsAskedWhilePending, WaitTheirTurn}
use Rattle.fsb_courses.proofs.Tests.{asks_out}

-- no rule is broken at c, the last clock of v
pub record AllUnbroken (first : List Joint) (v : Trace) (c : ℕ) : Type 0 where
  pub asked : is_asked_twice first v c ≡ false
  pub write_backs : is_write_back_unfit first v c ≡ false
  pub upgrades : is_upgrade_unfit first v c ≡ false
  pub reads : is_asked_in_vain first v c ≡ false
  pub owner_lacking : is_owner_lacking first v c ≡ false
  pub owner_silent : is_owner_silent first v c ≡ false
  pub holder_silent : is_holder_silent first v c ≡ false
  pub holder_lacking : is_holder_lacking first v c ≡ false
  pub written : is_written_when_lost first v c ≡ false
  pub hit : is_hit_of_reply_wrong first v c ≡ false
  pub given : is_given_again first v c ≡ false

rule_off : (first : List Joint) (w : Trace) (c j : ℕ) (rule : Trace → ℕ → Bool) → c < length w → nat_le 21 j ≡ true
    → slice_get (ownership_rules first) (j - 21) ≡ Some rule → is_ownership_broken first w c j ≡ false
    → rule (take (c + 1) w) c ≡ false
unfolding is_ownership_broken is_some_and
rule_off first w c j rule l g e h = let k = rw (lt-ltb c (length w) l, g, e) at h in k

pub all_off : (first : List Joint) (w : Trace) (c : ℕ) → c < length w
    → ((j : ℕ) → j < 32 → is_ownership_broken first w c j ≡ false) → AllUnbroken first (take (c + 1) w) c
unfolding ownership_rules
all_off first w c l h = record {
  asked = rule_off first w c 21 (is_asked_twice first) l refl refl (h 21 (omega arith));
  write_backs = rule_off first w c 22 (is_write_back_unfit first) l refl refl (h 22 (omega arith));
  upgrades = rule_off first w c 23 (is_upgrade_unfit first) l refl refl (h 23 (omega arith));
  reads = rule_off first w c 24 (is_asked_in_vain first) l refl refl (h 24 (omega arith));
  owner_lacking = rule_off first w c 25 (is_owner_lacking first) l refl refl (h 25 (omega arith));
  owner_silent = rule_off first w c 26 (is_owner_silent first) l refl refl (h 26 (omega arith));
  holder_silent = rule_off first w c 27 (is_holder_silent first) l refl refl (h 27 (omega arith));
  holder_lacking = rule_off first w c 28 (is_holder_lacking first) l refl refl (h 28 (omega arith));
  written = rule_off first w c 29 (is_written_when_lost first) l refl refl (h 29 (omega arith));
  hit = rule_off first w c 30 (is_hit_of_reply_wrong first) l refl refl (h 30 (omega arith));
  given = rule_off first w c 31 (is_given_again first) l refl refl (h 31 (omega arith));
}

-- a request that breaks the test of its rule is not there
off_at : (v : Trace) (line c q a : ℕ) (test : ℕ → ℕ → ℕ → Bool) → is_spoiled v line ≡ false → q + 1 ≡ c
    → asks v line a q ≡ true → at_decoding v c test ≡ false → test q line a ≡ false
off_at v line c q a test s e t h =
    let back : c - 1 ≡ q = omega (arith, e) in
    let p = asks_out v line a q t in
    false_from_ne_true (test q line a) (λ broken.
    both_ways (at_decoding v c test) h
    (decoded v line c a test (omega (arith, e)) (ap (names v line) back ∙ p.0) s (ap (agent_at v) back ∙ p.1)
    (ap (λ b. test b line a) back ∙ broken)))

held_off : (b c d : Bool) → b ≡ true → (b && (c || d)) ≡ false → d ≡ false
held_off true true d e h = absurd (let no : ⊥ = cc in no)
held_off true false d e h = h
held_off false c d e h = absurd (let no : ⊥ = cc in no)

same_hit : (a b : Bool) → (if b then not a else a) ≡ false → a ≡ b
same_hit true true e = refl
same_hit true false e = absurd (let no : ⊥ = cc in no)
same_hit false true e = absurd (let no : ⊥ = cc in no)
same_hit false false e = refl

hit_same : (v : Trace) (c i : ℕ) → has_other_hit v c i ≡ false → line_at HIT v c ≡ line_at_snoop_end HIT v i
unfolding has_other_hit
hit_same v c i e = same_hit (line_at HIT v c) (line_at_snoop_end HIT v i) e

is_written : (v : Trace) (q : ℕ) → purpose_at v q ≡ Some WriteBack → is_some_and (purpose_at v q) is_write_back_purpose ≡ true
unfolding is_some_and is_write_back_purpose
is_written v q e = rw e refl

module _ (first : List Joint) (v : Trace) (line c : ℕ) (sound : is_spoiled v line ≡ false) (off : AllUnbroken first v c) where
  once : (q a : ℕ) → q + 1 ≡ c → asks v line a q ≡ true → is_still_asking v line a q ≡ false
  unfolding is_asked_twice
  once q a e t = off_at v line c q a (λ q line a. is_still_asking v line a q) sound e t off.asked

  others_go : (q a : ℕ) → q + 1 ≡ c → asks v line a q ≡ true → purpose_at v q ≡ Some WriteBack → is_held_back v line a q ≡ false
  unfolding is_write_back_unfit
  others_go q a e t k =
      held_off (is_some_and (purpose_at v q) is_write_back_purpose) (is_begun_unfit first is_write_back_purpose v q line)
      (is_held_back v line a q) (is_written v q k)
      (off_at v line c q a (λ q line a. is_some_and (purpose_at v q) is_write_back_purpose
      && (is_begun_unfit first is_write_back_purpose v q line || is_held_back v line a q)) sound e t off.write_backs)

  repeats : (j i q a : ℕ) → snooped_at v c ≡ Some j → is_reply (live_request_of v j) ≡ true → origin_of v j ≡ Some i
      → live_clock_of v i ≡ Some q → asks v line a q ≡ true → line_at HIT v c ≡ line_at_snoop_end HIT v i
  unfolding is_hit_of_reply_wrong is_some_and origin_clock_of
  repeats j i q a s r o b t =
      let p = asks_out v line a q t in
      hit_same v c i
      (middle_off (has_other_hit v c i) (of_request v q (λ line a. true)) (of_request-at v line q a (λ line a. true) p.0 sound p.1)
      (let h = off.hit in let k = rw (s, r, o, b) at h in k))

  kept_back : (i j : ℕ) → IsAskedWhilePending v line i j → is_served_or_deferred v j ≡ false
  kept_back i j p =
      let b = asks_out v line p.agent p.clock p.asked in
      not_given first v line c i j p.clock p.later_clock p.agent p.snoop p.later_snoop p.kind off.given p.deferred p.is_snoop
      p.is_later_snoop p.behind p.unanswered p.begins b.0 sound b.1 p.later_begins p.later_names p.is_kind p.asks_for_line

  pub turns : WaitTheirTurn v line c
  turns = record { asks_once = once; lets_others_go = others_go; repeats_hit = repeats; keeps_pending = kept_back }
