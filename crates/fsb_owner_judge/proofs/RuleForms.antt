-- The rules of ownership by what a clock shows.
use Rattle.std.proofs.Common.{ℕ, ◌+◌, ◌-◌, ◌≡◌, Bool, true, false, ◌&&◌, ◌||◌, not, nat_le, List, Option, Some, None, refl, sym, ap, ◌∙◌}
use Rattle.std.proofs.Common.{arith, if◌then◌else◌}
use Rattle.std.specs.Option.{option_and_then, option_map}
use Rattle.std.proofs.lemmas.Bool.{and_parts}
use Rattle.std.proofs.lemmas.Bool.Decides.{nat_tests}
use Rattle.fsb_count.specs.Options.{is_at, is_some_and}
use Rattle.fsb_signal.specs.declared.lines.TheConstants.Lines.{ADS, HIT, HITM}
use Rattle.fsb_signal.specs.Samples.{line_at}
use Rattle.fsb_encode.specs.declared.request.Kind.{Kind}
use Rattle.fsb_encode.specs.declared.request.Kind.TheVariants as kinds
use Rattle.fsb_encode.specs.declared.request.Request.{Request}
use Rattle.fsb_line.specs.declared.purpose.Purpose.{Purpose}
use Rattle.fsb_line.specs.declared.purpose.Purpose.TheVariants.{Own, Read, Upgrade, WriteBack}
use Rattle.fsb_line.specs.Links.{upgrades}
use Rattle.fsb_line.specs.States.{gets_line}
use Rattle.fsb_trace.specs.At.{Trace, line_back, request_at}
use Rattle.fsb_trace.specs.Requests.{is_reply, is_reply_kind, is_write_back, is_write_back_kind, line_of, live_clock_of}
use Rattle.fsb_trace.specs.Requests.{live_request_of}
use Rattle.std.specs.List.{list_all}
use Rattle.fsb_owners.specs.Joint.{Joint, has_other_owner}
use Rattle.fsb_owners.specs.Possible.{after_answer, after_begin, asking, possible, possible_begun, possible_shown}
use Rattle.fsb_owners.specs.Rules.{at_decoding, has_other_hit, is_answer_unfit, is_asked_in_vain, is_asked_twice, is_begun_unfit}
use Rattle.fsb_owners.specs.Rules.{is_hit_of_reply_wrong, is_none_left, is_of_write_back, is_owned_elsewhere, is_upgrade_unfit}
use Rattle.fsb_owners.specs.Rules.{is_write_back_purpose, is_write_back_unfit, of_answer, of_request}
use Rattle.fsb_owners.specs.Shown.{agent_at, is_held_back, is_spoiled, is_still_asking, names, origin_clock_of, origin_of}
use Rattle.fsb_owners.specs.Shown.{purpose_at, purpose_of, snooped_at}
use Rattle.fsb_owner_judge.specs.declared.answered.Answered.{Answered}
use Rattle.fsb_owner_judge.specs.declared.sights.Asking.{Asking}
use Rattle.fsb_owner_judge.specs.declared.sights.LineEnd.{LineEnd}
use Rattle.fsb_owner_judge.specs.Sights.{asking_at, asking_of, is_of_write_back_end, line_end_at, line_end_by, line_end_of}
use Rattle.fsb_owner_judge.specs.Verdicts.{answered_at, asking_rule, begun_rule, is_unfit_asking, nothing_broken, unfit_by}
use Rattle.fsb_owner_judge.specs.Verdicts.{unfit_rule}

and_off : (a : Bool) → (a && false) ≡ false
and_off true = refl
and_off false = refl

-- what the request that is asked so has of the trace
pub record IsAsking (v : Trace) (q : ℕ) (r : Asking) : Type 0 where
  pub names_line : names v r.line q ≡ true
  pub agent : agent_at v q ≡ Some r.agent
  pub kind : r.kind ≡ purpose_at v q
  pub twice : r.is_asked_twice ≡ is_still_asking v r.line r.agent q
  pub held : r.is_held_back ≡ is_held_back v r.line r.agent q

asking_agent : (v : Trace) (q l : ℕ) (b : Bool) (g : Option ℕ) (r : Asking) → names v l q ≡ b → agent_at v q ≡ g
    → (if b then option_map (asking_of v q l) g else None) ≡ Some r → IsAsking v q r
unfolding asking_of
asking_agent v q l false g r n e h = absurd (let no : ⊥ = cc in no)
asking_agent v q l true None r n e h = absurd (let no : ⊥ = cc in no)
asking_agent v q l true (Some a) r n e h =
    let s : asking_of v q l a ≡ r = cc in
    rw (← s) (record { names_line = n; agent = e; kind = refl; twice = refl; held = refl })

asking_line : (v : Trace) (q : ℕ) (o : Option ℕ) (r : Asking)
    → option_and_then (λ l. if names v l q then option_map (asking_of v q l) (agent_at v q) else None) o ≡ Some r → IsAsking v q r
asking_line v q None r h = absurd (let no : ⊥ = cc in no)
asking_line v q (Some l) r h = asking_agent v q l (names v l q) (agent_at v q) r refl refl h

pub asking_parts : (v : Trace) (q : ℕ) (r : Asking) → asking_at v q ≡ Some r → IsAsking v q r
unfolding asking_at
asking_parts v q r h = asking_line v q (line_of v q) r h

-- a rule of the request that is decoded
ads_of : (v : Trace) (l q : ℕ) → names v l q ≡ true → line_at ADS v q ≡ true
unfolding names
ads_of v l q e =
    (and_parts (line_at ADS v q) (is_at (line_of v q) l)
    (and_parts (line_at ADS v q && is_at (line_of v q) l) (not (is_reply (request_at v q))) e).0).0

request_agent : (v : Trace) (q l : ℕ) (test : ℕ → ℕ → ℕ → Bool) (b : Bool) (g : Option ℕ) → (b ≡ true → line_at ADS v q ≡ true)
    → (line_at ADS v q && (b && not (is_spoiled v l) && is_some_and g (λ a. test q l a)))
    ≡ is_some_and (if b then option_map (asking_of v q l) g else None) (λ r. not (is_spoiled v r.line) && test q r.line r.agent)
unfolding asking_of is_some_and
request_agent v q l test false g h = and_off (line_at ADS v q)
request_agent v q l test true None h = rw (h refl) (and_off (not (is_spoiled v l)))
request_agent v q l test true (Some a) h = rw (h refl) refl

request_line : (v : Trace) (q : ℕ) (test : ℕ → ℕ → ℕ → Bool) (o : Option ℕ)
    → (line_at ADS v q && is_some_and o (λ line. names v line q && not (is_spoiled v line)
    && is_some_and (agent_at v q) (λ a. test q line a)))
    ≡ is_some_and (option_and_then (λ l. if names v l q then option_map (asking_of v q l) (agent_at v q) else None) o)
    (λ r. not (is_spoiled v r.line) && test q r.line r.agent)
unfolding is_some_and
request_line v q test None = and_off (line_at ADS v q)
request_line v q test (Some l) = request_agent v q l test (names v l q) (agent_at v q) (λ t. ads_of v l q t)

pub decoding-form : (v : Trace) (q : ℕ) (test : ℕ → ℕ → ℕ → Bool) → at_decoding v (q + 1) test
    ≡ is_some_and (asking_at v q) (λ r. not (is_spoiled v r.line) && test q r.line r.agent)
unfolding at_decoding line_back of_request asking_at
decoding-form v q test =
    let back : q + 1 - 1 ≡ q = omega arith in
    let there : nat_le 1 (q + 1) ≡ true = grind (arith, nat_tests) in
    rw (back, there) (request_line v q test (line_of v q))

-- the four rules of a request, by what it asks
four_rules : (k : Option Purpose) (twice n b held : Bool)
    → (if twice then Some 21 else (if is_some_and k is_write_back_purpose && (is_some_and k is_write_back_purpose && n && b || held) then Some 22
    else (if is_some_and k upgrades && n && b then Some 23 else (if is_some_and k gets_line && n && b then Some 24 else None))))
    ≡ (if twice then Some 21 else unfit_rule k (n && b) held)
unfolding is_some_and unfit_rule is_write_back_purpose
four_rules None true n b held = refl
four_rules None false n b held = refl
four_rules (Some WriteBack) true n b held = refl
four_rules (Some WriteBack) false n b held = refl
four_rules (Some Upgrade) true n b held = refl
four_rules (Some Upgrade) false n b held = refl
four_rules (Some Read) true n b held = refl
four_rules (Some Read) false n b held = refl
four_rules (Some Own) true n b held = refl
four_rules (Some Own) false n b held = refl

begun_set : (first : List Joint) (v : Trace) (q : ℕ) (r : Asking) → IsAsking v q r
    → possible_begun first v r.line q ≡ asking (Some r.agent) r.kind (possible first v r.line q)
unfolding possible_begun after_begin
begun_set first v q r p = rw (p.names_line, p.agent, p.kind) refl

by_spoiled : (first : List Joint) (v : Trace) (q : ℕ) (r : Asking) (sp : Bool) → IsAsking v q r
    → (if not sp && is_still_asking v r.line r.agent q then Some 21
    else (if not sp && (is_some_and (purpose_at v q) is_write_back_purpose
    && (is_begun_unfit first is_write_back_purpose v q r.line || is_held_back v r.line r.agent q)) then Some 22
    else (if not sp && is_begun_unfit first upgrades v q r.line then Some 23
    else (if not sp && is_begun_unfit first gets_line v q r.line then Some 24 else None))))
    ≡ (if sp then None else asking_rule r (possible first v r.line q))
unfolding asking_rule is_unfit_asking is_begun_unfit
by_spoiled first v q r true p = refl
by_spoiled first v q r false p =
    rw (← p.twice, ← p.held, ← p.kind, begun_set first v q r p)
    (four_rules r.kind r.is_asked_twice (not (is_none_left (possible first v r.line q)))
    (is_none_left (asking (Some r.agent) r.kind (possible first v r.line q))) r.is_held_back)

begun_cases : (first : List Joint) (v : Trace) (q : ℕ) (o : Option Asking) → asking_at v q ≡ o
    → (if is_some_and o (λ r. not (is_spoiled v r.line) && is_still_asking v r.line r.agent q) then Some 21
    else (if is_some_and o (λ r. not (is_spoiled v r.line) && (is_some_and (purpose_at v q) is_write_back_purpose
    && (is_begun_unfit first is_write_back_purpose v q r.line || is_held_back v r.line r.agent q))) then Some 22
    else (if is_some_and o (λ r. not (is_spoiled v r.line) && is_begun_unfit first upgrades v q r.line) then Some 23
    else (if is_some_and o (λ r. not (is_spoiled v r.line) && is_begun_unfit first gets_line v q r.line) then Some 24 else None))))
    ≡ option_and_then (λ r. if is_spoiled v r.line then None else asking_rule r (possible first v r.line q)) o
unfolding is_some_and
begun_cases first v q None e = refl
begun_cases first v q (Some r) e = by_spoiled first v q r (is_spoiled v r.line) (asking_parts v q r e)

begun_by : (first : List Joint) (v : Trace) (q : ℕ) (o : Option Asking) → asking_at v q ≡ o
    → begun_rule first v (q + 1)
    ≡ option_and_then (λ r. if is_spoiled v r.line then None else asking_rule r (possible first v r.line q)) o
unfolding begun_rule is_asked_twice is_write_back_unfit is_upgrade_unfit is_asked_in_vain
begun_by first v q o e =
    rw (
      decoding-form v q (λ q line a. is_still_asking v line a q),
      decoding-form v q (λ q line a. is_some_and (purpose_at v q) is_write_back_purpose
          && (is_begun_unfit first is_write_back_purpose v q line || is_held_back v line a q)),
      decoding-form v q (λ q line a. is_begun_unfit first upgrades v q line),
      decoding-form v q (λ q line a. is_begun_unfit first gets_line v q line),
      e,
    ) (begun_cases first v q o e)

-- the least of the rules 21 to 24, by the request
pub begun-rule : (first : List Joint) (v : Trace) (q : ℕ) → begun_rule first v (q + 1)
    ≡ option_and_then (λ r. if is_spoiled v r.line then None else asking_rule r (possible first v r.line q)) (asking_at v q)
begun-rule first v q = begun_by first v q (asking_at v q) refl

-- a rule of the snoop end
end_agent : (first : List Joint) (v : Trace) (s j q l : ℕ) (test : ℕ → ℕ → ℕ → Bool) (t : LineEnd → Bool) (b : Bool) (g : Option ℕ)
    → ((line a : ℕ) → test j line a ≡ t (line_end_of v s j q line a))
    → (b && not (is_spoiled v l) && is_some_and g (λ a. is_answer_unfit first v s l && test j l a))
    ≡ is_some_and (if b then option_map (line_end_of v s j q l) g else None)
    (λ e. not (is_spoiled v e.line) && (is_answer_unfit first v s e.line && t e))
unfolding is_some_and line_end_of
end_agent first v s j q l test t false g h = refl
end_agent first v s j q l test t true None h = and_off (not (is_spoiled v l))
end_agent first v s j q l test t true (Some a) h = ap (λ x. not (is_spoiled v l) && (is_answer_unfit first v s l && x)) (h l a)

end_line : (first : List Joint) (v : Trace) (s j q : ℕ) (test : ℕ → ℕ → ℕ → Bool) (t : LineEnd → Bool) (o : Option ℕ)
    → ((line a : ℕ) → test j line a ≡ t (line_end_of v s j q line a))
    → is_some_and o (λ line. names v line q && not (is_spoiled v line)
    && is_some_and (agent_at v q) (λ a. is_answer_unfit first v s line && test j line a))
    ≡ is_some_and (option_and_then (λ l. if names v l q then option_map (line_end_of v s j q l) (agent_at v q) else None) o)
    (λ e. not (is_spoiled v e.line) && (is_answer_unfit first v s e.line && t e))
unfolding is_some_and
end_line first v s j q test t None h = refl
end_line first v s j q test t (Some l) h = end_agent first v s j q l test t (names v l q) (agent_at v q) h

end_clock : (first : List Joint) (v : Trace) (s j : ℕ) (test : ℕ → ℕ → ℕ → Bool) (t : LineEnd → Bool) (o : Option ℕ)
    → ((q line a : ℕ) → o ≡ Some q → test j line a ≡ t (line_end_of v s j q line a))
    → is_some_and o (λ q. of_request v q (λ line a. is_answer_unfit first v s line && test j line a))
    ≡ is_some_and (option_and_then (line_end_by v s j) o)
    (λ e. not (is_spoiled v e.line) && (is_answer_unfit first v s e.line && t e))
unfolding is_some_and of_request line_end_by
end_clock first v s j test t None h = refl
end_clock first v s j test t (Some q) h = end_line first v s j q test t (line_of v q) (λ line a. h q line a refl)

end_number : (first : List Joint) (v : Trace) (s : ℕ) (test : ℕ → ℕ → ℕ → Bool) (t : LineEnd → Bool) (o : Option ℕ)
    → ((j q line a : ℕ) → origin_clock_of v j ≡ Some q → test j line a ≡ t (line_end_of v s j q line a))
    → is_some_and o (λ j. is_some_and (origin_clock_of v j) (λ q. of_request v q (λ line a.
    is_answer_unfit first v s line && test j line a)))
    ≡ is_some_and (option_and_then (λ j. option_and_then (line_end_by v s j) (origin_clock_of v j)) o)
    (λ e. not (is_spoiled v e.line) && (is_answer_unfit first v s e.line && t e))
unfolding is_some_and
end_number first v s test t None h = refl
end_number first v s test t (Some j) h = end_clock first v s j test t (origin_clock_of v j) (λ q line a e. h j q line a e)

pub answer-form : (first : List Joint) (v : Trace) (s : ℕ) (test : ℕ → ℕ → ℕ → Bool) (t : LineEnd → Bool)
    → ((j q line a : ℕ) → origin_clock_of v j ≡ Some q → test j line a ≡ t (line_end_of v s j q line a))
    → of_answer first v s test
    ≡ is_some_and (line_end_at v s) (λ e. not (is_spoiled v e.line) && (is_answer_unfit first v s e.line && t e))
unfolding of_answer line_end_at
answer-form first v s test t h = end_number first v s test t (snooped_at v s) h

kind_none : (k : Kind) → is_reply_kind k ≡ true → is_write_back_kind k ≡ false
unfolding is_reply_kind is_write_back_kind
kind_none kinds.Reply e = refl
kind_none kinds.Invalidate e = refl
kind_none kinds.Read e = refl
kind_none kinds.WriteBack e = absurd (let no : ⊥ = cc in no)
kind_none kinds.Upgrade e = refl

-- a write-back by its kind
reply_none : (o : Option Request) → is_reply o ≡ true → is_write_back o ≡ false
unfolding is_reply is_write_back is_some_and
reply_none None e = refl
reply_none (Some r) e = kind_none r.kind e

kind_same : (k : Kind) → is_write_back_kind k ≡ is_some_and (purpose_of k) is_write_back_purpose
unfolding is_write_back_kind purpose_of is_some_and is_write_back_purpose
kind_same kinds.Reply = refl
kind_same kinds.Invalidate = refl
kind_same kinds.Read = refl
kind_same kinds.WriteBack = refl
kind_same kinds.Upgrade = refl

request_same : (o : Option Request) → is_write_back o ≡ is_some_and (option_and_then (λ r. purpose_of r.kind) o) is_write_back_purpose
unfolding is_write_back is_some_and
request_same None = refl
request_same (Some r) = kind_same r.kind

origin_plain : (v : Trace) (j q : ℕ) → is_reply (live_request_of v j) ≡ false → origin_clock_of v j ≡ Some q
    → live_clock_of v j ≡ Some q
unfolding origin_clock_of origin_of
origin_plain v j q f e = let t = rw f at e in t

write_back_form : (v : Trace) (j q : ℕ) (b : Bool) → is_reply (live_request_of v j) ≡ b → origin_clock_of v j ≡ Some q
    → is_write_back (live_request_of v j) ≡ (not b && is_some_and (purpose_at v q) is_write_back_purpose)
unfolding purpose_at live_request_of
write_back_form v j q true r e = reply_none (live_request_of v j) r
write_back_form v j q false r e = rw (origin_plain v j q r e) (request_same (request_at v q))

pub write_back-of : (v : Trace) (s j q line a : ℕ) → origin_clock_of v j ≡ Some q
    → is_of_write_back v j ≡ is_of_write_back_end (line_end_of v s j q line a)
unfolding is_of_write_back is_of_write_back_end line_end_of
write_back-of v s j q line a e = write_back_form v j q (is_reply (live_request_of v j)) refl e

-- the five findings together
abbrev made : Bool → Bool → Bool → Bool → Bool → Answered
made lacking silent holder_silent holder_lacking written = record {
  owner_lacking = lacking;
  owner_silent = silent;
  holder_silent = holder_silent;
  holder_lacking = holder_lacking;
  written_when_lost = written;
}

-- what the five rules say of a snoop end for a line, which is spoiled or not, and which fits or not
five : (e : LineEnd) (sp u o : Bool)
    → made (not sp && (u && (not (is_of_write_back_end e) && e.hitm)))
    (not sp && (u && (not (is_of_write_back_end e) && not e.hitm && o)))
    (not sp && (u && (not (is_of_write_back_end e) && not e.hitm && not e.hit && not o)))
    (not sp && (u && (not (is_of_write_back_end e) && not e.hitm && e.hit && not o)))
    (not sp && (u && is_of_write_back_end e))
    ≡ (if sp then nothing_broken else (if u then unfit_by e o else nothing_broken))
unfolding unfit_by
five e true u o = refl
five e false true o = refl
five e false false o = refl

-- what a snoop end breaks
abbrev broken_by : List Joint → Trace → ℕ → Option LineEnd → Answered
broken_by first v s None = nothing_broken
broken_by first v s (Some e) =
    if is_spoiled v e.line then nothing_broken
    else (if is_answer_unfit first v s e.line then unfit_by e (is_owned_elsewhere first v s e.line e.asker) else nothing_broken)

five_of : (first : List Joint) (v : Trace) (s : ℕ) (o : Option LineEnd)
    → made (is_some_and o (λ e. not (is_spoiled v e.line) && (is_answer_unfit first v s e.line
    && (not (is_of_write_back_end e) && e.hitm))))
    (is_some_and o (λ e. not (is_spoiled v e.line) && (is_answer_unfit first v s e.line
    && (not (is_of_write_back_end e) && not e.hitm && is_owned_elsewhere first v s e.line e.asker))))
    (is_some_and o (λ e. not (is_spoiled v e.line) && (is_answer_unfit first v s e.line
    && (not (is_of_write_back_end e) && not e.hitm && not e.hit && not (is_owned_elsewhere first v s e.line e.asker)))))
    (is_some_and o (λ e. not (is_spoiled v e.line) && (is_answer_unfit first v s e.line
    && (not (is_of_write_back_end e) && not e.hitm && e.hit && not (is_owned_elsewhere first v s e.line e.asker)))))
    (is_some_and o (λ e. not (is_spoiled v e.line) && (is_answer_unfit first v s e.line && is_of_write_back_end e)))
    ≡ broken_by first v s o
unfolding is_some_and
five_of first v s None = refl
five_of first v s (Some e) = five e (is_spoiled v e.line) (is_answer_unfit first v s e.line) (is_owned_elsewhere first v s e.line e.asker)

hitm_of : (v : Trace) (s j q line a : ℕ)
    → (not (is_of_write_back_end (line_end_of v s j q line a)) && line_at HITM v s)
    ≡ (not (is_of_write_back_end (line_end_of v s j q line a)) && (line_end_of v s j q line a).hitm)
unfolding line_end_of
hitm_of v s j q line a = refl

owned_of : (first : List Joint) (v : Trace) (s j q line a : ℕ)
    → (not (is_of_write_back_end (line_end_of v s j q line a)) && not (line_at HITM v s) && is_owned_elsewhere first v s line a)
    ≡ (not (is_of_write_back_end (line_end_of v s j q line a)) && not (line_end_of v s j q line a).hitm
    && is_owned_elsewhere first v s (line_end_of v s j q line a).line (line_end_of v s j q line a).asker)
unfolding line_end_of
owned_of first v s j q line a = refl

silent_of : (first : List Joint) (v : Trace) (s j q line a : ℕ)
    → (not (is_of_write_back_end (line_end_of v s j q line a)) && not (line_at HITM v s) && not (line_at HIT v s)
    && not (is_owned_elsewhere first v s line a))
    ≡ (not (is_of_write_back_end (line_end_of v s j q line a)) && not (line_end_of v s j q line a).hitm
    && not (line_end_of v s j q line a).hit
    && not (is_owned_elsewhere first v s (line_end_of v s j q line a).line (line_end_of v s j q line a).asker))
unfolding line_end_of
silent_of first v s j q line a = refl

lacking_of : (first : List Joint) (v : Trace) (s j q line a : ℕ)
    → (not (is_of_write_back_end (line_end_of v s j q line a)) && not (line_at HITM v s) && line_at HIT v s
    && not (is_owned_elsewhere first v s line a))
    ≡ (not (is_of_write_back_end (line_end_of v s j q line a)) && not (line_end_of v s j q line a).hitm
    && (line_end_of v s j q line a).hit
    && not (is_owned_elsewhere first v s (line_end_of v s j q line a).line (line_end_of v s j q line a).asker))
unfolding line_end_of
lacking_of first v s j q line a = refl

-- which of the rules 25 to 29 a snoop end breaks, by the line and the agent
pub answered-form : (first : List Joint) (v : Trace) (s : ℕ) → answered_at first v s ≡ broken_by first v s (line_end_at v s)
unfolding answered_at
answered-form first v s =
    rw (
      answer-form first v s (λ j line a. not (is_of_write_back v j) && line_at HITM v s)
          (λ e. not (is_of_write_back_end e) && e.hitm)
          (λ j q line a o. (let w = write_back-of v s j q line a o in rw w (hitm_of v s j q line a))),
      answer-form first v s (λ j line a. not (is_of_write_back v j) && not (line_at HITM v s) && is_owned_elsewhere first v s line a)
          (λ e. not (is_of_write_back_end e) && not e.hitm && is_owned_elsewhere first v s e.line e.asker)
          (λ j q line a o. (let w = write_back-of v s j q line a o in rw w (owned_of first v s j q line a))),
      answer-form first v s (λ j line a. not (is_of_write_back v j) && not (line_at HITM v s) && not (line_at HIT v s) && not (is_owned_elsewhere first v s line a))
          (λ e. not (is_of_write_back_end e) && not e.hitm && not e.hit && not (is_owned_elsewhere first v s e.line e.asker))
          (λ j q line a o. (let w = write_back-of v s j q line a o in rw w (silent_of first v s j q line a))),
      answer-form first v s (λ j line a. not (is_of_write_back v j) && not (line_at HITM v s) && line_at HIT v s && not (is_owned_elsewhere first v s line a))
          (λ e. not (is_of_write_back_end e) && not e.hitm && e.hit && not (is_owned_elsewhere first v s e.line e.asker))
          (λ j q line a o. (let w = write_back-of v s j q line a o in rw w (lacking_of first v s j q line a))),
      answer-form first v s (λ j line a. is_of_write_back v j) is_of_write_back_end (λ j q line a o. write_back-of v s j q line a o),
    ) (five_of first v s (line_end_at v s))

turned_round : (a b : Bool) → (a && (b && true)) ≡ (b && a)
turned_round true true = refl
turned_round true false = refl
turned_round false true = refl
turned_round false false = refl

-- rule 30, by the snoop end
hit_agent : (v : Trace) (c j q l : ℕ) (b : Bool) (g : Option ℕ) (r h : Bool)
    → is_reply (live_request_of v j) ≡ r → is_some_and (origin_of v j) (λ i. has_other_hit v c i) ≡ h
    → (r && h && (b && not (is_spoiled v l) && is_some_and g (λ a. true)))
    ≡ is_some_and (if b then option_map (line_end_of v c j q l) g else None)
    (λ e. not (is_spoiled v e.line) && (e.is_reply && e.is_hit_wrong))
unfolding is_some_and line_end_of
hit_agent v c j q l false g r h x y = and_off (r && h)
hit_agent v c j q l true None r h x y = ap (λ k. r && h && k) (and_off (not (is_spoiled v l))) ∙ and_off (r && h)
hit_agent v c j q l true (Some a) r h x y = rw (x, y) (turned_round (r && h) (not (is_spoiled v l)))

hit_line : (v : Trace) (c j q : ℕ) (o : Option ℕ)
    → (is_reply (live_request_of v j) && is_some_and (origin_of v j) (λ i. has_other_hit v c i)
    && is_some_and o (λ line. names v line q && not (is_spoiled v line) && is_some_and (agent_at v q) (λ a. true)))
    ≡ is_some_and (option_and_then (λ l. if names v l q then option_map (line_end_of v c j q l) (agent_at v q) else None) o)
    (λ e. not (is_spoiled v e.line) && (e.is_reply && e.is_hit_wrong))
unfolding is_some_and
hit_line v c j q None = and_off (is_reply (live_request_of v j) && is_some_and (origin_of v j) (λ i. has_other_hit v c i))
hit_line v c j q (Some l) =
    hit_agent v c j q l (names v l q) (agent_at v q) (is_reply (live_request_of v j))
    (is_some_and (origin_of v j) (λ i. has_other_hit v c i)) refl refl

hit_clock : (v : Trace) (c j : ℕ) (o : Option ℕ)
    → (is_reply (live_request_of v j) && is_some_and (origin_of v j) (λ i. has_other_hit v c i)
    && is_some_and o (λ q. of_request v q (λ line a. true)))
    ≡ is_some_and (option_and_then (line_end_by v c j) o) (λ e. not (is_spoiled v e.line) && (e.is_reply && e.is_hit_wrong))
unfolding is_some_and of_request line_end_by
hit_clock v c j None = and_off (is_reply (live_request_of v j) && is_some_and (origin_of v j) (λ i. has_other_hit v c i))
hit_clock v c j (Some q) = hit_line v c j q (line_of v q)

hit_number : (v : Trace) (c : ℕ) (o : Option ℕ)
    → is_some_and o (λ j. is_reply (live_request_of v j) && is_some_and (origin_of v j) (λ i. has_other_hit v c i)
    && is_some_and (origin_clock_of v j) (λ q. of_request v q (λ line a. true)))
    ≡ is_some_and (option_and_then (λ j. option_and_then (line_end_by v c j) (origin_clock_of v j)) o)
    (λ e. not (is_spoiled v e.line) && (e.is_reply && e.is_hit_wrong))
unfolding is_some_and
hit_number v c None = refl
hit_number v c (Some j) = hit_clock v c j (origin_clock_of v j)

pub hit-form : (first : List Joint) (v : Trace) (c : ℕ) → is_hit_of_reply_wrong first v c
    ≡ is_some_and (line_end_at v c) (λ e. not (is_spoiled v e.line) && (e.is_reply && e.is_hit_wrong))
unfolding is_hit_of_reply_wrong line_end_at
hit-form first v c = hit_number v c (snooped_at v c)

pub hit-none : (first : List Joint) (v : Trace) (c : ℕ) → line_end_at v c ≡ None → false ≡ is_hit_of_reply_wrong first v c
unfolding is_some_and
hit-none first v c h =
    sym (hit-form first v c
    ∙ ap (λ o. is_some_and o (λ e. not (is_spoiled v e.line) && (e.is_reply && e.is_hit_wrong))) h)

pub hit-some : (first : List Joint) (v : Trace) (c : ℕ) (e : LineEnd) → line_end_at v c ≡ Some e
    → (not (is_spoiled v e.line) && (e.is_reply && e.is_hit_wrong)) ≡ is_hit_of_reply_wrong first v c
unfolding is_some_and
hit-some first v c e h =
    sym (hit-form first v c
    ∙ ap (λ o. is_some_and o (λ e. not (is_spoiled v e.line) && (e.is_reply && e.is_hit_wrong))) h)

pub rule-none : (first : List Joint) (v : Trace) (q : ℕ) → asking_at v q ≡ None → None ≡ begun_rule first v (q + 1)
rule-none first v q e =
    sym (begun-rule first v q
    ∙ ap (option_and_then (λ r. if is_spoiled v r.line then None else asking_rule r (possible first v r.line q))) e)

pub rule-spoiled : (first : List Joint) (v : Trace) (q : ℕ) (r : Asking) → asking_at v q ≡ Some r → is_spoiled v r.line ≡ true
    → None ≡ begun_rule first v (q + 1)
rule-spoiled first v q r e t =
    sym (begun-rule first v q
    ∙ ap (option_and_then (λ r. if is_spoiled v r.line then None else asking_rule r (possible first v r.line q))) e
    ∙ rw t refl)

pub rule-asked : (first : List Joint) (v : Trace) (q : ℕ) (r : Asking) → asking_at v q ≡ Some r → is_spoiled v r.line ≡ false
    → asking_rule r (possible first v r.line q) ≡ begun_rule first v (q + 1)
rule-asked first v q r e f =
    sym (begun-rule first v q
    ∙ ap (option_and_then (λ r. if is_spoiled v r.line then None else asking_rule r (possible first v r.line q))) e
    ∙ rw f refl)

pub end-none : (first : List Joint) (v : Trace) (s : ℕ) → line_end_at v s ≡ None → nothing_broken ≡ answered_at first v s
end-none first v s h = sym (answered-form first v s ∙ ap (broken_by first v s) h)

pub end-spoiled : (first : List Joint) (v : Trace) (s : ℕ) (e : LineEnd) → line_end_at v s ≡ Some e → is_spoiled v e.line ≡ true
    → nothing_broken ≡ answered_at first v s
end-spoiled first v s e h t = sym (answered-form first v s ∙ ap (broken_by first v s) h ∙ rw t refl)

pub end-kept : (first : List Joint) (v : Trace) (s : ℕ) (e : LineEnd) → line_end_at v s ≡ Some e → is_spoiled v e.line ≡ false
    → is_answer_unfit first v s e.line ≡ false → nothing_broken ≡ answered_at first v s
end-kept first v s e h f u = sym (answered-form first v s ∙ ap (broken_by first v s) h ∙ rw (f, u) refl)

pub end-lost : (first : List Joint) (v : Trace) (s : ℕ) (e : LineEnd) → line_end_at v s ≡ Some e → is_spoiled v e.line ≡ false
    → is_answer_unfit first v s e.line ≡ true
    → unfit_by e (is_owned_elsewhere first v s e.line e.asker) ≡ answered_at first v s
end-lost first v s e h f u = sym (answered-form first v s ∙ ap (broken_by first v s) h ∙ rw (f, u) refl)

-- what is left, by the sets before the snoop end and with it
pub begun-set : (first : List Joint) (v : Trace) (line s : ℕ) (kept set : List Joint) → kept ≡ possible first v line s
    → set ≡ after_begin v line s kept → set ≡ possible_begun first v line s
unfolding possible_begun
begun-set first v line s kept set k e = e ∙ ap (after_begin v line s) k

pub shown-set : (first : List Joint) (v : Trace) (line s : ℕ) (set left : List Joint) → set ≡ possible_begun first v line s
    → left ≡ after_answer v line s set → left ≡ possible_shown first v line s
unfolding possible_shown
shown-set first v line s set left k e = e ∙ ap (after_answer v line s) k

pub lost-set : (first : List Joint) (v : Trace) (line s : ℕ) (set left : List Joint) → set ≡ possible_begun first v line s
    → left ≡ possible_shown first v line s
    → (not (is_none_left set) && is_none_left left) ≡ is_answer_unfit first v s line
unfolding is_answer_unfit
lost-set first v line s set left k e = rw (k, e) refl

pub owned-set : (first : List Joint) (v : Trace) (line s a : ℕ) (set : List Joint) → set ≡ possible_begun first v line s
    → list_all (has_other_owner a) set ≡ is_owned_elsewhere first v s line a
unfolding is_owned_elsewhere
owned-set first v line s a set k = ap (list_all (has_other_owner a)) k
