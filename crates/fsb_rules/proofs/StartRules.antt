-- The rules of requests that begin, with a new sample.
use Rattle.std.proofs.Common.{ℕ, ◌-◌, ◌<◌, ◌≡◌, Bool, true, false, cond, not, ◌&&◌, ◌||◌, nat_le, nat_lt, Option, Some}
use Rattle.std.proofs.Common.{None, is_none, length, refl, sym, ap, ◌∙◌, arith, inl, inr, ◌+◌, subst}
use Rattle.std.specs.Option.{option_map}
use Rattle.std.proofs.lemmas.Bool.{cases_eq, cases_lt, and_parts, and_left, and_right, le-leb, or_parts, both_ways}
use Rattle.std.proofs.lemmas.Bool.{false_from_ne_true, not-false}
use Rattle.std.proofs.lemmas.Option.{same_Some}
use Rattle.fsb_count.specs.Options.{is_some_and}
use Rattle.fsb_count.specs.Clocks.{any_where}
use Rattle.fsb_count.proofs.Interface.{any_where-more}
use Rattle.fsb_signal.specs.declared.lines.TheConstants.Lines.{ADS}
use Rattle.fsb_signal.specs.declared.sample.Sample.{Sample}
use Rattle.fsb_signal.specs.Samples.{has_line, line_at}
use Rattle.fsb_encode.specs.declared.request.Request.{Request}
use Rattle.fsb_trace.specs.declared.who.Who.{Who}
use Rattle.fsb_trace.specs.declared.who.Who.TheVariants.{Symmetric, Priority}
use Rattle.fsb_trace.specs.At.{Trace, line_back, request_at}
use Rattle.fsb_trace.specs.Winner.{winner_at, winner_after, is_agent, request_line_of, begins_at}
use Rattle.fsb_trace.specs.Rules.{is_request_too_soon, is_code_unlawful, is_queue_full, is_identified}
use Rattle.fsb_trace.specs.Rules.{is_identity_wrong, is_asked_wrongly, is_some_asked_wrongly}
use Rattle.fsb_trace.specs.Flight.{in_flight}
use Rattle.fsb_trace.proofs.Interface.{winner_at-agree}
use Rattle.fsb_laws.specs.OneMore.{OneMore}
use Rattle.fsb_laws.proofs.Interface.{line_at-old, line_at-new, in_flight-now, request_at-last, request_at-old}
use Rattle.fsb_rules.specs.declared.checker.Checker.{Checker}
use Rattle.fsb_rules.specs.declared.live.LiveRequest.{LiveRequest}
use Rattle.fsb_rules.specs.Live.{live_from}
use Rattle.fsb_rules.specs.LeastRule.{begun_at}
use Rattle.fsb_rules.specs.Checker.{Decoded, Follows, Identified, beginner_of}
use Rattle.fsb_rules.proofs.Lines.{line_back-new, line_back-last, line_back-none}

-- what is there, of a value that may not be
pub there : {A : Type 0} (o : Option A) → is_none o ≡ false → (a : A) × (o ≡ Some a)
there None e = absurd (let no : ⊥ = cc in no)
there (Some a) e = (a, refl)

-- The request whose second clock is the last one.
pub begun-none : (v : Trace) (n : ℕ) → line_back ADS v n 1 ≡ false → begun_at v n ≡ None
unfolding begun_at
begun-none v n t = rw t refl

pub begun-some : (v : Trace) (n : ℕ) (r : Request) → line_back ADS v n 1 ≡ true → request_at v (n - 1) ≡ Some r
    → begun_at v n ≡ Some (live_from (n - 1) r)
unfolding begun_at
begun-some v n r t e = rw (t, e) refl

none_request : (q : ℕ) (o : Option Request) → is_none (option_map (live_from q) o) ≡ is_none o
none_request q None = refl
none_request q (Some r) = refl

pub begun-unlawful : (v : Trace) (n : ℕ) → line_back ADS v n 1 ≡ true
    → is_none (begun_at v n) ≡ is_none (request_at v (n - 1))
unfolding begun_at
begun-unlawful v n t = rw t (none_request (n - 1) (request_at v (n - 1)))

pub ruleset unlawful = (line_back-last, begun-unlawful)

begun_cases : (v : Trace) (n : ℕ) (a : LiveRequest) (b : Bool) (o : Option Request) → line_back ADS v n 1 ≡ b
    → request_at v (n - 1) ≡ o → begun_at v n ≡ Some a
    → (r : Request) × (line_back ADS v n 1 ≡ true) × (request_at v (n - 1) ≡ Some r) × (a ≡ live_from (n - 1) r)
unfolding begun_at
begun_cases v n a false o t e g = absurd (let f : None ≡ Some a = rw t at g in let no : ⊥ = cc in no)
begun_cases v n a true None t e g = absurd (let f : None ≡ Some a = rw (t, e) at g in let no : ⊥ = cc in no)
begun_cases v n a true (Some r) t e g =
    (r, t, e, (let f : Some (live_from (n - 1) r) ≡ Some a = rw (t, e) at g in sym (same_Some _ _ f)))

pub begun_parts : (v : Trace) (n : ℕ) (a : LiveRequest) → begun_at v n ≡ Some a
    → (r : Request) × (line_back ADS v n 1 ≡ true) × (request_at v (n - 1) ≡ Some r) × (a ≡ live_from (n - 1) r)
begun_parts v n a e = begun_cases v n a (line_back ADS v n 1) (request_at v (n - 1)) refl refl e

-- 7 request identity, where the code is lawful
identity_form : (v : Trace) (n : ℕ) (r : Request) (winner : Option Who) → line_back ADS v n 1 ≡ true
    → request_at v (n - 1) ≡ Some r → winner ≡ winner_at v (n - 1)
    → is_identity_wrong v n ≡ not (is_identified winner (Some r))
unfolding is_identity_wrong
identity_form v n r winner t e w = rw (t, e, w) refl

pub identity_some : {k : Checker} {h : Trace} {x : Sample} {v : Trace} {a : LiveRequest} → Follows k h
    → OneMore h x v → begun_at v (length h) ≡ Some a
    → (r : Request) × (a ≡ live_from (length h - 1) r)
    × (is_identity_wrong v (length h) ≡ not (is_identified k.beginner (Some r)))
unfolding beginner_of
identity_some {k} {h} {x} {v} {a} f m e =
    let p = begun_parts v (length h) a e in
    let back : line_back ADS h (length h) 1 ≡ true = sym (line_back-new ADS h x v 1 m (omega arith)) ∙ p.1 in
    let winner : k.beginner ≡ winner_at v (length h - 1) = f.beginner
    ∙ (rw (back, winner_at-agree (length h) h v (length h - 1) m.agree (omega arith)) refl) in
    (p.0, p.3, identity_form v (length h) p.0 k.beginner p.1 p.2 winner)

-- where the code is lawful and none is begun, none has its first clock before the last one
pub none_back : (v : Trace) (n : ℕ) → is_code_unlawful v n ≡ false → begun_at v n ≡ None → line_back ADS v n 1 ≡ false
unfolding is_code_unlawful
none_back v n lawful e =
    false_from_ne_true _ (λ t.
    both_ways (is_none (request_at v (n - 1))) (let g = rw t at lawful in g)
    (sym (begun-unlawful v n t) ∙ ap (λ o. is_none o) e))

pub identity_none : (v : Trace) (n : ℕ) → is_code_unlawful v n ≡ false → begun_at v n ≡ None
    → is_identity_wrong v n ≡ false
unfolding is_identity_wrong
identity_none v n lawful e = and_left _ _ (none_back v n lawful e)

pub request_there : (v : Trace) (n : ℕ) → line_back ADS v n 1 ≡ true → is_code_unlawful v n ≡ false
    → (r : Request) × (request_at v (n - 1) ≡ Some r)
unfolding is_code_unlawful
request_there v n t lawful =
    there (request_at v (n - 1))
    (let g : (true && is_none (request_at v (n - 1))) ≡ false = rw t at lawful in g)

identified_now : (v : Trace) (n : ℕ) (r : Request) → line_back ADS v n 1 ≡ true
    → request_at v (n - 1) ≡ Some r → is_identity_wrong v n ≡ false
    → is_identified (winner_at v (n - 1)) (Some r) ≡ true
unfolding is_identity_wrong
identified_now v n r t e f =
    not-false _ (let g : (true && not (is_identified (winner_at v (n - 1)) (Some r))) ≡ false = rw (t, e) at f in g)

pub back_is : (v : Trace) (n q : ℕ) → q + 1 ≡ n → line_back ADS v n 1 ≡ line_at ADS v q
unfolding line_back
back_is v n q e =
    let same : n - 1 ≡ q = omega arith in
    rw (le-leb 1 n (omega arith), same) refl

-- with the sample all requests but the last one are decoded
pub decoded_goes : {h : Trace} {x : Sample} {v : Trace} → OneMore h x v → Decoded h
    → is_code_unlawful v (length h) ≡ false → Decoded v
decoded_goes {h} {x} {v} m d lawful =
    let size = m.size in
    record {
      there = λ q t l.
          elim (cases_eq (q + 1) (length h)) [
            | inl last ↦
                let same : length h - 1 ≡ q = omega arith in
                subst (λ c. (r : Request) × (request_at v c ≡ Some r)) same
                (request_there v (length h) (back_is v (length h) q last ∙ t) lawful)
            | inr before ↦
                let early : q + 1 < length h = omega (arith, before) in
                let old = d.there q (sym (line_at-old ADS h x v q m (omega arith)) ∙ t) early in
                (old.0, request_at-old h x v q m early ∙ old.1)
          ];
    }

-- and of their agents
pub identified_goes : {h : Trace} {x : Sample} {v : Trace} → OneMore h x v → Identified h
    → is_identity_wrong v (length h) ≡ false → Identified v
identified_goes {h} {x} {v} m i own =
    let size = m.size in
    record {
      own = λ q r t e.
          elim (cases_lt (q + 1) (length h)) [
            | inl early ↦
                ap (λ w. is_identified w (Some r)) (sym (winner_at-agree (length h) h v q m.agree (omega arith)))
                ∙ i.own q r (sym (line_at-old ADS h x v q m (omega arith)) ∙ t)
                (sym (request_at-old h x v q m early) ∙ e)
            | inr late ↦
                elim (cases_eq (q + 1) (length h)) [
                  | inl last ↦
                      let same : length h - 1 ≡ q = omega arith in
                      subst (λ c. is_identified (winner_at v c) (Some r) ≡ true) same
                      (identified_now v (length h) r (back_is v (length h) q last ∙ t)
                      (subst (λ c. request_at v c ≡ Some r) (sym same) e) own)
                  | inr past ↦
                      let none = request_at-last v q (omega (arith, late, past)) in absurd (let no : ⊥ = cc in no)
                ]
          ];
    }

-- the request keeps its distance
pub too_soon_not : {h : Trace} {x : Sample} {v : Trace} → OneMore h x v → is_request_too_soon v (length h) ≡ false
    → has_line x ADS ≡ true → (line_back ADS h (length h) 1 ≡ false) × (line_back ADS h (length h) 2 ≡ false)
unfolding is_request_too_soon
too_soon_not {h} {x} {v} m f t =
    let g : (nat_lt (length h) 2 || line_back ADS v (length h) 1 || line_back ADS v (length h) 2) ≡ false =
    rw (line_at-new ADS h x v m ∙ t) at f in
    let two = or_parts _ _ g in
    let one = or_parts _ _ two.0 in
    (sym (line_back-new ADS h x v 1 m (omega arith)) ∙ one.1, sym (line_back-new ADS h x v 2 m (omega arith)) ∙ two.1)

-- no agent begins a request before the first clock
no_agent : (who : Who) → is_agent None who ≡ false
unfolding is_agent is_some_and
no_agent who = refl

begins_first : (v : Trace) (who : Who) → begins_at v 0 who ≡ false
unfolding begins_at winner_at winner_after is_agent is_some_and
begins_first v who = and_right _ _ refl

none_yet : (p : ℕ → Bool) → (any_where p 0 || p 0) ≡ p 0
unfolding any_where
none_yet p = refl

any_four : (p : ℕ → Bool) → any_where p 4 ≡ (((p 0 || p 1) || p 2) || p 3)
any_four p = rw (any_where-more p 3, any_where-more p 2, any_where-more p 1, any_where-more p 0, none_yet p) refl

-- 8 request lines held and released, agent by agent
pub any_asked : (v : Trace) (c : ℕ) → is_some_asked_wrongly v c
    ≡ ((((is_asked_wrongly v c (Symmetric 0) || is_asked_wrongly v c (Symmetric 1))
    || is_asked_wrongly v c (Symmetric 2)) || is_asked_wrongly v c (Symmetric 3)) || is_asked_wrongly v c Priority)
unfolding is_some_asked_wrongly
any_asked v c = rw (any_four (λ a. is_asked_wrongly v c (Symmetric a))) refl

module _ {k : Checker} {h : Trace} {x : Sample} {v : Trace} (f : Follows k h) (m : OneMore h x v) where
  -- 4 queue depth
  pub full : is_queue_full v (length h) ≡ (has_line x ADS && nat_le 8 (length (in_flight h (length h))))
  unfolding is_queue_full
  full = rw (line_at-new ADS h x v m, in_flight-now h x v m f.orderly) refl

  -- the agent that began a request at the last clock
  begins_by : (who : Who) (b : Bool) → 0 < length h → line_back ADS h (length h) 1 ≡ b
      → begins_at v (length h - 1) who ≡ is_agent k.beginner who
  unfolding begins_at line_back beginner_of
  begins_by who true l t =
      let asks : line_at ADS h (length h - 1) ≡ true = (and_parts _ _ t).1 in
      let winner : k.beginner ≡ winner_at h (length h - 1) = f.beginner ∙ (rw t refl) in
      rw (
        line_at-old ADS h x v (length h - 1) m (omega arith),
        asks,
        sym (winner_at-agree (length h) h v (length h - 1) m.agree (omega arith)),
        winner,
      ) refl
  begins_by who false l t =
      let quiet : line_at ADS h (length h - 1) ≡ false =
      (let g : (true && line_at ADS h (length h - 1)) ≡ false = rw (le-leb 1 (length h) (omega arith)) at t in g) in
      let none : k.beginner ≡ None = f.beginner ∙ (rw t refl) in
      rw (line_at-old ADS h x v (length h - 1) m (omega arith), quiet, none) (sym (no_agent who))

  -- 8 request lines held and released, of one agent
  pub asked : (who : Who) → is_asked_wrongly v (length h) who
      ≡ (cond (is_agent k.beginner who) (has_line x (request_line_of who))
      (line_back (request_line_of who) h (length h) 1 && not (has_line x (request_line_of who))))
  unfolding is_asked_wrongly beginner_of
  asked who =
      elim (cases_lt 0 (length h)) [
        | inl l ↦
            rw (
              begins_by who (line_back ADS h (length h) 1) l refl,
              le-leb 1 (length h) (omega arith),
              line_at-new (request_line_of who) h x v m,
              line_back-new (request_line_of who) h x v 1 m (omega arith),
            ) refl
        | inr l ↦
            let e : length h ≡ 0 = omega arith in
            let none : k.beginner ≡ None = f.beginner ∙ (rw (line_back-none ADS h e) refl) in
            rw (
              none,
              no_agent who,
              line_back-new (request_line_of who) h x v 1 m (omega arith),
              line_back-none (request_line_of who) h e,
              e,
              begins_first v who,
            ) refl
      ]
