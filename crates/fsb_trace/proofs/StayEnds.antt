-- Outcomes and ends stay, where the snoop end is there.
use Rattle.std.proofs.Common.{ℕ, zero, suc, ◌+◌, ◌<◌, ◌≤◌, ◌≡◌, true, false, cond, Option, Some, None, length, max}
use Rattle.std.proofs.Common.{nat_lt, refl, sym, ap, ◌∙◌, arith, inl, inr, add-one}
use Rattle.std.specs.Option.{option_and_then, option_map}
use Rattle.std.proofs.lemmas.Bool.{cases_Bool, and_parts, leb-true, lt-ltb}
use Rattle.fsb_count.specs.Options.{is_some_and, greater_of}
use Rattle.fsb_count.specs.Clocks.{AgreeBelow, first_where, nth_where, from_clock}
use Rattle.fsb_count.proofs.Interface.{first_where-carried, first_where-found, nth_where-carried, nth_where-found}
use Rattle.fsb_signal.specs.declared.lines.Lines.{Lines}
use Rattle.fsb_signal.specs.declared.lines.TheConstants.Lines.{HITM, DRDY, TRDY}
use Rattle.fsb_signal.specs.Samples.{line_at}
use Rattle.fsb_trace.specs.At.{Trace, response_code_at}
use Rattle.fsb_trace.specs.Requests.{live_count, live_request_of}
use Rattle.fsb_trace.specs.Snoop.{snoop_end_of, line_at_snoop_end}
use Rattle.fsb_trace.specs.Outcome.{does_move, is_deferral, response_clock_of, live_response_of, told_by, outcome_of}
use Rattle.fsb_trace.specs.Outcome.{moves_data, is_deferred}
use Rattle.fsb_trace.specs.Response.{data_clock_of, end_of, clock_after_snoop, ready_after, ready_clock_of}
use Rattle.fsb_trace.specs.Agree.{AgreeTo}
use Rattle.fsb_trace.proofs.LiveRequests.{live_below_count}
use Rattle.fsb_trace.proofs.AgreeAt.{line_at-agree, response_code_at-agree, request_at-agree}
use Rattle.fsb_trace.proofs.Stay.{live_clock_of-stays, response_clock_of-stays, snoop_end_of-stays, snoop_end_of-clock}
use Rattle.fsb_trace.proofs.Stay.{snoop_end_of-before}

pub line_at_snoop_end-stays : (line : Lines) (n : ℕ) (w v : Trace) (i s : ℕ) → AgreeTo n w v → s < n
    → snoop_end_of w i ≡ Some s → line_at_snoop_end line w i ≡ line_at_snoop_end line v i
unfolding line_at_snoop_end is_some_and
line_at_snoop_end-stays line n w v i s a l e =
    rw (e, snoop_end_of-stays n w v i s a l e) (line_at-agree line n w v s a l)

pub live_request_of-stays : (n : ℕ) (w v : Trace) (i s : ℕ) → AgreeTo n w v → s < n → snoop_end_of w i ≡ Some s
    → live_request_of w i ≡ live_request_of v i
unfolding live_request_of
live_request_of-stays n w v i s a l e =
    let h = snoop_end_of-clock w i s e in
    let q : ℕ = h.clock in
    let k : q + 4 ≤ s = h.above in
    rw (h.is_clock, live_clock_of-stays n w v i q a (omega arith) h.is_clock) (request_at-agree n w v q a (omega arith))

told_by-stays : (n : ℕ) (w v : Trace) (i s code : ℕ) → AgreeTo n w v → s < n → snoop_end_of w i ≡ Some s
    → told_by w i code ≡ told_by v i code
unfolding told_by
told_by-stays n w v i s code a l e =
    rw (line_at_snoop_end-stays HITM n w v i s a l e, live_request_of-stays n w v i s a l e) refl

-- a request with a snoop end is live
pub live_response_of-there : (w : Trace) (i s : ℕ) → snoop_end_of w i ≡ Some s
    → live_response_of w i ≡ response_clock_of w i
unfolding live_response_of
live_response_of-there w i s e =
    let h = snoop_end_of-clock w i s e in
    rw (lt-ltb i (live_count w) (live_below_count w i h.clock h.is_clock)) refl

-- a response of a live request is a response
pub live_response_of-is : (w : Trace) (i r : ℕ) → live_response_of w i ≡ Some r → response_clock_of w i ≡ Some r
unfolding live_response_of
live_response_of-is w i r =
    let none : Option ℕ = None in
    elim (nat_lt i (live_count w)) as (λ t. cond t (response_clock_of w i) none ≡ Some r
    → response_clock_of w i ≡ Some r)
    [ true ↦ λ e. e | false ↦ λ e. absurd (let no : ⊥ = cc in no) ]

-- the outcome of a request whose snoop end and response are there
pub outcome_of-stays : (n : ℕ) (w v : Trace) (i s r : ℕ) → AgreeTo n w v → s < n → snoop_end_of w i ≡ Some s
    → r < n → response_clock_of w i ≡ Some r → outcome_of w i ≡ outcome_of v i
unfolding outcome_of
outcome_of-stays n w v i s r a l e m f =
    rw (
      live_response_of-there w i s e,
      live_response_of-there v i s (snoop_end_of-stays n w v i s a l e),
      f,
      response_clock_of-stays n w v i r a m f,
      response_code_at-agree n w v r a m,
      told_by-stays n w v i s (response_code_at v r) a l e,
    )
    refl

pub moves_data-stays : (n : ℕ) (w v : Trace) (i s r : ℕ) → AgreeTo n w v → s < n → snoop_end_of w i ≡ Some s
    → r < n → response_clock_of w i ≡ Some r → moves_data w i ≡ moves_data v i
unfolding moves_data
moves_data-stays n w v i s r a l e m f = ap (λ o. is_some_and o does_move) (outcome_of-stays n w v i s r a l e m f)

pub is_deferred-stays : (n : ℕ) (w v : Trace) (i s r : ℕ) → AgreeTo n w v → s < n → snoop_end_of w i ≡ Some s
    → r < n → response_clock_of w i ≡ Some r → is_deferred w i ≡ is_deferred v i
unfolding is_deferred
is_deferred-stays n w v i s r a l e m f = ap (λ o. is_some_and o is_deferral) (outcome_of-stays n w v i s r a l e m f)

pub data_clock_of-moving : (w : Trace) (i k r : ℕ) → k < 4 → moves_data w i ≡ true
    → response_clock_of w i ≡ Some r → data_clock_of w i k ≡ nth_where (from_clock r (line_at DRDY w)) k (length w)
unfolding data_clock_of
data_clock_of-moving w i k r l t f = rw (lt-ltb k 4 l, t, f) refl

pub end_of-moving : (w : Trace) (i r : ℕ) → moves_data w i ≡ true → response_clock_of w i ≡ Some r
    → end_of w i ≡ nth_where (from_clock r (line_at DRDY w)) 3 (length w)
unfolding end_of
end_of-moving w i r t f = rw t (data_clock_of-moving w i 3 r (omega arith) t f)

pub end_of-still : (w : Trace) (i : ℕ) → moves_data w i ≡ false → end_of w i ≡ live_response_of w i
unfolding end_of
end_of-still w i f = rw f refl

moved : (w : Trace) (i e : ℕ) (o : Option ℕ) → response_clock_of w i ≡ o → moves_data w i ≡ true
    → end_of w i ≡ Some e → (r : ℕ) × (response_clock_of w i ≡ Some r) × (r ≤ e)
unfolding end_of data_clock_of from_clock
moved w i e None f t h = let none : None ≡ Some e = rw (t, f) at h in absurd (let no : ⊥ = cc in no)
moved w i e (Some r) f t h =
    let k = nth_where-found (from_clock r (line_at DRDY w)) 3 (length w) e (sym (end_of-moving w i r t f) ∙ h) in
    (r, f, leb-true r e (and_parts _ _ k.1).0)

-- the end of a request that has a snoop end and moves no data
pub end_of-answered : (w : Trace) (i s : ℕ) → snoop_end_of w i ≡ Some s → moves_data w i ≡ false
    → end_of w i ≡ response_clock_of w i
end_of-answered w i s e f = end_of-still w i f ∙ live_response_of-there w i s e

-- an end is not before the response
pub end_of-response : (w : Trace) (i e : ℕ) → end_of w i ≡ Some e → (r : ℕ) × (response_clock_of w i ≡ Some r) × (r ≤ e)
end_of-response w i e h =
    elim (cases_Bool (moves_data w i)) [
      | inl t ↦ moved w i e (response_clock_of w i) refl t h
      | inr f ↦ (e, live_response_of-is w i e (sym (end_of-still w i f) ∙ h), omega arith)
    ]

drdy_below : (n : ℕ) (w v : Trace) (r e : ℕ) → AgreeTo n w v → e < n
    → AgreeBelow (e + 1) (from_clock r (line_at DRDY w)) (from_clock r (line_at DRDY v))
unfolding from_clock
drdy_below n w v r e a l = record { same = λ c k. rw (line_at-agree DRDY n w v c a (omega arith)) refl }

-- the end of a request whose snoop end is there
pub end_of-stays : (n : ℕ) (w v : Trace) (i s e : ℕ) → AgreeTo n w v → s < n → snoop_end_of w i ≡ Some s → e < n
    → end_of w i ≡ Some e → end_of v i ≡ Some e
end_of-stays n w v i s e a l h m k =
    let p = end_of-response w i e k in
    let r : ℕ = p.0 in
    let f : response_clock_of w i ≡ Some r = p.1 in
    let below : r < n = omega (arith, p.2) in
    let g : response_clock_of v i ≡ Some r = response_clock_of-stays n w v i r a below f in
    let same : moves_data w i ≡ moves_data v i = moves_data-stays n w v i s r a l h below f in
    elim (cases_Bool (moves_data w i)) [
      | inl t ↦
          end_of-moving v i r (sym same ∙ t) g
          ∙ nth_where-carried (from_clock r (line_at DRDY w)) (from_clock r (line_at DRDY v)) 3 (length w) (length v) e
          (drdy_below n w v r e a m) (omega (arith, a.right)) (sym (end_of-moving w i r t f) ∙ k)
      | inr u ↦
          end_of-answered v i s (snoop_end_of-stays n w v i s a l h) (sym same ∙ u) ∙ g ∙ sym f
          ∙ sym (end_of-answered w i s h u) ∙ k
    ]

trdy_below : (n : ℕ) (w v : Trace) (b y : ℕ) → AgreeTo n w v → y < n
    → AgreeBelow (y + 1) (from_clock b (line_at TRDY w)) (from_clock b (line_at TRDY v))
unfolding from_clock
trdy_below n w v b y a l = record { same = λ c k. rw (line_at-agree TRDY n w v c a (omega arith)) refl }

ready_parts : (w : Trace) (i y : ℕ) (o : Option ℕ) → ready_after w i ≡ o
    → option_and_then (λ b. first_where (from_clock (b + 1) (line_at TRDY w)) (length w)) o ≡ Some y
    → (b : ℕ) × (ready_after w i ≡ Some b)
    × (first_where (from_clock (b + 1) (line_at TRDY w)) (length w) ≡ Some y) × (b < y)
unfolding from_clock
ready_parts w i y None e h = absurd (let no : ⊥ = cc in no)
ready_parts w i y (Some b) e h =
    let k = first_where-found (from_clock (b + 1) (line_at TRDY w)) (length w) y h in
    (b, e, h, (let low = leb-true (b + 1) y (and_parts _ _ k.1).0 in omega arith))

ready_from_parts : (w : Trace) (i b y : ℕ) → ready_after w i ≡ Some b
    → first_where (from_clock (b + 1) (line_at TRDY w)) (length w) ≡ Some y → ready_clock_of w i ≡ Some y
unfolding ready_clock_of
ready_from_parts w i b y e f = rw e f

first_floor : (w : Trace) (b : ℕ) (o : Option ℕ) → snoop_end_of w 0 ≡ o → option_map (λ s. s + 1) o ≡ Some b
    → (s : ℕ) × (snoop_end_of w 0 ≡ Some s) × (s + 1 ≡ b)
first_floor w b None e h = absurd (let no : ⊥ = cc in no)
first_floor w b (Some s) e h = (s, e, cc)

next_floor : (w : Trace) (i b : ℕ) (o p : Option ℕ) → snoop_end_of w (suc i) ≡ o → end_of w i ≡ p
    → greater_of (option_map (λ s. s + 1) o) p ≡ Some b
    → (s e : ℕ) × (snoop_end_of w (suc i) ≡ Some s) × (end_of w i ≡ Some e) × (max (s + 1) e ≡ b)
unfolding greater_of
next_floor w i b None p e f h = absurd (let no : ⊥ = cc in no)
next_floor w i b (Some s) None e f h = absurd (let no : ⊥ = cc in no)
next_floor w i b (Some s) (Some t) e f h = (s, t, e, f, cc)

ready_after-stays : (n : ℕ) (w v : Trace) (i b : ℕ) → AgreeTo n w v → b < n → ready_after w i ≡ Some b
    → ready_after v i ≡ Some b
unfolding ready_after clock_after_snoop greater_of
ready_after-stays n w v zero b a l h =
    let p = first_floor w b (snoop_end_of w 0) refl h in
    let one : p.0 + 1 ≡ b = p.2 in
    rw (snoop_end_of-stays n w v 0 p.0 a (omega arith) p.1) (ap (λ m. Some m) one)
ready_after-stays n w v (suc i) b a l h =
    let p = next_floor w i b (snoop_end_of w (suc i)) (end_of w i) refl refl h in
    let s : ℕ = p.0 in
    let e : ℕ = p.1 in
    let top : max (s + 1) e ≡ b = p.4 in
    let before = snoop_end_of-before w i s (rw add-one p.2) in
    let t : ℕ = before.0 in
    let apart : t + 3 ≤ s = before.2 in
    rw (
      snoop_end_of-stays n w v (suc i) s a (omega arith) p.2,
      end_of-stays n w v i t e a (omega arith) before.1 (omega arith) p.3,
    )
    (ap (λ m. Some m) top)

-- the ready clock of a request
pub ready_clock_of-stays : (n : ℕ) (w v : Trace) (i y : ℕ) → AgreeTo n w v → y < n → ready_clock_of w i ≡ Some y
    → ready_clock_of v i ≡ Some y
unfolding ready_clock_of
ready_clock_of-stays n w v i y a l h =
    let p = ready_parts w i y (ready_after w i) refl h in
    let b : ℕ = p.0 in
    let low : b < y = p.3 in
    ready_from_parts v i b y (ready_after-stays n w v i b a (omega arith) p.1)
    (first_where-carried (from_clock (b + 1) (line_at TRDY w)) (from_clock (b + 1) (line_at TRDY v)) (length w)
    (length v) y
    (trdy_below n w v (b + 1) y a l) (omega (arith, a.right)) p.2)
