-- Traces that agree have the same at a clock.
use Rattle.std.proofs.Common.{ℕ, zero, suc, ◌+◌, ◌-◌, ◌<◌, ◌≤◌, ◌≡◌, Option, Some, None, [], ◌∷◌, take, refl, sym, ap}
use Rattle.std.proofs.Common.{◌∙◌, arith, nat_lt, inl, inr}
use Rattle.std.specs.Option.{option_map}
use Rattle.std.proofs.lemmas.Bool.{cases_Bool, ltb-false}
use Rattle.fsb_count.specs.Clocks.{AgreeBelow}
use Rattle.fsb_count.proofs.Interface.{first_where-same}
use Rattle.fsb_signal.specs.declared.lines.Lines.{Lines}
use Rattle.fsb_signal.specs.declared.lines.TheConstants.Lines.{ADS, AERR, LOCK, BPRI}
use Rattle.fsb_signal.specs.Samples.{line_at}
use Rattle.fsb_trace.specs.declared.who.Who.{Who}
use Rattle.fsb_trace.specs.declared.who.Who.TheVariants.{Symmetric}
use Rattle.fsb_trace.specs.At.{Trace, responds_at, response_code_at, stalls_at, known_pair_at, request_at}
use Rattle.fsb_trace.specs.Winner.{Requesters, asks_in_order, first_asking, last_if_asking, request_line_of, winner_by}
use Rattle.fsb_trace.specs.Winner.{winner_after, requesters_before, winner_at, then_begun}
use Rattle.fsb_trace.specs.Requests.{is_cancelled, is_live}
use Rattle.fsb_trace.specs.Agree.{AgreeTo}
use Rattle.fsb_trace.proofs.RequesterSteps.{requesters_before-start, requesters_before-begun, requesters_before-kept}
use Rattle.fsb_trace.proofs.WinnerSteps.{winner_by-locked, winner_by-priority, winner_by-symmetric, winner_after-low}
use Rattle.fsb_trace.proofs.WinnerSteps.{winner_after-high}

pub AgreeTo-sym : (n : ℕ) (w v : Trace) → AgreeTo n w v → AgreeTo n v w
AgreeTo-sym n w v a = record { left = a.right; right = a.left; same = λ c l. sym (a.same c l) }

pub AgreeTo-less : (n m : ℕ) (w v : Trace) → m ≤ n → AgreeTo n w v → AgreeTo m w v
AgreeTo-less n m w v l a =
    record { left = omega (arith, a.left); right = omega (arith, a.right); same = λ c k. a.same c (omega arith) }

-- the prefixes are the same list
pub take-agree : (n : ℕ) (w v : Trace) → AgreeTo n w v → take n w ≡ take n v
take-agree zero w v a = refl
take-agree (suc n) [] v a = absurd (omega (arith, a.left))
take-agree (suc n) (s ∷ w) [] a = absurd (omega (arith, a.right))
take-agree (suc n) (s ∷ w) (t ∷ v) a =
    let first : Some s ≡ Some t = a.same 0 (omega arith) in
    let head : s ≡ t = cc in
    let rest : AgreeTo n w v = record {
      left = omega (arith, a.left);
      right = omega (arith, a.right);
      same = λ c l. a.same (suc c) (omega arith);
    } in
    ap (λ x. x ∷ take n w) head ∙ ap (λ xs. t ∷ xs) (take-agree n w v rest)

pub line_at-agree : (line : Lines) (n : ℕ) (w v : Trace) (c : ℕ) → AgreeTo n w v → c < n
    → line_at line w c ≡ line_at line v c
unfolding line_at
line_at-agree line n w v c a l = rw (a.same c l) refl

pub response_code_at-agree : (n : ℕ) (w v : Trace) (c : ℕ) → AgreeTo n w v → c < n
    → response_code_at w c ≡ response_code_at v c
unfolding response_code_at
response_code_at-agree n w v c a l = rw (a.same c l) refl

pub responds_at-agree : (n : ℕ) (w v : Trace) (c : ℕ) → AgreeTo n w v → c < n → responds_at w c ≡ responds_at v c
unfolding responds_at
responds_at-agree n w v c a l = rw (response_code_at-agree n w v c a l) refl

pub stalls_at-agree : (n : ℕ) (w v : Trace) (c : ℕ) → AgreeTo n w v → c < n → stalls_at w c ≡ stalls_at v c
unfolding stalls_at
stalls_at-agree n w v c a l = rw (line_at-agree _ n w v c a l, line_at-agree _ n w v c a l) refl

pub request_at-agree : (n : ℕ) (w v : Trace) (c : ℕ) → AgreeTo n w v → c + 1 < n → request_at w c ≡ request_at v c
unfolding request_at known_pair_at
request_at-agree n w v c a l = rw (a.same c (omega arith), a.same (c + 1) l) refl

pub is_cancelled-agree : (n : ℕ) (w v : Trace) (q : ℕ) → AgreeTo n w v → q + 3 < n → is_cancelled w q ≡ is_cancelled v q
unfolding is_cancelled
is_cancelled-agree n w v q a l = line_at-agree AERR n w v (q + 3) a l

pub is_live-agree : (n : ℕ) (w v : Trace) (q : ℕ) → AgreeTo n w v → q + 3 < n → is_live w q ≡ is_live v q
unfolding is_live
is_live-agree n w v q a l = rw (line_at-agree ADS n w v q a (omega arith), is_cancelled-agree n w v q a l) refl

-- the same agents won, up to the clock after the last that is the same
pub asks-agree : (n : ℕ) (w v : Trace) (d first : ℕ) → AgreeTo n w v → d < n
    → AgreeBelow 4 (asks_in_order w d first) (asks_in_order v d first)
unfolding asks_in_order
asks-agree n w v d first a l = record { same = λ c k. line_at-agree _ n w v d a l }

first_asking-agree : (n : ℕ) (w v : Trace) (d first : ℕ) → AgreeTo n w v → d < n
    → first_asking w d first ≡ first_asking v d first
unfolding first_asking
first_asking-agree n w v d first a l = rw (first_where-same _ _ 4 (asks-agree n w v d first a l)) refl

last_if_asking-agree : (n : ℕ) (w v : Trace) (d : ℕ) (last : Option Who) → AgreeTo n w v → d < n
    → last_if_asking w d last ≡ last_if_asking v d last
unfolding last_if_asking
last_if_asking-agree n w v d None a l = refl
last_if_asking-agree n w v d (Some who) a l = rw (line_at-agree (request_line_of who) n w v d a l) refl

pub winner_by-agree : (n : ℕ) (w v : Trace) (d : ℕ) (turns : Requesters) → AgreeTo n w v → d < n
    → winner_by w d turns ≡ winner_by v d turns
winner_by-agree n w v d turns a l =
    let lock : line_at LOCK w d ≡ line_at LOCK v d = line_at-agree LOCK n w v d a l in
    let bpri : line_at BPRI w d ≡ line_at BPRI v d = line_at-agree BPRI n w v d a l in
    elim (cases_Bool (line_at LOCK v d)) [
      | inl t ↦ winner_by-locked w d turns (lock ∙ t) ∙ last_if_asking-agree n w v d turns.0 a l
          ∙ sym (winner_by-locked v d turns t)
      | inr f ↦
          elim (cases_Bool (line_at BPRI v d)) [
            | inl u ↦ winner_by-priority w d turns (lock ∙ f) (bpri ∙ u) ∙ sym (winner_by-priority v d turns f u)
            | inr g ↦
                winner_by-symmetric w d turns (lock ∙ f) (bpri ∙ g)
                ∙ ap (option_map Symmetric) (first_asking-agree n w v d _ a l) ∙ sym (winner_by-symmetric v d turns f g)
          ]
    ]

pub winner_after-agree : (n : ℕ) (w v : Trace) (c : ℕ) (turns : Requesters) → AgreeTo n w v → c ≤ n
    → winner_after w c turns ≡ winner_after v c turns
winner_after-agree n w v c turns a l =
    elim (cases_Bool (nat_lt c 2)) [
      | inl low ↦ winner_after-low w c turns low ∙ sym (winner_after-low v c turns low)
      | inr high ↦
          let below : c - 2 < n = (let h = ltb-false c 2 high in omega arith) in
          winner_after-high w c turns high ∙ winner_by-agree n w v (c - 2) turns a below
          ∙ sym (winner_after-high v c turns high)
    ]

pub requesters_before-agree : (n : ℕ) (w v : Trace) (c : ℕ) → AgreeTo n w v → c ≤ n
    → requesters_before w c ≡ requesters_before v c
requesters_before-agree n w v zero a l = requesters_before-start w ∙ sym (requesters_before-start v)
requesters_before-agree n w v (suc c) a l =
    let before : requesters_before w c ≡ requesters_before v c = requesters_before-agree n w v c a (omega arith) in
    let ads : line_at ADS w c ≡ line_at ADS v c = line_at-agree ADS n w v c a (omega arith) in
    let next : suc c ≡ c + 1 = omega arith in
    rw next (elim (cases_Bool (line_at ADS v c)) [
      | inl t ↦
          requesters_before-begun w c (ads ∙ t)
          ∙ ap (λ turns. then_begun turns (winner_after w c turns)) before
          ∙ ap (then_begun (requesters_before v c)) (winner_after-agree n w v c (requesters_before v c) a (omega arith))
          ∙ sym (requesters_before-begun v c t)
      | inr f ↦ requesters_before-kept w c (ads ∙ f) ∙ before ∙ sym (requesters_before-kept v c f)
    ])

pub winner_at-agree : (n : ℕ) (w v : Trace) (c : ℕ) → AgreeTo n w v → c ≤ n → winner_at w c ≡ winner_at v c
unfolding winner_at
winner_at-agree n w v c a l = rw (requesters_before-agree n w v c a l) (winner_after-agree n w v c _ a l)
