-- Which live request's data come at a clock, and that this stays however an orderly trace goes on.
use Rattle.std.proofs.Common.{ℕ, suc, ◌+◌, ◌<◌, ◌≤◌, ◌≡◌, Bool, true, false, ◌&&◌, nat_le, Option, Some, None, is_some}
use Rattle.std.proofs.Common.{length, refl, sym, ap, ◌∙◌, arith, inl, inr, subst}
use Rattle.std.proofs.lemmas.Bool.{cases_lt, and_parts, false_from_ne_true, leb-true}
use Rattle.std.proofs.lemmas.Option.{same_Some}
use Rattle.fsb_count.specs.Options.{is_some_and, is_at}
use Rattle.fsb_count.specs.Clocks.{AgreeBelow, first_where, from_clock, nth_where}
use Rattle.fsb_count.proofs.Interface.{first_where-at, first_where-found, first_where-none, first_where-off}
use Rattle.fsb_count.proofs.Interface.{first_where-same, is_at-from, is_at-some, nth_where-carried, nth_where-found}
use Rattle.fsb_count.proofs.Interface.{nth_where-one, nth_where-rises}
use Rattle.fsb_signal.specs.declared.lines.TheConstants.Lines.{DRDY}
use Rattle.fsb_signal.specs.Samples.{line_at}
use Rattle.fsb_trace.specs.At.{Trace, responds_at}
use Rattle.fsb_trace.specs.Agree.{AgreeTo}
use Rattle.fsb_trace.specs.Requests.{live_count, live_request_of}
use Rattle.fsb_trace.specs.Snoop.{snoop_end_of}
use Rattle.fsb_trace.specs.Outcome.{does_move, moves_data, outcome_of, response_clock_of}
use Rattle.fsb_trace.specs.Response.{data_clock_of, end_of}
use Rattle.fsb_trace.proofs.Interface.{AgreeTo-sym, end_of-moving, line_at-agree, live_below_count}
use Rattle.fsb_trace.proofs.Interface.{live_request_of-stays, outcome_of-stays, response_clock_of-stays}
use Rattle.fsb_trace.proofs.Interface.{snoop_end_of-clock, snoop_end_of-stays}
use Rattle.fsb_laws.specs.Orderly.{Orderly}
use Rattle.fsb_laws.proofs.Interface.{clear_parts, has_answer, response_counted, response_there}
use Rattle.fsb_rules.proofs.Interface.{IsDataClock, data_clock-parts, data_clock-from}
use Rattle.fsb_audit.specs.MovedChunks.{data_place_at, mover_at}

-- two tests are the same where each passes with the other
pub same_Bool : (a b : Bool) → (a ≡ true → b ≡ true) → (b ≡ true → a ≡ true) → a ≡ b
same_Bool true b f g = sym (f refl)
same_Bool false true f g = g refl
same_Bool false false f g = refl

-- a first one is the same for two tests that pass at the same clocks
pub first_where-alike : (p q : ℕ → Bool) (n m : ℕ) → ((k : ℕ) → k < n → p k ≡ true → (k < m) × (q k ≡ true))
    → ((k : ℕ) → k < m → q k ≡ true → (k < n) × (p k ≡ true)) → first_where p n ≡ first_where q m
first_where-alike p q n m forth back = alike (first_where p n) refl
  where
    failing : (k : ℕ) → (k < n → p k ≡ true → ⊥) → k < m → q k ≡ false
    failing k none l = false_from_ne_true _ (λ t. let b = back k l t in none b.0 b.1)

    alike : (o : Option ℕ) → first_where p n ≡ o → first_where p n ≡ first_where q m
    alike (Some c) e =
        let f = first_where-found p n c e in
        let g = forth c f.0 f.1 in
        let below : c < m = g.0 in
        e ∙ sym (first_where-at q m c g.0 g.1
        (λ k l. failing k (λ small t. let u = f.2 k l in let no : ⊥ = cc in no) (omega arith)))
    alike None e =
        let f = first_where-none p n e in
        e ∙ sym (first_where-off q m (λ k l. failing k (λ small t. let u = f k small in let no : ⊥ = cc in no) l))

-- a data clock lies from the response on
pub after_response : (w : Trace) (i n c : ℕ) (d : IsDataClock w i n c) → (d.response ≤ c) × (c < length w)
unfolding from_clock
after_response w i n c d =
    let p = nth_where-found (from_clock d.response (line_at DRDY w)) n (length w) c d.is_clock in
    (leb-true d.response c (and_parts _ _ p.1).0, p.0)

-- and not past the end of its request
pub before_end : (w : Trace) (i n c e : ℕ) → IsDataClock w i n c → end_of w i ≡ Some e → c ≤ e
before_end w i n c e d f =
    let last : nth_where (from_clock d.response (line_at DRDY w)) 3 (length w) ≡ Some e =
    sym (end_of-moving w i d.response d.moves d.is_response) ∙ f in
    elim (cases_lt n 3) [
      | inl less ↦
          let rises : c < e = nth_where-rises (from_clock d.response (line_at DRDY w)) n 3 (length w) c e less
          d.is_clock last in
          omega arith
      | inr more ↦
          let few : n < 4 = d.few in
          let three : n ≡ 3 = omega arith in
          let same : c ≡ e = same_Some _ _ (sym d.is_clock
          ∙ ap (λ k. nth_where (from_clock d.response (line_at DRDY w)) k (length w)) three ∙ last) in
          omega arith
    ]

-- a live request that responded in an orderly trace
pub record Responded (w : Trace) (i : ℕ) : Type 0 where
  pub response : ℕ
  pub is_response : response_clock_of w i ≡ Some response
  pub below : response < length w
  pub snoop : ℕ
  pub is_snoop : snoop_end_of w i ≡ Some snoop
  pub early : snoop + 2 ≤ response

pub responded : (w : Trace) (i r : ℕ) → Orderly w → response_clock_of w i ≡ Some r → Responded w i
responded w i r o e =
    let there = response_there w i (response_counted w i r e) in
    let a = has_answer w there.0 i (o.timely i there.0 there.1) in
    record {
      response = there.0;
      is_response = there.1;
      below = there.2;
      snoop = a.snoop;
      is_snoop = a.is_snoop;
      early = a.before;
    }

pub live_below : (w : Trace) (i : ℕ) → Responded w i → i < live_count w
live_below w i r = let c = snoop_end_of-clock w i r.snoop r.is_snoop in live_below_count w i c.clock c.is_clock

by_number : (w : Trace) (k c : ℕ) → response_clock_of w k ≡ Some c → nth_where (responds_at w) k (length w) ≡ Some c
unfolding response_clock_of
by_number w k c e = e

-- the response of a later request lies past the end of an earlier one
later_response : (w : Trace) (i j r e : ℕ) → Orderly w → i < j → response_clock_of w j ≡ Some r
    → end_of w i ≡ Some e → e < r
later_response w i j r e o l f g =
    let counted = response_counted w j r f in
    let there = response_there w (suc i) (omega arith) in
    let a = has_answer w there.0 (suc i) (o.timely (suc i) there.0 there.1) in
    let clear = clear_parts w i there.0 a.clear in
    let same : clear.0 ≡ e = same_Some _ _ (sym clear.1 ∙ g) in
    let before : clear.0 < there.0 = clear.2 in
    elim (cases_lt (suc i) j) [
      | inl less ↦
          let rises : there.0 < r = nth_where-rises (responds_at w) (suc i) j (length w) there.0 r less
          (by_number w (suc i) there.0 there.1) (by_number w j r f) in
          omega arith
      | inr more ↦
          let here : suc i ≡ j = omega arith in
          let at : there.0 ≡ r = same_Some _ _ (sym there.1 ∙ ap (response_clock_of w) here ∙ f) in
          omega arith
    ]

-- data of two requests do not come at one clock
earlier_not : (w : Trace) (i j n k c : ℕ) → Orderly w → i < j → data_clock_of w i n ≡ Some c
    → data_clock_of w j k ≡ Some c → ⊥
earlier_not w i j n k c o l e f =
    let d = data_clock-parts w i n c e in
    let b = data_clock-parts w j k c f in
    let after = after_response w j k c b in
    let counted = response_counted w j b.response b.is_response in
    let there = response_there w (suc i) (omega arith) in
    let a = has_answer w there.0 (suc i) (o.timely (suc i) there.0 there.1) in
    let clear = clear_parts w i there.0 a.clear in
    let past : clear.0 < b.response = later_response w i j b.response clear.0 o l b.is_response clear.1 in
    let low : c ≤ clear.0 = before_end w i n c clear.0 d clear.1 in
    omega (arith, after.0)

pub one_mover : (w : Trace) (i j n k c : ℕ) → Orderly w → data_clock_of w i n ≡ Some c
    → data_clock_of w j k ≡ Some c → j ≡ i
one_mover w i j n k c o e f =
    elim (cases_lt i j) [
      | inl less ↦ absurd (earlier_not w i j n k c o less e f)
      | inr more ↦ elim (cases_lt j i) [
        | inl less ↦ absurd (earlier_not w j i k n c o less f e)
        | inr same ↦ omega arith
      ]
    ]

-- where a place is found the clock is that data clock
pub place_found : (w : Trace) (c i n : ℕ) → data_place_at w c i ≡ Some n → data_clock_of w i n ≡ Some c
unfolding data_place_at
place_found w c i n e = is_at-some (data_clock_of w i n) c
    (first_where-found (λ k. is_at (data_clock_of w i k) c) 4 n e).1

some_place : (w : Trace) (c i : ℕ) (o : Option ℕ) → data_place_at w c i ≡ o → is_some o ≡ true
    → (n : ℕ) × (data_clock_of w i n ≡ Some c)
some_place w c i None e t = absurd (let no : ⊥ = cc in no)
some_place w c i (Some n) e t = (n, place_found w c i n e)

placed : (w : Trace) (c i n : ℕ) (o : Option ℕ) → data_clock_of w i n ≡ Some c → data_place_at w c i ≡ o
    → is_some o ≡ true
unfolding data_place_at
placed w c i n (Some k) e f = refl
placed w c i n None e f =
    let d = data_clock-parts w i n c e in
    let off = first_where-none (λ k. is_at (data_clock_of w i k) c) 4 f n d.few in
    let on = is_at-from (data_clock_of w i n) c e in
    absurd (let no : ⊥ = cc in no)

pub place_is : (w : Trace) (c i n : ℕ) → data_clock_of w i n ≡ Some c → data_place_at w c i ≡ Some n
unfolding data_place_at
place_is w c i n e =
    let d = data_clock-parts w i n c e in
    first_where-at (λ k. is_at (data_clock_of w i k) c) 4 n d.few (is_at-from (data_clock_of w i n) c e) (λ k l.
    false_from_ne_true _ (λ t.
    let b = data_clock-parts w i k c (is_at-some (data_clock_of w i k) c t) in
    let r : b.response ≡ d.response = same_Some _ _ (sym b.is_response ∙ d.is_response) in
    let here : nth_where (from_clock d.response (line_at DRDY w)) k (length w) ≡ Some c =
    subst (λ s. nth_where (from_clock s (line_at DRDY w)) k (length w) ≡ Some c) r b.is_clock in
    let same : k ≡ n = nth_where-one (from_clock d.response (line_at DRDY w)) k n (length w) c here d.is_clock in
    omega arith))

-- the mover is the request of the data clock
pub mover_is : (w : Trace) (c i n : ℕ) → Orderly w → data_clock_of w i n ≡ Some c → mover_at w c ≡ Some i
unfolding mover_at
mover_is w c i n o e =
    let d = data_clock-parts w i n c e in
    first_where-at (λ j. is_some (data_place_at w c j)) (live_count w) i
    (live_below w i (responded w i d.response o d.is_response))
    (placed w c i n (data_place_at w c i) e refl) (λ j l.
    false_from_ne_true _ (λ t.
    let p = some_place w c j (data_place_at w c j) refl t in
    let same : j ≡ i = one_mover w i j n p.0 c o e p.1 in
    omega arith))

pub no_mover : (w : Trace) (c : ℕ) → ((j k : ℕ) → data_clock_of w j k ≡ Some c → ⊥) → mover_at w c ≡ None
unfolding mover_at
no_mover w c none =
    first_where-off (λ j. is_some (data_place_at w c j)) (live_count w) (λ j l.
    false_from_ne_true _ (λ t. let p = some_place w c j (data_place_at w c j) refl t in none j p.0 p.1))

pub mover_parts : (w : Trace) (c i : ℕ) → mover_at w c ≡ Some i → (n : ℕ) × (data_clock_of w i n ≡ Some c)
unfolding mover_at
mover_parts w c i e =
    some_place w c i (data_place_at w c i) refl
    (first_where-found (λ j. is_some (data_place_at w c j)) (live_count w) i e).1

-- v goes on from u, which is orderly
pub record GoesOnFrom (u v : Trace) : Type 0 where
  pub agree : AgreeTo (length u) u v
  pub orderly : Orderly u

-- what responded stays
pub still_responded : (u v : Trace) (i : ℕ) → GoesOnFrom u v → (r : Responded u i)
    → response_clock_of v i ≡ Some r.response
still_responded u v i g r = response_clock_of-stays (length u) u v i r.response g.agree r.below r.is_response

pub same_outcome : (u v : Trace) (i : ℕ) → GoesOnFrom u v → Responded u i → outcome_of v i ≡ outcome_of u i
same_outcome u v i g r =
    sym (outcome_of-stays (length u) u v i r.snoop r.response g.agree (omega (arith, r.early, r.below))
    r.is_snoop r.below r.is_response)

pub same_request : (u v : Trace) (i : ℕ) → GoesOnFrom u v → Responded u i → live_request_of v i ≡ live_request_of u i
same_request u v i g r =
    sym (live_request_of-stays (length u) u v i r.snoop g.agree (omega (arith, r.early, r.below)) r.is_snoop)

same_moves : (u v : Trace) (i : ℕ) → GoesOnFrom u v → Responded u i → moves_data v i ≡ moves_data u i
unfolding moves_data
same_moves u v i g r = ap (λ o. is_some_and o does_move) (same_outcome u v i g r)

pub live_after : (u v : Trace) (i : ℕ) → GoesOnFrom u v → Responded u i → i < live_count v
live_after u v i g r =
    let s = snoop_end_of-stays (length u) u v i r.snoop g.agree (omega (arith, r.early, r.below)) r.is_snoop in
    let c = snoop_end_of-clock v i r.snoop s in
    live_below_count v i c.clock c.is_clock

same_drdy : (u v : Trace) (r c : ℕ) → GoesOnFrom u v → c < length u
    → AgreeBelow (c + 1) (from_clock r (line_at DRDY u)) (from_clock r (line_at DRDY v))
unfolding from_clock
same_drdy u v r c g l =
    record { same = λ k m. ap (λ b. nat_le r k && b) (line_at-agree DRDY (length u) u v k g.agree (omega arith)) }

pub data_responded : (u : Trace) (i n c : ℕ) → Orderly u → data_clock_of u i n ≡ Some c → Responded u i
data_responded u i n c o e = let d = data_clock-parts u i n c e in responded u i d.response o d.is_response

-- a data clock stays
pub data_forth : (u v : Trace) (i n c : ℕ) → GoesOnFrom u v → c < length u → data_clock_of u i n ≡ Some c
    → data_clock_of v i n ≡ Some c
data_forth u v i n c g l e =
    let d = data_clock-parts u i n c e in
    let r = responded u i d.response g.orderly d.is_response in
    let right : length u ≤ length v = g.agree.right in
    data_clock-from v i n c (record {
      few = d.few;
      moves = same_moves u v i g r ∙ d.moves;
      response = d.response;
      is_response = still_responded u v i g r ∙ sym r.is_response ∙ d.is_response;
      is_clock = nth_where-carried (from_clock d.response (line_at DRDY u))
          (from_clock d.response (line_at DRDY v)) n (length u) (length v) c (same_drdy u v d.response c g l)
          (omega arith) d.is_clock;
    })

pub data_back : (u v : Trace) (i n c : ℕ) → GoesOnFrom u v → c < length u → data_clock_of v i n ≡ Some c
    → data_clock_of u i n ≡ Some c
data_back u v i n c g l e =
    let d = data_clock-parts v i n c e in
    let after = after_response v i n c d in
    let back = response_clock_of-stays (length u) v u i d.response (AgreeTo-sym (length u) u v g.agree)
    (omega (arith, after.0)) d.is_response in
    let r = responded u i d.response g.orderly back in
    data_clock-from u i n c (record {
      few = d.few;
      moves = sym (same_moves u v i g r) ∙ d.moves;
      response = d.response;
      is_response = back;
      is_clock = nth_where-carried (from_clock d.response (line_at DRDY v))
          (from_clock d.response (line_at DRDY u)) n (length v) (length u) c
          (record { same = λ k m. sym ((same_drdy u v d.response c g l).same k m) }) l d.is_clock;
    })

pub same_place : (u v : Trace) (c i : ℕ) → GoesOnFrom u v → c < length u → data_place_at v c i ≡ data_place_at u c i
unfolding data_place_at
same_place u v c i g l =
    first_where-same (λ n. is_at (data_clock_of v i n) c) (λ n. is_at (data_clock_of u i n) c) 4
    (record {
      same = λ n m. same_Bool _ _
          (λ t. is_at-from (data_clock_of u i n) c (data_back u v i n c g l (is_at-some (data_clock_of v i n) c t)))
          (λ t. is_at-from (data_clock_of v i n) c (data_forth u v i n c g l (is_at-some (data_clock_of u i n) c t)));
    })

-- and so does the mover
pub same_mover : (u v : Trace) (c : ℕ) → GoesOnFrom u v → c < length u → mover_at v c ≡ mover_at u c
unfolding mover_at
same_mover u v c g l =
    first_where-alike (λ i. is_some (data_place_at v c i)) (λ i. is_some (data_place_at u c i)) (live_count v)
    (live_count u)
    (λ i m t.
    let p = some_place v c i (data_place_at v c i) refl t in
    let e = data_back u v i p.0 c g l p.1 in
    (live_below u i (data_responded u i p.0 c g.orderly e), placed u c i p.0 (data_place_at u c i) e refl))
    (λ i m t.
    let p = some_place u c i (data_place_at u c i) refl t in
    let e = data_forth u v i p.0 c g l p.1 in
    (live_after u v i g (data_responded u i p.0 c g.orderly p.1), placed v c i p.0 (data_place_at v c i) e refl))
