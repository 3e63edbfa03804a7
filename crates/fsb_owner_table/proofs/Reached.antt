-- Clocks that a request reaches, one sample on.
use Rattle.std.proofs.Common.{ℕ, ◌+◌, ◌<◌, ◌≤◌, ◌≡◌, Bool, true, false, cond, not, ◌&&◌, Option, Some, None}
use Rattle.std.proofs.Common.{length, refl, sym, ap, ◌∙◌, arith, inl, inr, subst}
use Rattle.std.proofs.lemmas.Bool.{and_parts, and_right, both_ways, cases_Bool, cases_lt, eq-eqb, ne_eqb}
use Rattle.fsb_count.specs.Options.{is_at, is_some_and}
use Rattle.fsb_count.proofs.Interface.{nth_where-found}
use Rattle.fsb_signal.specs.declared.lines.TheConstants.Lines.{ADS, DRDY}
use Rattle.fsb_signal.specs.declared.sample.Sample.{Sample}
use Rattle.fsb_signal.specs.Samples.{line_at}
use Rattle.fsb_trace.specs.At.{Trace, responds_at}
use Rattle.fsb_trace.specs.Requests.{is_live, live_clock_of, live_number_of}
use Rattle.fsb_trace.specs.Snoop.{snoop_end_of}
use Rattle.fsb_trace.specs.Outcome.{moves_data, response_clock_of}
use Rattle.fsb_trace.specs.Response.{end_of}
use Rattle.fsb_trace.proofs.Interface.{AgreeTo-sym, end_of-moving, end_of-response, end_of-still, live_clock_of-number}
use Rattle.fsb_trace.proofs.Interface.{live_response_of-is, response_clock_of-stays, snoop_end_of-clock, snoop_end_of-stays}
use Rattle.fsb_trace.specs.Agree.{AgreeTo}
use Rattle.fsb_laws.specs.OneMore.{OneMore, cancels}
use Rattle.fsb_laws.specs.Orderly.{Orderly, Spaced}
use Rattle.fsb_laws.proofs.Interface.{end_of-kept, end_of-old, has_answer, is_live-more, live_number_of-more}
use Rattle.fsb_laws.proofs.ReplySteps.{cancelled_clock}
use Rattle.fsb_owner_table.specs.Rows.{reached}
use Rattle.fsb_owner_table.specs.Happened.{reaches}

-- a clock that is reached is the new one, or was reached before
pub option_goes : (n : ℕ) (old new : Option ℕ) → ((t : ℕ) → old ≡ Some t → new ≡ Some t)
    → ((t : ℕ) → new ≡ Some t → t < n → old ≡ Some t) → ((t : ℕ) → new ≡ Some t → t < n + 1)
    → ((t : ℕ) → old ≡ Some t → t < n) → new ≡ cond (is_at new n) (Some n) old
unfolding is_at is_some_and
option_goes n None None forth back within inside = refl
option_goes n (Some t) None forth back within inside = forth t refl
option_goes n old (Some t) forth back within inside =
    elim (cases_lt t n) [
      | inl less ↦
          rw (ne_eqb t n (λ e. absurd (omega arith))) (sym (back t refl less))
      | inr more ↦
          let same : t ≡ n = let bound = within t refl in omega arith in
          rw (eq-eqb t n same) (ap (λ k. Some k) same)
    ]

-- where a clock is reached, its request is live
pub reached-parts : (f : Trace → ℕ → Option ℕ) (w : Trace) (q t : ℕ) → reached f w q ≡ Some t
    → (is_live w q ≡ true) × (f w (live_number_of w q) ≡ Some t)
unfolding reached
reached-parts f w q t e =
    elim (cases_Bool (is_live w q)) [
      | inl live ↦ (live, rw live at e)
      | inr dead ↦ absurd (let none = rw dead at e in let no : ⊥ = cc in no)
    ]

pub reached-live : (f : Trace → ℕ → Option ℕ) (w : Trace) (q : ℕ) → is_live w q ≡ true
    → reached f w q ≡ f w (live_number_of w q)
unfolding reached
reached-live f w q live = rw live refl

pub reached-dead : (f : Trace → ℕ → Option ℕ) (w : Trace) (q : ℕ) → is_live w q ≡ false → reached f w q ≡ None
unfolding reached
reached-dead f w q dead = rw dead refl

-- clocks of live requests that stay when they are reached, and lie behind the third clock of the request
pub record AreClocks (f : Trace → ℕ → Option ℕ) (h v : Trace) : Type 0 where
  pub forth : (i t : ℕ) → f h i ≡ Some t → f v i ≡ Some t
  pub back : (i t : ℕ) → f v i ≡ Some t → t < length h → f h i ≡ Some t
  pub within : (i t : ℕ) → f v i ≡ Some t → t < length h + 1
  pub inside : (i t : ℕ) → f h i ≡ Some t → t < length h
  pub early : (q t : ℕ) → q < length h → is_live h q ≡ true → f h (live_number_of h q) ≡ Some t → q + 3 < t
  pub late : (q t : ℕ) → q < length v → is_live v q ≡ true → f v (live_number_of v q) ≡ Some t → q + 3 < t

module _ {f : Trace → ℕ → Option ℕ} {h : Trace} {x : Sample} {v : Trace} (clocks : AreClocks f h v)
    (more : OneMore h x v) (spaced : Spaced h) (q : ℕ) (asks : line_at ADS h q ≡ true) (less : q < length h) where
  still_live : (t : ℕ) → reached f h q ≡ Some t → is_live v q ≡ true
  still_live t e =
      let p = reached-parts f h q t e in
      elim (cases_Bool (cancels x (length h) q)) [
        | inl c ↦
            let at : q + 3 ≡ length h = cancelled_clock x (length h) q c in
            absurd (omega (arith, clocks.early q t less p.0 p.1, clocks.inside _ t p.1))
        | inr k ↦ is_live-more h x v q more less ∙ (rw (p.0, k) refl)
      ]

  pub reached-forth : (t : ℕ) → reached f h q ≡ Some t → reached f v q ≡ Some t
  reached-forth t e =
      let p = reached-parts f h q t e in
      reached-live f v q (still_live t e)
      ∙ ap (f v) (sym (live_number_of-more h x v q more spaced less asks)) ∙ clocks.forth _ t p.1

  reached-back : (t : ℕ) → reached f v q ≡ Some t → t < length h → reached f h q ≡ Some t
  reached-back t e l =
      let p = reached-parts f v q t e in
      let live : is_live h q ≡ true = (and_parts _ _ (sym (is_live-more h x v q more less) ∙ p.0)).0 in
      reached-live f h q live
      ∙ clocks.back _ t (ap (f v) (live_number_of-more h x v q more spaced less asks) ∙ p.1) l

  pub reached-goes : reached f v q ≡ cond (reaches f v (length h) q) (Some (length h)) (reached f h q)
  unfolding reaches
  reached-goes =
      option_goes (length h) (reached f h q) (reached f v q) reached-forth reached-back
      (λ t e. clocks.within _ t (reached-parts f v q t e).1)
      (λ t e. clocks.inside _ t (reached-parts f h q t e).1)

-- The clocks of which a row tells.

-- the live request that begins at q has that number alone
number_clock : (w : Trace) (q p : ℕ) → q < length w → is_live w q ≡ true
    → live_clock_of w (live_number_of w q) ≡ Some p → p ≡ q
number_clock w q p l t e = let f = live_clock_of-number w q l t in cc

snoop_late : (w : Trace) (q t : ℕ) → q < length w → is_live w q ≡ true
    → snoop_end_of w (live_number_of w q) ≡ Some t → q + 3 < t
snoop_late w q t l live e =
    let c = snoop_end_of-clock w _ t e in
    let same = number_clock w q c.clock l live c.is_clock in omega (arith, c.above)

response_late : (w : Trace) (q t : ℕ) → Orderly w → q < length w → is_live w q ≡ true
    → response_clock_of w (live_number_of w q) ≡ Some t → q + 3 < t
response_late w q t o l live e =
    let a = has_answer w t _ (o.timely _ t e) in
    let s = snoop_late w q a.snoop l live a.is_snoop in omega (arith, a.before)

end_late : (w : Trace) (q t : ℕ) → Orderly w → q < length w → is_live w q ≡ true
    → end_of w (live_number_of w q) ≡ Some t → q + 3 < t
end_late w q t o l live e =
    let p = end_of-response w _ t e in
    let s = response_late w q p.0 o l live p.1 in omega (arith, p.2)

response_inside : (w : Trace) (i t : ℕ) → response_clock_of w i ≡ Some t → t < length w
unfolding response_clock_of
response_inside w i t e = (nth_where-found (responds_at w) i (length w) t e).0

end_inside : (w : Trace) (i t : ℕ) → end_of w i ≡ Some t → t < length w
end_inside w i t e =
    elim (cases_Bool (moves_data w i)) [
      | inr f ↦ response_inside w i t (live_response_of-is w i t (sym (end_of-still w i f) ∙ e))
      | inl m ↦
          let p = end_of-response w i t e in
          (nth_where-found _ 3 (length w) t (sym (end_of-moving w i p.0 m p.1) ∙ e)).0
    ]

module _ {h : Trace} {x : Sample} {v : Trace} (more : OneMore h x v) (orderly : Orderly h) (after : Orderly v) where
  back : AgreeTo (length h) v h
  back = AgreeTo-sym (length h) h v more.agree

  size : length v ≡ length h + 1
  size = more.size

  pub snoop_clocks : AreClocks snoop_end_of h v
  snoop_clocks = record {
    forth = λ i t e. snoop_end_of-stays (length h) h v i t more.agree (snoop_end_of-clock h i t e).within e;
    back = λ i t e l. snoop_end_of-stays (length h) v h i t back l e;
    within = λ i t e. omega (arith, (snoop_end_of-clock v i t e).within, size);
    inside = λ i t e. (snoop_end_of-clock h i t e).within;
    early = λ q t l live e. snoop_late h q t l live e;
    late = λ q t l live e. snoop_late v q t l live e;
  }

  pub response_clocks : AreClocks response_clock_of h v
  response_clocks = record {
    forth = λ i t e. response_clock_of-stays (length h) h v i t more.agree (response_inside h i t e) e;
    back = λ i t e l. response_clock_of-stays (length h) v h i t back l e;
    within = λ i t e. omega (arith, response_inside v i t e, size);
    inside = λ i t e. response_inside h i t e;
    early = λ q t l live e. response_late h q t orderly l live e;
    late = λ q t l live e. response_late v q t after l live e;
  }

  pub end_clocks : AreClocks end_of h v
  end_clocks = record {
    forth = λ i t e. end_of-kept h x v i t more orderly e (end_inside h i t e);
    back = λ i t e l. end_of-old h x v i t more orderly e l;
    within = λ i t e. omega (arith, end_inside v i t e, size);
    inside = λ i t e. end_inside h i t e;
    early = λ q t l live e. end_late h q t orderly l live e;
    late = λ q t l live e. end_late v q t after l live e;
  }
