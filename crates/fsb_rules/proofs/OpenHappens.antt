-- What happens with a sample that breaks no rule is what the trace says.
use Rattle.std.proofs.Common.{ℕ, ◌+◌, ◌-◌, ◌≤◌, ◌≡◌, Bool, true, false, cond, ◌&&◌, nat_eq, Option, Some, None}
use Rattle.std.proofs.Common.{length, refl, [], ◌∷◌, ◌++◌}
use Rattle.std.proofs.Common.{sym, ap, ◌∙◌, arith, inl, inr, subst}
use Rattle.std.proofs.lemmas.Bool.{and_parts, cases_Bool, cases_eq, both_ways, eq-eqb, eqb-true, false_from_ne_true}
use Rattle.std.proofs.lemmas.Bool.{leb-true, ne_eqb}
use Rattle.fsb_count.specs.Options.{is_some_and, is_at}
use Rattle.fsb_signal.specs.declared.lines.TheConstants.Lines.{ADS, AERR}
use Rattle.fsb_signal.specs.declared.sample.Sample.{Sample}
use Rattle.fsb_signal.specs.Samples.{has_line}
use Rattle.fsb_trace.specs.At.{Trace, line_back}
use Rattle.fsb_trace.specs.Requests.{is_live, live_number_of}
use Rattle.fsb_trace.specs.Outcome.{is_deferred}
use Rattle.fsb_laws.specs.OneMore.{cancels}
use Rattle.fsb_laws.specs.Leaving.{ends_at}
use Rattle.fsb_laws.proofs.Interface.{ads_before_end, ends_dead, is_live-ads, one_more}
use Rattle.fsb_rules.specs.declared.live.LiveRequest.{LiveRequest}
use Rattle.fsb_rules.specs.declared.live.Ended.{Ended}
use Rattle.fsb_rules.specs.declared.in_flight.InFlight.{InFlight}
use Rattle.fsb_rules.specs.Outstanding.{Happens}
use Rattle.fsb_rules.specs.Endings.{SaysEnded}
use Rattle.fsb_rules.specs.InFlight.{Brings}
use Rattle.fsb_rules.proofs.Endings.{ends_at-none, ends_at-some}
use Rattle.fsb_rules.proofs.QueueGoes.{error_timed}
use Rattle.fsb_rules.proofs.QueueRules.{orderly_after}
use Rattle.fsb_rules.proofs.OpenGoes.{clock_number}

three_back : (h : Trace) → line_back ADS h (length h) 3 ≡ true → 3 ≤ length h
unfolding line_back
three_back h t = leb-true 3 (length h) (and_parts _ _ t).0

-- the request that ends is the one that ends at the clock
ended_cases : (v : Trace) (n : ℕ) (e : Option Ended) → SaysEnded v n e → (q : ℕ)
    → is_some_and e (λ a. nat_eq a.request.clock q) ≡ ends_at v n q
unfolding is_some_and
ended_cases v n None s q = sym (ends_at-none v n q s)
ended_cases v n (Some a) s q =
    elim (cases_Bool (is_live v q)) [
      | inl t ↦ sym (ends_at-some s q (ads_before_end v q (is_live-ads v q t)) t)
      | inr f ↦
          false_from_ne_true _ (λ t. both_ways _ f (subst (λ c. is_live v c ≡ true) (eqb-true a.request.clock q t)
          (clock_number v s.number a.request.clock s.clock).1)) ∙ sym (ends_dead v n q f)
    ]

deferred_cases : (v : Trace) (n : ℕ) (e : Option Ended) → SaysEnded v n e → (q : ℕ) → ends_at v n q ≡ true
    → is_some_and e (λ a. a.is_deferred) ≡ is_deferred v (live_number_of v q)
unfolding is_some_and
deferred_cases v n None s q t = absurd (both_ways _ (ends_at-none v n q s) t)
deferred_cases v n (Some a) s q t =
    let same : a.request.clock ≡ q = eqb-true a.request.clock q (ended_cases v n (Some a) s q ∙ t) in
    sym s.deferred ∙ ap (is_deferred v)
    (sym (clock_number v s.number a.request.clock s.clock).2 ∙ ap (live_number_of v) same)

module _ {q : InFlight} {n : ℕ} {x : Sample} {b : Option LiveRequest} {h : Trace} (g : Brings q n x b h) where
  cancelled_cases : (p : ℕ) (t : Bool) → has_line x AERR ≡ t
      → is_at (cond t (Some (length h - 3)) None) p ≡ (t && nat_eq (p + 3) (length h))
  unfolding is_at is_some_and
  cancelled_cases p true t =
      let l = three_back h (error_timed (one_more h x) g.error t) in
      elim (cases_eq (p + 3) (length h)) [
        | inl same ↦ eq-eqb (length h - 3) p (omega arith) ∙ sym (eq-eqb (p + 3) (length h) same)
        | inr other ↦ ne_eqb (length h - 3) p (λ e. other (omega arith)) ∙ sym (ne_eqb (p + 3) (length h) other)
      ]
  cancelled_cases p false f = refl

  pub happens_with : {cancelled : Option ℕ} {ended : Option Ended}
      → cancelled ≡ cond (has_line x AERR) (Some (n - 3)) None → SaysEnded (h ++ x ∷ []) (length h) ended
      → Happens h x (h ++ x ∷ []) (record { clock = n; cancelled = cancelled; ended = ended; begun = b })
  unfolding cancels
  happens_with {cancelled} {ended} is says =
      record {
        more = one_more h x;
        orderly = g.in_time.here.orderly;
        after = orderly_after g.in_time;
        clock = g.in_time.here.clock;
        cancelled = λ p. rw (is, g.in_time.here.clock) (cancelled_cases p (has_line x AERR) refl);
        ended = ended_cases (h ++ x ∷ []) (length h) ended says;
        deferred = deferred_cases (h ++ x ∷ []) (length h) ended says;
        begun = g.begun_is;
      }
