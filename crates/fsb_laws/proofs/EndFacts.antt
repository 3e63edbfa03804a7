-- Which live requests have their ends in an orderly trace.
use Rattle.std.proofs.Common.{ℕ, zero, suc, ◌<◌, ◌≤◌, ◌≡◌, true, false, ◌&&◌, nat_lt, Option, Some, None, length, refl}
use Rattle.std.proofs.Common.{sym, ◌∙◌, arith, inl, inr, subst}
use Rattle.std.proofs.lemmas.Bool.{cases_Bool, cases_eq, and_parts, ltb-true, ltb-false}
use Rattle.fsb_count.specs.Options.{is_some_and}
use Rattle.fsb_count.specs.Clocks.{count_where, from_clock}
use Rattle.fsb_count.proofs.Interface.{nth_where-found, nth_where-there, nth_where-past, is_before-parts}
use Rattle.fsb_signal.specs.declared.lines.TheConstants.Lines.{DRDY}
use Rattle.fsb_signal.specs.declared.sample.Sample.{Sample}
use Rattle.fsb_signal.specs.Samples.{line_at}
use Rattle.fsb_trace.specs.At.{Trace}
use Rattle.fsb_trace.specs.Outcome.{response_clock_of, moves_data}
use Rattle.fsb_trace.specs.Snoop.{snoop_end_of}
use Rattle.fsb_trace.specs.Response.{end_of, is_clear_before}
use Rattle.fsb_trace.specs.Rules.{is_transferring_of}
use Rattle.fsb_trace.specs.Agree.{AgreeTo}
use Rattle.fsb_trace.proofs.Interface.{AgreeTo-sym, response_clock_of-stays, snoop_end_of-stays, end_of-moving}
use Rattle.fsb_trace.proofs.Interface.{end_of-answered, end_of-response, end_of-stays}
use Rattle.fsb_laws.specs.OneMore.{OneMore}
use Rattle.fsb_laws.specs.Orderly.{Orderly}
use Rattle.fsb_laws.specs.Progress.{EndsTo, response_count, chunks_of, transfer_after, transfer_of}
use Rattle.fsb_laws.proofs.ResponseSteps.{has_answer, response_there, response_past}

-- how many chunks of a request came from its response r on
abbrev pub chunks_from : Trace → ℕ → ℕ
chunks_from w r = count_where (from_clock r (line_at DRDY w)) (length w)

pub transferring_form : (w : Trace) (n i r : ℕ) → response_clock_of w i ≡ Some r
    → is_transferring_of w n i ≡ (moves_data w i && nat_lt (count_where (from_clock r (line_at DRDY w)) n) 4)
unfolding is_transferring_of is_some_and
transferring_form w n i r e = rw e refl

pub chunks_of-form : (w : Trace) (i r : ℕ) → response_clock_of w i ≡ Some r → chunks_of w i ≡ Some (chunks_from w r)
unfolding chunks_of
chunks_of-form w i r e = rw e refl

moved_end : (w : Trace) (i r : ℕ) → response_clock_of w i ≡ Some r → moves_data w i ≡ true → 4 ≤ chunks_from w r
    → (e : ℕ) × (end_of w i ≡ Some e) × (e < length w)
moved_end w i r f t l =
    let p = nth_where-there (from_clock r (line_at DRDY w)) 3 (length w) (omega arith) in
    (p.0, end_of-moving w i r t f ∙ p.1, (nth_where-found (from_clock r (line_at DRDY w)) 3 (length w) p.0 p.1).0)

-- a live request that responded and whose data are not on the way has its end
pub end_reached : (w : Trace) (i s r : ℕ) → snoop_end_of w i ≡ Some s → response_clock_of w i ≡ Some r
    → r < length w → is_transferring_of w (length w) i ≡ false → (e : ℕ) × (end_of w i ≡ Some e) × (e < length w)
end_reached w i s r live f l none =
    elim (cases_Bool (moves_data w i)) [
      | inl t ↦
          let few : nat_lt (chunks_from w r) 4 ≡ false =
          (let g = sym (transferring_form w (length w) i r f) ∙ none in rw t at g) in
          moved_end w i r f t (ltb-false _ _ few)
      | inr u ↦ (r, end_of-answered w i s live u ∙ f, l)
    ]

-- one whose data are on the way has none yet
pub end_not_reached : (w : Trace) (i r : ℕ) → response_clock_of w i ≡ Some r
    → is_transferring_of w (length w) i ≡ true → end_of w i ≡ None
end_not_reached w i r f t =
    let p = and_parts _ _ (sym (transferring_form w (length w) i r f) ∙ t) in
    let few : chunks_from w r < 4 = ltb-true _ _ p.1 in
    end_of-moving w i r p.0 f ∙ nth_where-past (from_clock r (line_at DRDY w)) 3 (length w) (omega arith)

-- one without its response has none
no_response : (w : Trace) (i : ℕ) (o : Option ℕ) → response_clock_of w i ≡ None → end_of w i ≡ o → end_of w i ≡ None
no_response w i None e f = f
no_response w i (Some t) e f = let p = end_of-response w i t f in let a = p.1 in absurd (let no : ⊥ = cc in no)

pub end_past : (w : Trace) (i : ℕ) → response_count w ≤ i → end_of w i ≡ None
end_past w i l = no_response w i (end_of w i) (response_past w i l) refl

-- the request before one that may be answered has its end
pub clear_parts : (w : Trace) (i c : ℕ) → is_clear_before w (suc i) c ≡ true → (e : ℕ) × (end_of w i ≡ Some e) × (e < c)
unfolding is_clear_before
clear_parts w i c t = is_before-parts (end_of w i) c t

-- each response but the last is of a request that has its end
pub end_before_last : (h : Trace) (i : ℕ) → Orderly h → suc i < response_count h
    → (e : ℕ) × (end_of h i ≡ Some e) × (e < length h)
end_before_last h i o l =
    let p = response_there h (suc i) l in
    let a = has_answer h p.0 (suc i) (o.timely (suc i) p.0 p.1) in
    let c = clear_parts h i p.0 a.clear in
    (c.0, c.1, omega (arith, c.2, p.2))

-- where no transfer is on the way each request that responded has its end
still_last : (h : Trace) (i : ℕ) → response_count h ≡ suc i → transfer_of h ≡ None
    → is_transferring_of h (length h) i ≡ false
unfolding transfer_of transfer_after
still_last h i e f =
    let p = response_there h i (omega arith) in
    elim (cases_Bool (is_transferring_of h (length h) i)) [
      | inl t ↦
          let g : chunks_of h i ≡ None = rw (e, t) at f in
          let k = chunks_of-form h i p.0 p.1 in
          absurd (let no : ⊥ = cc in no)
      | inr u ↦ u
    ]

still_reached : (h : Trace) (i : ℕ) → Orderly h → transfer_of h ≡ None → i < response_count h
    → (e : ℕ) × (end_of h i ≡ Some e) × (e < length h)
still_reached h i o f l =
    elim (cases_eq (suc i) (response_count h)) [
      | inl last ↦
          let p = response_there h i l in
          let a = has_answer h p.0 i (o.timely i p.0 p.1) in
          end_reached h i a.snoop p.0 a.is_snoop p.1 p.2 (still_last h i (sym last) f)
      | inr other ↦ end_before_last h i o (omega (arith, other))
    ]

pub ends_to-still : (h : Trace) → Orderly h → transfer_of h ≡ None → EndsTo h (response_count h)
ends_to-still h o f = record { reached = λ i l. still_reached h i o f l; above = λ i l. end_past h i l }

-- where one is on the way the request that responded last has no end yet
moving_last : (h : Trace) (k n : ℕ) → response_count h ≡ n → transfer_after h n ≡ Some k
    → (i : ℕ) × (n ≡ suc i) × (is_transferring_of h (length h) i ≡ true) × (chunks_of h i ≡ Some k)
unfolding transfer_after
moving_last h k zero e f = absurd (let no : ⊥ = cc in no)
moving_last h k (suc i) e f =
    elim (cases_Bool (is_transferring_of h (length h) i)) [
      | inl t ↦ (i, refl, t, rw t at f)
      | inr u ↦ absurd (let g : None ≡ Some k = rw u at f in let no : ⊥ = cc in no)
    ]

pub transfer_parts : (h : Trace) (k : ℕ) → transfer_of h ≡ Some k
    → (i : ℕ) × (response_count h ≡ suc i) × (is_transferring_of h (length h) i ≡ true) × (chunks_of h i ≡ Some k)
unfolding transfer_of
transfer_parts h k f = moving_last h k (response_count h) refl f

pub ends_to-moving : (h : Trace) (k i : ℕ) → Orderly h → transfer_of h ≡ Some k → response_count h ≡ suc i → EndsTo h i
ends_to-moving h k i o f e =
    let p = transfer_parts h k f in
    let same : p.0 ≡ i = omega (arith, p.1) in
    let there = response_there h i (omega arith) in
    let on : is_transferring_of h (length h) i ≡ true =
    subst (λ j. is_transferring_of h (length h) j ≡ true) same p.2 in
    record {
      reached = λ j l. end_before_last h j o (omega arith);
      above = λ j l. elim (cases_eq i j) [
        | inl here ↦ subst (λ m. end_of h m ≡ None) here (end_not_reached h i there.0 there.1 on)
        | inr other ↦ end_past h j (omega (arith, other))
      ];
    }

-- in traces that agree up to the end of the first, an end below it is the end in both
pub end_of-back : (u v : Trace) (i e : ℕ) → AgreeTo (length u) u v → Orderly u → end_of v i ≡ Some e
    → e < length u → end_of u i ≡ Some e
end_of-back u v i e agree o f l =
    let p = end_of-response v i e f in
    let back = AgreeTo-sym (length u) u v agree in
    let r = response_clock_of-stays (length u) v u i p.0 back (omega (arith, p.2)) p.1 in
    let a = has_answer u p.0 i (o.timely i p.0 r) in
    let s = snoop_end_of-stays (length u) u v i a.snoop agree (omega (arith, a.before, p.2)) a.is_snoop in
    end_of-stays (length u) v u i a.snoop e back (omega (arith, a.before, p.2)) s l f

pub end_of-forth : (u v : Trace) (i e : ℕ) → AgreeTo (length u) u v → Orderly u → end_of u i ≡ Some e
    → e < length u → end_of v i ≡ Some e
end_of-forth u v i e agree o f l =
    let p = end_of-response u i e f in
    let a = has_answer u p.0 i (o.timely i p.0 p.1) in
    end_of-stays (length u) u v i a.snoop e agree (omega (arith, a.before, p.2)) a.is_snoop l f

-- an end of the new trace below the new clock is one of the old trace
pub end_of-old : (h : Trace) (x : Sample) (v : Trace) (i e : ℕ) → OneMore h x v → Orderly h
    → end_of v i ≡ Some e → e < length h → end_of h i ≡ Some e
end_of-old h x v i e m o f l = end_of-back h v i e m.agree o f l

-- an end of the old trace stays
pub end_of-kept : (h : Trace) (x : Sample) (v : Trace) (i e : ℕ) → OneMore h x v → Orderly h
    → end_of h i ≡ Some e → e < length h → end_of v i ≡ Some e
end_of-kept h x v i e m o f l = end_of-forth h v i e m.agree o f l
