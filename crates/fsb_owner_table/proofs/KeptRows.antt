-- Which rows are kept, one sample on.
use Rattle.std.proofs.Common.{ℕ, ◌+◌, ◌-◌, ◌<◌, ◌≤◌, ◌≡◌, Bool, true, false, cond, not, ◌&&◌, ◌||◌, Option, Some, None, nat_lt}
use Rattle.std.proofs.Common.{length, refl, sym, ap, ◌∙◌, arith, inl, inr, subst}
use Rattle.std.specs.Option.{option_and_then}
use Rattle.std.proofs.lemmas.Option.{same_Some}
use Rattle.std.proofs.lemmas.Bool.{and_parts, both_ways, cases_Bool, false_from_ne_true, lt-ltb, ltb-true, and_right, or_cases, or_left, or_right}
use Rattle.fsb_count.specs.Options.{is_before, is_some_and}
use Rattle.fsb_count.proofs.Interface.{is_before-parts, is_before-from}
use Rattle.fsb_signal.specs.declared.lines.TheConstants.Lines.{ADS}
use Rattle.fsb_signal.specs.declared.sample.Sample.{Sample}
use Rattle.fsb_signal.specs.Samples.{line_at}
use Rattle.fsb_trace.specs.At.{Trace}
use Rattle.fsb_trace.specs.Requests.{is_cancelled, is_live, live_number_of, seen_at}
use Rattle.fsb_trace.specs.Snoop.{snoop_end_of}
use Rattle.fsb_trace.specs.Outcome.{is_deferred, response_clock_of}
use Rattle.fsb_trace.specs.Response.{end_of}
use Rattle.fsb_trace.proofs.Interface.{end_of-response}
use Rattle.fsb_laws.specs.OneMore.{OneMore, cancels}
use Rattle.fsb_laws.specs.Orderly.{Orderly}
use Rattle.fsb_laws.proofs.Interface.{is_cancelled-late, is_live-ads, is_live-more, line_at-old, newly_deferred}
use Rattle.fsb_owner_table.specs.declared.happened.Happened.{Happened}
use Rattle.fsb_owner_table.specs.declared.row.Row.{Row}
use Rattle.fsb_owner_table.specs.Rows.{reached, reached_by_reply, reply_at, row_at}
use Rattle.fsb_owner_table.specs.RowAfter.{is_row_deferred, reply_after}
use Rattle.fsb_owner_table.specs.Happened.{Goes, Happens}
use Rattle.fsb_owner_table.specs.Kept.{IsKept, is_row_closed, is_row_dropped, kept_at, left_in, row_last_clock}
use Rattle.fsb_owner_table.proofs.Reached.{AreClocks, end_clocks, reached-forth, reached-parts, response_clocks}
use Rattle.fsb_owner_table.proofs.RowGoes.{cancelled_goes, deferred_is, number, reply_goes, of_live_reply, reply_plain, second_false}

-- the clock of the reply, where it is reached
by_reply_parts : (f : Trace → ℕ → Option ℕ) (w : Trace) (q t : ℕ) (o : Option ℕ) → reply_at w q ≡ o
    → option_and_then (reached f w) o ≡ Some t → (p : ℕ) × (reply_at w q ≡ Some p) × (reached f w p ≡ Some t)
by_reply_parts f w q t None e k = absurd (let no : ⊥ = cc in no)
by_reply_parts f w q t (Some p) e k = (p, e, k)

by_reply_from : (f : Trace → ℕ → Option ℕ) (w : Trace) (q p t : ℕ) → reply_at w q ≡ Some p → reached f w p ≡ Some t
    → reached_by_reply f w q ≡ Some t
unfolding reached_by_reply
by_reply_from f w q p t e k = rw e k

by_reply : (f : Trace → ℕ → Option ℕ) (w : Trace) (q t : ℕ) → reached_by_reply f w q ≡ Some t
    → (p : ℕ) × (reply_at w q ≡ Some p) × (reached f w p ≡ Some t)
unfolding reached_by_reply
by_reply f w q t e = by_reply_parts f w q t (reply_at w q) refl e

-- a request that has a reply is Deferred
replied_deferred : (w : Trace) (q p : ℕ) → reply_at w q ≡ Some p → is_row_deferred (row_at w q) ≡ true
replied_deferred w q p e =
    elim (cases_Bool (is_live w q && is_deferred w (live_number_of w q))) [
      | inl t ↦ deferred_is w q ∙ t
      | inr f ↦ absurd (let none = reply_plain w q f in let no : ⊥ = cc in no)
    ]

pub last_of : (w : Trace) (q : ℕ) → row_last_clock (row_at w q)
    ≡ cond (is_row_deferred (row_at w q)) (reached_by_reply end_of w q) (reached end_of w q)
unfolding row_at
last_of w q = refl

pub dropped_of : (w : Trace) (q c : ℕ) → is_row_dropped (row_at w q) c ≡ (is_cancelled w q && nat_lt (q + 3) c)
unfolding row_at seen_at
dropped_of w q c = refl

module _ {h : Trace} {x : Sample} {v : Trace} {happened : Happened} {q : ℕ} (g : Goes h x v happened q (row_at h q)) where
  more : OneMore h x v
  more = g.happens.more

  less : q < length h
  less = omega (arith, g.decoded)

  ends : AreClocks end_of h v
  ends = end_clocks more g.happens.orderly g.happens.after

  last_reply : (t : ℕ) → reached_by_reply end_of h q ≡ Some t → row_last_clock (row_at v q) ≡ Some t
  last_reply t e =
      let r = by_reply end_of h q t e in
      let p : ℕ = r.0 in
      let k = of_live_reply g p r.1 in
      let asks : line_at ADS h p ≡ true = is_live-ads h p k.0 in
      let there = reached-forth ends more g.happens.orderly.spaced p asks k.1 t r.2 in
      let live = (reached-parts end_of v p t there).0 in
      let stays : cancels x (length h) p ≡ false =
      false_from_ne_true _ (λ c. both_ways _ (is_live-more h x v p more k.1 ∙ (rw c (and_right _ _ refl))) live) in
      let now : reply_at v q ≡ Some p =
      sym (reply_goes g) ∙ ap (reply_after (row_at h q) happened) r.1 ∙ (rw (g.happens.cancelled p, stays) refl) in
      last_of v q ∙ (rw (replied_deferred v q p now) (by_reply_from end_of v q p t now there))

  still_plain : (t : ℕ) → is_row_deferred (row_at h q) ≡ false → reached end_of h q ≡ Some t
      → is_row_deferred (row_at v q) ≡ false
  still_plain t f e =
      false_from_ne_true _ (λ d.
      let parts = and_parts (is_live v q) (is_deferred v (live_number_of v q)) (sym (deferred_is v q) ∙ d) in
      let old = reached-parts end_of h q t e in
      let i : ℕ = live_number_of h q in
      let not_yet : is_deferred h i ≡ false = second_false _ _ (sym (deferred_is h q) ∙ f) old.0 in
      let now = newly_deferred h x v i more g.happens.orderly not_yet (ap (is_deferred v) (number g) ∙ parts.1) in
      let r = end_of-response h i t old.1 in
      let kept = (response_clocks more g.happens.orderly g.happens.after).forth i r.0 r.1 in
      let at : response_clock_of v i ≡ Some (length h) = now.response in
      let same : r.0 ≡ length h = cc in
      absurd (omega (arith, same, r.2, ends.inside i t old.1)))

  last_own : (t : ℕ) → is_row_deferred (row_at h q) ≡ false → reached end_of h q ≡ Some t
      → row_last_clock (row_at v q) ≡ Some t
  last_own t f e =
      last_of v q
      ∙ (rw (still_plain t f e) (reached-forth ends more g.happens.orderly.spaced q g.asks less t e))

  last_stays : (t : ℕ) → row_last_clock (row_at h q) ≡ Some t → row_last_clock (row_at v q) ≡ Some t
  last_stays t e =
      elim (cases_Bool (is_row_deferred (row_at h q))) [
        | inl d ↦ last_reply t (let k = sym (last_of h q) ∙ e in rw d at k)
        | inr f ↦ last_own t f (let k = sym (last_of h q) ∙ e in rw f at k)
      ]

  dropped_stays : (c d : ℕ) → c ≤ d → is_row_dropped (row_at h q) c ≡ true → is_row_dropped (row_at v q) d ≡ true
  dropped_stays c d l t =
      let p = and_parts (is_cancelled h q) (nat_lt (q + 3) c) (sym (dropped_of h q c) ∙ t) in
      let early : q + 3 < c = ltb-true (q + 3) c p.1 in
      let before : nat_lt (q + 3) d ≡ true = lt-ltb (q + 3) d (omega (arith, early, l)) in
      let cancelled : is_cancelled v q ≡ true = cancelled_goes g ∙ or_left _ _ p.0 in
      dropped_of v q d ∙ (rw (cancelled, before) refl)

  pub closed_stays : (c d : ℕ) → c ≤ d → is_row_closed (row_at h q) c ≡ true → is_row_closed (row_at v q) d ≡ true
  closed_stays c d l t =
      elim (or_cases _ _ t) [
        | inl dropped ↦ or_left _ _ (dropped_stays c d l dropped)
        | inr last ↦
            let p = is_before-parts (row_last_clock (row_at h q)) c last in
            or_right _ _ (is_before-from (row_last_clock (row_at v q)) p.0 d (last_stays p.0 p.1) (omega (arith, p.2)))
      ]

-- what is left of a row that is kept

pub not_kept : (w : Trace) (q : ℕ) → (line_at ADS w q && not (is_row_closed (row_at w q) (length w - 3))) ≡ false
    → kept_at w q ≡ None
unfolding kept_at
not_kept w q f = rw f refl

pub kept_is : (w : Trace) (q : ℕ) → line_at ADS w q ≡ true
    → kept_at w q ≡ cond (not (is_row_closed (row_at w q) (length w - 3))) (Some (row_at w q)) None
unfolding kept_at
kept_is w q t = rw t refl

pub clock_is : (w : Trace) (q : ℕ) → (row_at w q).seen.clock ≡ q
unfolding row_at seen_at
clock_is w q = refl

-- a row that is kept, by its parts
pub kept_parts : (w : Trace) (q : ℕ) (row : Row) → kept_at w q ≡ Some row → (line_at ADS w q ≡ true) × (row ≡ row_at w q)
unfolding kept_at
kept_parts w q row e =
    elim (cases_Bool (line_at ADS w q && not (is_row_closed (row_at w q) (length w - 3)))) [
      | inl t ↦ ((and_parts _ _ t).0, sym (same_Some _ _ (rw t at e)))
      | inr f ↦ absurd (let none = rw f at e in let no : ⊥ = cc in no)
    ]

pub of_kept : (h : Trace) (x : Sample) (v : Trace) (happened : Happened) (row : Row) → Happens h x v happened
    → IsKept h row → Goes h x v happened row.seen.clock row
of_kept h x v happened row g k =
    let p = kept_parts h row.seen.clock row k.is in
    record { happens = g; asks = p.0; decoded = k.decoded; is_row = p.1 }

module _ {h : Trace} {x : Sample} {v : Trace} {happened : Happened} (g : Happens h x v happened) where
  goes_at : (q : ℕ) → line_at ADS h q ≡ true → q + 1 < length h → Goes h x v happened q (row_at h q)
  goes_at q t l = record { happens = g; asks = t; decoded = l; is_row = refl }

  step_asked : (q : ℕ) → line_at ADS h q ≡ true → q + 1 < length h → (b : Bool)
      → is_row_closed (row_at h q) (length h - 3) ≡ b
      → kept_at v q ≡ option_and_then (left_in v) (cond (not b) (Some (row_at h q)) None)
  step_asked q t l true c =
      let size : length v ≡ length h + 1 = g.more.size in
      kept_is v q (line_at-old ADS h x v q g.more (omega (arith, l)) ∙ t)
      ∙ rw (closed_stays (goes_at q t l) (length h - 3) (length v - 3) (omega (arith, size)) c) refl
  step_asked q t l false c = ap (kept_at v) (sym (clock_is h q))

  pub kept_step : (q : ℕ) → q + 1 < length h → kept_at v q ≡ option_and_then (left_in v) (kept_at h q)
  kept_step q l =
      elim (cases_Bool (line_at ADS h q)) [
        | inl t ↦
            step_asked q t l (is_row_closed (row_at h q) (length h - 3)) refl
            ∙ ap (option_and_then (left_in v)) (sym (kept_is h q t))
        | inr f ↦
            let old : line_at ADS v q ≡ false = line_at-old ADS h x v q g.more (omega (arith, l)) ∙ f in
            not_kept v q (rw old refl)
            ∙ ap (option_and_then (left_in v)) (sym (not_kept h q (rw f refl)))
      ]

-- what is kept of the row after the sample
pub kept_after : {h : Trace} {x : Sample} {v : Trace} {happened : Happened} {q : ℕ} {row new : Row} → Goes h x v happened q row
    → (old : ℕ) (b : Bool) → old ≡ length v - 3 → new ≡ row_at v q → b ≡ not (is_row_closed new old)
    → cond b (Some new) None ≡ kept_at v q
kept_after {h} {x} {v} {happened} {q} {row} {new} g old b is same told =
    rw (told, same, is)
    (sym (kept_is v q (line_at-old ADS h x v q g.happens.more (omega (arith, g.decoded)) ∙ g.asks)))
