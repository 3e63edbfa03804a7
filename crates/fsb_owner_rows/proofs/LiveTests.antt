-- Tests of live requests, by their numbers and by their first clocks.
use Rattle.std.proofs.Common.{ℕ, ◌+◌, ◌<◌, ◌≤◌, ◌≡◌, Bool, true, false, ◌&&◌, Option, Some, None}
use Rattle.std.proofs.Common.{length, sym, ap, ◌∙◌, arith, inl, inr}
use Rattle.std.specs.Option.{option_and_then}
use Rattle.std.proofs.lemmas.Bool.{and_parts, both_ways, cases_Bool, cases_eq, cases_lt, false_from_ne_true}
use Rattle.fsb_count.specs.Clocks.{any_where, first_where}
use Rattle.fsb_count.proofs.Interface.{any_where-at, any_where-found, any_where-none, any_where-off, first_where-at, first_where-found}
use Rattle.fsb_count.proofs.Interface.{first_where-none, first_where-off, nth_where-there}
use Rattle.fsb_trace.specs.At.{Trace}
use Rattle.fsb_trace.specs.Requests.{is_live, live_clock_of, live_count, live_number_of}
use Rattle.fsb_trace.proofs.Interface.{live_below_count, live_clock_of-number, live_clock_of-rises}
use Rattle.fsb_laws.proofs.Interface.{ads_before_end, is_live-ads}
use Rattle.fsb_owner_rows.proofs.RowWords.{numbered}

-- a live request passes by its number
abbrev pub by_number : Trace → (ℕ → Bool) → ℕ → Bool
by_number v f q = is_live v q && f (live_number_of v q)

-- a live request has its clock
pub live_there : (v : Trace) (i : ℕ) → i < live_count v → (q : ℕ) × (live_clock_of v i ≡ Some q)
unfolding live_count live_clock_of
live_there v i l = nth_where-there (is_live v) i (length v) l

-- the number of an earlier live request is less
number_less : (v : Trace) (k p q : ℕ) → live_clock_of v k ≡ Some q → p < q → is_live v p ≡ true → live_number_of v p < k
number_less v k p q e l live =
    let n = numbered v k q e in
    let own = live_clock_of-number v p (omega (arith, l, n.0)) live in
    let i : ℕ = live_number_of v p in
    elim (cases_lt i k) [
      | inl less ↦ less
      | inr more ↦ elim (cases_eq i k) [
        | inl same ↦
            let there : live_clock_of v k ≡ Some p = ap (live_clock_of v) (sym same) ∙ own in
            absurd (let at : p ≡ q = cc in omega (arith, at, l))
        | inr other ↦ absurd (let rises = live_clock_of-rises v k i q p (omega (arith, more, other)) e own in omega (arith, rises, l))
      ]
    ]

module _ (v : Trace) (f : ℕ → Bool) where
  passes_at : (i q : ℕ) → live_clock_of v i ≡ Some q → f i ≡ true → by_number v f q ≡ true
  passes_at i q e t = let n = numbered v i q e in rw (n.1, n.2) t

  -- some live request passes
  pub any_live : (n : ℕ) → length v ≤ n + 1 → ((q : ℕ) → n ≤ q → by_number v f q ≡ false)
      → any_where (by_number v f) n ≡ any_where f (live_count v)
  any_live n size late =
      elim (cases_Bool (any_where f (live_count v))) [
        | inl holds ↦
            let p = any_where-found f (live_count v) holds in
            let c = live_there v p.0 p.1 in
            let there = passes_at p.0 c.0 c.1 p.2 in
            elim (cases_lt c.0 n) [
              | inl l ↦ any_where-at (by_number v f) n c.0 l there ∙ sym holds
              | inr l ↦ absurd (both_ways _ (late c.0 l) there)
            ]
        | inr fails ↦
            any_where-off (by_number v f) n (λ q l.
            false_from_ne_true _ (λ t.
            let p = and_parts _ _ t in
            let inside : q < length v = in_trace q p.0 in
            both_ways _
            (any_where-none f (live_count v) fails (live_number_of v q)
            (live_below_count v _ q (live_clock_of-number v q inside p.0))) p.1))
            ∙ sym fails
      ]
    where
      in_trace : (q : ℕ) → is_live v q ≡ true → q < length v
      in_trace q live = ads_before_end v q (is_live-ads v q live)

  -- the first live request that passes
  pub first_live : (n : ℕ) → ((q : ℕ) → n ≤ q → by_number v f q ≡ false) → (o : Option ℕ) → first_where f (live_count v) ≡ o
      → first_where (by_number v f) n ≡ option_and_then (live_clock_of v) o
  first_live n late None e =
      first_where-off (by_number v f) n (λ q l.
      false_from_ne_true _ (λ t.
      let p = and_parts _ _ t in
      both_ways _
      (first_where-none f (live_count v) e (live_number_of v q)
      (live_below_count v _ q (live_clock_of-number v q (ads_before_end v q (is_live-ads v q p.0)) p.0))) p.1))
  first_live n late (Some i) e =
      let p = first_where-found f (live_count v) i e in
      let c = live_there v i p.0 in
      let there = passes_at i c.0 c.1 p.1 in
      elim (cases_lt c.0 n) [
        | inr l ↦ absurd (both_ways _ (late c.0 l) there)
        | inl l ↦
            first_where-at (by_number v f) n c.0 l there (λ k less.
            false_from_ne_true _ (λ t.
            let q = and_parts _ _ t in
            both_ways _ (p.2 (live_number_of v k) (number_less v i k c.0 c.1 less q.0)) q.1))
            ∙ sym c.1
      ]
