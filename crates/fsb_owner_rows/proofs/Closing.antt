-- A row that is closed below a clock is closed below each later one, and its request has its end.
use Rattle.std.proofs.Common.{ℕ, ◌+◌, ◌<◌, ◌≤◌, ◌≡◌, Bool, true, false, cond, nat_lt, Option, Some, None}
use Rattle.std.proofs.Common.{length, refl, sym, ◌∙◌, arith, inl, inr}
use Rattle.std.specs.Option.{option_and_then}
use Rattle.std.proofs.lemmas.Bool.{and_parts, both_ways, false_from_ne_true, lt-ltb, ltb-true, or_cases, or_left, or_right}
use Rattle.fsb_count.specs.Options.{is_before}
use Rattle.fsb_count.proofs.Interface.{first_where-found, is_before-from, is_before-parts}
use Rattle.fsb_trace.specs.At.{Trace}
use Rattle.fsb_trace.specs.Flight.{is_live_reply_to, is_reply_to, reply_clock_of}
use Rattle.fsb_trace.specs.Requests.{is_live, live_number_of}
use Rattle.fsb_trace.specs.Outcome.{is_deferred, response_clock_of}
use Rattle.fsb_trace.specs.Response.{end_of}
use Rattle.fsb_trace.proofs.Interface.{live_clock_of-number}
use Rattle.fsb_laws.specs.Orderly.{Orderly}
use Rattle.fsb_laws.proofs.Interface.{deferred_response, end_after_clock}
use Rattle.fsb_owner_table.specs.declared.row.Row.{Row}
use Rattle.fsb_owner_table.specs.Kept.{is_row_closed, is_row_dropped, row_last_clock}
use Rattle.fsb_owner_table.specs.RowAfter.{is_row_deferred}
use Rattle.fsb_owner_table.specs.Rows.{reached, reached_by_reply, reply_at, row_at}
use Rattle.fsb_owner_table.proofs.KeptRows.{last_of}
use Rattle.fsb_owner_table.proofs.Reached.{reached-live, reached-parts}
use Rattle.fsb_owner_table.proofs.RowGoes.{deferred_is, reply_deferred}

before_more : (o : Option ℕ) (d c : ℕ) → d ≤ c → is_before o d ≡ true → is_before o c ≡ true
before_more o d c l t = let p = is_before-parts o d t in is_before-from o p.0 c p.1 (omega (arith, p.2))

dropped_more : (row : Row) (d c : ℕ) → d ≤ c → is_row_dropped row d ≡ true → is_row_dropped row c ≡ true
dropped_more row d c l t =
    let p = and_parts row.seen.cancelled (nat_lt (row.seen.clock + 3) d) t in
    let less : row.seen.clock + 3 < d = ltb-true _ _ p.1 in
    rw p.0 (lt-ltb _ _ (omega arith))

closed_more : (row : Row) (d c : ℕ) → d ≤ c → is_row_closed row d ≡ true → is_row_closed row c ≡ true
closed_more row d c l t =
    elim (or_cases _ _ t) [
      | inl dropped ↦ or_left _ _ (dropped_more row d c l dropped)
      | inr last ↦ or_right _ _ (before_more (row_last_clock row) d c l last)
    ]

-- what is not closed below c is closed below no earlier clock
pub closed_less : (row : Row) (d c : ℕ) → d ≤ c → is_row_closed row c ≡ false → is_row_closed row d ≡ false
closed_less row d c l f = false_from_ne_true _ (λ t. both_ways _ f (closed_more row d c l t))

by_reply : (v : Trace) (t : ℕ) (o : Option ℕ) → option_and_then (reached end_of v) o ≡ Some t
    → (p : ℕ) × (o ≡ Some p) × (reached end_of v p ≡ Some t)
by_reply v t None e = absurd (let no : ⊥ = cc in no)
by_reply v t (Some p) e = (p, refl, e)

-- a reply begins behind the response of the request that it answers
reply_behind : (v : Trace) (i p : ℕ) → reply_clock_of v i ≡ Some p
    → (is_live v p ≡ true) × (p < length v) × (is_before (response_clock_of v i) p ≡ true)
unfolding reply_clock_of is_live_reply_to is_reply_to
reply_behind v i p e =
    let f = first_where-found (is_live_reply_to v i) (length v) p e in
    let k = and_parts _ _ f.1 in
    (k.0, f.0, (and_parts _ _ k.1).1)

module _ (v : Trace) (orderly : Orderly v) (q d : ℕ) where
  ended_by_reply : (t : ℕ) → is_row_deferred (row_at v q) ≡ true → reached_by_reply end_of v q ≡ Some t → t < d
      → is_before (reached end_of v q) d ≡ true
  unfolding reached_by_reply
  ended_by_reply t deferred e less =
      let k = and_parts (is_live v q) (is_deferred v (live_number_of v q)) (sym (deferred_is v q) ∙ deferred) in
      let i : ℕ = live_number_of v q in
      let r = deferred_response v i k.1 in
      let b = by_reply v t (reply_at v q) e in
      let p : ℕ = b.0 in
      let behind = reply_behind v i p (sym (reply_deferred v q k.0 k.1) ∙ b.1) in
      let response = is_before-parts (response_clock_of v i) p behind.2 in
      let there = r.1 in
      let is = response.1 in
      let same : response.0 ≡ r.0 = cc in
      let end = reached-parts end_of v p t b.2 in
      let late = end_after_clock v (live_number_of v p) t orderly end.1 in
      let own = live_clock_of-number v p behind.1 behind.0 in
      let clock = late.1 in
      let at : late.0 ≡ p = cc in
      is_before-from (reached end_of v q) r.0 d (reached-live end_of v q k.0 ∙ r.2)
      (omega (arith, same, response.2, late.2, at, less))

  -- a row that has its last clock has its end before
  pub last_before : is_before (row_last_clock (row_at v q)) d ≡ true → is_before (reached end_of v q) d ≡ true
  last_before t =
      let p = is_before-parts (row_last_clock (row_at v q)) d t in
      by_deferral p.0 (is_row_deferred (row_at v q)) refl (sym (last_of v q) ∙ p.1) p.2
    where
      by_deferral : (e : ℕ) (b : Bool) → is_row_deferred (row_at v q) ≡ b
          → cond (is_row_deferred (row_at v q)) (reached_by_reply end_of v q) (reached end_of v q) ≡ Some e → e < d
          → is_before (reached end_of v q) d ≡ true
      by_deferral e true b f less = ended_by_reply e b (rw b at f) less
      by_deferral e false b f less = is_before-from (reached end_of v q) e d (rw b at f) less
