-- What a row shows of its line, and what the trace says of it.
use Rattle.std.proofs.Common.{ℕ, ◌<◌, ◌≡◌, Bool, true, false, not, ◌&&◌, ◌||◌, nat_lt, Option, Some, None}
use Rattle.std.proofs.Common.{length, refl, sym, ap, ◌∙◌, arith, inl, inr}
use Rattle.std.specs.Option.{option_map}
use Rattle.std.proofs.lemmas.Bool.{and_parts, both_ways, cases_Bool, false_from_ne_true}
use Rattle.fsb_count.specs.Options.{is_at, is_before, is_some_and}
use Rattle.fsb_count.specs.Clocks.{any_where}
use Rattle.fsb_count.proofs.Interface.{any_where-at, any_where-off, is_at-from, is_at-some, nth_where-found}
use Rattle.fsb_signal.specs.declared.lines.TheConstants.Lines.{ADS}
use Rattle.fsb_signal.specs.Samples.{line_at}
use Rattle.fsb_trace.specs.At.{Trace, request_at}
use Rattle.fsb_trace.specs.Flight.{has_ended, is_dropped, is_finished, is_in_flight, is_outstanding}
use Rattle.fsb_trace.specs.Requests.{is_live, is_reply, live_clock_of, live_count, live_number_of, seen_at}
use Rattle.fsb_trace.specs.Snoop.{snoop_end_of}
use Rattle.fsb_trace.proofs.Interface.{live_below_count, live_clock_of-number}
use Rattle.fsb_owners.specs.Shown.{agent_at, asks, is_open_at, names, purpose_at}
use Rattle.fsb_owner_table.specs.Rows.{reached, row_at, snoop_at, snooped_by}
use Rattle.fsb_owner_table.proofs.Closed.{closed_is, left_is}
use Rattle.fsb_owner_table.proofs.Reached.{reached-live}
use Rattle.fsb_owner_rows.specs.OfRow.{is_row_open, is_row_outstanding, row_agent, row_asks, row_names, row_purpose}

pub names_is : (v : Trace) (line q : ℕ) → line_at ADS v q ≡ true → row_names line (row_at v q) ≡ names v line q
unfolding row_at seen_at names
names_is v line q t = rw t refl

pub agent_is : (v : Trace) (q : ℕ) → row_agent (row_at v q) ≡ agent_at v q
unfolding row_at seen_at agent_at
agent_is v q = refl

pub purpose_is : (v : Trace) (q : ℕ) → row_purpose (row_at v q) ≡ purpose_at v q
unfolding row_at seen_at purpose_at
purpose_is v q = refl

pub asks_is : (v : Trace) (line a q : ℕ) → line_at ADS v q ≡ true → row_asks line a (row_at v q) ≡ asks v line a q
unfolding asks
asks_is v line a q t = rw (names_is v line q t, agent_is v q) refl

pub names_ads : (v : Trace) (line q : ℕ) → names v line q ≡ true → line_at ADS v q ≡ true
unfolding names
names_ads v line q t = (and_parts _ _ (and_parts _ _ t).0).0

pub asks_ads : (v : Trace) (line a q : ℕ) → asks v line a q ≡ true → line_at ADS v q ≡ true
unfolding asks
asks_ads v line a q t = names_ads v line q (and_parts _ _ t).0

pub clock_of : (v : Trace) (q : ℕ) → (row_at v q).seen.clock ≡ q
unfolding row_at seen_at
clock_of v q = refl

pub request_is : (v : Trace) (q : ℕ) → (row_at v q).seen.request ≡ request_at v q
unfolding row_at seen_at
request_is v q = refl

neither : (l r d f : Bool) → ((l && not r) && not (d || f)) ≡ ((((true && l) && not r) && not d) && not f)
neither l r d f = grind arith

-- outstanding
pub outstanding_is : (v : Trace) (c q : ℕ) → line_at ADS v q ≡ true
    → is_row_outstanding c (row_at v q) ≡ is_outstanding v c q
unfolding is_outstanding
outstanding_is v c q t =
    rw (t, closed_is (row_at v q) v q c refl, clock_of v q, request_is v q)
    (neither (nat_lt q c) (is_reply (request_at v q)) (is_dropped v c q) (is_finished v c q))

-- the snoop end
pub snoop_before : (v : Trace) (c q : ℕ) → is_some_and (row_at v q).snoop (λ s. nat_lt s.clock c) ≡ is_before (reached snoop_end_of v q) c
unfolding row_at snoop_at snooped_by is_before is_some_and
snoop_before v c q = by_clock (reached snoop_end_of v q)
  where
    by_clock : (o : Option ℕ) → is_some_and (option_map (snooped_by v) o) (λ s. nat_lt s.clock c) ≡ is_before o c
    by_clock None = refl
    by_clock (Some s) = refl

pub numbered : (v : Trace) (i q : ℕ) → live_clock_of v i ≡ Some q
    → (q < length v) × (is_live v q ≡ true) × (live_number_of v q ≡ i)
unfolding live_clock_of live_number_of
numbered v i q e = nth_where-found (is_live v) i (length v) q e

reached_dead_before : (v : Trace) (q c : ℕ) → is_live v q ≡ false → is_before (reached snoop_end_of v q) c ≡ false
unfolding reached is_before is_some_and
reached_dead_before v q c f = rw f refl

-- the request at q has its snoop end below c, by its number
pub snooped_below : (v : Trace) (c q : ℕ) → q < length v
    → any_where (λ j. is_at (live_clock_of v j) q && is_before (snoop_end_of v j) c) (live_count v)
    ≡ is_before (reached snoop_end_of v q) c
snooped_below v c q l =
    elim (cases_Bool (is_before (reached snoop_end_of v q) c)) [
      | inl holds ↦
          elim (cases_Bool (is_live v q)) [
            | inl live ↦
                let own = live_clock_of-number v q l live in
                let j : ℕ = live_number_of v q in
                any_where-at _ (live_count v) j (live_below_count v j q own)
                (rw (is_at-from (live_clock_of v j) q own) (ap (λ o. is_before o c) (sym (reached-live snoop_end_of v q live)) ∙ holds))
                ∙ sym holds
            | inr dead ↦ absurd (both_ways _ (reached_dead_before v q c dead) holds)
          ]
      | inr fails ↦
          any_where-off _ (live_count v) (λ j less.
          false_from_ne_true _ (λ t.
          let p = and_parts (is_at (live_clock_of v j) q) (is_before (snoop_end_of v j) c) t in
          let k = numbered v j q (is_at-some (live_clock_of v j) q p.0) in
          let own : reached snoop_end_of v q ≡ snoop_end_of v j =
          reached-live snoop_end_of v q k.1 ∙ ap (snoop_end_of v) k.2 in
          both_ways _ fails (ap (λ o. is_before o c) own ∙ p.1)))
          ∙ sym fails
    ]

open_form : (l d f s : Bool) → ((l && not (d || f)) && not s) ≡ ((((true && l) && not d) && not f) && not s)
open_form l d f s = grind arith

-- open
pub open_is : (v : Trace) (c q : ℕ) → line_at ADS v q ≡ true → q < length v
    → is_row_open c (row_at v q) ≡ is_open_at v c q
unfolding is_open_at is_in_flight
open_is v c q t l =
    rw (t, left_is (row_at v q) v q c refl, clock_of v q, snoop_before v c q, snooped_below v c q l)
    (open_form (nat_lt q c) (is_dropped v c q) (has_ended v c q) (is_before (reached snoop_end_of v q) c))
