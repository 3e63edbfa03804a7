-- Who asks for a line, by the rows that are kept.
use Rattle.std.proofs.Common.{ℕ, ◌-◌, ◌≤◌, ◌≡◌, Bool, true, false, not, ◌&&◌, ◌||◌, List}
use Rattle.std.proofs.Common.{length, refl, ap, ◌∙◌, arith, inl, inr}
use Rattle.std.specs.List.{list_any}
use Rattle.std.proofs.lemmas.Bool.{and_parts, and_right, both_ways, false_from_ne_true, le-ltb, or_cases, or_left, or_right}
use Rattle.fsb_count.specs.Clocks.{any_where}
use Rattle.fsb_count.specs.Options.{is_at, is_before}
use Rattle.fsb_signal.specs.declared.lines.TheConstants.Lines.{ADS}
use Rattle.fsb_signal.specs.Samples.{line_at}
use Rattle.fsb_trace.specs.At.{Trace}
use Rattle.fsb_trace.specs.Flight.{has_ended, is_dropped, is_finished, is_in_flight, is_outstanding}
use Rattle.fsb_laws.proofs.Interface.{ads_before_end}
use Rattle.fsb_owners.specs.Shown.{agent_at, asks, is_held_back, is_open_at, is_still_asking, names}
use Rattle.fsb_owner_table.specs.declared.row.Row.{Row}
use Rattle.fsb_owner_table.specs.Kept.{is_row_closed, is_row_dropped}
use Rattle.fsb_owner_table.specs.Rows.{row_at}
use Rattle.fsb_owner_table.proofs.Closed.{closed_is, left_is}
use Rattle.fsb_owner_rows.specs.Kept.{AreKeptAt}
use Rattle.fsb_owner_rows.specs.OfRow.{is_row_open, is_row_outstanding, row_asks, row_asks_other}
use Rattle.fsb_owner_rows.proofs.AnyRow.{Agrees, any_below, any_rows}
use Rattle.fsb_owner_rows.proofs.Closing.{closed_less, last_before}
use Rattle.fsb_owner_rows.proofs.RowWords.{agent_is, asks_ads, asks_is, names_ads, names_is, open_is, outstanding_is}

-- some row passes where some request of which it is told passes
pub rows_pass : (p : Row → Bool) (t : ℕ → Bool) (rows : List Row) (v : Trace) (c : ℕ) → AreKeptAt rows v c → Agrees p t v
    → ((q : ℕ) → c ≤ q → t q ≡ false) → list_any p rows ≡ any_where t c
rows_pass p t rows v c k g none =
    ap (list_any p) k.kept ∙ any_rows g (length v - 1) ∙ any_below t c (length v - 1) (omega (arith, k.within)) none

-- outstanding requests

pub outstanding_closed : (v : Trace) (c q : ℕ) → is_outstanding v c q ≡ true → is_row_closed (row_at v q) c ≡ false
unfolding is_outstanding
outstanding_closed v c q t =
    let p = and_parts _ (not (is_finished v c q)) t in
    let d = and_parts _ (not (is_dropped v c q)) p.0 in
    closed_is (row_at v q) v q c refl ∙ open_both (is_dropped v c q) (is_finished v c q) d.1 p.1
  where
    open_both : (a b : Bool) → not a ≡ true → not b ≡ true → (a || b) ≡ false
    open_both a b e f = grind arith

pub outstanding_late : (v : Trace) (c q : ℕ) → c ≤ q → is_outstanding v c q ≡ false
unfolding is_outstanding
outstanding_late v c q l = rw (le-ltb q c l) (none (line_at ADS v q) _ _ _)
  where
    none : (a r d f : Bool) → ((((a && false) && r) && d) && f) ≡ false
    none a r d f = grind arith

still_agrees : (rows : List Row) (v : Trace) (line a c : ℕ) → AreKeptAt rows v c
    → Agrees (λ row. row_asks line a row && is_row_outstanding c row) (λ q. asks v line a q && is_outstanding v c q) v
still_agrees rows v line a c k = record {
  same = λ q t. rw (asks_is v line a q t, outstanding_is v c q t) refl;
  asks = λ q t. asks_ads v line a q (and_parts _ _ t).0;
  going = λ q t. closed_less (row_at v q) (length v - 3) c (omega (arith, k.late)) (outstanding_closed v c q (and_parts _ _ t).1);
}

pub still_asking : (rows : List Row) (v : Trace) (line a c : ℕ) → AreKeptAt rows v c
    → list_any (λ row. row_asks line a row && is_row_outstanding c row) rows ≡ is_still_asking v line a c
unfolding is_still_asking
still_asking rows v line a c k =
    rows_pass _ _ rows v c k (still_agrees rows v line a c k)
    (λ q l. and_right (asks v line a q) _ (outstanding_late v c q l))

-- open requests

open_late : (v : Trace) (c q : ℕ) → c ≤ q → is_open_at v c q ≡ false
unfolding is_open_at is_in_flight
open_late v c q l = rw (le-ltb q c l) (none (line_at ADS v q) _ _ _)
  where
    none : (a r d f : Bool) → ((((a && false) && r) && d) && f) ≡ false
    none a r d f = grind arith

open_parts : (v : Trace) (c q : ℕ) → is_open_at v c q ≡ true → (is_dropped v c q || has_ended v c q) ≡ false
unfolding is_open_at is_in_flight
open_parts v c q t =
    let p = and_parts _ _ t in
    let e = and_parts _ (not (has_ended v c q)) p.0 in
    let d = and_parts _ (not (is_dropped v c q)) e.0 in
    open_both (is_dropped v c q) (has_ended v c q) d.1 e.1
  where
    open_both : (a b : Bool) → not a ≡ true → not b ≡ true → (a || b) ≡ false
    open_both a b e f = grind arith

left_last : (rows : List Row) (v : Trace) (c q : ℕ) → AreKeptAt rows v c → is_row_closed (row_at v q) c ≡ true
    → (is_row_dropped (row_at v q) c || is_before (row_at v q).end c) ≡ true
unfolding row_at
left_last rows v c q k t =
    elim (or_cases _ _ t) [
      | inl dropped ↦ or_left _ _ dropped
      | inr last ↦ or_right _ _ (last_before v k.orderly q c last)
    ]

open_closed : (rows : List Row) (v : Trace) (c q : ℕ) → AreKeptAt rows v c → is_open_at v c q ≡ true
    → is_row_closed (row_at v q) c ≡ false
open_closed rows v c q k t =
    false_from_ne_true _ (λ closed.
    both_ways _ (left_is (row_at v q) v q c refl ∙ open_parts v c q t) (left_last rows v c q k closed))

held_agrees : (rows : List Row) (v : Trace) (line a c : ℕ) → AreKeptAt rows v c
    → Agrees (λ row. row_asks_other line a row && is_row_open c row)
    (λ q. (names v line q && not (is_at (agent_at v q) a)) && is_open_at v c q) v
held_agrees rows v line a c k = record {
  same = λ q t. rw (names_is v line q t, agent_is v q, open_is v c q t (ads_before_end v q t)) refl;
  asks = λ q t. names_ads v line q (and_parts _ _ (and_parts _ _ t).0).0;
  going = λ q t. closed_less (row_at v q) (length v - 3) c (omega (arith, k.late)) (open_closed rows v c q k (and_parts _ _ t).1);
}

pub held_back : (rows : List Row) (v : Trace) (line a c : ℕ) → AreKeptAt rows v c
    → list_any (λ row. row_asks_other line a row && is_row_open c row) rows ≡ is_held_back v line a c
unfolding is_held_back
held_back rows v line a c k =
    rows_pass _ _ rows v c k (held_agrees rows v line a c k)
    (λ q l. and_right (names v line q && not (is_at (agent_at v q) a)) _ (open_late v c q l))
