-- Upgrades of a line that are under way, by the rows that are kept.
use Rattle.std.proofs.Common.{ℕ, ◌+◌, ◌-◌, ◌<◌, ◌≤◌, ◌≡◌, Bool, true, false, ◌&&◌, ◌||◌, nat_eq, nat_lt, List}
use Rattle.std.proofs.Common.{length, refl, sym, ap, ◌∙◌, arith, inl, inr}
use Rattle.std.specs.List.{list_any}
use Rattle.std.proofs.lemmas.Bool.{and_parts, and_right, eqb-true, false_from_ne_true, ltb-true, ne_eqb, or_cases}
use Rattle.fsb_count.specs.Options.{is_before}
use Rattle.fsb_count.proofs.Interface.{is_before-parts}
use Rattle.fsb_trace.specs.At.{Trace, request_at}
use Rattle.fsb_trace.specs.Flight.{is_outstanding}
use Rattle.fsb_trace.specs.Requests.{is_cancelled, is_upgrade, live_number_of}
use Rattle.fsb_trace.specs.Response.{end_of}
use Rattle.fsb_trace.proofs.Interface.{live_clock_of-number}
use Rattle.fsb_laws.specs.Orderly.{Orderly}
use Rattle.fsb_laws.proofs.Interface.{ads_before_end, end_after_clock, is_live-ads}
use Rattle.fsb_owners.specs.Shown.{asks, is_upgrading}
use Rattle.fsb_owner_table.specs.declared.row.Row.{Row}
use Rattle.fsb_owner_table.specs.Kept.{is_row_closed, is_row_dropped, row_last_clock}
use Rattle.fsb_owner_table.specs.Rows.{reached, row_at}
use Rattle.fsb_owner_table.proofs.KeptRows.{dropped_of}
use Rattle.fsb_owner_table.proofs.Reached.{reached-parts}
use Rattle.fsb_owner_rows.specs.Kept.{AreKeptAt}
use Rattle.fsb_owner_rows.specs.OfRow.{row_upgrades}
use Rattle.fsb_owner_rows.proofs.AnyRow.{Agrees, any_below, any_rows}
use Rattle.fsb_owner_rows.proofs.Askers.{outstanding_closed, outstanding_late}
use Rattle.fsb_owner_rows.proofs.Closing.{closed_less, last_before}
use Rattle.fsb_owner_rows.proofs.RowWords.{asks_ads, asks_is, clock_of, outstanding_is, request_is}

-- no request is closed below its first clock
pub closed_late : (v : Trace) (q d : ℕ) → Orderly v → d ≤ q → is_row_closed (row_at v q) d ≡ false
closed_late v q d o l =
    false_from_ne_true (is_row_closed (row_at v q) d) (λ (t : is_row_closed (row_at v q) d ≡ true).
    elim (or_cases (is_row_dropped (row_at v q) d) (is_before (row_last_clock (row_at v q)) d) t) [
      | inl dropped ↦
          let p = and_parts (is_cancelled v q) (nat_lt (q + 3) d) (sym (dropped_of v q d) ∙ dropped) in
          let less : q + 3 < d = ltb-true (q + 3) d p.1 in omega (arith, less, l)
      | inr last ↦
          let e = is_before-parts (reached end_of v q) d (last_before v o q d last) in
          let r = reached-parts end_of v q e.0 e.1 in
          let late = end_after_clock v (live_number_of v q) e.0 o r.1 in
          let own = live_clock_of-number v q (ads_before_end v q (is_live-ads v q r.0)) r.0 in
          let clock = late.1 in
          let same : late.0 ≡ q = cc in
          omega (arith, same, late.2, e.2, l)
    ])

-- an upgrade of the line by the agent that begins at c or is outstanding there
upgrades_at : Trace → ℕ → ℕ → ℕ → ℕ → Bool
upgrades_at v line a c q = asks v line a q && is_upgrade (request_at v q) && (nat_eq q c || is_outstanding v c q)

late_upgrade : (v : Trace) (line a c q : ℕ) → c + 1 ≤ q → upgrades_at v line a c q ≡ false
unfolding upgrades_at
late_upgrade v line a c q l =
    and_right (asks v line a q && is_upgrade (request_at v q)) _
    (rw (ne_eqb q c (λ e. omega (arith, e, l)), outstanding_late v c q (omega (arith, l))) refl)

upgrade_agrees : (rows : List Row) (v : Trace) (line a c : ℕ) → AreKeptAt rows v c
    → Agrees (row_upgrades line a c) (upgrades_at v line a c) v
unfolding upgrades_at
upgrade_agrees rows v line a c k = record {
  same = λ q t. rw (outstanding_is v c q t, asks_is v line a q t, request_is v q, clock_of v q) refl;
  asks = λ q t. asks_ads v line a q (and_parts _ _ (and_parts _ _ t).0).0;
  going = λ q t.
      elim (or_cases (nat_eq q c) (is_outstanding v c q) (and_parts _ _ t).1) [
        | inl here ↦
            let same : q ≡ c = eqb-true q c here in
            closed_late v q (length v - 3) k.orderly (omega (arith, same, k.late))
        | inr out ↦ closed_less (row_at v q) (length v - 3) c (omega (arith, k.late)) (outstanding_closed v c q out)
      ];
}

pub upgrading : (rows : List Row) (v : Trace) (line a c : ℕ) → AreKeptAt rows v c → c + 1 < length v
    → list_any (row_upgrades line a c) rows ≡ is_upgrading v line a c
unfolding is_upgrading upgrades_at
upgrading rows v line a c k l =
    ap (list_any (row_upgrades line a c)) k.kept
    ∙ any_rows (upgrade_agrees rows v line a c k) (length v - 1)
    ∙ any_below (upgrades_at v line a c) (c + 1) (length v - 1) (omega (arith, l)) (late_upgrade v line a c)
