-- The rows of the requests to which a clock belongs.
use Rattle.std.proofs.Common.{ℕ, ◌+◌, ◌-◌, ◌<◌, ◌≤◌, ◌≡◌, Bool, true, false, cond, ◌&&◌, nat_eq, Option, Some, None, List}
use Rattle.std.proofs.Common.{length, refl, sym, ap, ◌∙◌, arith, inl, inr}
use Rattle.std.specs.List.{find}
use Rattle.std.specs.Option.{option_and_then, option_map}
use Rattle.std.proofs.lemmas.Bool.{and_parts, and_right, both_ways, cases_Bool, eq-eqb, eqb-true, false_from_ne_true, ne_eqb}
use Rattle.fsb_count.specs.Clocks.{first_where}
use Rattle.fsb_count.specs.Options.{is_at, is_some_and}
use Rattle.fsb_count.proofs.Interface.{first_where-at, first_where-off, first_where-same, is_at-some, is_before-parts}
use Rattle.fsb_signal.specs.declared.lines.TheConstants.Lines.{ADS}
use Rattle.fsb_signal.specs.Samples.{line_at}
use Rattle.fsb_trace.specs.At.{Trace}
use Rattle.fsb_trace.specs.Outcome.{response_clock_of}
use Rattle.fsb_trace.specs.Requests.{is_live, live_clock_of, live_count, live_number_of}
use Rattle.fsb_trace.specs.Response.{end_of}
use Rattle.fsb_trace.specs.Snoop.{snoop_end_of}
use Rattle.fsb_trace.proofs.Interface.{end_of-response, live_clock_of-number, snoop_end_of-clock}
use Rattle.fsb_laws.specs.Orderly.{Orderly}
use Rattle.fsb_laws.proofs.Interface.{ads_before_end, has_answer, is_live-ads}
use Rattle.fsb_owners.specs.Shown.{snooped_at}
use Rattle.fsb_owner_table.specs.declared.row.Row.{Row}
use Rattle.fsb_owner_table.specs.Kept.{is_row_closed}
use Rattle.fsb_owner_table.specs.Rows.{reached, row_at, snoop_at, snooped_by}
use Rattle.fsb_owner_table.proofs.Reached.{reached-parts}
use Rattle.fsb_owner_rows.specs.Kept.{AreKeptAt, answered_at}
use Rattle.fsb_owner_rows.proofs.Closing.{closed_less, last_before}
use Rattle.fsb_owner_rows.proofs.FindRow.{found_row, row_passes}
use Rattle.fsb_owner_rows.proofs.LiveTests.{by_number, first_live}
use Rattle.fsb_owner_rows.proofs.Origins.{closed_live}
use Rattle.fsb_owner_rows.proofs.RowWords.{clock_of}
use Rattle.fsb_owner_rows.proofs.UpgradeRows.{closed_late}

-- the request that begins

begun_test : (v : Trace) (c q : ℕ) → row_passes (λ row. nat_eq row.seen.clock c) v q ≡ (line_at ADS v q && nat_eq q c)
begun_test v c q = ap (λ k. line_at ADS v q && nat_eq k c) (clock_of v q)

begun_first : (v : Trace) (c n : ℕ) → c < n
    → first_where (λ q. line_at ADS v q && nat_eq q c) n ≡ cond (line_at ADS v c) (Some c) None
begun_first v c n l =
    elim (cases_Bool (line_at ADS v c)) [
      | inl t ↦
          first_where-at _ n c l (rw (t, eq-eqb c c refl) refl)
          (λ k less. and_right (line_at ADS v k) _ (ne_eqb k c (λ e. omega (arith, e, less))))
          ∙ sym (rw t refl)
      | inr f ↦
          first_where-off _ n (λ k less.
          false_from_ne_true _ (λ t.
          let p = and_parts (line_at ADS v k) (nat_eq k c) t in
          let same : k ≡ c = eqb-true k c p.1 in
          both_ways _ f (ap (line_at ADS v) (sym same) ∙ p.0)))
          ∙ sym (rw f refl)
    ]

map_cond : (v : Trace) (c : ℕ) (b : Bool) → option_map (row_at v) (cond b (Some c) None) ≡ cond b (Some (row_at v c)) None
map_cond v c true = refl
map_cond v c false = refl

begun_going : (rows : List Row) (v : Trace) (c q : ℕ) → AreKeptAt rows v c → nat_eq (row_at v q).seen.clock c ≡ true
    → is_row_closed (row_at v q) (length v - 3) ≡ false
begun_going rows v c q k t =
    let same : q ≡ c = sym (clock_of v q) ∙ eqb-true _ c t in
    closed_late v q (length v - 3) k.orderly (omega (arith, same, k.late))

pub begun : (rows : List Row) (v : Trace) (c : ℕ) → AreKeptAt rows v c → c + 1 < length v
    → find (λ row. nat_eq row.seen.clock c) rows ≡ cond (line_at ADS v c) (Some (row_at v c)) None
begun rows v c k l =
    ap (find (λ row. nat_eq row.seen.clock c)) k.kept
    ∙ found_row (λ row. nat_eq row.seen.clock c) v (λ q t there. begun_going rows v c q k t) (length v - 1)
    ∙ ap (option_map (row_at v))
    (first_where-same (row_passes (λ row. nat_eq row.seen.clock c) v) (λ q. line_at ADS v q && nat_eq q c) (length v - 1)
    (record { same = λ q less. begun_test v c q })
    ∙ begun_first v c (length v - 1) (omega (arith, l)))
    ∙ map_cond v c (line_at ADS v c)

-- the request whose snoop ends, or that responds

-- a row has the event at c, and so has its live request
pub record IsEvent (p : Row → Bool) (f : Trace → ℕ → Option ℕ) (v : Trace) (c : ℕ) : Type 0 where
  pub same : (q : ℕ) → row_passes p v q ≡ by_number v (λ j. is_at (f v j) c) q
  pub ends : (i e : ℕ) → f v i ≡ Some c → end_of v i ≡ Some e → c ≤ e
  pub late : (i q : ℕ) → f v i ≡ Some c → live_clock_of v i ≡ Some q → q + 1 < length v

module _ {p : Row → Bool} {f : Trace → ℕ → Option ℕ} {rows : List Row} {v : Trace} {c : ℕ} (k : AreKeptAt rows v c)
    (g : IsEvent p f v c) where
  event_parts : (q : ℕ) → by_number v (λ j. is_at (f v j) c) q ≡ true
      → (is_live v q ≡ true) × (f v (live_number_of v q) ≡ Some c)
  event_parts q t = let s = and_parts (is_live v q) _ t in (s.0, is_at-some _ c s.1)

  event_open : (q : ℕ) → by_number v (λ j. is_at (f v j) c) q ≡ true → is_row_closed (row_at v q) (length v - 3) ≡ false
  event_open q t =
      let s = event_parts q t in
      closed_less (row_at v q) (length v - 3) c (omega (arith, k.late))
      (closed_live v q c s.0 (false_from_ne_true _ (λ last.
      let e = is_before-parts (reached end_of v q) c (last_before v k.orderly q c last) in
      let r = reached-parts end_of v q e.0 e.1 in
      let bound = g.ends (live_number_of v q) e.0 s.1 r.1 in omega (arith, bound, e.2))))

  event_going : (q : ℕ) → p (row_at v q) ≡ true → line_at ADS v q ≡ true → is_row_closed (row_at v q) (length v - 3) ≡ false
  event_going q t there = event_open q (sym (g.same q) ∙ (rw (there, t) refl))

  event_late : (q : ℕ) → length v - 1 ≤ q → by_number v (λ j. is_at (f v j) c) q ≡ false
  event_late q l =
      false_from_ne_true _ (λ t.
      let s = event_parts q t in
      let own = live_clock_of-number v q (ads_before_end v q (is_live-ads v q s.0)) s.0 in
      let bound = g.late (live_number_of v q) q s.1 own in omega (arith, bound, l))

  pub event_row : find p rows
      ≡ option_map (row_at v) (option_and_then (live_clock_of v) (first_where (λ j. is_at (f v j) c) (live_count v)))
  event_row =
      ap (find p) k.kept
      ∙ found_row p v event_going (length v - 1)
      ∙ ap (option_map (row_at v))
      (first_where-same (row_passes p v) (by_number v (λ j. is_at (f v j) c)) (length v - 1)
      (record { same = λ q l. g.same q })
      ∙ first_live v (λ j. is_at (f v j) c) (length v - 1) event_late (first_where (λ j. is_at (f v j) c) (live_count v)) refl)

-- an event of a live request by its row
reached_test : (f : Trace → ℕ → Option ℕ) (v : Trace) (c q : ℕ)
    → (line_at ADS v q && is_at (reached f v q) c) ≡ by_number v (λ j. is_at (f v j) c) q
unfolding reached is_at is_some_and
reached_test f v c q =
    elim (cases_Bool (is_live v q)) [
      | inl t ↦ rw (t, is_live-ads v q t) refl
      | inr dead ↦ rw dead (and_right (line_at ADS v q) _ refl)
    ]

snoop_test : (v : Trace) (c q : ℕ) → is_some_and (row_at v q).snoop (λ s. nat_eq s.clock c) ≡ is_at (reached snoop_end_of v q) c
unfolding row_at snoop_at is_at snooped_by is_some_and
snoop_test v c q = by_clock (reached snoop_end_of v q)
  where
    by_clock : (o : Option ℕ) → is_some_and (option_map (snooped_by v) o) (λ s. nat_eq s.clock c) ≡ is_some_and o (λ m. nat_eq m c)
    by_clock None = refl
    by_clock (Some s) = refl

response_of_row : (v : Trace) (q : ℕ) → (row_at v q).response ≡ reached response_clock_of v q
unfolding row_at
response_of_row v q = refl

pub snoop_event : (v : Trace) (c : ℕ) → Orderly v → IsEvent (λ row. is_some_and row.snoop (λ s. nat_eq s.clock c)) snoop_end_of v c
snoop_event v c o = record {
  same = λ q. ap (λ b. line_at ADS v q && b) (snoop_test v c q) ∙ reached_test snoop_end_of v c q;
  ends = λ i e s f.
      let r = end_of-response v i e f in
      let a = has_answer v r.0 i (o.timely i r.0 r.1) in
      let is = a.is_snoop in
      let same : a.snoop ≡ c = cc in omega (arith, same, a.before, r.2);
  late = λ i q s f.
      let h = snoop_end_of-clock v i c s in
      let is = h.is_clock in
      let same : h.clock ≡ q = cc in omega (arith, same, h.above, h.within);
}

response_event : (v : Trace) (c : ℕ) → Orderly v → c < length v → IsEvent (λ row. is_at row.response c) response_clock_of v c
response_event v c o l = record {
  same = λ q. ap (λ m. line_at ADS v q && is_at m c) (response_of_row v q) ∙ reached_test response_clock_of v c q;
  ends = λ i e s f.
      let r = end_of-response v i e f in
      let is = r.1 in
      let same : r.0 ≡ c = cc in omega (arith, same, r.2);
  late = λ i q s f.
      let a = has_answer v c i (o.timely i c s) in
      let h = snoop_end_of-clock v i a.snoop a.is_snoop in
      let is = h.is_clock in
      let same : h.clock ≡ q = cc in omega (arith, same, h.above, a.before, l);
}

pub snooped : (rows : List Row) (v : Trace) (c : ℕ) → AreKeptAt rows v c
    → find (λ row. is_some_and row.snoop (λ s. nat_eq s.clock c)) rows
    ≡ option_map (row_at v) (option_and_then (live_clock_of v) (snooped_at v c))
unfolding snooped_at
snooped rows v c k = event_row k (snoop_event v c k.orderly)

pub answered : (rows : List Row) (v : Trace) (c : ℕ) → AreKeptAt rows v c
    → find (λ row. is_at row.response c) rows
    ≡ option_map (row_at v) (option_and_then (live_clock_of v) (answered_at v c))
unfolding answered_at
answered rows v c k = event_row k (response_event v c k.orderly k.within)
