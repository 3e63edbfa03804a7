-- The request that counts at a reply, by the rows that are kept.
use Rattle.std.proofs.Common.{ℕ, ◌-◌, ◌<◌, ◌≤◌, ◌≡◌, Bool, true, false, not, ◌&&◌, nat_eq, Option, Some, None, List}
use Rattle.std.proofs.Common.{length, refl, sym, ap, ◌∙◌, arith, inl, inr}
use Rattle.std.specs.List.{find}
use Rattle.std.specs.Option.{option_and_then, option_map}
use Rattle.std.proofs.lemmas.Bool.{and_parts, and_right, both_ways, cases_Bool, cases_eq, eq-eqb, false_from_ne_true, ne_eqb}
use Rattle.fsb_count.specs.Clocks.{first_where}
use Rattle.fsb_count.specs.Options.{is_at, is_before, is_some_and}
use Rattle.fsb_count.proofs.Interface.{first_where-same, is_at-some, nth_where-found}
use Rattle.fsb_signal.specs.declared.lines.TheConstants.Lines.{ADS}
use Rattle.fsb_signal.specs.Samples.{line_at}
use Rattle.fsb_trace.specs.At.{Trace, responds_at}
use Rattle.fsb_trace.specs.Flight.{reply_clock_of, reply_number_of}
use Rattle.fsb_trace.specs.Outcome.{is_deferred, response_clock_of}
use Rattle.fsb_trace.specs.Requests.{is_cancelled, is_live, is_reply, live_clock_of, live_count, live_number_of, live_request_of}
use Rattle.fsb_trace.specs.Response.{end_of}
use Rattle.fsb_trace.proofs.Interface.{live_clock_of-number}
use Rattle.fsb_laws.specs.Orderly.{Orderly}
use Rattle.fsb_laws.proofs.Interface.{ads_before_end, deferred_response, end_after_clock, is_live-ads, live_of_reply}
use Rattle.fsb_owners.specs.Shown.{is_reply_of, origin_clock_of, origin_of}
use Rattle.fsb_owner_table.specs.declared.row.Row.{Row}
use Rattle.fsb_owner_table.specs.Kept.{is_row_closed, row_last_clock}
use Rattle.fsb_owner_table.specs.RowAfter.{is_row_deferred}
use Rattle.fsb_owner_table.specs.Rows.{reached, reached_by_reply, reply_at, row_at}
use Rattle.fsb_owner_table.proofs.KeptRows.{dropped_of, last_of}
use Rattle.fsb_owner_table.proofs.RowGoes.{deferred_is, reply_deferred, reply_plain, request_of}
use Rattle.fsb_owner_rows.specs.Kept.{AreKeptAt}
use Rattle.fsb_owner_rows.specs.OfRow.{row_origin}
use Rattle.fsb_owner_rows.proofs.Closing.{closed_less}
use Rattle.fsb_owner_rows.proofs.FindRow.{found_row, row_passes}
use Rattle.fsb_owner_rows.proofs.LiveTests.{by_number, first_live}
use Rattle.fsb_owner_rows.proofs.RowWords.{clock_of, numbered, request_is}

reply_of_row : (v : Trace) (q : ℕ) → (row_at v q).reply ≡ reply_at v q
unfolding row_at
reply_of_row v q = refl

-- a request that has a reply is live and Deferred
reply_parts : (v : Trace) (p q : ℕ) → reply_at v p ≡ Some q
    → (is_live v p ≡ true) × (is_deferred v (live_number_of v p) ≡ true)
reply_parts v p q e =
    elim (cases_Bool (is_live v p && is_deferred v (live_number_of v p))) [
      | inl t ↦ and_parts _ _ t
      | inr f ↦ absurd (let none = reply_plain v p f in let no : ⊥ = cc in no)
    ]

live_kept : (v : Trace) (q : ℕ) → is_live v q ≡ true → is_cancelled v q ≡ false
unfolding is_live
live_kept v q t = off (is_cancelled v q) (and_parts _ _ t).1
  where
    off : (b : Bool) → not b ≡ true → b ≡ false
    off b e = grind arith

-- a live request is closed only by its last clock
pub closed_live : (v : Trace) (q d : ℕ) → is_live v q ≡ true → is_before (row_last_clock (row_at v q)) d ≡ false
    → is_row_closed (row_at v q) d ≡ false
closed_live v q d live f =
    rw (dropped_of v q d, live_kept v q live, f) refl

by_reply_is : (v : Trace) (p q : ℕ) → reply_at v p ≡ Some q → reached_by_reply end_of v p ≡ reached end_of v q
unfolding reached_by_reply
by_reply_is v p q e = rw e refl

-- what waits for a reply that has no end before c is not closed
waits_open : (rows : List Row) (v : Trace) (q c p : ℕ) → AreKeptAt rows v c → is_before (reached end_of v q) c ≡ false
    → is_at (row_at v p).reply q ≡ true → is_row_closed (row_at v p) (length v - 3) ≡ false
waits_open rows v q c p k f t =
    let e : reply_at v p ≡ Some q = sym (reply_of_row v p) ∙ is_at-some (row_at v p).reply q t in
    let live = reply_parts v p q e in
    let deferred : is_row_deferred (row_at v p) ≡ true = deferred_is v p ∙ (rw (live.0, live.1) refl) in
    let last : row_last_clock (row_at v p) ≡ reached end_of v q = last_of v p ∙ (rw deferred (by_reply_is v p q e)) in
    closed_less (row_at v p) (length v - 3) c (omega (arith, k.late))
    (closed_live v p c live.0 (ap (λ o. is_before o c) last ∙ f))

-- two tests of the reply

same_reply : (v : Trace) (q i p : ℕ) → is_live v q ≡ true → q < length v → live_number_of v q ≡ i → is_live v p ≡ true → p < length v
    → nat_eq p q ≡ nat_eq (live_number_of v p) i
same_reply v q i p live inside n other within =
    elim (cases_eq p q) [
      | inl same ↦ eq-eqb p q same ∙ sym (eq-eqb (live_number_of v p) i (ap (live_number_of v) same ∙ n))
      | inr apart ↦
          ne_eqb p q apart
          ∙ sym (ne_eqb (live_number_of v p) i (λ e.
          let one = live_clock_of-number v p within other in
          let two = live_clock_of-number v q inside live in
          apart (let at : p ≡ q = cc in at)))
    ]

reply_tests : (v : Trace) (q i k : ℕ) (o : Option ℕ) → is_live v q ≡ true → q < length v → live_number_of v q ≡ i
    → reply_clock_of v k ≡ o → is_at o q ≡ is_at (option_map (live_number_of v) o) i
unfolding is_at is_some_and
reply_tests v q i k None live inside n e = refl
reply_tests v q i k (Some p) live inside n e =
    let r = live_of_reply v k p e in same_reply v q i p live inside n r.0 r.1

none_at : (q : ℕ) → is_at None q ≡ false
unfolding is_at is_some_and
none_at q = refl

number_test : (v : Trace) (i k : ℕ) → is_deferred v k ≡ true
    → is_reply_of v i k ≡ is_at (option_map (live_number_of v) (reply_clock_of v k)) i
unfolding is_reply_of reply_number_of
number_test v i k t = rw t refl

plain_test : (v : Trace) (i k : ℕ) → is_deferred v k ≡ false → is_reply_of v i k ≡ false
unfolding is_reply_of
plain_test v i k f = rw f refl

module _ (v : Trace) (q : ℕ) (live : is_live v q ≡ true) where
  inside : q < length v
  inside = ads_before_end v q (is_live-ads v q live)

  same_test : (p : ℕ) → row_passes (λ row. is_at row.reply q) v p ≡ by_number v (is_reply_of v (live_number_of v q)) p
  same_test p =
      elim (cases_Bool (is_live v p)) [
        | inr dead ↦
            ap (λ o. line_at ADS v p && is_at o q) (reply_of_row v p ∙ reply_plain v p (rw dead refl))
            ∙ and_right (line_at ADS v p) _ (none_at q) ∙ sym (rw dead refl)
        | inl there ↦ elim (cases_Bool (is_deferred v (live_number_of v p))) [
          | inr plain ↦
              ap (λ o. line_at ADS v p && is_at o q) (reply_of_row v p ∙ reply_plain v p (rw (there, plain) refl))
              ∙ and_right (line_at ADS v p) _ (none_at q)
              ∙ sym (rw (there, plain_test v (live_number_of v q) (live_number_of v p) plain) refl)
          | inl put_off ↦
              rw (is_live-ads v p there, reply_of_row v p, reply_deferred v p there put_off, there)
              (reply_tests v q (live_number_of v q) (live_number_of v p) (reply_clock_of v (live_number_of v p)) live inside refl refl
              ∙ sym (number_test v (live_number_of v q) (live_number_of v p) put_off))
        ]
      ]

response_in : (v : Trace) (i r : ℕ) → response_clock_of v i ≡ Some r → r < length v
unfolding response_clock_of
response_in v i r e = (nth_where-found (responds_at v) i (length v) r e).0

-- a request of the last clock is not Deferred yet
late_test : (v : Trace) (i p : ℕ) → Orderly v → length v - 1 ≤ p → by_number v (is_reply_of v i) p ≡ false
late_test v i p o l =
    false_from_ne_true _ (λ t.
    let k = and_parts (is_live v p) _ t in
    let n : ℕ = live_number_of v p in
    elim (cases_Bool (is_deferred v n)) [
      | inr plain ↦ both_ways _ (plain_test v i n plain) k.1
      | inl put_off ↦
          let r = deferred_response v n put_off in
          let late = end_after_clock v n r.0 o r.2 in
          let own = live_clock_of-number v p (ads_before_end v p (is_live-ads v p k.0)) k.0 in
          let clock = late.1 in
          let same : late.0 ≡ p = cc in
          omega (arith, same, late.2, response_in v n r.0 r.1, l)
    ])

origin_plain : (v : Trace) (i : ℕ) → is_reply (live_request_of v i) ≡ false → origin_clock_of v i ≡ live_clock_of v i
unfolding origin_clock_of origin_of
origin_plain v i f = rw f refl

origin_reply : (v : Trace) (i : ℕ) → is_reply (live_request_of v i) ≡ true
    → origin_clock_of v i ≡ option_and_then (live_clock_of v) (first_where (is_reply_of v i) (live_count v))
unfolding origin_clock_of origin_of
origin_reply v i t = rw t refl

-- the row that counts is that of the request that counts, where no end lies before c
pub origin_is : (rows : List Row) (v : Trace) (c q : ℕ) → AreKeptAt rows v c → is_live v q ≡ true
    → is_before (reached end_of v q) c ≡ false
    → row_origin rows (row_at v q) ≡ option_map (row_at v) (origin_clock_of v (live_number_of v q))
origin_is rows v c q k live going =
    let i : ℕ = live_number_of v q in
    let own = live_clock_of-number v q (ads_before_end v q (is_live-ads v q live)) live in
    let asked : is_reply (live_request_of v i) ≡ is_reply (row_at v q).seen.request =
    ap is_reply (request_of v i q own ∙ sym (request_is v q)) in
    elim (cases_Bool (is_reply (row_at v q).seen.request)) [
      | inr plain ↦
          rw plain
          (sym (ap (option_map (row_at v)) (origin_plain v i (asked ∙ plain) ∙ own)))
      | inl reply ↦
          rw (reply, clock_of v q)
          (ap (find (λ row. is_at row.reply q)) k.kept
          ∙ found_row (λ row. is_at row.reply q) v (λ p t there. waits_open rows v q c p k going t) (length v - 1)
          ∙ ap (option_map (row_at v))
          (first_where-same (row_passes (λ row. is_at row.reply q) v) (by_number v (is_reply_of v i)) (length v - 1)
          (record { same = λ p l. same_test v q live p })
          ∙ first_live v (is_reply_of v i) (length v - 1) (λ p l. late_test v i p k.orderly l)
          (first_where (is_reply_of v i) (live_count v)) refl
          ∙ sym (origin_reply v i (asked ∙ reply))))
    ]

pub origin_of_row : (rows : List Row) (row : Row) (v : Trace) (c q : ℕ) → AreKeptAt rows v c → row ≡ row_at v q
    → is_live v q ≡ true → is_before (reached end_of v q) c ≡ false
    → row_origin rows row ≡ option_map (row_at v) (origin_clock_of v (live_number_of v q))
origin_of_row rows row v c q k e live going = rw e (origin_is rows v c q k live going)

-- the request that counts begins with ADS#
pub origin_ads : (v : Trace) (i q : ℕ) → origin_clock_of v i ≡ Some q → line_at ADS v q ≡ true
unfolding origin_clock_of
origin_ads v i q e = by_origin (origin_of v i) e
  where
    by_origin : (o : Option ℕ) → option_and_then (live_clock_of v) o ≡ Some q → line_at ADS v q ≡ true
    by_origin None f = absurd (let no : ⊥ = cc in no)
    by_origin (Some j) f = is_live-ads v q (numbered v j q f).1
