-- Whose bytes are under way, by the rows that are kept.
use Rattle.std.proofs.Common.{ℕ, ◌-◌, ◌≤◌, ◌≡◌, Bool, true, false, not, ◌&&◌, Option, Some, None, List}
use Rattle.std.proofs.Common.{length, refl, sym, ap, ◌∙◌, arith, inl, inr}
use Rattle.std.specs.List.{list_any}
use Rattle.std.specs.Option.{option_map}
use Rattle.std.proofs.lemmas.Bool.{and_parts, and_right, both_ways, cases_Bool, false_from_ne_true}
use Rattle.fsb_count.specs.Options.{is_before, is_some_and}
use Rattle.fsb_count.proofs.Interface.{is_before-parts}
use Rattle.fsb_signal.specs.declared.lines.TheConstants.Lines.{ADS, DEFER, HITM}
use Rattle.fsb_signal.specs.Samples.{line_at}
use Rattle.fsb_trace.specs.At.{Trace}
use Rattle.fsb_trace.specs.Requests.{is_live, live_number_of, live_request_of}
use Rattle.fsb_trace.specs.Response.{end_of}
use Rattle.fsb_trace.specs.Snoop.{line_at_snoop_end, snoop_end_of}
use Rattle.fsb_trace.proofs.Interface.{live_clock_of-number, snoop_end_of-clock}
use Rattle.fsb_laws.proofs.Interface.{ads_before_end, is_live-ads}
use Rattle.fsb_owners.specs.Shown.{asks, brings_bytes, is_coming, is_coming_by, is_turned, origin_clock_of}
use Rattle.fsb_owner_table.specs.declared.row.Row.{Row}
use Rattle.fsb_owner_table.specs.Kept.{is_row_closed}
use Rattle.fsb_owner_table.specs.RowAfter.{is_row_handed}
use Rattle.fsb_owner_table.specs.Rows.{reached, row_at, snoop_at, snooped_by}
use Rattle.fsb_owner_table.proofs.Reached.{reached-dead, reached-live}
use Rattle.fsb_owner_table.proofs.RowGoes.{request_of}
use Rattle.fsb_owner_rows.specs.Kept.{AreKeptAt}
use Rattle.fsb_owner_rows.specs.OfRow.{is_row_between, is_row_turned, row_asks, row_brings, row_comes, row_origin}
use Rattle.fsb_owner_rows.proofs.AnyRow.{Agrees, any_rows}
use Rattle.fsb_owner_rows.proofs.Closing.{closed_less, last_before}
use Rattle.fsb_owner_rows.proofs.LiveTests.{any_live, by_number}
use Rattle.fsb_owner_rows.proofs.Origins.{closed_live, origin_ads, origin_is}
use Rattle.fsb_owner_rows.proofs.RowWords.{asks_is, purpose_is, request_is, snoop_before}

-- between snoop end and end

end_is : (v : Trace) (q : ℕ) → (row_at v q).end ≡ reached end_of v q
unfolding row_at
end_is v q = refl

between_is : (v : Trace) (c q : ℕ) → is_row_between c (row_at v q)
    ≡ (is_before (reached snoop_end_of v q) c && not (is_before (reached end_of v q) c))
between_is v c q = rw (snoop_before v c q, end_is v q) refl

none_before : (c : ℕ) → is_before None c ≡ false
unfolding is_before is_some_and
none_before c = refl

between_dead : (v : Trace) (c q : ℕ) → is_live v q ≡ false → is_row_between c (row_at v q) ≡ false
between_dead v c q f = between_is v c q ∙ (rw (reached-dead snoop_end_of v q f, none_before c) refl)

between_live : (v : Trace) (c q : ℕ) → is_live v q ≡ true → is_row_between c (row_at v q)
    ≡ (is_before (snoop_end_of v (live_number_of v q)) c && not (is_before (end_of v (live_number_of v q)) c))
between_live v c q t = between_is v c q ∙ (rw (reached-live snoop_end_of v q t, reached-live end_of v q t) refl)

-- whether it brings bytes

pub snoop_of_row : (v : Trace) (q : ℕ) → is_live v q ≡ true
    → (row_at v q).snoop ≡ option_map (snooped_by v) (snoop_end_of v (live_number_of v q))
unfolding row_at snoop_at
snoop_of_row v q t = rw (reached-live snoop_end_of v q t) refl

handed_is : (v : Trace) (q : ℕ) → is_live v q ≡ true → is_row_handed (row_at v q) ≡ line_at_snoop_end HITM v (live_number_of v q)
unfolding line_at_snoop_end is_some_and snooped_by
handed_is v q t = ap (λ o. is_some_and o (λ s. s.hitm)) (snoop_of_row v q t) ∙ by_end (snoop_end_of v (live_number_of v q))
  where
    by_end : (o : Option ℕ) → is_some_and (option_map (snooped_by v) o) (λ s. s.hitm) ≡ is_some_and o (line_at HITM v)
    by_end None = refl
    by_end (Some s) = refl

pub turned_is : (v : Trace) (q : ℕ) → is_live v q ≡ true → is_row_turned (row_at v q) ≡ is_turned v (live_number_of v q)
unfolding is_turned line_at_snoop_end is_some_and snooped_by
turned_is v q t =
    ap (λ o. is_some_and o (λ s. s.defer && not s.hitm)) (snoop_of_row v q t) ∙ by_end (snoop_end_of v (live_number_of v q))
  where
    by_end : (o : Option ℕ) → is_some_and (option_map (snooped_by v) o) (λ s. s.defer && not s.hitm)
        ≡ (is_some_and o (line_at DEFER v) && not (is_some_and o (line_at HITM v)))
    by_end None = refl
    by_end (Some s) = refl

pub asked_request : (v : Trace) (q : ℕ) → is_live v q ≡ true → (row_at v q).seen.request ≡ live_request_of v (live_number_of v q)
asked_request v q t =
    request_is v q
    ∙ sym (request_of v (live_number_of v q) q (live_clock_of-number v q (ads_before_end v q (is_live-ads v q t)) t))

brings_is : (v : Trace) (q p : ℕ) → is_live v q ≡ true → origin_clock_of v (live_number_of v q) ≡ Some p
    → row_brings (row_at v q) (row_at v p) ≡ brings_bytes v (live_number_of v q)
unfolding brings_bytes
brings_is v q p t e =
    rw (e, asked_request v q t, handed_is v q t, turned_is v q t, purpose_is v p) refl

-- one row

counted_is : (v : Trace) (line a q : ℕ) → is_live v q ≡ true → (o : Option ℕ) → origin_clock_of v (live_number_of v q) ≡ o
    → is_some_and (option_map (row_at v) o) (λ origin. row_asks line a origin && row_brings (row_at v q) origin)
    ≡ (is_some_and o (asks v line a) && brings_bytes v (live_number_of v q))
unfolding is_some_and
counted_is v line a q t None e = refl
counted_is v line a q t (Some p) e = rw (asks_is v line a p (origin_ads v _ p e), brings_is v q p t e) refl

module _ (rows : List Row) (v : Trace) (line a c : ℕ) (k : AreKeptAt rows v c) where
  off : (o s : Bool) → (o && s) ≡ (o && s)
  off o s = refl

  regroup : (o b s e : Bool) → (((o && b) && s) && e) ≡ ((o && b) && (s && e))
  regroup o b s e = grind arith

  not_off : (b : Bool) → not b ≡ true → b ≡ false
  not_off b e = grind arith

  comes_live : (q : ℕ) → is_live v q ≡ true
      → row_comes rows line a c (row_at v q) ≡ is_coming_by v line a c (live_number_of v q)
  unfolding is_coming_by
  comes_live q t =
      let i : ℕ = live_number_of v q in
      let s : Bool = is_before (snoop_end_of v i) c in
      let e : Bool = not (is_before (end_of v i) c) in
      ap (λ b. is_some_and (row_origin rows (row_at v q)) (λ origin. row_asks line a origin && row_brings (row_at v q) origin) && b)
      (between_live v c q t)
      ∙ when_between (s && e) refl
      ∙ sym (regroup (is_some_and (origin_clock_of v i) (asks v line a)) (brings_bytes v i) s e)
    where
      when_between : (b : Bool)
          → (is_before (snoop_end_of v (live_number_of v q)) c && not (is_before (end_of v (live_number_of v q)) c)) ≡ b
          → (is_some_and (row_origin rows (row_at v q)) (λ origin. row_asks line a origin && row_brings (row_at v q) origin)
          && (is_before (snoop_end_of v (live_number_of v q)) c && not (is_before (end_of v (live_number_of v q)) c)))
          ≡ ((is_some_and (origin_clock_of v (live_number_of v q)) (asks v line a) && brings_bytes v (live_number_of v q))
          && (is_before (snoop_end_of v (live_number_of v q)) c && not (is_before (end_of v (live_number_of v q)) c)))
      when_between false f = and_right _ _ f ∙ sym (and_right _ _ f)
      when_between true f =
          let going : is_before (reached end_of v q) c ≡ false =
          ap (λ o. is_before o c) (reached-live end_of v q t) ∙ not_off _ (and_parts _ _ f).1 in
          ap (λ b. b && (is_before (snoop_end_of v (live_number_of v q)) c && not (is_before (end_of v (live_number_of v q)) c)))
          (ap (λ o. is_some_and o (λ origin. row_asks line a origin && row_brings (row_at v q) origin))
          (origin_is rows v c q k t going)
          ∙ counted_is v line a q t (origin_clock_of v (live_number_of v q)) refl)

  comes_is : (q : ℕ) → line_at ADS v q ≡ true
      → row_comes rows line a c (row_at v q) ≡ by_number v (is_coming_by v line a c) q
  comes_is q there =
      elim (cases_Bool (is_live v q)) [
        | inl t ↦ comes_live q t ∙ sym (rw t refl)
        | inr f ↦ and_right _ _ (between_dead v c q f) ∙ sym (rw f refl)
      ]

  coming_parts : (i : ℕ) → is_coming_by v line a c i ≡ true
      → (is_before (snoop_end_of v i) c ≡ true) × (is_before (end_of v i) c ≡ false)
  unfolding is_coming_by
  coming_parts i t =
      let p = and_parts _ (not (is_before (end_of v i) c)) t in
      let s = and_parts _ (is_before (snoop_end_of v i) c) p.0 in
      (s.1, not_off _ p.1)

  coming_going : (q : ℕ) → by_number v (is_coming_by v line a c) q ≡ true → is_row_closed (row_at v q) (length v - 3) ≡ false
  coming_going q t =
      let p = and_parts (is_live v q) _ t in
      let parts = coming_parts (live_number_of v q) p.1 in
      let going : is_before (reached end_of v q) c ≡ false = ap (λ o. is_before o c) (reached-live end_of v q p.0) ∙ parts.1 in
      closed_less (row_at v q) (length v - 3) c (omega (arith, k.late))
      (closed_live v q c p.0 (false_from_ne_true _ (λ last. both_ways _ going (last_before v k.orderly q c last))))

  coming_late : (q : ℕ) → length v - 1 ≤ q → by_number v (is_coming_by v line a c) q ≡ false
  coming_late q l =
      false_from_ne_true _ (λ t.
      let p = and_parts (is_live v q) _ t in
      let i : ℕ = live_number_of v q in
      let s = is_before-parts (snoop_end_of v i) c (coming_parts i p.1).0 in
      let clock = snoop_end_of-clock v i s.0 s.1 in
      let own = live_clock_of-number v q (ads_before_end v q (is_live-ads v q p.0)) p.0 in
      let is = clock.is_clock in
      let same : clock.clock ≡ q = cc in
      omega (arith, same, clock.above, clock.within, l))

  agrees : Agrees (row_comes rows line a c) (by_number v (is_coming_by v line a c)) v
  agrees = record {
    same = comes_is;
    asks = λ q t. is_live-ads v q (and_parts (is_live v q) _ t).0;
    going = coming_going;
  }

  coming_is : list_any (row_comes rows line a c) rows ≡ is_coming v line a c
  unfolding is_coming
  coming_is =
      ap (list_any (row_comes rows line a c)) k.kept
      ∙ any_rows agrees (length v - 1)
      ∙ any_live v (is_coming_by v line a c) (length v - 1) (omega arith) coming_late

pub coming : (rows : List Row) (v : Trace) (line a c : ℕ) → AreKeptAt rows v c
    → list_any (row_comes rows line a c) rows ≡ is_coming v line a c
coming rows v line a c k = coming_is rows v line a c k
