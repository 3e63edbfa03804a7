-- A line is given again with the last sample where two rows that are kept make it so.
use Rattle.std.proofs.Common.{ℕ, ◌+◌, ◌-◌, ◌<◌, ◌≤◌, ◌≡◌, Bool, true, false, ◌||◌, length, List, Option, Some}
use Rattle.std.proofs.Common.{refl, sym, ap, ◌∙◌, arith, inl, inr}
use Rattle.std.specs.List.{list_any}
use Rattle.std.proofs.lemmas.Bool.{and_from, and_parts, cases_lt}
use Rattle.fsb_count.specs.Options.{is_at}
use Rattle.fsb_count.proofs.Interface.{any_where-at}
use Rattle.fsb_signal.specs.declared.sample.Sample.{Sample}
use Rattle.fsb_trace.specs.At.{Trace}
use Rattle.fsb_trace.specs.Outcome.{is_deferred, response_clock_of}
use Rattle.fsb_trace.specs.Requests.{is_live, live_clock_of, live_count, live_number_of}
use Rattle.fsb_trace.specs.Snoop.{snoop_end_of}
use Rattle.fsb_trace.proofs.Interface.{live_below_count, live_clock_of-number, snoop_end_of-clock}
use Rattle.fsb_laws.proofs.Interface.{ads_before_end, has_answer, is_live-ads}
use Rattle.fsb_owners.specs.Joint.{Joint}
use Rattle.fsb_owners.specs.Rules.{is_given_again, is_given_again_to}
use Rattle.fsb_owners.specs.Shown.{is_spoiled}
use Rattle.fsb_owner_table.specs.declared.row.Row.{Row}
use Rattle.fsb_owner_table.specs.RowAfter.{is_row_deferred}
use Rattle.fsb_owner_table.specs.Rows.{row_at}
use Rattle.fsb_owner_table.proofs.RowGoes.{deferred_is}
use Rattle.fsb_owner_laws.proofs.AgreeWords.{Alike, same_answers, some_same, turned_round}
use Rattle.fsb_owner_rows.proofs.RowWords.{numbered}
use Rattle.fsb_owner_judge.specs.declared.judge.OwnerJudge.{OwnerJudge}
use Rattle.fsb_owner_again.specs.Pairs.{KnowsPast, is_given_to, is_spoiled_now, row_given}
use Rattle.fsb_owner_again.proofs.AnyKept.{kept_found, kept_from}
use Rattle.fsb_owner_again.proofs.Given.{IsGiven, given_found, given_parts}
use Rattle.fsb_owner_again.proofs.KeptPairs.{both_open}
use Rattle.fsb_owner_again.proofs.PairRows.{ArePair, pair_is, snooped_live}
use Rattle.fsb_owner_again.proofs.PastPairs.{given_past, not_past}

given_again_from : (first : List Joint) (v : Trace) (c i j : ℕ) → i < live_count v → j < live_count v → is_deferred v i ≡ true
    → is_given_again_to v i j ≡ true → is_given_again first v c ≡ true
unfolding is_given_again
given_again_from first v c i j l m d t =
    any_where-at _ (live_count v) i l (and_from _ _ d (any_where-at (is_given_again_to v i) (live_count v) j m t))

second_off : (a b : Bool) → (a || b) ≡ false → b ≡ false
second_off a b f = grind arith

module _ {first : List Joint} {h : Trace} {x : Sample} {v : Trace} {rows : List Row} {judge : OwnerJudge} {failed : Option ℕ}
    (g : KnowsPast first h x v rows judge failed) where
  abbrev spoiled : ℕ → Bool
  spoiled line = is_spoiled_now judge failed line

  spoiled_is : (line : ℕ) → spoiled line ≡ is_spoiled v line
  spoiled_is line = ap (λ b. is_at failed line || b) (g.spoiled line) ∙ sym (g.fails line)

  -- from rows to requests
  back : list_any (row_given rows spoiled) rows ≡ true → is_given_again first v (length h) ≡ true
  back t =
      let a = kept_found (row_given rows spoiled) v (length v - 1) (ap (list_any (row_given rows spoiled)) (sym g.kept.kept) ∙ t) in
      let q : ℕ = a.0 in
      let b = and_parts (is_row_deferred (row_at v q)) (list_any (is_given_to spoiled (row_at v q)) rows) a.2 in
      let c = kept_found (is_given_to spoiled (row_at v q)) v (length v - 1)
      (ap (list_any (is_given_to spoiled (row_at v q))) (sym g.kept.kept) ∙ b.1) in
      let p : ℕ = c.0 in
      let d = and_parts (is_live v q) (is_deferred v (live_number_of v q)) (sym (deferred_is v q) ∙ b.0) in
      let live_too = snooped_live v (row_at v q) p (and_parts _ _ (and_parts _ _ (and_parts _ _ c.2).0).0).0 in
      let one = live_clock_of-number v q (ads_before_end v q a.1) d.0 in
      let two = live_clock_of-number v p (ads_before_end v p c.1) live_too in
      let pair : ArePair v (live_number_of v q) (live_number_of v p) q p =
      record {
        first = one;
        second = two;
        live = d.0;
        live_too = live_too;
        number = refl;
        number_too = refl;
        asks = a.1;
        asks_too = c.1;
        deferred = d.1;
      } in
      given_again_from first v (length h) (live_number_of v q) (live_number_of v p) (live_below_count v _ q one)
      (live_below_count v _ p two) d.1 (sym (pair_is pair spoiled spoiled_is) ∙ c.2)

  after_snoop : (j r s : ℕ) → response_clock_of v j ≡ Some r → snoop_end_of v j ≡ Some s → s < r
  after_snoop j r s e f =
      let a = has_answer v r j (g.kept.orderly.timely j r e) in
      let same = some_same a.snoop s (sym a.is_snoop ∙ f) in omega (arith, same, a.before)

  -- the second response is not in the past
  late : (i j r : ℕ) → IsGiven v i j → response_clock_of v j ≡ Some r → length h ≤ r
  late i j r k e =
      elim (cases_lt r (length h)) [
        | inr l ↦ l
        | inl l ↦
            let alike : Alike (length h) v h =
            turned_round (length h) h v (record { agree = g.more.agree; left = g.before; right = g.kept.orderly }) in
            let sound : is_spoiled h k.line ≡ false =
            second_off (is_at failed k.line) (is_spoiled h k.line) (sym (g.fails k.line) ∙ k.sound) in
            absurd
            (not_past first h i j g.unbroken (omega (arith, l))
            (given_past (length h) v h i j r alike k e l (after_snoop j r k.late e k.is_late) sound))
      ]

  in_rows : (i q s : ℕ) → snoop_end_of v i ≡ Some s → live_clock_of v i ≡ Some q → q < length v - 1
  in_rows i q s e f =
      let c = snoop_end_of-clock v i s e in
      let same = some_same c.clock q (sym c.is_clock ∙ f) in omega (arith, same, c.above, c.within)

  -- and from requests to rows
  given_rows : (i j : ℕ) → IsGiven v i j → is_given_again_to v i j ≡ true → list_any (row_given rows spoiled) rows ≡ true
  given_rows i j k t =
      let q : ℕ = k.first in
      let p : ℕ = k.second in
      let one = numbered v i q k.is_first in
      let two = numbered v j p k.is_second in
      let pair : ArePair v i j q p =
      record {
        first = k.is_first;
        second = k.is_second;
        live = one.1;
        live_too = two.1;
        number = one.2;
        number_too = two.2;
        asks = is_live-ads v q one.1;
        asks_too = is_live-ads v p two.1;
        deferred = k.deferred;
      } in
      let size : length v ≡ length h + 1 = g.more.size in
      let going = both_open pair g.kept.orderly k (length v - 3) (λ r e. let l = late i j r k e in omega (arith, l, size)) in
      let inner : list_any (is_given_to spoiled (row_at v q)) rows ≡ true =
      ap (list_any (is_given_to spoiled (row_at v q))) g.kept.kept
      ∙ kept_from (is_given_to spoiled (row_at v q)) v (length v - 1) p (in_rows j p k.late k.is_late k.is_second) pair.asks_too going.1
      (pair_is pair spoiled spoiled_is ∙ t) in
      let deferred : is_row_deferred (row_at v q) ≡ true = deferred_is v q ∙ (rw (pair.live, pair.number, pair.deferred) refl) in
      ap (list_any (row_given rows spoiled)) g.kept.kept
      ∙ kept_from (row_given rows spoiled) v (length v - 1) q (in_rows i q k.snoop k.is_snoop k.is_first) pair.asks going.0
      (and_from _ _ deferred inner)

  forth : is_given_again first v (length h) ≡ true → list_any (row_given rows spoiled) rows ≡ true
  forth t =
      let f = given_found first v (length h) t in
      given_rows f.0 f.1 (given_parts v f.0 f.1 f.2 f.3) f.3

  pub again : list_any (row_given rows (is_spoiled_now judge failed)) rows ≡ is_given_again first v (length h)
  again = same_answers (list_any (row_given rows spoiled) rows) (is_given_again first v (length h)) back forth
