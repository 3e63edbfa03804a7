-- The request of the last clock but one: nothing is reached of it yet.
use Rattle.std.proofs.Common.{ℕ, ◌+◌, ◌-◌, ◌<◌, ◌≤◌, ◌≡◌, Bool, true, false, cond, not, ◌&&◌, ◌||◌, Option, Some, None, nat_lt}
use Rattle.std.proofs.Common.{length, refl, sym, ap, ◌∙◌, arith, inl, inr}
use Rattle.std.proofs.lemmas.Bool.{cases_Bool, and_left, le-leb}
use Rattle.fsb_count.specs.Options.{is_before, is_some_and}
use Rattle.fsb_signal.specs.declared.lines.TheConstants.Lines.{ADS}
use Rattle.fsb_signal.specs.declared.sample.Sample.{Sample}
use Rattle.fsb_signal.specs.Samples.{line_at}
use Rattle.fsb_trace.specs.declared.seen.Seen.{Seen}
use Rattle.fsb_trace.specs.At.{Trace, line_back, request_at}
use Rattle.fsb_trace.specs.Requests.{is_cancelled, line_of, seen_at}
use Rattle.fsb_trace.specs.Winner.{winner_at}
use Rattle.fsb_trace.specs.Snoop.{snoop_end_of}
use Rattle.fsb_trace.specs.Outcome.{response_clock_of}
use Rattle.fsb_trace.specs.Response.{end_of}
use Rattle.fsb_laws.specs.OneMore.{OneMore}
use Rattle.fsb_laws.specs.Orderly.{Orderly}
use Rattle.fsb_laws.proofs.Interface.{is_cancelled-late}
use Rattle.fsb_owner_table.specs.declared.row.Row.{Row}
use Rattle.fsb_owner_table.specs.Rows.{outcome_at, reached, reached_by_reply, reply_at, row_at, snoop_at}
use Rattle.fsb_owner_table.specs.RowAfter.{is_row_deferred}
use Rattle.fsb_owner_table.specs.Happened.{begun_row}
use Rattle.fsb_owner_table.specs.Kept.{is_row_closed, kept_at}
use Rattle.fsb_owner_table.proofs.Reached.{AreClocks, end_clocks, reached-parts, response_clocks, snoop_clocks}
use Rattle.fsb_owner_table.proofs.RowGoes.{deferred_is, no_outcome, reply_plain}
use Rattle.fsb_owner_table.proofs.KeptRows.{kept_is, not_kept}

-- a row of a request that is seen so, of which nothing is reached
abbrev pub with_nothing : Seen → Option ℕ → Row
with_nothing seen line = record {
  seen = seen;
  line = line;
  snoop = None;
  response = None;
  outcome = None;
  end = None;
  reply = None;
  reply_snoop = None;
  reply_end = None;
}

abbrev seen_with : Trace → ℕ → Bool → Seen
seen_with v q cancelled = record { clock = q; who = winner_at v q; request = request_at v q; cancelled = cancelled }

-- the same of the request that begins at q
abbrev pub empty_row : Trace → ℕ → Row
empty_row v q = record {
  seen = record { clock = q; who = winner_at v q; request = request_at v q; cancelled = false };
  line = line_of v q;
  snoop = None;
  response = None;
  outcome = None;
  end = None;
  reply = None;
  reply_snoop = None;
  reply_end = None;
}

not_closed : (v : Trace) (q c : ℕ) → not (is_row_closed (empty_row v q) c) ≡ true
unfolding is_before is_some_and
not_closed v q c = refl

module _ {h : Trace} {x : Sample} {v : Trace} (more : OneMore h x v) (orderly : Orderly h) (after : Orderly v)
    (some : 0 < length h) where
  size : length v ≡ length h + 1
  size = more.size

  none_reached : (f : Trace → ℕ → Option ℕ) → AreClocks f h v → (o : Option ℕ) → reached f v (length h - 1) ≡ o
      → reached f v (length h - 1) ≡ None
  none_reached f clocks None e = e
  none_reached f clocks (Some t) e =
      let p = reached-parts f v (length h - 1) t e in
      absurd (omega (arith, size, some, clocks.late (length h - 1) t (omega (arith, size, some)) p.0 p.1, clocks.within _ t p.1))

  fresh : (f : Trace → ℕ → Option ℕ) → AreClocks f h v → reached f v (length h - 1) ≡ None
  fresh f clocks = none_reached f clocks (reached f v (length h - 1)) refl

  no_snoop : snoop_at v (length h - 1) ≡ None
  unfolding snoop_at
  no_snoop = rw (fresh snoop_end_of (snoop_clocks more orderly after)) refl

  untold : outcome_at v (length h - 1) ≡ None
  untold = no_outcome v (length h - 1) (fresh response_clock_of (response_clocks more orderly after))

  plain : is_row_deferred (row_at v (length h - 1)) ≡ false
  unfolding row_at is_some_and
  plain = rw untold refl

  no_reply : reply_at v (length h - 1) ≡ None
  no_reply = reply_plain v (length h - 1) (sym (deferred_is v (length h - 1)) ∙ plain)

  none_by_reply : (f : Trace → ℕ → Option ℕ) → reached_by_reply f v (length h - 1) ≡ None
  unfolding reached_by_reply
  none_by_reply f = rw no_reply refl

  alive : is_cancelled v (length h - 1) ≡ false
  alive = is_cancelled-late v (length h - 1) (omega (arith, size, some))

  pub row_is : row_at v (length h - 1) ≡ empty_row v (length h - 1)
  unfolding row_at seen_at
  row_is =
      rw (
        alive,
        no_snoop,
        fresh response_clock_of (response_clocks more orderly after),
        untold,
        fresh end_of (end_clocks more orderly after),
        no_reply,
        none_by_reply snoop_end_of,
        none_by_reply end_of,
      ) refl

  pub begun_is : (seen : Seen) (line : Option ℕ) → seen ≡ seen_at v (length h - 1) → line ≡ line_of v (length h - 1)
      → with_nothing seen line ≡ row_at v (length h - 1)
  unfolding seen_at
  begun_is seen line is names =
      rw (is, names)
      (ap (λ b. with_nothing (seen_with v (length h - 1) b) (line_of v (length h - 1))) alive ∙ sym row_is)

  asked_back : line_back ADS v (length h) 1 ≡ line_at ADS v (length h - 1)
  unfolding line_back
  asked_back = rw (le-leb 1 (length h) (omega (arith, some))) refl

  pub begun_kept : kept_at v (length h - 1) ≡ begun_row v (length h)
  unfolding begun_row
  begun_kept =
      elim (cases_Bool (line_at ADS v (length h - 1))) [
        | inr f ↦ not_kept v (length h - 1) (rw f refl) ∙ sym (rw (asked_back, f) refl)
        | inl t ↦
            kept_is v (length h - 1) t
            ∙ ap (λ b. cond b (Some (row_at v (length h - 1))) None)
            (ap (λ r. not (is_row_closed r (length v - 3))) row_is ∙ not_closed v (length h - 1) (length v - 3))
            ∙ sym (rw (asked_back, t) refl)
      ]
