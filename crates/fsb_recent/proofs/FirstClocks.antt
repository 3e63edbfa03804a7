-- The row of a request in its first clock: nothing is decoded or reached of it.
use Rattle.std.proofs.Common.{ℕ, ◌+◌, ◌-◌, ◌<◌, ◌≡◌, ◌/◌, true, false, Option, Some, None, length, slice_get, refl, sym, ap, ◌∙◌, arith, subst}
use Rattle.std.specs.Option.{option_map, option_and_then}
use Rattle.std.proofs.lemmas.Option.{slice_get_past}
use Rattle.fsb_count.specs.Options.{is_some_and}
use Rattle.fsb_encode.specs.Decoded.{request_of}
use Rattle.fsb_encode.specs.declared.request.Pair.{Pair}
use Rattle.fsb_signal.specs.declared.sample.Sample.{Sample}
use Rattle.fsb_trace.specs.declared.who.Who.{Who}
use Rattle.fsb_trace.specs.declared.who.Who.TheVariants.{Symmetric, Priority}
use Rattle.fsb_trace.specs.At.{Trace, known_pair_at, request_at}
use Rattle.fsb_trace.specs.Requests.{is_cancelled, is_live, line_of, live_number_of, seen_at}
use Rattle.fsb_trace.specs.Winner.{winner_at}
use Rattle.fsb_trace.specs.Snoop.{snoop_end_of}
use Rattle.fsb_trace.specs.Outcome.{response_clock_of}
use Rattle.fsb_trace.specs.Response.{end_of}
use Rattle.fsb_trace.proofs.Interface.{end_of-response, live_clock_of-number, snoop_end_of-clock}
use Rattle.fsb_laws.specs.Orderly.{Orderly}
use Rattle.fsb_laws.proofs.Interface.{has_answer, is_cancelled-late}
use Rattle.fsb_owner_table.specs.declared.row.Row.{Row}
use Rattle.fsb_owner_table.specs.Rows.{outcome_at, reached, reached_by_reply, reply_at, row_at, snoop_at}
use Rattle.fsb_owner_table.specs.RowAfter.{is_row_deferred}
use Rattle.fsb_owner_table.proofs.Reached.{reached-parts}
use Rattle.fsb_owner_table.proofs.RowGoes.{deferred_is, no_outcome, reply_plain}
use Rattle.fsb_owner_feed.specs.declared.begins.FirstClock.{FirstClock}
use Rattle.fsb_owner_feed.specs.Begins.{IsLast, SaysBegins, line_by}
use Rattle.fsb_recent.specs.Over.{last_begun}

-- the line, by the winner and the sample
abbrev line_with : Option Who → Option Sample → Option ℕ
line_with winner sample =
    elim winner [
      | Some who ↦ elim who [ Symmetric a ↦ option_map (λ s. s.addr.bits / 4) sample | Priority ↦ None ]
      | None ↦ None
    ]

line_is : (w : Trace) (q : ℕ) → line_of w q ≡ line_with (winner_at w q) (slice_get w q)
unfolding line_of
line_is w q = refl

line_cases : (who : Option Who) (first : Sample) → line_with who (Some first) ≡ line_by who first
unfolding line_by
line_cases None first = refl
line_cases (Some (Symmetric a)) first = refl
line_cases (Some Priority) first = refl

undecoded : (o : Option Pair) → option_and_then (λ a. option_and_then (λ b. request_of a b) None) o ≡ None
undecoded None = refl
undecoded (Some a) = refl

module _ {h : Trace} {begins : FirstClock} {q : ℕ} (is : IsLast begins q h) (orderly : Orderly h) where
  within : q < length h
  within = omega (arith, is.last)

  no_late : (t : ℕ) → q + 3 < t → t < length h → ⊥
  no_late t l m = omega (arith, is.last, l, m)

  -- the clocks of a live request lie behind its third clock

  snoop_never : (t : ℕ) → is_live h q ≡ true → snoop_end_of h (live_number_of h q) ≡ Some t → ⊥
  snoop_never t live e =
      let c = snoop_end_of-clock h _ t e in
      let k = live_clock_of-number h q within live in
      let same : c.clock ≡ q = let both = c.is_clock in cc in
      no_late t (omega (arith, same, c.above)) c.within

  response_never : (t : ℕ) → is_live h q ≡ true → response_clock_of h (live_number_of h q) ≡ Some t → ⊥
  response_never t live e =
      let a = has_answer h t _ (orderly.timely _ t e) in snoop_never a.snoop live a.is_snoop

  end_never : (t : ℕ) → is_live h q ≡ true → end_of h (live_number_of h q) ≡ Some t → ⊥
  end_never t live e =
      let p = end_of-response h _ t e in response_never p.0 live p.1

  none_reached : (f : Trace → ℕ → Option ℕ) → ((t : ℕ) → is_live h q ≡ true → f h (live_number_of h q) ≡ Some t → ⊥)
      → (o : Option ℕ) → reached f h q ≡ o → reached f h q ≡ None
  none_reached f never None e = e
  none_reached f never (Some t) e =
      let p = reached-parts f h q t e in absurd (never t p.0 p.1)

  no_snoop : snoop_at h q ≡ None
  unfolding snoop_at
  no_snoop = rw (none_reached snoop_end_of snoop_never _ refl) refl

  untold : outcome_at h q ≡ None
  untold = no_outcome h q (none_reached response_clock_of response_never _ refl)

  plain : is_row_deferred (row_at h q) ≡ false
  unfolding row_at is_some_and
  plain = rw untold refl

  no_reply : reply_at h q ≡ None
  no_reply = reply_plain h q (sym (deferred_is h q) ∙ plain)

  none_by_reply : (f : Trace → ℕ → Option ℕ) → reached_by_reply f h q ≡ None
  unfolding reached_by_reply
  none_by_reply f = rw no_reply refl

  no_request : request_at h q ≡ None
  unfolding request_at known_pair_at
  no_request = rw (slice_get_past h (q + 1) (omega (arith, is.last))) (undecoded _)

  line_here : line_of h q ≡ line_by begins.who begins.first
  line_here =
      line_is h q ∙ ap (λ o. line_with o (slice_get h q)) (sym is.who) ∙ ap (line_with begins.who) is.first
      ∙ line_cases begins.who begins.first

  alive : is_cancelled h q ≡ false
  alive = is_cancelled-late h q (omega (arith, is.last))

  -- its row
  pub first_row_is : row_at h q ≡ record {
    seen = record { clock = q; who = begins.who; request = None; cancelled = false };
    line = line_by begins.who begins.first;
    snoop = None;
    response = None;
    outcome = None;
    end = None;
    reply = None;
    reply_snoop = None;
    reply_end = None;
  }
  unfolding row_at seen_at
  first_row_is =
      rw (
        alive,
        no_request,
        line_here,
        sym is.who,
        no_snoop,
        none_reached response_clock_of response_never _ refl,
        untold,
        none_reached end_of end_never _ refl,
        no_reply,
        none_by_reply snoop_end_of,
        none_by_reply end_of,
      ) refl

pub begun_none : (h : Trace) → SaysBegins None h → None ≡ last_begun h
unfolding last_begun
begun_none h f = sym (rw f refl)

pub begun_some : (h : Trace) (begins : FirstClock) (q : ℕ) (row : Row) → SaysBegins (Some begins) h → q ≡ length h - 1
    → (IsLast begins q h → row ≡ row_at h q) → Some row ≡ last_begun h
unfolding last_begun
begun_some h begins q row says e is =
    ap (λ r. Some r) (is (subst (λ n. IsLast begins n h) (sym e) says.1) ∙ ap (row_at h) e) ∙ sym (rw says.0 refl)
