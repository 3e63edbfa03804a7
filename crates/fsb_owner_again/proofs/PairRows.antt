-- Two rows, and what the trace says of their requests.
use Rattle.std.proofs.Common.{ℕ, ◌≡◌, Bool, true, false, cond, not, ◌&&◌, nat_lt, Option, Some, None}
use Rattle.std.proofs.Common.{refl, ap, ◌∙◌, is_some, inl, inr}
use Rattle.std.specs.Option.{option_and_then, option_map}
use Rattle.std.proofs.lemmas.Bool.{both_ways, cases_Bool, eq-eqb}
use Rattle.fsb_count.specs.Options.{is_at, is_before, is_some_and}
use Rattle.fsb_signal.specs.declared.lines.Lines.{Lines}
use Rattle.fsb_signal.specs.declared.lines.TheConstants.Lines.{ADS, DEFER, HITM}
use Rattle.fsb_signal.specs.Samples.{line_at}
use Rattle.fsb_trace.specs.At.{Trace, request_at}
use Rattle.fsb_trace.specs.Flight.{reply_clock_of, reply_number_of}
use Rattle.fsb_trace.specs.Outcome.{is_deferred}
use Rattle.fsb_trace.specs.Requests.{is_live, is_reply, line_of, live_clock_of, live_number_of}
use Rattle.fsb_trace.specs.Snoop.{line_at_snoop_end, snoop_end_of}
use Rattle.fsb_laws.proofs.Interface.{live_of_reply}
use Rattle.fsb_owners.specs.Rules.{is_answered_below, is_given_again_to, is_served_or_deferred, of_request}
use Rattle.fsb_owners.specs.Shown.{agent_at, is_spoiled, names}
use Rattle.fsb_owner_table.specs.declared.row.Row.{Row}
use Rattle.fsb_owner_table.specs.declared.row.Snooped.{Snooped}
use Rattle.fsb_owner_table.specs.Rows.{reached, reached_by_reply, reply_at, row_at, snoop_at, snooped_by}
use Rattle.fsb_owner_table.proofs.Reached.{reached-live}
use Rattle.fsb_owner_table.proofs.RowGoes.{deferred_is, reply_deferred}
use Rattle.fsb_owner_rows.specs.OfRow.{row_agent, row_line, row_names}
use Rattle.fsb_owner_rows.proofs.ComingRows.{snoop_of_row}
use Rattle.fsb_owner_rows.proofs.RowWords.{agent_is, names_is, purpose_is, request_is}
use Rattle.fsb_owner_again.specs.Pairs.{asks_between, has_judged_line, is_given_to, is_row_served}

-- the two requests: live, with their numbers, and the first is Deferred
pub record ArePair (v : Trace) (i j q p : ℕ) : Type 0 where
  pub first : live_clock_of v i ≡ Some q
  pub second : live_clock_of v j ≡ Some p
  pub live : is_live v q ≡ true
  pub live_too : is_live v p ≡ true
  pub number : live_number_of v q ≡ i
  pub number_too : live_number_of v p ≡ j
  pub asks : line_at ADS v q ≡ true
  pub asks_too : line_at ADS v p ≡ true
  pub deferred : is_deferred v i ≡ true

reply_snoop_of : (v : Trace) (q : ℕ) → (row_at v q).reply_snoop ≡ reached_by_reply snoop_end_of v q
unfolding row_at
reply_snoop_of v q = refl

-- the snoop end of the reply
by_reply_end : (v : Trace) (i s : ℕ) (o : Option ℕ) → reply_clock_of v i ≡ o
    → is_before (option_and_then (reached snoop_end_of v) o) s
    ≡ is_before (option_and_then (snoop_end_of v) (option_map (live_number_of v) o)) s
by_reply_end v i s None e = refl
by_reply_end v i s (Some p) e = let l = live_of_reply v i p e in ap (λ o. is_before o s) (reached-live snoop_end_of v p l.0)

answered_is : (v : Trace) (i q s : ℕ) → is_live v q ≡ true → live_number_of v q ≡ i → is_deferred v i ≡ true
    → is_before (row_at v q).reply_snoop s ≡ is_answered_below v i s
unfolding is_answered_below reply_number_of reached_by_reply
answered_is v i q s live n d =
    let at : reply_at v q ≡ reply_clock_of v i = reply_deferred v q live (ap (is_deferred v) n ∙ d) ∙ ap (reply_clock_of v) n in
    ap (λ o. is_before o s) (reply_snoop_of v q)
    ∙ ap (λ o. is_before (option_and_then (reached snoop_end_of v) o) s) at
    ∙ by_reply_end v i s (reply_clock_of v i) refl

snoop_is : (v : Trace) (i q : ℕ) → is_live v q ≡ true → live_number_of v q ≡ i
    → (row_at v q).snoop ≡ option_map (snooped_by v) (snoop_end_of v i)
snoop_is v i q live n = snoop_of_row v q live ∙ ap (λ k. option_map (snooped_by v) (snoop_end_of v k)) n

between_ends : (v : Trace) (i : ℕ) (reply : Option ℕ) (a b : Option ℕ) → ((s : ℕ) → is_before reply s ≡ is_answered_below v i s)
    → is_some_and (option_map (snooped_by v) a) (λ t. is_some_and (option_map (snooped_by v) b) (λ s. nat_lt t.clock s.clock && not (is_before reply s.clock)))
    ≡ is_some_and a (λ t. is_some_and b (λ s. nat_lt t s && not (is_answered_below v i s)))
unfolding is_some_and snooped_by
between_ends v i reply None b f = refl
between_ends v i reply (Some t) None f = refl
between_ends v i reply (Some t) (Some s) f = ap (λ b. nat_lt t s && not b) (f s)

-- the line
by_agent : (g : Option ℕ) (s n : Bool) → (not s && is_some g && n) ≡ (not s && is_some_and g (λ a. n))
unfolding is_some_and
by_agent None true n = refl
by_agent None false n = refl
by_agent (Some a) true n = refl
by_agent (Some a) false n = refl

row_agent_line : (v : Trace) (q : ℕ) → row_line (row_at v q) ≡ cond (is_reply (request_at v q)) None (line_of v q)
unfolding row_at
row_agent_line v q = ap (λ r. cond (is_reply r) None (line_of v q)) (request_is v q)

names_form : (v : Trace) (q line : ℕ) (b : Bool) → line_at ADS v q ≡ true → line_of v q ≡ Some line → is_reply (request_at v q) ≡ b
    → names v line q ≡ not b
unfolding names is_at is_some_and
names_form v q line b t e f = rw (t, e, eq-eqb line line refl, f) refl

module _ (v : Trace) (q p : ℕ) (spoiled : ℕ → Bool) (t : line_at ADS v q ≡ true) (u : line_at ADS v p ≡ true)
    (k : (line : ℕ) → spoiled line ≡ is_spoiled v line) where
  line_by : (b : Bool) (o : Option ℕ) → is_reply (request_at v q) ≡ b → line_of v q ≡ o
      → is_some_and (cond b None o) (λ line. not (spoiled line) && is_some (row_agent (row_at v q)) && row_names line (row_at v p))
      ≡ is_some_and o (λ line. names v line q && not (is_spoiled v line) && is_some_and (agent_at v q) (λ a. names v line p))
  unfolding is_some_and
  line_by true None f e = refl
  line_by false None f e = refl
  line_by true (Some line) f e = rw (names_form v q line true t e f) refl
  line_by false (Some line) f e =
      rw (k line, agent_is v q, names_is v line p u, names_form v q line false t e f)
      (by_agent (agent_at v q) (is_spoiled v line) (names v line p))

  line_is : has_judged_line spoiled (row_at v q) (row_at v p) ≡ of_request v q (λ line a. names v line p)
  unfolding of_request
  line_is =
      ap (λ o. is_some_and o (λ line. not (spoiled line) && is_some (row_agent (row_at v q)) && row_names line (row_at v p)))
      (row_agent_line v q)
      ∙ line_by (is_reply (request_at v q)) (line_of v q) refl refl

-- how it is served
ended : (v : Trace) (line : Lines) (test : Snooped → Bool) (o : Option ℕ) → ((s : ℕ) → test (snooped_by v s) ≡ line_at line v s)
    → is_some_and (option_map (snooped_by v) o) test ≡ is_some_and o (line_at line v)
unfolding is_some_and
ended v line test None f = refl
ended v line test (Some s) f = f s

defer_by : (v : Trace) (s : ℕ) → (snooped_by v s).defer ≡ line_at DEFER v s
unfolding snooped_by
defer_by v s = refl

hitm_by : (v : Trace) (s : ℕ) → (snooped_by v s).hitm ≡ line_at HITM v s
unfolding snooped_by
hitm_by v s = refl

served_is : (v : Trace) (j p : ℕ) → is_live v p ≡ true → live_number_of v p ≡ j
    → is_row_served (row_at v p) ≡ is_served_or_deferred v j
unfolding is_served_or_deferred line_at_snoop_end
served_is v j p live n =
    rw (
      snoop_is v j p live n,
      ended v DEFER (λ s. s.defer) (snoop_end_of v j) (defer_by v),
      ended v HITM (λ s. s.hitm) (snoop_end_of v j) (hitm_by v),
      deferred_is v p,
      live,
      n,
    ) refl

module _ {v : Trace} {i j q p : ℕ} (g : ArePair v i j q p) where
  between_is : asks_between (row_at v q) (row_at v p)
      ≡ is_some_and (snoop_end_of v i) (λ t. is_some_and (snoop_end_of v j) (λ s. nat_lt t s && not (is_answered_below v i s)))
  between_is =
      rw (snoop_is v i q g.live g.number, snoop_is v j p g.live_too g.number_too)
      (between_ends v i (row_at v q).reply_snoop (snoop_end_of v i) (snoop_end_of v j)
      (λ s. answered_is v i q s g.live g.number g.deferred))

  pub pair_is : (spoiled : ℕ → Bool) → ((line : ℕ) → spoiled line ≡ is_spoiled v line)
      → is_given_to spoiled (row_at v q) (row_at v p) ≡ is_given_again_to v i j
  unfolding is_given_again_to is_some_and
  pair_is spoiled k =
      rw (
        between_is,
        line_is v q p spoiled g.asks g.asks_too k,
        purpose_is v p,
        served_is v j p g.live_too g.number_too,
        g.first,
        g.second,
      ) refl

-- a row that has its snoop end is that of a live request
snoop_dead : (v : Trace) (p : ℕ) → is_live v p ≡ false → (row_at v p).snoop ≡ None
unfolding row_at snoop_at reached
snoop_dead v p f = rw f refl

between_none : (row : Row) (o : Option Snooped) → is_some_and o (λ t. is_some_and {A = Snooped} None (λ s. nat_lt t.clock s.clock && not (is_before row.reply_snoop s.clock))) ≡ false
unfolding is_some_and
between_none row None = refl
between_none row (Some t) = refl

pub snooped_live : (v : Trace) (row : Row) (p : ℕ) → asks_between row (row_at v p) ≡ true → is_live v p ≡ true
snooped_live v row p t =
    elim (cases_Bool (is_live v p)) [
      | inl live ↦ live
      | inr dead ↦ absurd (both_ways _ (between_none row row.snoop) (rw (snoop_dead v p dead) at t))
    ]
