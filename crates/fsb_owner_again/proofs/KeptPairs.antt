-- A pair whose second response does not lie in the past is kept.
use Rattle.std.proofs.Common.{ℕ, ◌<◌, ◌≤◌, ◌≡◌, true, false, Option, Some, None}
use Rattle.std.proofs.Common.{refl, sym, ap, ◌∙◌, arith, inl, inr}
use Rattle.std.specs.Option.{option_and_then}
use Rattle.std.proofs.lemmas.Bool.{and_parts, both_ways, cases_eq, cases_lt, false_from_ne_true}
use Rattle.fsb_count.specs.Options.{is_before, is_some_and}
use Rattle.fsb_count.proofs.Interface.{is_before-parts}
use Rattle.fsb_encode.specs.declared.request.Kind.{Kind}
use Rattle.fsb_encode.specs.declared.request.Kind.TheVariants as kinds
use Rattle.fsb_encode.specs.declared.request.Request.{Request}
use Rattle.fsb_trace.specs.At.{Trace, request_at}
use Rattle.fsb_trace.specs.Flight.{is_live_reply_to, is_reply_to, reply_clock_of}
use Rattle.fsb_trace.specs.Outcome.{is_deferred, response_clock_of}
use Rattle.fsb_trace.specs.Requests.{is_live, is_reply, is_reply_kind, live_clock_of, live_number_of}
use Rattle.fsb_trace.specs.Response.{end_of}
use Rattle.fsb_trace.proofs.Interface.{end_of-response, live_clock_of-number, snoop_end_of-rises}
use Rattle.fsb_laws.specs.Orderly.{Orderly}
use Rattle.fsb_laws.proofs.Interface.{has_answer, live_of_reply}
use Rattle.fsb_owners.specs.Shown.{purpose_at, purpose_of}
use Rattle.fsb_owner_table.specs.Kept.{is_row_closed, row_last_clock}
use Rattle.fsb_owner_table.specs.RowAfter.{is_row_deferred}
use Rattle.fsb_owner_table.specs.Rows.{reached, reached_by_reply, reply_at, row_at}
use Rattle.fsb_owner_table.proofs.KeptRows.{last_of}
use Rattle.fsb_owner_table.proofs.Reached.{reached-parts}
use Rattle.fsb_owner_table.proofs.RowGoes.{deferred_is, reply_deferred}
use Rattle.fsb_owner_laws.proofs.AgreeWords.{reply_found, some_same}
use Rattle.fsb_owner_rows.proofs.Closing.{last_before}
use Rattle.fsb_owner_rows.proofs.Origins.{closed_live}
use Rattle.fsb_owner_again.proofs.Given.{IsGiven}
use Rattle.fsb_owner_again.proofs.PairRows.{ArePair}
use Rattle.fsb_owner_again.proofs.PastPairs.{answered_from, response_rises}

-- a reply asks for nothing
no_purpose : (k : Kind) → is_reply_kind k ≡ true → purpose_of k ≡ None
unfolding is_reply_kind purpose_of
no_purpose kinds.Reply e = refl
no_purpose kinds.Invalidate e = absurd (let no : ⊥ = cc in no)
no_purpose kinds.Read e = absurd (let no : ⊥ = cc in no)
no_purpose kinds.WriteBack e = absurd (let no : ⊥ = cc in no)
no_purpose kinds.Upgrade e = absurd (let no : ⊥ = cc in no)

reply_purpose : (o : Option Request) → is_reply o ≡ true → option_and_then (λ r. purpose_of r.kind) o ≡ None
unfolding is_reply is_some_and
reply_purpose None e = absurd (let no : ⊥ = cc in no)
reply_purpose (Some r) e = no_purpose r.kind e

asks_nothing : (v : Trace) (i p : ℕ) → is_live_reply_to v i p ≡ true → purpose_at v p ≡ None
unfolding is_live_reply_to is_reply_to purpose_at
asks_nothing v i p t =
    let a = and_parts (is_live v p) _ t in
    let b = and_parts _ (is_before (response_clock_of v i) p) a.1 in
    let c = and_parts _ _ b.0 in
    let d = and_parts _ (is_reply (request_at v p)) c.0 in reply_purpose (request_at v p) d.1

by_reply : (v : Trace) (t : ℕ) (o : Option ℕ) → option_and_then (reached end_of v) o ≡ Some t
    → (p : ℕ) × (o ≡ Some p) × (reached end_of v p ≡ Some t)
by_reply v t None e = absurd (let no : ⊥ = cc in no)
by_reply v t (Some p) e = (p, refl, e)

reply_ended : (v : Trace) (q t : ℕ) → reached_by_reply end_of v q ≡ Some t
    → (p : ℕ) × (reply_at v q ≡ Some p) × (reached end_of v p ≡ Some t)
unfolding reached_by_reply
reply_ended v q t e = by_reply v t (reply_at v q) e

module _ {v : Trace} {i j q p : ℕ} (g : ArePair v i j q p) (o : Orderly v) (k : IsGiven v i j) (d : ℕ)
    (late : (r : ℕ) → response_clock_of v j ≡ Some r → d ≤ r) where
  -- the second row has no end below d
  second_open : is_row_closed (row_at v p) d ≡ false
  second_open =
      closed_live v p d g.live_too (false_from_ne_true _ (λ t.
      let e = is_before-parts (reached end_of v p) d (last_before v o p d t) in
      let s = reached-parts end_of v p e.0 e.1 in
      let at : end_of v j ≡ Some e.0 = ap (end_of v) (sym g.number_too) ∙ s.1 in
      let r = end_of-response v j e.0 at in
      let l = late r.0 r.1 in omega (arith, l, r.2, e.2)))

  -- the reply to the first comes behind the second
  reply_late : (c e : ℕ) → reply_clock_of v i ≡ Some c → end_of v (live_number_of v c) ≡ Some e → e < d → ⊥
  reply_late c e f h less =
      let m : ℕ = live_number_of v c in
      let live = live_of_reply v i c f in
      let r = end_of-response v m e h in
      let a = has_answer v r.0 m (o.timely m r.0 r.1) in
      elim (cases_lt m j) [
        | inl before ↦
            let s = snoop_end_of-rises v m j k.late before k.is_late in
            both_ways _ k.unanswered (answered_from v i k.late c s.0 f s.1 (omega (arith, s.2)))
        | inr more ↦ elim (cases_eq m j) [
          | inl same ↦
              let own : live_clock_of v j ≡ Some c = ap (live_clock_of v) (sym same) ∙ live_clock_of-number v c live.1 live.0 in
              let at : c ≡ k.second = some_same c k.second (sym own ∙ k.is_second) in
              let none : purpose_at v k.second ≡ None = ap (purpose_at v) (sym at) ∙ asks_nothing v i c (reply_found v i c f) in
              let some = k.is_kind in let no : ⊥ = cc in no
          | inr apart ↦
              let t = response_rises v j m r.0 (omega (arith, more, apart)) r.1 in
              let l = late t.0 t.1 in omega (arith, l, t.2, r.2, less)
        ]
      ]

  first_deferred : is_row_deferred (row_at v q) ≡ true
  first_deferred = deferred_is v q ∙ (rw (g.live, g.number, g.deferred) refl)

  last_is : row_last_clock (row_at v q) ≡ reached_by_reply end_of v q
  last_is = last_of v q ∙ (rw first_deferred refl)

  first_open : is_row_closed (row_at v q) d ≡ false
  first_open =
      closed_live v q d g.live (false_from_ne_true _ (λ t.
      let e = is_before-parts (row_last_clock (row_at v q)) d t in
      let is : reached_by_reply end_of v q ≡ Some e.0 = sym last_is ∙ e.1 in
      let c = reply_ended v q e.0 is in
      let at : reply_clock_of v i ≡ Some c.0 =
      ap (reply_clock_of v) (sym g.number)
      ∙ sym (reply_deferred v q g.live (ap (is_deferred v) g.number ∙ g.deferred)) ∙ c.1 in
      reply_late c.0 e.0 at (reached-parts end_of v c.0 e.0 c.2).1 e.2))

  pub both_open : (is_row_closed (row_at v q) d ≡ false) × (is_row_closed (row_at v p) d ≡ false)
  both_open = (first_open, second_open)
