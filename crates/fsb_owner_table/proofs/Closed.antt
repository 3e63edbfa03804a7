-- When a request is over, by its row and by the trace.
use Rattle.std.proofs.Common.{ℕ, ◌+◌, ◌<◌, ◌≡◌, Bool, true, false, cond, not, ◌&&◌, ◌||◌, Option, Some, None, nat_lt}
use Rattle.std.proofs.Common.{refl, sym, ap, ◌∙◌, inl, inr}
use Rattle.std.specs.Option.{option_and_then}
use Rattle.std.proofs.lemmas.Bool.{cases_Bool}
use Rattle.fsb_count.specs.Options.{is_before, is_some_and}
use Rattle.fsb_trace.specs.At.{Trace}
use Rattle.fsb_trace.specs.Requests.{is_cancelled, is_live, live_number_of, seen_at}
use Rattle.fsb_trace.specs.Outcome.{is_deferred}
use Rattle.fsb_trace.specs.Response.{end_of}
use Rattle.fsb_trace.specs.Flight.{has_ended, is_dropped, is_finished, last_clock_of, reply_clock_of, reply_end_of, reply_number_of}
use Rattle.fsb_laws.proofs.Interface.{last_clock_of-deferred, last_clock_of-plain, live_of_reply}
use Rattle.fsb_owner_table.specs.declared.row.Row.{Row}
use Rattle.fsb_owner_table.specs.Rows.{reached, reached_by_reply, reply_at, row_at}
use Rattle.fsb_owner_table.specs.RowAfter.{is_row_deferred}
use Rattle.fsb_owner_table.specs.Kept.{is_row_closed, is_row_dropped, row_last_clock}
use Rattle.fsb_owner_table.proofs.Reached.{reached-dead, reached-live}
use Rattle.fsb_owner_table.proofs.RowGoes.{deferred_is, reply_deferred}
use Rattle.fsb_owner_table.proofs.KeptRows.{dropped_of, last_of}

-- the end of the reply, by its first clock
reply_end_cases : (v : Trace) (i : ℕ) (o : Option ℕ) → reply_clock_of v i ≡ o
    → option_and_then (reached end_of v) o ≡ reply_end_of v i
unfolding reply_end_of reply_number_of
reply_end_cases v i None e = rw e refl
reply_end_cases v i (Some p) e = reached-live end_of v p (live_of_reply v i p e).0 ∙ (rw e refl)

reply_end_is : (v : Trace) (q : ℕ) → is_live v q ≡ true → is_deferred v (live_number_of v q) ≡ true
    → reached_by_reply end_of v q ≡ reply_end_of v (live_number_of v q)
unfolding reached_by_reply
reply_end_is v q t d = rw (reply_deferred v q t d) (reply_end_cases v (live_number_of v q) (reply_clock_of v (live_number_of v q)) refl)

last_live : (v : Trace) (q : ℕ) → is_live v q ≡ true → (b : Bool) → is_deferred v (live_number_of v q) ≡ b
    → row_last_clock (row_at v q) ≡ last_clock_of v (live_number_of v q)
last_live v q t true d =
    let deferred : is_row_deferred (row_at v q) ≡ true = deferred_is v q ∙ (rw (t, d) refl) in
    last_of v q ∙ (rw deferred (reply_end_is v q t d)) ∙ sym (last_clock_of-deferred v (live_number_of v q) d)
last_live v q t false f =
    let plain : is_row_deferred (row_at v q) ≡ false = deferred_is v q ∙ (rw (t, f) refl) in
    last_of v q ∙ (rw plain (reached-live end_of v q t)) ∙ sym (last_clock_of-plain v (live_number_of v q) f)

last_dead : (v : Trace) (q : ℕ) → is_live v q ≡ false → row_last_clock (row_at v q) ≡ None
last_dead v q f =
    let plain : is_row_deferred (row_at v q) ≡ false = deferred_is v q ∙ (rw f refl) in
    last_of v q ∙ (rw plain (reached-dead end_of v q f))

finished_is : (v : Trace) (q c : ℕ) → is_before (row_last_clock (row_at v q)) c ≡ is_finished v c q
unfolding is_finished is_before is_some_and
finished_is v q c =
    elim (cases_Bool (is_live v q)) [
      | inl t ↦ rw (t, last_live v q t (is_deferred v (live_number_of v q)) refl) refl
      | inr f ↦ rw (f, last_dead v q f) refl
    ]

dropped_is : (v : Trace) (q c : ℕ) → is_row_dropped (row_at v q) c ≡ is_dropped v c q
unfolding is_dropped
dropped_is v q c = dropped_of v q c

end_of_row : (v : Trace) (q : ℕ) → (row_at v q).end ≡ reached end_of v q
unfolding row_at
end_of_row v q = refl

ended_is : (v : Trace) (q c : ℕ) → is_before (row_at v q).end c ≡ has_ended v c q
unfolding has_ended is_before is_some_and
ended_is v q c =
    elim (cases_Bool (is_live v q)) [
      | inl t ↦ rw (t, end_of_row v q ∙ reached-live end_of v q t) refl
      | inr f ↦ rw (f, end_of_row v q ∙ reached-dead end_of v q f) refl
    ]

-- a row is closed below c where its request was dropped or is finished there
pub closed_is : (row : Row) (v : Trace) (q c : ℕ) → row ≡ row_at v q
    → is_row_closed row c ≡ (is_dropped v c q || is_finished v c q)
closed_is row v q c e = rw (e, dropped_is v q c, finished_is v q c) refl

-- and it has left the queue where its request was dropped or has ended
pub left_is : (row : Row) (v : Trace) (q c : ℕ) → row ≡ row_at v q
    → (is_row_dropped row c || is_before row.end c) ≡ (is_dropped v c q || has_ended v c q)
left_is row v q c e = rw (e, dropped_is v q c, ended_is v q c) refl
