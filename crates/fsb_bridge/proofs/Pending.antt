-- The lines that a list waits for.
use Rattle.std.proofs.Common.{ℕ, ◌≡◌, Bool, true, false, ◌&&◌, not, List, Some, refl, ap, ◌∙◌}
use Rattle.std.specs.Option.{option_and_then}
use Rattle.fsb_count.specs.Options.{is_some_and, is_at, is_before}
use Rattle.fsb_count.proofs.Interface.{any_where-same}
use Rattle.fsb_trace.specs.At.{Trace}
use Rattle.fsb_trace.specs.Requests.{live_count}
use Rattle.fsb_trace.specs.Snoop.{snoop_end_of}
use Rattle.fsb_trace.specs.Flight.{reply_number_of}
use Rattle.fsb_trace.specs.Outcome.{is_settled_deferred}
use Rattle.fsb_trace.specs.Deferral.{is_pending, keeps_pending}
use Rattle.fsb_bridge.specs.declared.deferral.Waiting.{Waiting}
use Rattle.fsb_bridge.specs.Deferrals.{is_of_line, is_waited_for}
use Rattle.fsb_bridge.specs.DeferralList.{StandsFor, live_line_of, waits, waiting_at}
use Rattle.fsb_bridge.proofs.Matched.{map-Matched, list_any-Matched, list_any-all_where}

of_line : (w : Trace) (line : ℕ) (e : Waiting) (i : ℕ) → Some e.deferral.request.line ≡ live_line_of w i
    → is_of_line line e ≡ is_at (live_line_of w i) line
unfolding is_at is_some_and
of_line w line e i s = ap (λ o. is_at o line) s

apart : (a b c d : Bool) → (a && (b && c && d)) ≡ (a && b && c && d)
apart true b c d = refl
apart false b c d = refl

keeps : (w : Trace) (turns : List ℕ) (line c i : ℕ)
    → (is_at (live_line_of w i) line && waits w turns c i) ≡ keeps_pending w turns line c i
unfolding live_line_of waits keeps_pending
keeps w turns line c i =
    apart (is_at (live_line_of w i) line) (is_settled_deferred w turns i) (is_before (snoop_end_of w i) c)
    (not (is_before (option_and_then (snoop_end_of w) (reply_number_of w i)) c))

pub is_waited_for-StandsFor : (list : List Waiting) (w : Trace) (turns : List ℕ) (c line : ℕ)
    → StandsFor list w turns c → is_waited_for line list ≡ is_pending w turns line c
unfolding is_pending waiting_at
is_waited_for-StandsFor list w turns c line h =
    list_any-Matched _ (is_of_line line) (λ i. is_at (live_line_of w i) line) list (waiting_at w turns c)
    (of_line w line) (map-Matched _ (live_line_of w) list (waiting_at w turns c) h.lines)
    ∙ list_any-all_where (waits w turns c) (λ i. is_at (live_line_of w i) line) (live_count w)
    ∙ any_where-same _ (keeps_pending w turns line c) (live_count w) (record { same = λ i l. keeps w turns line c i })
