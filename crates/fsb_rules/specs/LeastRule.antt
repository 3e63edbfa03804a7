-- What a sample breaks, by the trace.
use Rattle.std.specs.Prelude.{ℕ, suc, ◌-◌, Bool, ◌||◌, not, List, [], ◌∷◌, drop, if◌then◌else◌, Option, Some, None}
use Rattle.std.specs.Option.{option_map}
use Rattle.fsb_signal.specs.declared.lines.TheConstants.Lines.{ADS}
use Rattle.fsb_signal.specs.declared.marks.Marks.{Marks}
use Rattle.fsb_trace.specs.At.{Trace, line_back, request_at}
use Rattle.fsb_trace.specs.Rules.{phase_rules, is_request_too_soon, is_code_unlawful, is_identity_wrong}
use Rattle.fsb_rules.specs.declared.live.LiveRequest.{LiveRequest}
use Rattle.fsb_rules.specs.Live.{live_from}

-- the request whose second clock is n, as it is kept
unfoldable pub begun_at : Trace → ℕ → Option LiveRequest
begun_at v n = if line_back ADS v n 1 then option_map (live_from (n - 1)) (request_at v (n - 1)) else None

-- the requests that have their first or second clock at n keep the rules of spacing, of codes and of identity there
unfoldable pub begins_well : Trace → ℕ → Bool
begins_well v n = not (is_request_too_soon v n || is_code_unlawful v n || is_identity_wrong v n)

-- the number of the first of these rules that is broken at the last clock n of v; the first of them has number j
unfoldable pub least_among : List (Trace → ℕ → Bool) → Trace → ℕ → ℕ → Option ℕ
least_among [] v n j = None
least_among (rule ∷ rules) v n j = if rule v n then Some j else least_among rules v n (suc j)

-- the least rule that is broken there, past the first j rules
unfoldable pub least_past : ℕ → Marks → Trace → ℕ → Option ℕ
least_past j m v n = least_among (drop j (phase_rules m)) v n (suc j)
