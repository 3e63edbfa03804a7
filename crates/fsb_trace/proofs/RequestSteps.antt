-- The requests of a trace, one clock on.
use Rattle.std.proofs.Common.{ℕ, ◌+◌, ◌≡◌, List, [], ◌∷◌, ◌++◌, map, length, true, false, refl, ap, ◌∙◌}
use Rattle.std.proofs.lemmas.List.{map-append}
use Rattle.fsb_count.specs.Clocks.{all_where}
use Rattle.fsb_count.proofs.Interface.{all_where-passed, all_where-failed}
use Rattle.fsb_signal.specs.declared.lines.TheConstants.Lines.{ADS}
use Rattle.fsb_signal.specs.Samples.{line_at}
use Rattle.fsb_trace.specs.At.{Trace}
use Rattle.fsb_trace.specs.Requests.{seen_at, requests_of}
use Rattle.fsb_trace.specs.declared.seen.Seen.{Seen}

-- the requests that begin below c
abbrev pub seen_before : Trace → ℕ → List Seen
seen_before w c = map (seen_at w) (all_where (line_at ADS w) c)

pub seen_before-start : (w : Trace) → seen_before w 0 ≡ []
unfolding all_where
seen_before-start w = refl

pub seen_before-begun : (w : Trace) (c : ℕ) → line_at ADS w c ≡ true
    → seen_before w (c + 1) ≡ seen_before w c ++ seen_at w c ∷ []
seen_before-begun w c t =
    ap (map (seen_at w)) (all_where-passed (line_at ADS w) c t)
    ∙ map-append (seen_at w) (all_where (line_at ADS w) c) (c ∷ [])

pub seen_before-kept : (w : Trace) (c : ℕ) → line_at ADS w c ≡ false → seen_before w (c + 1) ≡ seen_before w c
seen_before-kept w c f = ap (map (seen_at w)) (all_where-failed (line_at ADS w) c f)

pub seen_before-end : (w : Trace) → seen_before w (length w) ≡ requests_of w
unfolding requests_of
seen_before-end w = refl

pub ruleset request_steps = (seen_before-start, seen_before-begun, seen_before-kept, seen_before-end)
