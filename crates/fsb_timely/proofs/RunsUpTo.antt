-- A timely run up to one of its clocks is a beginning of the whole run.
use Rattle.std.proofs.Common.{ℕ, ◌+◌, ◌<◌, ◌≡◌, nat_le, length, take, drop, refl, sym, ap, ◌∙◌, arith}
use Rattle.std.specs.List.{list_all}
use Rattle.std.proofs.lemmas.List.{length-take-le, take-append-drop}
use Rattle.fsb_count.proofs.Interface.{count_where-mono}
use Rattle.fsb_trace.specs.At.{Trace}
use Rattle.fsb_timely.specs.Growth.{IsWhole}
use Rattle.fsb_timely.specs.Runs.{Run, requests_below, run_to}
use Rattle.fsb_timely.specs.RunsGoOn.{IsBeginning}
use Rattle.fsb_timely.specs.Timely.{Timely}
use Rattle.fsb_timely.proofs.Beginnings.{requests-kept}
use Rattle.fsb_timely.proofs.WholePast.{split_at}

size-to : (w : Trace) (c : ℕ) → c < length w → length (take (c + 1) w) ≡ c + 1
size-to w c l = length-take-le (c + 1) w (omega arith)

pub run_to-begins : (r : Run) (c : ℕ) → Timely r → c < length r.trace → IsBeginning (run_to r c) r
unfolding run_to
run_to-begins r c h l =
    let split = split_at c 0 (length r.trace) r.log h.in_time in
    record {
      samples = drop (c + 1) r.trace;
      holds = drop (c + 1) r.holds;
      choices = drop (requests_below r.trace (c + 1)) r.choices;
      entries = split.0;
      same_plan = refl;
      more_trace = sym (take-append-drop (c + 1) r.trace);
      more_holds = sym (take-append-drop (c + 1) r.holds);
      more_choices = sym (take-append-drop (requests_below r.trace (c + 1)) r.choices);
      more_log = split.1;
      later = ap (λ n. list_all (λ done. nat_le n done.clock) split.0) (size-to r.trace c l) ∙ split.2;
    }

-- the requests of the first samples
requests-to : (w : Trace) (c : ℕ) → c < length w
    → requests_below (take (c + 1) w) (length (take (c + 1) w)) ≡ requests_below w (c + 1)
requests-to w c l =
    let size = size-to w c l in
    ap (requests_below (take (c + 1) w)) size
    ∙ sym (requests-kept (take (c + 1) w) (drop (c + 1) w) (c + 1) (omega (arith, size)))
    ∙ ap (λ v. requests_below v (c + 1)) (take-append-drop (c + 1) w)

pub run_to-whole : (r : Run) (c : ℕ) → Timely r → c < length r.trace → IsWhole (run_to r c)
unfolding run_to requests_below
run_to-whole r c h l = grind (arith, length-take-le, count_where-mono, requests-to)
