-- A timely run is one that is timely as a whole.
use Rattle.fsb_timely_laws.proofs.Words
use Words.{ℕ, ◌+◌, ◌-◌, ◌<◌, ◌≡◌, ◌↔◌, [], ◌∷◌, length, refl, sym, ◌∙◌, subst, inl, inr, arith, cases_lt, take_all}
use Words.{Orderly, orderly-empty, Trace, orderly-at, Carried, carries_data, Run, run_to, AtEachClock, Part, Timely}
use Words.{EachIsSaidOfTheWhole, IsSaidOfTheWhole, KeepsOrder, Throughout, TimelyAsAWhole}
use Rattle.fsb_timely_laws.proofs.WholeOrder.{orderly-throughout}
use Rattle.fsb_timely_laws.proofs.DataParts.{data-said}
use Rattle.fsb_timely_laws.proofs.LogParts.{completions-said, lock-said, parity-said}
use Rattle.fsb_timely_laws.proofs.SnoopParts.{hazards-said, results-said}
use Rattle.fsb_timely_laws.proofs.StartParts.{lines-said, starts-said}
use Rattle.fsb_timely_laws.proofs.TransferParts.{responses-said}

pub each-said : (r : Run) (c : ℕ) → KeepsOrder r → c < length r.trace → EachIsSaidOfTheWhole r c
each-said r c h l = record {
  request_starts = starts-said r c h l;
  request_lines = lines-said r c h l;
  hazard_lines = hazards-said r c l;
  snoop_results = results-said r c h.in_time l;
  responses_and_data = responses-said r c h.orderly l;
  completions = completions-said r c h.in_time;
  bus_lock = lock-said r c l;
  parity = parity-said r c l;
  carried_data = data-said r c h.orderly l;
}

empty-trace : (w : Trace) → length w ≡ 0 → w ≡ []
empty-trace [] e = refl
empty-trace (x ∷ w) e = absurd (omega (arith, e))

cut-whole : (r : Run) (n : ℕ) → length r.trace ≡ n + 1 → (run_to r n).trace ≡ r.trace
unfolding run_to
cut-whole r n e = take_all (n + 1) r.trace (omega (arith, e))

-- a timely run keeps its order
pub timely-order : (r : Run) → Timely r → KeepsOrder r
timely-order r h = record {
  orderly = elim (cases_lt 0 (length r.trace)) [
    | inl some ↦
        let n : ℕ = length r.trace - 1 in
        subst Orderly (cut-whole r n (omega arith)) (orderly-at r n h (omega arith))
    | inr none ↦ subst Orderly (sym (empty-trace r.trace (omega arith))) orderly-empty
  ];
  in_time = h.in_time;
}

-- a part that is said of the whole holds at each clock throughout the run
both-ways : (part : Part) (r : Run) → ((c : ℕ) → c < length r.trace → IsSaidOfTheWhole part r c)
    → AtEachClock part r ↔ Throughout part r
both-ways part r said = (
  λ h. record { at = λ c l. said c l ∙ h.at c l },
  λ h. record { at = λ c l. sym (said c l) ∙ h.at c l },
)

pub carried-whole : (r : Run) → Orderly r.trace → Carried r ↔ Throughout carries_data r
carried-whole r h = both-ways carries_data r (λ c l. data-said r c h l)

whole-from : (r : Run) → Timely r → TimelyAsAWhole r
whole-from r t =
    let h = timely-order r t in
    record {
      known = t.known;
      one_hold = t.one_hold;
      one_choice = t.one_choice;
      in_time = t.in_time;
      request_starts = (both-ways _ r (λ c l. starts-said r c h l)).0 t.request_starts;
      request_lines = (both-ways _ r (λ c l. lines-said r c h l)).0 t.request_lines;
      hazard_lines = (both-ways _ r (λ c l. hazards-said r c l)).0 t.hazard_lines;
      snoop_results = (both-ways _ r (λ c l. results-said r c h.in_time l)).0 t.snoop_results;
      responses_and_data = (both-ways _ r (λ c l. responses-said r c h.orderly l)).0 t.responses_and_data;
      completions = (both-ways _ r (λ c l. completions-said r c h.in_time)).0 t.completions;
      bus_lock = (both-ways _ r (λ c l. lock-said r c l)).0 t.bus_lock;
      parity = (both-ways _ r (λ c l. parity-said r c l)).0 t.parity;
    }

whole-to : (r : Run) → TimelyAsAWhole r → Timely r
whole-to r t =
    let h : KeepsOrder r =
    record { orderly = orderly-throughout r t.request_starts t.responses_and_data; in_time = t.in_time } in
    record {
      known = t.known;
      one_hold = t.one_hold;
      one_choice = t.one_choice;
      in_time = t.in_time;
      request_starts = (both-ways _ r (λ c l. starts-said r c h l)).1 t.request_starts;
      request_lines = (both-ways _ r (λ c l. lines-said r c h l)).1 t.request_lines;
      hazard_lines = (both-ways _ r (λ c l. hazards-said r c l)).1 t.hazard_lines;
      snoop_results = (both-ways _ r (λ c l. results-said r c h.in_time l)).1 t.snoop_results;
      responses_and_data = (both-ways _ r (λ c l. responses-said r c h.orderly l)).1 t.responses_and_data;
      completions = (both-ways _ r (λ c l. completions-said r c h.in_time)).1 t.completions;
      bus_lock = (both-ways _ r (λ c l. lock-said r c l)).1 t.bus_lock;
      parity = (both-ways _ r (λ c l. parity-said r c l)).1 t.parity;
    }

pub timely-whole : (r : Run) → Timely r ↔ TimelyAsAWhole r
timely-whole r = (whole-from r, whole-to r)
