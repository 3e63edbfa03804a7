-- The phase rules by their numbers.
use Rattle.std.proofs.Common.{ℕ, zero, suc, ◌<◌, ◌≡◌, ◌&&◌, false, refl, arith}
use Rattle.std.proofs.lemmas.Option.{slice_get_past}
use Rattle.fsb_signal.specs.declared.marks.Marks.{Marks}
use Rattle.fsb_trace.specs.At.{Trace}
use Rattle.fsb_trace.specs.Rules.{phase_rules, breaks, has_unknown_line, is_request_too_soon, is_code_unlawful}
use Rattle.fsb_trace.specs.Rules.{is_queue_full, is_request_blocked, has_no_winner, is_identity_wrong}
use Rattle.fsb_trace.specs.Rules.{is_some_asked_wrongly, is_lock_alone, is_error_alone, is_snoop_line_alone}
use Rattle.fsb_trace.specs.Rules.{is_snoop_result_unfit, is_response_early, is_code_wrong, is_target_ready_wrong}
use Rattle.fsb_trace.specs.Rules.{is_data_wrong, has_unknown_data, is_outstanding_wrong, is_address_parity_wrong}
use Rattle.fsb_trace.specs.Rules.{is_request_parity_wrong, is_marked_address_wrong, is_marked_request_wrong}

pub breaks-1 : (m : Marks) (v : Trace) (c : ℕ) → breaks m v c 1 ≡ has_unknown_line v c
unfolding breaks phase_rules
breaks-1 m v c = refl

pub breaks-2 : (m : Marks) (v : Trace) (c : ℕ) → breaks m v c 2 ≡ is_request_too_soon v c
unfolding breaks phase_rules
breaks-2 m v c = refl

pub breaks-3 : (m : Marks) (v : Trace) (c : ℕ) → breaks m v c 3 ≡ is_code_unlawful v c
unfolding breaks phase_rules
breaks-3 m v c = refl

pub breaks-4 : (m : Marks) (v : Trace) (c : ℕ) → breaks m v c 4 ≡ is_queue_full v c
unfolding breaks phase_rules
breaks-4 m v c = refl

pub breaks-5 : (m : Marks) (v : Trace) (c : ℕ) → breaks m v c 5 ≡ is_request_blocked v c
unfolding breaks phase_rules
breaks-5 m v c = refl

pub breaks-6 : (m : Marks) (v : Trace) (c : ℕ) → breaks m v c 6 ≡ has_no_winner v c
unfolding breaks phase_rules
breaks-6 m v c = refl

pub breaks-7 : (m : Marks) (v : Trace) (c : ℕ) → breaks m v c 7 ≡ is_identity_wrong v c
unfolding breaks phase_rules
breaks-7 m v c = refl

pub breaks-8 : (m : Marks) (v : Trace) (c : ℕ) → breaks m v c 8 ≡ is_some_asked_wrongly v c
unfolding breaks phase_rules
breaks-8 m v c = refl

pub breaks-9 : (m : Marks) (v : Trace) (c : ℕ) → breaks m v c 9 ≡ is_lock_alone v c
unfolding breaks phase_rules
breaks-9 m v c = refl

pub breaks-10 : (m : Marks) (v : Trace) (c : ℕ) → breaks m v c 10 ≡ is_error_alone v c
unfolding breaks phase_rules
breaks-10 m v c = refl

pub breaks-11 : (m : Marks) (v : Trace) (c : ℕ) → breaks m v c 11 ≡ is_snoop_line_alone v c
unfolding breaks phase_rules
breaks-11 m v c = refl

pub breaks-12 : (m : Marks) (v : Trace) (c : ℕ) → breaks m v c 12 ≡ is_snoop_result_unfit v c
unfolding breaks phase_rules
breaks-12 m v c = refl

pub breaks-13 : (m : Marks) (v : Trace) (c : ℕ) → breaks m v c 13 ≡ is_response_early v c
unfolding breaks phase_rules
breaks-13 m v c = refl

pub breaks-14 : (m : Marks) (v : Trace) (c : ℕ) → breaks m v c 14 ≡ is_code_wrong v c
unfolding breaks phase_rules
breaks-14 m v c = refl

pub breaks-15 : (m : Marks) (v : Trace) (c : ℕ) → breaks m v c 15 ≡ is_target_ready_wrong v c
unfolding breaks phase_rules
breaks-15 m v c = refl

pub breaks-16 : (m : Marks) (v : Trace) (c : ℕ) → breaks m v c 16 ≡ is_data_wrong v c
unfolding breaks phase_rules
breaks-16 m v c = refl

pub breaks-17 : (m : Marks) (v : Trace) (c : ℕ) → breaks m v c 17 ≡ has_unknown_data v c
unfolding breaks phase_rules
breaks-17 m v c = refl

pub breaks-18 : (m : Marks) (v : Trace) (c : ℕ) → breaks m v c 18 ≡ is_outstanding_wrong v c
unfolding breaks phase_rules
breaks-18 m v c = refl

pub breaks-19 : (m : Marks) (v : Trace) (c : ℕ) → breaks m v c 19 ≡ (m.ap && is_address_parity_wrong v c)
unfolding breaks phase_rules is_marked_address_wrong
breaks-19 m v c = refl

pub breaks-20 : (m : Marks) (v : Trace) (c : ℕ) → breaks m v c 20 ≡ (m.rp && is_request_parity_wrong v c)
unfolding breaks phase_rules is_marked_request_wrong
breaks-20 m v c = refl

pub breaks-none : (m : Marks) (v : Trace) (c : ℕ) → breaks m v c 0 ≡ false
unfolding breaks
breaks-none m v c = refl

-- there are 20 rules
pub breaks-past : (m : Marks) (v : Trace) (c j : ℕ) → 20 < j → breaks m v c j ≡ false
unfolding breaks phase_rules
breaks-past m v c zero l = absurd (omega arith)
breaks-past m v c (suc j) l = rw (slice_get_past (phase_rules m) j (omega arith), breaks) refl

pub ruleset rule_steps = (
  breaks-none,
  breaks-past,
  breaks-1,
  breaks-2,
  breaks-3,
  breaks-4,
  breaks-5,
  breaks-6,
  breaks-7,
  breaks-8,
  breaks-9,
  breaks-10,
  breaks-11,
  breaks-12,
  breaks-13,
  breaks-14,
  breaks-15,
  breaks-16,
  breaks-17,
  breaks-18,
  breaks-19,
  breaks-20,
)
