-- The samples that an audit was fed.
use Rattle.std.specs.Prelude.{◌≡◌, ◌<◌, ◌≤◌, ◌⊎◌, ℕ, zero, suc, ◌+◌, ◌-◌, Bool, true, false, if◌then◌else◌, Option, Some, None, length, List, slice_index}
use Rattle.std.specs.Option.{option_map}
use Rattle.fsb_count.specs.Options.{is_some_and}
use Rattle.fsb_signal.specs.declared.lines.TheConstants.Lines.{ADS}
use Rattle.fsb_signal.specs.declared.marks.Marks.{Marks}
use Rattle.fsb_signal.specs.Samples.{data_at}
use Rattle.fsb_encode.specs.declared.request.Request.{Request}
use Rattle.fsb_encode.specs.declared.request.Pair.{Pair}
use Rattle.fsb_trace.specs.At.{Trace, line_back, known_pair_at, request_at}
use Rattle.fsb_trace.specs.Agree.{AgreeTo}
use Rattle.fsb_trace.specs.Requests.{is_live, is_reply}
use Rattle.fsb_trace.specs.Outcome.{outcome_of, is_deferred}
use Rattle.fsb_trace.specs.Flight.{is_outstanding, reply_clock_of}
use Rattle.fsb_trace.specs.Verdict.{verdict}
use Rattle.fsb_laws.specs.Orderly.{Orderly}
use Rattle.fsb_laws.specs.Progress.{response_count}
use Rattle.fsb_rules.specs.Checker.{Stands as CheckerStands}
use Rattle.fsb_audit.specs.declared.finding.Finding.{Finding}
use Rattle.fsb_audit.specs.declared.audit.Audit.{Audit}
use Rattle.fsb_audit.specs.MovedChunks.{does_come_from_memory, moved_count}
use Rattle.fsb_audit.specs.Fouls.{latest_move, is_foul_clock, first_foul, foul_at, broken_at, finding_of}
use Rattle.fsb_audit.specs.AuditRegisters.{first_asked, data_in}

-- memory was lacking in a call
abbrev pub has_lacked_memory : Audit → Bool
has_lacked_memory audit = audit.has_lacked_memory

-- the data of the last of so many requests that responded come from memory
unfoldable pub comes_after : Trace → ℕ → Bool
comes_after h zero = false
comes_after h (suc i) = is_some_and (outcome_of h i) does_come_from_memory

-- the words of the last clock, where a request begins there
unfoldable pub first_back : Trace → Option Pair
first_back h = if line_back ADS h (length h) 1 then known_pair_at h (length h - 1) else None

-- the data of a chunk at the latest clock at which it was moved
unfoldable pub latest_data : Trace → ℕ → Option ℕ
latest_data h chunk = option_map (λ b. (data_at h b).bits) (latest_move h chunk (length h))

-- under its ID each outstanding request has the chunk for which it asked first
pub record HasAsked (asked : List ℕ) (h : Trace) : Type 0 where
  pub size : length asked ≡ 256
  pub kept : (q : ℕ) (r : Request) → q + 1 < length h → is_outstanding h (length h) q ≡ true → request_at h q ≡ Some r → slice_index asked r.did ≡ first_asked r

-- each live reply is the reply to a Deferred request
pub record IsAnswering (h : Trace) : Type 0 where
  pub answers : (q : ℕ) → q + 1 < length h → is_live h q ≡ true → is_reply (request_at h q) ≡ true → (i : ℕ) × (is_deferred h i ≡ true) × (reply_clock_of h i ≡ Some q)

-- no rule is broken by the history and no clock of it is foul, and what is kept is what it leaves
pub record KeepsUp (audit : Audit) (marks : Marks) (h : Trace) : Type 0 where
  pub checker : CheckerStands audit.checker marks h
  pub sound : verdict marks h ≡ None
  pub clean : (c : ℕ) → c < length h → is_foul_clock h c ≡ false
  pub clock : audit.clock ≡ length h
  pub first : audit.first ≡ first_back h
  pub asked : HasAsked audit.asked h
  pub answering : IsAnswering h
  pub from_memory : audit.from_memory ≡ comes_after h (response_count h)
  pub count : audit.count ≡ moved_count h
  pub moved : (chunk : ℕ) → data_in audit.moved.entries chunk ≡ latest_data h chunk

-- with the history a rule is broken first, where no clock of its orderly past is foul
pub record BreaksFirst (marks : Marks) (past h : Trace) (found : Finding) : Type 0 where
  pub clean : (c : ℕ) → c < length past → is_foul_clock past c ≡ false
  pub rule : ℕ × ℕ
  pub broken : verdict marks h ≡ Some rule
  pub behind : rule.0 ≤ length past
  pub told : broken_at rule ≡ found

-- or a clock of its past is foul first
pub record FoulsFirst (past : Trace) (found : Finding) : Type 0 where
  pub clock : ℕ
  pub foul : first_foul past (length past) ≡ Some clock
  pub told : foul_at past clock ≡ Some found

-- what was found stays found, by a past of the history that breaks no rule
pub record IsFoundForGood (marks : Marks) (h : Trace) (found : Finding) : Type 0 where
  pub past : Trace
  pub agree : AgreeTo (length past) past h
  pub orderly : Orderly past
  pub sound : verdict marks past ≡ None
  pub first : BreaksFirst marks past h found ⊎ FoulsFirst past found

-- the audit was made with these marks and fed these samples: unless memory was lacking it found what is to be found in
-- them, and as long as there is nothing it follows them
pub record Stands (audit : Audit) (marks : Marks) (h : Trace) : Type 0 where
  pub found : has_lacked_memory audit ≡ false → audit.found ≡ finding_of marks h
  pub follows : has_lacked_memory audit ≡ false → audit.found ≡ None → KeepsUp audit marks h
  pub settled : has_lacked_memory audit ≡ false → (found : Finding) → audit.found ≡ Some found
      → IsFoundForGood marks h found
