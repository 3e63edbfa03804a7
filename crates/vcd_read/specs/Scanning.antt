-- What bytes make of the reader's state.
use Rattle.std.specs.Prelude.{◌≡◌, ℕ, ◌+◌, ◌≤◌, Bool, not, ◌&&◌, Option, is_some, if◌then◌else◌, min, List, [], ◌++◌, length}
use Rattle.fsb_signal.specs.declared.sample.Sample.{Sample}
use Rattle.vcd_grammar.specs.Tokens.{is_white, longest, ended_at, tokens_from, open_run_from}
use Rattle.vcd_grammar.specs.declared.fault.VcdFault.{VcdFault}
use Rattle.vcd_grammar.specs.Reading.{or_cut}
use Rattle.vcd_read.specs.declared.scan.Scan.{Scan}
use Rattle.vcd_read.specs.Lines.{OpenLines, rises, sample_of_end}
use Rattle.vcd_read.specs.Taking.{Taken, taken, untaken, take_tokens, samples_in_tokens, pushed}

-- what tokens have made, how many bytes there were, and the run that stands open
pub record Reading : Type 0 where
  pub taken : Taken
  pub at : ℕ
  pub run : List ℕ

-- what a scan has read
abbrev pub reading : Scan → Reading
reading s = record { taken = taken s.machine; at = s.at; run = s.run.bytes.items }

-- before the first byte
abbrev pub unread : Reading
unread = record { taken = untaken; at = 0; run = [] }

-- how many samples were decided
abbrev pub decided_in_reading : Reading → ℕ
decided_in_reading r = r.taken.lines.decided

-- what bytes make of it
abbrev pub after_bytes : Reading → List ℕ → Reading
after_bytes r bytes = record {
  taken = take_tokens r.taken (tokens_from r.at r.run bytes);
  at = r.at + length bytes;
  run = open_run_from r.run bytes;
}

-- the samples that bytes decide
abbrev pub samples_in_bytes : Reading → List ℕ → List Sample
samples_in_bytes r bytes = samples_in_tokens r.taken (tokens_from r.at r.run bytes)

-- the bytes are as many as the samples and the run ask for
pub record Fits (r : Reading) : Type 0 where
  pub few : decided_in_reading r + min (length r.run) longest ≤ r.at

-- a first part of the samples was appended
pub record Part (limit decided : ℕ) (samples old new : List Sample) : Type 0 where
  pub first : List Sample
  pub rest : List Sample
  pub split : first ++ rest ≡ samples
  pub appended : new ≡ pushed limit decided old first

-- a byte that is no white space
abbrev pub is_dark : ℕ → Bool
is_dark b = not (is_white b)

-- what the last token makes of it, where the text ends
abbrev pub ended_taken : Reading → Taken
ended_taken r = take_tokens r.taken (ended_at r.at r.run)

-- the samples that the last token decides
abbrev pub ended_samples : Reading → List Sample
ended_samples r = samples_in_tokens r.taken (ended_at r.at r.run)

-- the first fault, where the text ends
abbrev pub end_fault : Reading → Option VcdFault
end_fault r = or_cut (ended_taken r).known.fault (ended_taken r).known.mode r.at

-- the sample of the block that stands open, where there is no fault
abbrev pub open_samples : Option VcdFault → OpenLines → List Sample
open_samples fault lines = if is_some fault then [] else sample_of_end lines

-- the clock rises in the block that stands open, and there is no fault
abbrev pub open_rises : Option VcdFault → OpenLines → Bool
open_rises fault lines = not (is_some fault) && rises lines
