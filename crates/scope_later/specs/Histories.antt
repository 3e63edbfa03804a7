-- What may have come before a part of a waveform.
use Rattle.std.specs.Prelude.{ℕ, zero, suc, ◌+◌, ◌*◌, [], ◌∷◌}
use Rattle.fsb_signal.specs.declared.lines.TheConstants.Lines.{ADS, AERR}
use Rattle.fsb_signal.specs.declared.sample.Sample.{Sample}
use Rattle.fsb_signal.specs.Samples.{known_sample, idle}
use Rattle.fsb_trace.specs.At.{Trace}
use Rattle.fsb_trace.specs.Winner.{bus_request_of}

-- how many clocks a history has
abbrev pub past : ℕ
past = 8

-- the ID of the request of this agent, 0 to 3: one of its own, whose bits that are 1 are even in number, as the address
-- parity wants it
abbrev pub id_in_history : ℕ → ℕ
id_in_history zero = 0
id_in_history (suc zero) = 17
id_in_history (suc (suc zero)) = 33
id_in_history (suc (suc (suc a))) = 48

-- the agent asks for the bus
abbrev pub asking : ℕ → Sample
asking a = known_sample (bus_request_of a).0 0 0 0

-- its request begins, an upgrade of line 0
abbrev pub begins : ℕ → Sample
begins a = known_sample ((bus_request_of a).0 + ADS.0) 2 0 0

-- the second clock of the request, with its ID
abbrev pub names : ℕ → Sample
names a = known_sample 0 0 (id_in_history a * 8192) 0

-- the request is cancelled
abbrev pub cancels : Sample
cancels = known_sample AERR.0 0 0 0

-- this agent had the bus once, its request was cancelled, and nothing is under way
abbrev pub history : ℕ → Trace
history a = asking a ∷ asking a ∷ begins a ∷ names a ∷ idle ∷ cancels ∷ idle ∷ idle ∷ []
