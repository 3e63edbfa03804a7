-- What a probe of responses weighs.
use Rattle.std.specs.Prelude.{ℕ, nat_eq, if◌then◌else◌}
use Rattle.fsb_signal.specs.declared.sample.Sample.{Sample}
use Rattle.fsb_signal.specs.Samples.{response_of}

-- 1 where a response is on RS#, and 0 where RS# is idle
abbrev pub response_weight : Sample → ℕ
response_weight sample = if nat_eq (response_of sample) 0 then 0 else 1
