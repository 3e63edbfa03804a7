-- Parity: what is on AP0#, AP1# and RP#.
use Rattle.std.specs.Prelude.{Bool, nat_eq, slice_get, ℕ, ◌&&◌, if◌then◌else◌}
use Rattle.fsb_count.specs.Options.{is_some_and}
use Rattle.fsb_signal.specs.declared.sample.Sample.{Sample}
use Rattle.fsb_signal.specs.Parity.{has_no_parity, is_high_address_even, is_low_address_even, is_request_even}
use Rattle.fsb_timely.specs.Past.{Past}
use Rattle.fsb_timely.specs.Runs.{Run}

-- each parity line is asserted in the sample exactly where its count of asserted lines would else be odd
unfoldable pub is_even_sample : Sample → Bool
is_even_sample s = is_low_address_even s && is_high_address_even s && is_request_even s

-- Parity: in profile 2 the parity lines make each count even at c; in profile 1 none of them is asserted there.
unfoldable pub drives_parity : Run → Past → ℕ → Bool
drives_parity r p c =
    is_some_and (slice_get r.trace c) (if nat_eq r.plan.profile 2 then is_even_sample else has_no_parity)
