-- The samples that a ring was fed.
use Rattle.std.specs.Prelude.{◌≡◌, ℕ, ◌-◌, nat_le, if◌then◌else◌, List, length, Option, None, slice_get}
use Rattle.circular_buffer.specs.Buffer.{keep_last}
use Rattle.fsb_signal.specs.declared.sample.Sample.{Sample}
use Rattle.scope_ring.specs.declared.ring.Ring.{Ring}

-- the ring was fed these samples: it holds the last sixteen of them, in their order
pub record Stands (ring : Ring) (h : List Sample) : Type 0 where
  pub kept : ring.kept.items ≡ keep_last 16 h
  pub room : ring.kept.capacity ≡ 16
  pub counted : ring.count ≡ length h

-- the sample of a clock, where it is one of the last sixteen
abbrev pub kept_at : List Sample → ℕ → Option Sample
kept_at h c = if nat_le (length h - 16) c then slice_get h c else None
