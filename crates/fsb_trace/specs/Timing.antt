-- When the steps of a request are due, by the clocks that they rest on and the waits that were chosen for it.
use Rattle.std.specs.Prelude.{ℕ, ◌+◌, ◌*◌, Bool, true, false, ◌&&◌, nat_eq, nat_le, nat_lt, Option}
use Rattle.std.specs.Option.{option_map}
use Rattle.fsb_count.specs.Options.{is_at}
use Rattle.fsb_count.specs.Clocks.{first_where, any_where}

-- c is one of the first clocks of a snoop that starts there, as many as it is to be stalled
unfoldable pub is_stall_from : ℕ → ℕ → ℕ → Bool
is_stall_from stall c start = any_where (λ m. nat_eq c (start + 2 * m)) stall

-- c is the ready clock of a request that takes: it is answered from this clock on, and its target waits so long
unfoldable pub is_ready_from : Option ℕ → ℕ → ℕ → Bool
is_ready_from from wait c = is_at (option_map (λ f. f + wait) from) c

-- c is the response clock of a request: one that takes responds two clocks after its ready clock, any other from the
-- clock from which it is answered, and both wait so long
unfoldable pub is_response_from : Bool → Option ℕ → Option ℕ → ℕ → ℕ → Bool
is_response_from takes from ready wait c =
    elim takes [
      | true ↦ is_at (option_map (λ y. y + 2 + wait) ready) c
      | false ↦ is_at (option_map (λ f. f + wait) from) c
    ]

-- which chunk of a transfer is due at c, of four with so many clocks between one and the next, the first in the response
-- clock r
unfoldable pub chunk_from : ℕ → ℕ → ℕ → Option ℕ
chunk_from gap c r = first_where (λ n. nat_eq c (r + n * (1 + gap))) 4

-- c lies from the response clock r to the clock before the last of these chunks
unfoldable pub is_busy_from : ℕ → ℕ → ℕ → Bool
is_busy_from gap c r = nat_le r c && nat_lt c (r + 3 * (1 + gap))
