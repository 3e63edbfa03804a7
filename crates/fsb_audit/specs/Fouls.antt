-- Foul clocks, and what an audit finds.
use Rattle.std.specs.Prelude.{ℕ, ◌*◌, Bool, ◌&&◌, not, nat_eq, Option, Some, None, length}
use Rattle.std.specs.Option.{option_map, option_and_then}
use Rattle.fsb_count.specs.Options.{is_some_and, is_at}
use Rattle.fsb_count.specs.Clocks.{first_where, last_where}
use Rattle.fsb_signal.specs.declared.marks.Marks.{Marks}
use Rattle.fsb_signal.specs.Samples.{data_at}
use Rattle.fsb_trace.specs.At.{Trace}
use Rattle.fsb_trace.specs.Verdict.{verdict}
use Rattle.fsb_audit.specs.declared.finding.Finding.{Finding}
use Rattle.fsb_audit.specs.declared.finding.Finding.TheVariants.{Broken as BrokenFirst, Foul as FoulFirst}
use Rattle.fsb_audit.specs.MovedChunks.{moved_at, is_from_memory}

-- the latest clock below c at which the chunk is moved, whichever way
unfoldable pub latest_move : Trace → ℕ → ℕ → Option ℕ
latest_move w chunk c = last_where (λ b. is_at (moved_at w b) chunk) c

-- D# asserts the same bits at both clocks; where data come and no rule is broken none of its bits is unknown
unfoldable pub have_same_data : Trace → ℕ → ℕ → Bool
have_same_data w b c = nat_eq (data_at w b).bits (data_at w c).bits

-- the chunk was moved before c, and D# at c is not what it was at the latest of these clocks
unfoldable pub is_stale : Trace → ℕ → ℕ → Bool
is_stale w c chunk = is_some_and (latest_move w chunk c) (λ b. not (have_same_data w b c))

-- c is foul: data come from memory that are not those of the latest earlier transfer of their chunk
unfoldable pub is_foul_clock : Trace → ℕ → Bool
is_foul_clock w c = is_from_memory w c && is_some_and (moved_at w c) (is_stale w c)

-- the first foul clock below n
unfoldable pub first_foul : Trace → ℕ → Option ℕ
first_foul w n = first_where (is_foul_clock w) n

-- the foul clock c as it is told, with the address of the chunk that is moved there
unfoldable pub foul_at : Trace → ℕ → Option Finding
foul_at w c = option_map (λ chunk. FoulFirst (record { clock = c; addr = chunk * 8 })) (moved_at w c)

-- the broken rule as it is told
unfoldable pub broken_at : ℕ × ℕ → Finding
broken_at p = BrokenFirst (record { clock = p.0; rule = p.1 })

-- what is found where the broken rule is this one, and the first foul clock below its clock that one, if there is one
unfoldable pub found_below : Trace → ℕ × ℕ → Option ℕ → Option Finding
found_below w p None = Some (broken_at p)
found_below w p (Some c) = foul_at w c

-- what is found where this is the verdict
unfoldable pub found_with : Trace → Option (ℕ × ℕ) → Option Finding
found_with w None = option_and_then (foul_at w) (first_foul w (length w))
found_with w (Some p) = found_below w p (first_foul w p.0)

-- what is found in a trace of a dump with these marks: the broken rule where there is one and no clock below it is foul;
-- otherwise the first foul clock, where there is one; otherwise nothing
unfoldable pub finding_of : Marks → Trace → Option Finding
finding_of marks w = found_with w (verdict marks w)
