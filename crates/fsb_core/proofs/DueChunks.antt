-- The chunk that is driven is one of four.
use Rattle.std.proofs.Common.{◌≡◌, ◌<◌, ℕ, true, false, Bool, List, Option, Some, None, refl}
use Rattle.std.specs.Option.{option_and_then, option_map}
use Rattle.std.specs.Prelude.{IfSome, if◌then◌else◌, length}
use Rattle.std.specs.List.{find}
use Rattle.fsb_count.proofs.Interface.{first_where-found}
use Rattle.fsb_count.specs.Clocks.{first_where}
use Rattle.fsb_phase.specs.Drive.{drive_of, numbered_chunk}
use Rattle.fsb_phase.specs.Due.{due_chunk, is_moving, response_to_now}
use Rattle.fsb_queue.specs.declared.entry.Entry.{Entry}
use Rattle.fsb_trace.specs.At.{Trace}
use Rattle.fsb_trace.specs.Timing.{chunk_from}
use Rattle.std.specs.Prelude.{is_some, nat_eq, ◌+◌, ◌*◌}

first-below : (p : ℕ → Bool) (o : Option ℕ) → first_where p 4 ≡ o → IfSome o (λ n. n < 4)
first-below p None is = tt
first-below p (Some n) is = (first_where-found p 4 n is).0

from-below : (gap c r : ℕ) → IfSome (chunk_from gap c r) (λ n. n < 4)
unfolding chunk_from
from-below gap c r = first-below (λ n. nat_eq c (r + n * (1 + gap))) (chunk_from gap c r) refl

then-below : (gap c : ℕ) (o : Option ℕ) → IfSome (option_and_then (chunk_from gap c) o) (λ n. n < 4)
then-below gap c None = tt
then-below gap c (Some r) = from-below gap c r

if-below : (b : Bool) (o : Option ℕ) → IfSome o (λ n. n < 4) → IfSome (if b then o else None) (λ n. n < 4)
if-below true o below = below
if-below false o below = tt

due-below : (h : Trace) (e : Entry) → IfSome (due_chunk h e) (λ n. n < 4)
unfolding due_chunk
due-below h e =
    if-below (is_moving e) (option_and_then (chunk_from e.choice.gap (length h)) (response_to_now h e))
    (then-below e.choice.gap (length h) (response_to_now h e))

pair-below : (number : ℕ) (o : Option ℕ) → IfSome o (λ n. n < 4)
    → IfSome {T = ℕ × ℕ} (option_map (λ n. (number, n)) o) (λ chunk. chunk.1 < 4)
pair-below number None below = tt
pair-below number (Some n) below = below

numbered-below : (h : Trace) (e : Option Entry) → IfSome (option_and_then (numbered_chunk h) e) (λ chunk. chunk.1 < 4)
unfolding numbered_chunk
numbered-below h None = tt
numbered-below h (Some e) = pair-below e.number (due_chunk h e) (due-below h e)

pub chunk-below : (h : Trace) (queue : List Entry) → IfSome (drive_of h queue).chunk (λ chunk. chunk.1 < 4)
unfolding drive_of
chunk-below h queue = numbered-below h (find (λ e. is_some (due_chunk h e)) queue)
