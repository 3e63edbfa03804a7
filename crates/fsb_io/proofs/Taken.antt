-- Bytes that are read in behind others.
use Rattle.std.proofs.Common.{◌≡◌, ℕ, ◌+◌, ◌≤◌, List, ◌++◌, length, take, drop, append_assoc, take-take, arith}
use Rattle.std.proofs.lemmas.List.{take-append-le, take-append-drop, take_all, take_at, drop-drop}
use Rattle.std.proofs.Math.Seq.{take-append-add, take-append_seam}

-- of a buffer that was read into behind old bytes, the old bytes and the first of those that came
take-read : (old came after past : List ℕ) (count m : ℕ) → count ≤ length came → length old + count ≤ m
    → take (length old + count) (take m ((old ++ (came ++ after)) ++ past)) ≡ old ++ take count came
take-read old came after past count m fits within =
    rw (
      take-take (length old + count) m ((old ++ (came ++ after)) ++ past) within,
      append_assoc,
      take-append-add,
      append_assoc,
      take-append-le count came (after ++ past) fits,
    )

-- the old bytes stand at the front of the buffer that they were grown to
take-grown : (old fill : List ℕ) (n : ℕ) → length old ≤ n → take (length old) (take n old ++ fill) ≡ old
take-grown old fill n within = rw (take_all n old within, take-append_seam)

-- the same where the buffer was grown from the old bytes
pub take-read_grown : (old grown came after past fill : List ℕ) (start n count m : ℕ) → start ≡ length old
    → grown ≡ take n old ++ fill → start ≤ n → count ≤ length came → start + count ≤ m
    → take (start + count) (take m ((take start grown ++ (came ++ after)) ++ past)) ≡ old ++ take count came
take-read_grown old grown came after past fill start n count m at is wide fits within =
    let long : length old ≤ n = omega arith in
    let reach : length old + count ≤ m = omega arith in
    rw (at, is, take-grown old fill n long) (take-read old came after past count m fits reach)

-- the bytes from a place on are those that were copied to the front of a buffer, and the rest
pub front-copied : (held copied after : List ℕ) (place n : ℕ) → copied ≡ take n (drop place held)
    → length copied ≡ n → drop place held ≡ take n (copied ++ after) ++ drop (place + n) held
front-copied held copied after place n is long =
    rw (take_at copied after n long, is, ← drop-drop n place held, take-append-drop)
