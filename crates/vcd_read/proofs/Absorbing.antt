-- A piece that is read span by span.
use Rattle.std.proofs.Common.{◌≡◌, ℕ, ◌+◌, ◌<◌, List, [], ◌∷◌, ◌++◌, length, take, drop, get_or, Result, Ok, Err, sym}
use Rattle.std.proofs.Common.{ap, ◌∙◌, subst, arith, append_assoc}
use Rattle.std.specs.Result.{OnOk, OnErr}
use Rattle.std.proofs.lemmas.List.{take_more, take-append-drop, append-nil}
use Rattle.fsb_signal.specs.declared.sample.Sample.{Sample}
use Rattle.vcd_read.specs.Taking.{pushed}
use Rattle.vcd_read.specs.Scanning.{Reading, after_bytes, samples_in_bytes, decided_in_reading, Fits, Part}
use Rattle.vcd_read.proofs.Readings.{part_more, samples-append, behind_taken, behind_sampled, behind_part, behind_fits}

pub ok_anyway : {T E P : Type 0} (r : Result T E) → P → OnOk r P
ok_anyway (Ok x) p = p
ok_anyway (Err e) p = tt

pub err_anyway : {T E P : Type 0} (r : Result T E) → P → OnErr r P
err_anyway (Ok x) p = tt
err_anyway (Err e) p = p

-- a first part of what the first bytes decide
pub part_first : (r : Reading) (xs ys : List ℕ) (limit : ℕ) (old new : List Sample)
    → Part limit (decided_in_reading r) (samples_in_bytes r xs) old new
    → Part limit (decided_in_reading r) (samples_in_bytes r (xs ++ ys)) old new
part_first r xs ys limit old new p =
    subst (λ w. Part limit (decided_in_reading r) w old new) (sym (samples-append r xs ys))
    (part_more limit (decided_in_reading r) (samples_in_bytes r xs) (samples_in_bytes (after_bytes r xs) ys)
    old new p)

-- some bytes, one more, and the others
pub span_split : (bytes : List ℕ) (len : ℕ) → len < length bytes
    → (take len bytes ++ get_or bytes len 0 ∷ []) ++ drop (len + 1) bytes ≡ bytes
span_split bytes len within = ap (λ w. w ++ drop (len + 1) bytes) (sym (take_more bytes len 0 within))
    ∙ take-append-drop (len + 1) bytes

-- the bytes of a piece that are done and those that are left
pub record Absorbed (limit : ℕ) (start now : Reading) (piece rest : List ℕ) (old to : List Sample) : Type 0 where
  pub done : List ℕ
  pub split : done ++ rest ≡ piece
  pub read : now ≡ after_bytes start done
  pub kept : to ≡ pushed limit (decided_in_reading start) old (samples_in_bytes start done)

pub absorbed-fits : (limit : ℕ) (start now : Reading) (piece rest : List ℕ) (old to : List Sample)
    → Absorbed limit start now piece rest old to → Fits start → Fits now
absorbed-fits limit start now piece rest old to a fits = behind_fits start now a.done a.read fits

pub absorbed-more : (limit : ℕ) (start now new : Reading) (piece rest : List ℕ) (len : ℕ)
    (old to more : List Sample) → Absorbed limit start now piece rest old to
    → new ≡ after_bytes now (take len rest)
    → more ≡ pushed limit (decided_in_reading now) to (samples_in_bytes now (take len rest))
    → Absorbed limit start new piece (drop len rest) old more
absorbed-more limit start now new piece rest len old to more a h k = record {
  done = a.done ++ take len rest;
  split = append_assoc a.done (take len rest) (drop len rest)
      ∙ ap (λ w. a.done ++ w) (take-append-drop len rest) ∙ a.split;
  read = behind_taken start now new a.done (take len rest) a.read h;
  kept = behind_sampled start now a.done (take len rest) limit old to more a.read a.kept k;
}

pub absorbed-part : (limit : ℕ) (start now : Reading) (piece rest : List ℕ) (old to new : List Sample)
    → Absorbed limit start now piece rest old to
    → Part limit (decided_in_reading now) (samples_in_bytes now rest) to new
    → Part limit (decided_in_reading start) (samples_in_bytes start piece) old new
absorbed-part limit start now piece rest old to new a p =
    subst (λ w. Part limit (decided_in_reading start) (samples_in_bytes start w) old new) a.split
    (behind_part start now a.done rest limit old to new a.read a.kept p)

whole : (limit : ℕ) (start now : Reading) (piece rest : List ℕ) (old to : List Sample)
    (a : Absorbed limit start now piece rest old to) → length rest ≡ 0 → a.done ≡ piece
whole limit start now piece [] old to a h = sym (append-nil a.done) ∙ a.split
whole limit start now piece (b ∷ rest) old to a h = absurd (omega (arith, h))
