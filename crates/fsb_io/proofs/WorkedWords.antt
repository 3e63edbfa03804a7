-- What the words of sources and sinks say of short texts and small counts, worked out by hand.
use Rattle.std.proofs.Common.{◌≡◌, ℕ, ◌+◌, ◌-◌, ◌^◌, ◌++◌, List, [], ◌∷◌, length, codes, true, false, Some, None, refl, sym, ap, ◌∙◌}
use Rattle.std.proofs.Common.{arith}
use Rattle.std.proofs.lemmas.List.{length-append}
use Rattle.std.specs.Fmt.{digits}
use Rattle.fsb_io.specs.Appends.{AppendsPart}
use Rattle.fsb_io.specs.Begun.{IsBegun, IsEmptied}
use Rattle.fsb_io.specs.Faults.{Rose, faults_after}
use Rattle.fsb_io.specs.NumberText.{hexadecimal}
use Rattle.fsb_io.specs.DumpPlaces.{IsSame, is_descriptor_name}
use Rattle.fsb_io.specs.Takes.{TakesAtMost}

-- a first part of a text was appended
pub first_part : AppendsPart (1 ∷ 2 ∷ 3 ∷ []) (4 ∷ []) (4 ∷ 1 ∷ 2 ∷ [])
first_part = record { part = 1 ∷ 2 ∷ []; rest = 3 ∷ []; whole = refl; appended = refl }

-- bytes that no text begins with were not
pub no_last_part : AppendsPart (1 ∷ 2 ∷ 3 ∷ []) (4 ∷ []) (4 ∷ 2 ∷ 3 ∷ []) → ⊥
no_last_part p =
    let part : 2 ∷ 3 ∷ [] ≡ p.part = cc p.appended in
    let whole : 1 ∷ 2 ∷ 3 ∷ [] ≡ (2 ∷ 3 ∷ []) ++ p.rest = p.whole ∙ ap (λ (l : List ℕ). l ++ p.rest) (sym part) in
    cc whole

-- and what a sink held stays in front
pub old_stays : AppendsPart (1 ∷ 2 ∷ 3 ∷ []) (4 ∷ []) (1 ∷ 2 ∷ []) → ⊥
old_stays p = cc p.appended

-- of a source that was begun all is left
pub all_is_left : IsBegun (1 ∷ 2 ∷ []) (2 ∷ []) (3 ∷ []) (Some (3 ∷ [])) → ⊥
all_is_left b = cc b.all_left

-- and it has the name
pub source_is_named : IsBegun (1 ∷ 2 ∷ []) (1 ∷ 2 ∷ []) (3 ∷ []) None → ⊥
source_is_named b = cc b.named

-- a sink that was begun holds nothing
pub nothing_is_held : IsEmptied (1 ∷ []) (3 ∷ []) (Some (3 ∷ [])) → ⊥
nothing_is_held b = cc b.empty

-- and it has the name
pub sink_is_named : IsEmptied [] (3 ∷ []) (Some (2 ∷ [])) → ⊥
sink_is_named b = cc b.named

-- two bytes that were taken are not at most one
pub two_taken : TakesAtMost 1 (1 ∷ 2 ∷ 3 ∷ []) (3 ∷ []) → ⊥
two_taken t =
    let three : 3 ≡ length t.taken + 1 = ap length t.whole ∙ length-append t.taken (3 ∷ []) in
    omega (arith, three, t.within)

-- a count that stayed did not rise
pub stayed : Rose 3 3 → ⊥
stayed h = omega (arith, h)

pub rose_by_one : Rose 3 4
rose_by_one = omega arith

-- at its last value it counts as risen
pub at_its_last : Rose (2 ^ 64 - 1) (2 ^ 64 - 1)
at_its_last = omega arith

-- hexadecimals are short and in lower case
pub hexadecimal_of_zero : hexadecimal 0 ≡ codes "0"
unfolding digits
hexadecimal_of_zero = refl

pub hexadecimal_of_26 : hexadecimal 26 ≡ codes "1a"
unfolding digits
hexadecimal_of_26 = refl

-- a call that failed is one fault more, and one that did not is none
pub one_fault_more : faults_after true 3 ≡ 4
one_fault_more = refl

pub no_fault_more : faults_after false 3 ≡ 3
no_fault_more = refl

-- where the system tells neither file, they are not one
pub untold_differ : IsSame None None → ⊥
untold_differ h = h

-- names of descriptors, and names that are like them
pub is_descriptor : is_descriptor_name (codes "/dev/fd/3") ≡ true
is_descriptor = refl

pub stderr_is_descriptor : is_descriptor_name (codes "/dev/stderr") ≡ true
stderr_is_descriptor = refl

pub file_is_none : is_descriptor_name (codes "/dev/stderr2") ≡ false
file_is_none = refl
