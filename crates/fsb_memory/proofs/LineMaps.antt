-- A map of lines after one of them was written.
use Rattle.std.proofs.Common.{◌≡◌, ◌≢◌, ℕ, ◌+◌, ◌<◌, Bool, cond, ◌||◌, List, [], ◌∷◌, ◌++◌, Some, None, IsTrue, length}
use Rattle.std.proofs.Common.{take, get_or, sym, ap, ◌∙◌, ⊎_elim, arith, add-one, Result, Ok, Err, OnOk, OnErr}
use Rattle.std.proofs.lemmas.Bool.{cases_eq}
use Rattle.std.proofs.lemmas.Bool.Decides.{nat_tests}
use Rattle.std.proofs.lemmas.List.Folds.{list_any-append}
use Rattle.std.proofs.Math.Seq.{take-suc}
use Rattle.std.specs.List.{list_any}
use Rattle.std.specs.Prelude.{◌==◌}
use Rattle.std.specs.Map.{lookup}
use Rattle.fsb_memory.specs.Controller.{LineMap, is_mapped, line_in}

-- the new map has these bytes at the line, and at each other one what the old map has
abbrev pub Writes : LineMap → LineMap → ℕ → List ℕ → Type 0
Writes old new line bytes =
    (other : ℕ) → lookup (λ key. other == key) new
    ≡ cond (line == other) (Some bytes) (lookup (λ key. other == key) old)

pub line_in-written : (old new : LineMap) (line : ℕ) (bytes : List ℕ) → Writes old new line bytes
    → line_in new line ≡ bytes
line_in-written old new line bytes writes = let at = writes line in grind (arith, nat_tests)

pub line_in-other :
    (old new : LineMap) (line : ℕ) (bytes : List ℕ) → Writes old new line bytes
    → (other : ℕ) → other ≢ line → line_in new other ≡ line_in old other
line_in-other old new line bytes writes other apart = let at = writes other in grind (arith, nat_tests)

pub is_mapped-written :
    (old new : LineMap) (line : ℕ) (bytes : List ℕ) → Writes old new line bytes
    → (other : ℕ) → is_mapped new other ≡ ((other == line) || is_mapped old other)
is_mapped-written old new line bytes writes other = let at = writes other in grind (arith, nat_tests)

-- a line that was there already is no new one
pub is_mapped-held :
    (old new : LineMap) (line : ℕ) (bytes : List ℕ) → Writes old new line bytes → IsTrue (is_mapped old line)
    → (other : ℕ) → is_mapped new other ≡ is_mapped old other
is_mapped-held old new line bytes writes held other = let at = writes other in grind (arith, nat_tests)

-- a line that is not found is not there
pub is_mapped-none : (lines : LineMap) (line : ℕ) → lookup (λ key. line == key) lines ≡ None
    → IsTrue (is_mapped lines line) → ⊥
is_mapped-none lines line none held = grind (arith, nat_tests)

-- what is put at a line that is there is written
pub held-written :
    {X Y : Type 0} (result : Result X Y) (old new : LineMap) (line : ℕ) (bytes : List ℕ)
    → OnOk result (Writes old new line bytes) → OnErr result (lookup (λ key. line == key) old ≡ None)
    → IsTrue (is_mapped old line) → Writes old new line bytes
held-written (Ok x) old new line bytes writes none held = writes
held-written (Err y) old new line bytes writes none held = absurd (is_mapped-none old line none held)

-- a line that was written with the bytes that it had
pub line_in-same :
    (old new : LineMap) (line : ℕ) (bytes : List ℕ) → bytes ≡ line_in old line → line_in new line ≡ bytes
    → ((other : ℕ) → other ≢ line → line_in new other ≡ line_in old other)
    → (other : ℕ) → line_in new other ≡ line_in old other
line_in-same old new line bytes was here others other =
    ⊎_elim (λ same. ap (line_in new) same ∙ here ∙ was ∙ ap (line_in old) (sym same)) (others other)
    (cases_eq other line)

-- one line more of a list is named
pub named-one_more :
    (settings before now : Bool) (lines : List ℕ) (count other : ℕ) → count < length lines
    → before ≡ (settings || list_any (λ line. line == other) (take count lines))
    → now ≡ ((other == get_or lines count 0) || before)
    → now ≡ (settings || list_any (λ line. line == other) (take (count + 1) lines))
named-one_more settings before now lines count other below stands more =
    let next : take (count + 1) lines ≡ take count lines ++ get_or lines count 0 ∷ [] =
    ap (λ n. take n lines) (add-one count) ∙ take-suc lines count 0 below in
    more ∙ rw (stands, next, list_any-append) (grind (arith, nat_tests))
