-- Rules 1 and 17: nothing in a timely run is unknown.
use Rattle.fsb_lawful.proofs.Words
use Words.{ℕ, zero, suc, ◌≡◌, Bool, true, false, not, List, [], ◌∷◌, take, refl, arith, list_all, slice_get}
use Words.{option_map_or, and_parts, Marks, Sample, has_known_lines, is_known, is_known_trace, Trace, has_unknown_line}
use Words.{has_unknown_data, breaks-1, breaks-17, Run, Timely, Keeps}
use Rattle.fsb_lawful.proofs.Keeping.{keeps}

-- what holds of all samples holds of those of a cut trace
all-cut : {X : Type 0} (test : X → Bool) (n : ℕ) (xs : List X) → list_all test xs ≡ true
    → list_all test (take n xs) ≡ true
all-cut test zero xs e = refl
all-cut test (suc n) [] e = refl
all-cut test (suc n) (x ∷ xs) e = grind (arith, all-cut test n xs)

-- what holds of all samples and gives that a test fails, fails at each clock
none-at : {X : Type 0} (test bad : X → Bool) (xs : List X) (c : ℕ) → ((x : X) → test x ≡ true → bad x ≡ false)
    → list_all test xs ≡ true → option_map_or bad (slice_get xs c) false ≡ false
none-at test bad [] c h e = refl
none-at test bad (x ∷ xs) zero h e = h x (and_parts (test x) (list_all test xs) e).0
none-at test bad (x ∷ xs) (suc c) h e = none-at test bad xs c h (and_parts (test x) (list_all test xs) e).1

lines-known : (s : Sample) → is_known s ≡ true → not (has_known_lines s) ≡ false
lines-known s e = grind arith

no_unknown_line : (v : Trace) (c : ℕ) → is_known_trace v ≡ true → has_unknown_line v c ≡ false
unfolding has_unknown_line
no_unknown_line v c e = none-at is_known (λ s. not (has_known_lines s)) v c lines-known e

no_unknown_data : (v : Trace) (c : ℕ) → is_known_trace v ≡ true → has_unknown_data v c ≡ false
unfolding has_unknown_data
no_unknown_data v c e = grind (arith, none-at)

-- rule 1
pub keeps-1 : (m : Marks) (r : Run) → Timely r → Keeps m 1 r.trace
keeps-1 m r h = grind (arith, keeps, breaks-1, no_unknown_line, all-cut)

-- rule 17
pub keeps-17 : (m : Marks) (r : Run) → Timely r → Keeps m 17 r.trace
keeps-17 m r h = grind (arith, keeps, breaks-17, no_unknown_data, all-cut)
