-- Whole taps: what they set does not depend on their order.
use Rattle.std.proofs.Common.{◌≡◌, ℕ, ◌+◌, zero, suc, Bool, true, false, ◌||◌, ◌==◌, if◌then◌else◌, List, [], ◌∷◌, ◌++◌}
use Rattle.std.proofs.Common.{length, map, set, nat_lt, refl, sym, ap, ◌∙◌, arith}
use Rattle.std.proofs.lemmas.Bool.{eqb-true, eq-eqb, ne_eqb, or_parts}
use Rattle.fsb_signal.specs.DumpText.{width_of}
use Rattle.vcd_grammar.specs.Digits.{extended}
use Rattle.vcd_grammar.specs.Values.{Values}
use Rattle.vcd_grammar.specs.Judging.{is_declared}
use Rattle.vcd_way.specs.Events.{whole, set_taps}
use Rattle.vcd_way.specs.Steps.{is_too_wide_for}

-- the lines are the same, in whatever order
abbrev pub SameLines : List ℕ → List ℕ → Type 0
SameLines ls ns = (n : ℕ) → is_declared ls n ≡ is_declared ns n

-- the values from a number on, where those lines have got some digits that are among others
abbrev assigned : (ℕ → Bool) → List ℕ → ℕ → Values → Values
assigned among digits n [] = []
assigned among digits n (x ∷ xs) =
    (if among n then extended (width_of n) digits else x) ∷ assigned among digits (n + 1) xs

-- one more line
abbrev more : ℕ → (ℕ → Bool) → ℕ → Bool
more number among n = (number == n) || among n

assigned-test : (p q : ℕ → Bool) (digits : List ℕ) (n : ℕ) (v : Values) → ((k : ℕ) → p k ≡ q k)
    → assigned p digits n v ≡ assigned q digits n v
assigned-test p q digits n v h = ap (λ (r : ℕ → Bool). assigned r digits n v) (λ i k. h k i)

assigned-none : (digits : List ℕ) (n : ℕ) (v : Values) → assigned (λ k. false) digits n v ≡ v
assigned-none digits n [] = refl
assigned-none digits n (x ∷ v) = ap (λ w. x ∷ w) (assigned-none digits (n + 1) v)

-- above all numbers that are looked at
assigned-past : (p : ℕ → Bool) (digits : List ℕ) (k j n : ℕ) (v : Values) → n ≡ k + suc j
    → assigned (more k p) digits n v ≡ assigned p digits n v
assigned-past p digits k j n [] e = refl
assigned-past p digits k j n (x ∷ v) e =
    let off : (k == n) ≡ false = ne_eqb k n (omega arith) in
    λ i. (if off i || p n then extended (width_of n) digits else x)
    ∷ assigned-past p digits k (suc j) (n + 1) v (omega arith) i

if-either : (b : Bool) (x y : List ℕ) → y ≡ x → (if b then x else y) ≡ x
if-either true x y e = refl
if-either false x y e = e

one-set : (p : ℕ → Bool) (digits : List ℕ) (n j k : ℕ) (v : Values) → k ≡ n + j
    → assigned p digits n (set v j (extended (width_of k) digits)) ≡ assigned (more k p) digits n v
one-set p digits n j k [] e = refl
one-set p digits n zero k (x ∷ v) e =
    let same : k ≡ n = omega arith in
    let on : (k == n) ≡ true = eq-eqb k n same in
    let here = extended (width_of n) digits in
    let there : extended (width_of k) digits ≡ here = ap (λ m. extended (width_of m) digits) same in
    let past : assigned (more k p) digits (n + 1) v ≡ assigned p digits (n + 1) v =
    assigned-past p digits k zero (n + 1) v (omega arith) in
    (λ i. if-either (p n) here (extended (width_of k) digits) there i ∷ assigned p digits (n + 1) v)
    ∙ sym (λ i. (if on i || p n then here else x) ∷ past i)
one-set p digits n (suc j) k (x ∷ v) e =
    let off : (k == n) ≡ false = ne_eqb k n (omega arith) in
    let rest = one-set p digits (n + 1) j k v (omega arith) in
    (λ i. (if p n then extended (width_of n) digits else x) ∷ rest i)
    ∙ sym (λ i. (if off i || p n then extended (width_of n) digits else x) ∷ assigned (more k p) digits (n + 1) v)

-- what whole taps set
all-set : (ls : List ℕ) (digits : List ℕ) (v : Values)
    → set_taps v (map whole ls) digits ≡ assigned (is_declared ls) digits 0 v
all-set [] digits v = sym (assigned-none digits 0 v)
all-set (l ∷ ls) digits v =
    all-set ls digits (set v l (extended (width_of l) digits))
    ∙ one-set (is_declared ls) digits 0 l l v (omega arith)

pub same-set : (ls ns digits : List ℕ) → SameLines ls ns → (v : Values)
    → set_taps v (map whole ls) digits ≡ set_taps v (map whole ns) digits
same-set ls ns digits h v =
    all-set ls digits v ∙ assigned-test (is_declared ls) (is_declared ns) digits 0 v h ∙ sym (all-set ns digits v)

pub set-more : (v : Values) (ls ns digits : List ℕ)
    → set_taps v (map whole (ls ++ ns)) digits ≡ set_taps (set_taps v (map whole ls) digits) (map whole ns) digits
set-more v [] ns digits = refl
set-more v (l ∷ ls) ns digits = set-more (set v l (extended (width_of l) digits)) ls ns digits

-- ---- the digits that a line takes

fits-by : (l n : ℕ) (digits : List ℕ) (others x : Bool) → (l == n) ≡ x → nat_lt (width_of l) (length digits) ≡ false
    → (x || others) ≡ true → (others ≡ true → nat_lt (width_of n) (length digits) ≡ false)
    → nat_lt (width_of n) (length digits) ≡ false
fits-by l n digits others true e f d g = ap (λ m. nat_lt (width_of m) (length digits)) (sym (eqb-true l n e)) ∙ f
fits-by l n digits others false e f d g = g d

fits-each : (ls digits : List ℕ) → is_too_wide_for (map whole ls) digits ≡ false → (n : ℕ) → is_declared ls n ≡ true
    → nat_lt (width_of n) (length digits) ≡ false
fits-each [] digits h n d = cc d
fits-each (l ∷ ls) digits h n d =
    let parts = or_parts (nat_lt (width_of l) (length digits)) (is_too_wide_for (map whole ls) digits) h in
    fits-by l n digits (is_declared ls n) (l == n) refl parts.0 d (fits-each ls digits parts.1 n)

either : (x y : Bool) → y ≡ true → (x || y) ≡ true
either true y e = refl
either false y e = e

each-fits : (ns digits : List ℕ) → ((n : ℕ) → is_declared ns n ≡ true → nat_lt (width_of n) (length digits) ≡ false)
    → is_too_wide_for (map whole ns) digits ≡ false
each-fits [] digits h = refl
each-fits (n ∷ ns) digits h = λ i.
    h n (λ j. eq-eqb n n refl j || is_declared ns n) i
    || each-fits ns digits (λ m d. h m (either (n == m) (is_declared ns m) d)) i

-- digits that are not too many for some lines are not for the same ones
pub same-fit : (ls ns digits : List ℕ) → SameLines ns ls → is_too_wide_for (map whole ls) digits ≡ false
    → is_too_wide_for (map whole ns) digits ≡ false
same-fit ls ns digits h e = each-fits ns digits (λ n d. fits-each ls digits e n (sym (h n) ∙ d))
