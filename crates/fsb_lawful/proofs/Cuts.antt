-- A past that is cut at a clock has the same up to that clock.
use Rattle.fsb_lawful.proofs.Words
use Words.{ℕ, zero, suc, ◌+◌, ◌<◌, ◌≤◌, ◌≡◌, Bool, true, false, ◌||◌, List, [], ◌∷◌, length, take, nat_le, refl, sym}
use Words.{ap, ◌∙◌, arith, inl, inr, slice_get, list_any, option_and_then, line_at, cases_Bool, length-take-le, Done}
use Words.{AgreeTo, Past, Run, run_to, entries_to, past_to, begun_at, snooped_at}
use Rattle.fsb_signal.specs.declared.lines.Lines.{Lines}

pub slice_get-take : {X : Type 0} (n : ℕ) (xs : List X) (k : ℕ) → k < n → slice_get (take n xs) k ≡ slice_get xs k
slice_get-take zero xs k l = absurd (omega arith)
slice_get-take (suc n) [] k l = refl
slice_get-take (suc n) (x ∷ xs) zero l = refl
slice_get-take (suc n) (x ∷ xs) (suc k) l = slice_get-take n xs k (omega arith)

pub take-twice : {X : Type 0} (m n : ℕ) (xs : List X) → m ≤ n → take m (take n xs) ≡ take m xs
take-twice zero n xs l = refl
take-twice (suc m) zero xs l = absurd (omega arith)
take-twice (suc m) (suc n) [] l = refl
take-twice (suc m) (suc n) (x ∷ xs) l = ap (λ ys. x ∷ ys) (take-twice m n xs (omega arith))

-- a line at a clock, in the run up to that clock and up to a later one
pub line-to : (line : Lines) (r : Run) (c d : ℕ) → c ≤ d → d < length r.trace
    → line_at line (run_to r c).trace c ≡ line_at line (run_to r d).trace c
unfolding line_at run_to
line-to line r c d l m = grind (arith, slice_get-take)

-- the run and the run up to a clock agree so far
pub run_to-agrees : (r : Run) (c : ℕ) → c < length r.trace → AgreeTo (c + 1) r.trace (run_to r c).trace
unfolding run_to
run_to-agrees r c l = grind (arith, length-take-le, slice_get-take)

-- a log that is cut twice
pub entries-twice : (t c : ℕ) (log : List Done) → t ≤ c → entries_to t (entries_to c log) ≡ entries_to t log
unfolding entries_to
entries-twice t c [] l = refl
entries-twice t c (done ∷ log) l = grind (arith, entries-twice t c log l)

-- the past up to t of the past up to c
pub past-twice : (p : Past) (t c : ℕ) → t ≤ c → past_to (past_to p c) t ≡ past_to p t
unfolding past_to
past-twice p t c l = grind (arith, take-twice, entries-twice)

-- a moment of the past up to c
pub moments-to : (p : Past) (c t : ℕ) → t ≤ c → slice_get (past_to p c).moments t ≡ slice_get p.moments t
unfolding past_to
moments-to p c t l = slice_get-take (c + 1) p.moments t (omega arith)

pub begun-to : (p : Past) (c t : ℕ) → t ≤ c → begun_at (past_to p c) t ≡ begun_at p t
unfolding begun_at
begun-to p c t l = grind (arith, moments-to)

pub snooped-to : (p : Past) (c t : ℕ) → t ≤ c → snooped_at (past_to p c) t ≡ snooped_at p t
unfolding snooped_at
snooped-to p c t l = ap (option_and_then (λ moment. moment.snooped)) (moments-to p c t l)

-- entries of clock t are there in a log that is cut at t or later
pub any-entry : (test : Done → Bool) (t c : ℕ) (log : List Done) → t ≤ c
    → ((done : Done) → test done ≡ true → done.clock ≡ t) → list_any test (entries_to c log) ≡ list_any test log
unfolding entries_to
any-entry test t c [] l h = refl
any-entry test t c (done ∷ log) l h =
    elim (cases_Bool (nat_le done.clock c)) [
      | inl early ↦ rw early (ap (λ b. test done || b) (any-entry test t c log l h))
      | inr late ↦ rw late (any-entry test t c log l h
          ∙ sym (ap (λ b. b || list_any test log) (fails late (test done) refl)))
    ]
  where
    fails : nat_le done.clock c ≡ false → (b : Bool) → test done ≡ b → test done ≡ false
    fails h1 b h2 = grind arith
