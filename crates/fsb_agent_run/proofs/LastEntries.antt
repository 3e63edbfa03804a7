-- The last entry of an agent that has none at a clock.
use Rattle.fsb_agent_run.proofs.Words
use Words.{ℕ, zero, suc, ◌+◌, ◌≡◌, false, List, [], ◌∷◌, slice_get, Option, Some, arith, list_any, or_parts}
use Words.{is_some_and, Done, Past, completes_at, is_done_at, is_done_by, last_done, done-same}

-- no entry of the log is the agent's at the clock
none-there : (a c : ℕ) (log : List Done) (k : ℕ) (done : Done) → list_any (is_done_at a c) log ≡ false
    → slice_get log k ≡ Some done → is_done_at a c done ≡ false
none-there a c [] k done e there = absurd (let no : ⊥ = cc in no)
none-there a c (first ∷ log) zero done e there = grind arith
none-there a c (first ∷ log) (suc k) done e there =
    none-there a c log k done (or_parts (is_done_at a c first) (list_any (is_done_at a c) log) e).1 there

done-over : (a c : ℕ) (o : Option Done) → ((done : Done) → o ≡ Some done → is_done_at a c done ≡ false)
    → is_some_and o (is_done_by a (c + 1)) ≡ is_some_and o (is_done_by a c)
unfolding is_some_and
done-over a c o h1 = grind (arith, done-same)

-- so it stays
pub last-over : (p : Past) (a c : ℕ) → completes_at p a c ≡ false → last_done p a (c + 1) ≡ last_done p a c
unfolding last_done completes_at
last-over p a c e = grind (arith, done-over, none-there)
