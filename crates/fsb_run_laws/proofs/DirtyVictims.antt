-- The victim of an agent for a line is the rival of the line on which the agent is dirty.
use Rattle.fsb_run_laws.proofs.Words
use Words.{ℕ, ◌≡◌, true, false, Option, Some, None, nat_eq, refl, ap, inl, inr, arith, both_ways, cases_Bool, eqb-true}
use Words.{is_rival, is_dirty, Past, past_of, Run, is_same_set, victim_of, a-victim, dirty-held, no-victim, one-slot}
use Words.{rival-sym, Reaches}

-- two rivals of a line that differ are rivals
rivals : (p : Past) (line w v : ℕ) → is_rival p w line ≡ true → is_rival p v line ≡ true → nat_eq w v ≡ false
    → is_rival p w v ≡ true
unfolding is_rival is_same_set
rivals p line w v e f differs = grind arith

-- a dirty rival of a line is its victim
pub victim-from : (r : Run) (a line v n : ℕ) → Reaches r n → is_rival (past_of r) v line ≡ true
    → is_dirty (past_of r) a v n ≡ true → victim_of (past_of r) a n line ≡ Some v
victim-from r a line v n h rival dirty = by (victim_of p a n line) refl
  where
    p : Past
    p = past_of r

    same : (w : ℕ) → is_rival p w line ≡ true → is_dirty p a w n ≡ true → w ≡ v
    same w e f = elim (cases_Bool (nat_eq w v)) [
      | inl t ↦ eqb-true w v t
      | inr differs ↦
          absurd (one-slot r a w v n h.timely h.bounds h.long (rivals p line w v e rival differs)
          (inl (dirty-held p a w n f)) (inl (dirty-held p a v n dirty)))
    ]

    by : (o : Option ℕ) → victim_of p a n line ≡ o → o ≡ Some v
    by None e = absurd (both_ways (is_dirty p a v n) (no-victim p a n line e v (rival-sym p v line rival)) dirty)
    by (Some w) e = let k = a-victim p a n line w e in ap Some (same w k.0 k.1)

pub victim-says : (r : Run) (a line v n : ℕ) → victim_of (past_of r) a n line ≡ Some v
    → (is_rival (past_of r) v line ≡ true) × (is_dirty (past_of r) a v n ≡ true)
victim-says r a line v n e = a-victim (past_of r) a n line v e
