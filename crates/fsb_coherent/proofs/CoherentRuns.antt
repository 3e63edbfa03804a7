-- What coherence says in the words of a run.
use Rattle.fsb_coherent.proofs.Words
use Words.{ℕ, ◌≡◌, ◌≢◌, true, false, Some, sym, ◌∙◌, LineDeferral, MemoryLine, Past, holds_line, is_exclusive, IsTiedTo}
use Words.{deferral_below}

-- who has the line for itself is its only holder
pub only_holder : (p : Past) (line n : ℕ) (x : MemoryLine) → IsTiedTo p line n x → (a b : ℕ)
    → is_exclusive p a line n ≡ true → b ≢ a → holds_line p b line n ≡ false
only_holder p line n x h a b e other = sym (h.tied.held b) ∙ h.ordered.alone a (h.tied.sole a ∙ e) b other

-- nobody has a pending line for itself
pub pending_shared : (p : Past) (line n : ℕ) (x : MemoryLine) → IsTiedTo p line n x → (d : LineDeferral)
    → deferral_below p line n ≡ Some d → (a : ℕ) → is_exclusive p a line n ≡ false
pending_shared p line n x h d e a = sym (h.tied.sole a) ∙ (h.ordered.pending d (h.tied.deferral ∙ e)).nobody_sole a
