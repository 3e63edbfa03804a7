-- The line of a run before the first clock.
use Rattle.fsb_coherent.proofs.Words
use Words.{ℕ, arith, any_where, holds_since, last_where, Bytes, unheld, Past, holds_line, is_exclusive, Tied}
use Words.{chain_below, deferral_below, is_dirty_below, is_moved_below, links_left}

pub tied-start : (p : Past) (line : ℕ) (bytes : Bytes) → Tied p line 0 (unheld bytes)
unfolding any_where holds_since last_where holds_line is_exclusive is_dirty_below chain_below links_left
    deferral_below is_moved_below
tied-start p line bytes = grind arith
