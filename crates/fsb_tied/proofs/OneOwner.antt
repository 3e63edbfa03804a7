-- What coherence says of a timely run, in the words of the run: who has a line for itself, and who writes one back.
use Rattle.fsb_tied.proofs.Words
use Words.{ℕ, ◌≡◌, ◌≢◌, true, false, sym, ◌∙◌, arith, any_where-off, MemoryLine, is_modified, is_sole, modified_is_sole}
use Words.{Past, holds_line, is_exclusive, is_dirty, is_held_elsewhere, IsTiedTo, IsOpen}
use Rattle.fsb_line.specs.declared.purpose.Purpose.TheVariants.{WriteBack}

-- whoever has an open write-back of a line is the only one that holds it
alone-with-write-back : (p : Past) (line n a b first : ℕ) (x : MemoryLine) → IsTiedTo p line n x
    → IsOpen p a line n (record { kind = WriteBack; number = first }) → b ≢ a → holds_line p b line n ≡ false
alone-with-write-back p line n a b first x h asks other =
    let asked = h.tied.opened a (record { kind = WriteBack; number = first }) asks in
    let modified : is_modified (x.state a) ≡ true =
    h.ordered.suited a (record { kind = WriteBack; number = first }) asked in
    let sole : is_sole (x.state a) ≡ true = modified_is_sole (x.state a) modified in
    sym (h.tied.held b) ∙ h.ordered.alone a sole b other

-- so no other agent holds it
pub held-nowhere-else : (p : Past) (line n a first : ℕ) (x : MemoryLine) → IsTiedTo p line n x
    → IsOpen p a line n (record { kind = WriteBack; number = first }) → is_held_elsewhere p a line n ≡ false
unfolding is_held_elsewhere
held-nowhere-else p line n a first x h asks = grind (arith, any_where-off, alone-with-write-back)

-- one agent at most is dirty on a line of which it is known that it is that of the run
pub one-dirty : (p : Past) (line n a b : ℕ) (x : MemoryLine) → IsTiedTo p line n x → is_dirty p a line n ≡ true
    → is_dirty p b line n ≡ true → a ≡ b
unfolding is_dirty is_exclusive
one-dirty p line n a b x h dirty other = grind arith
