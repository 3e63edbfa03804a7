-- The line of the pure machine behind the snoop end of a clock: the end of the clock, and the accesses that come with
-- it, are not counted.
use Rattle.std.specs.Prelude.{◌≡◌, ◌+◌, ◌&&◌, ◌||◌, ◌++◌, ℕ, Bool, not, is_some, if◌then◌else◌, List, [], Some}
use Rattle.fsb_coherent.proofs.Words
use Words.{option_map_or, is_some_and, Link, MemoryLine, OpenRequest, is_held, is_modified, is_sole, Past, SnoopEnd}
use Words.{grant_at, holds_line, is_exclusive, is_granted, is_lost, is_named_by_other, snooped_at, is_dirty, awaited_by}
use Words.{does_respond_on, IsOpen, chain_below, deferral_below, is_moved_below, link_for}

-- agent a is dirty on the line behind the snoop end of n: by a grant there that owns, and otherwise where it was, its
-- hits counted, did not lose the line and was not named by another
abbrev pub is_dirty_behind : Past → ℕ → ℕ → ℕ → Bool
is_dirty_behind p a line n =
    if is_granted p a line n then is_some_and (grant_at p n) (λ grant. grant.owns)
    else (is_dirty p a line n && (not (is_lost p a line n) && not (is_named_by_other p a line n)))

-- the link that this snoop end at n makes on the line
abbrev pub links_of : Past → ℕ → ℕ → SnoopEnd → List Link
links_of p line n s = option_map_or (link_for p line n s) (awaited_by s) []

-- the link that the snoop end of n makes on the line
abbrev pub links_new : Past → ℕ → ℕ → List Link
links_new p line n = option_map_or (links_of p line n) (snooped_at p n) []

-- the line of the machine is that of the run behind the snoop end of n
pub record TiedBehind (p : Past) (line n : ℕ) (x : MemoryLine) : Type 0 where
  pub held : (a : ℕ) → is_held (x.state a) ≡ holds_line p a line (n + 1)
  pub sole : (a : ℕ) → is_sole (x.state a) ≡ is_exclusive p a line (n + 1)
  pub modified : (a : ℕ) → is_modified (x.state a) ≡ is_dirty_behind p a line n
  pub asked : (a : ℕ) (request : OpenRequest) → x.ask a ≡ Some request → IsOpen p a line (n + 1) request
  pub opened : (a : ℕ) (request : OpenRequest) → IsOpen p a line (n + 1) request → x.ask a ≡ Some request
  pub chain : x.chain ≡ chain_below p line n ++ links_new p line n
  pub deferral : x.deferral ≡ deferral_below p line (n + 1)
  pub moved : is_some x.moved ≡ (is_moved_below p line n || does_respond_on p line n)

-- the line of the machine is that of the run at n + 1 but for who is dirty
pub record TiedButDirty (p : Past) (line n : ℕ) (x : MemoryLine) : Type 0 where
  pub held : (a : ℕ) → is_held (x.state a) ≡ holds_line p a line (n + 1)
  pub sole : (a : ℕ) → is_sole (x.state a) ≡ is_exclusive p a line (n + 1)
  pub asked : (a : ℕ) (request : OpenRequest) → x.ask a ≡ Some request → IsOpen p a line (n + 1) request
  pub opened : (a : ℕ) (request : OpenRequest) → IsOpen p a line (n + 1) request → x.ask a ≡ Some request
  pub chain : x.chain ≡ chain_below p line (n + 1)
  pub deferral : x.deferral ≡ deferral_below p line (n + 1)
  pub moved : is_some x.moved ≡ is_moved_below p line (n + 1)
