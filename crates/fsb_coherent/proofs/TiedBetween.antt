-- The line of the machine between two events of a clock that come before its snoop end.
use Rattle.fsb_coherent.proofs.Words
use Words.{ℕ, ◌<◌, ◌≡◌, Bool, false, ◌||◌, List, ◌++◌, Some, is_some, sym, subst, arith, Event, MemoryLine, OpenRequest}
use Words.{put, trimmed, MayRun, run, is_held, is_modified, is_sole, begun_at, Past, past_to, purpose_wanted}
use Words.{does_respond_on, IsOpen, chain_below, deferral_below, is_cancelled_below, is_moved_below, is_snooped_below}
use Rattle.fsb_coherent.proofs.Clocks.{MayRun-append, run-append}

-- agent a's request on the line is open at n, where those that begin below b and the cancellations below c count
pub record IsOpenTo (p : Past) (a line n b c : ℕ) (request : OpenRequest) : Type 0 where
  pub before : request.number < b
  pub begun : begun_at p request.number ≡ Some (record { first = request.number; agent = a; line = line })
  pub wanted : purpose_wanted (past_to p request.number) a request.number ≡ Some request.kind
  pub uncancelled : is_cancelled_below p c request.number ≡ false
  pub unsnooped : is_snooped_below p n request.number ≡ false

-- the line of the machine is that of the run at n, with its response; these tests say who holds it, who has it for
-- itself and who is dirty on it, and open requests count below b and cancellations below c
pub record TiedBetween (p : Past) (line n b c : ℕ) (holds owns dirty : ℕ → Bool) (x : MemoryLine) : Type 0 where
  pub held : (a : ℕ) → is_held (x.state a) ≡ holds a
  pub sole : (a : ℕ) → is_sole (x.state a) ≡ owns a
  pub modified : (a : ℕ) → is_modified (x.state a) ≡ dirty a
  pub asked : (a : ℕ) (request : OpenRequest) → x.ask a ≡ Some request → IsOpenTo p a line n b c request
  pub opened : (a : ℕ) (request : OpenRequest) → IsOpenTo p a line n b c request → x.ask a ≡ Some request
  pub chain : x.chain ≡ chain_below p line n
  pub deferral : x.deferral ≡ deferral_below p line n
  pub moved : is_some x.moved ≡ (is_moved_below p line n || does_respond_on p line n)

pub open-to : (p : Past) (a line n : ℕ) (request : OpenRequest) → IsOpen p a line n request
    → IsOpenTo p a line n n n request
open-to p a line n request o = grind arith

pub open-from : (p : Past) (a line n : ℕ) (request : OpenRequest) → IsOpenTo p a line n n n request
    → IsOpen p a line n request
open-from p a line n request o = grind arith

-- bytes of agents do not count
pub tied-trimmed : (p : Past) (line n b c : ℕ) (holds owns dirty : ℕ → Bool) (x : MemoryLine)
    → TiedBetween p line n b c holds owns dirty x → TiedBetween p line n b c holds owns dirty (trimmed x)
unfolding trimmed
tied-trimmed p line n b c holds owns dirty x t = grind arith

-- another test for who is dirty, with the same answers
pub tied-dirty : (p : Past) (line n b c : ℕ) (holds owns dirty other : ℕ → Bool) (x : MemoryLine)
    → ((a : ℕ) → dirty a ≡ other a) → TiedBetween p line n b c holds owns dirty x
    → TiedBetween p line n b c holds owns other x
tied-dirty p line n b c holds owns dirty other x same t = grind arith

-- what is said of a function with another value at one place: of that value there, and of the old one elsewhere
pub put-cases : {A : Type 0} (f : ℕ → A) (a : ℕ) (value : A) (b : ℕ) (P : A → Type 0) → (b ≡ a → P value)
    → ((b ≡ a → ⊥) → P (f b)) → P (put f a value b)
unfolding put
put-cases f a value b P here there = grind arith

-- the events may happen to the line, and this is said of it after them
abbrev pub Goes : MemoryLine → List Event → (MemoryLine → Type 0) → Type 0
Goes x es R = MayRun x es × R (run x es)

pub goes-on : (x : MemoryLine) (es fs : List Event) (R S : MemoryLine → Type 0) → Goes x es R
    → ((y : MemoryLine) → R y → Goes y fs S) → Goes x (es ++ fs) S
goes-on x es fs R S h k = grind (arith, MayRun-append, run-append)

pub goes-same : (x : MemoryLine) (es fs : List Event) (R : MemoryLine → Type 0) → es ≡ fs → Goes x fs R → Goes x es R
goes-same x es fs R e g = subst (λ events. Goes x events R) (sym e) g
