-- The line of the machine behind the request that begins at a clock.
use Rattle.fsb_coherent.proofs.Words
use Words.{ℕ, ◌+◌, ◌≡◌, Bool, true, false, not, ◌&&◌, nat_eq, Option, Some, refl, sym, ap, ◌∙◌, arith, eq-eqb}
use Words.{true≢false, option_map_or, is_some_and, MemoryLine, OpenRequest, Claim, Past, begun_at, holds_line}
use Words.{is_evicted, is_exclusive, is_rival, is_dirty}
use Rattle.fsb_coherent.proofs.HitSteps.{AfterHits}
use Rattle.fsb_coherent.proofs.TiedBetween.{IsOpenTo, TiedBetween}

-- agent a holds the line, or has it for itself, and does not drop it at n for another one of the cache set
abbrev pub holds_left : Past → ℕ → ℕ → ℕ → Bool
holds_left p line n a = holds_line p a line n && not (is_evicted p a line n)

abbrev pub owns_left : Past → ℕ → ℕ → ℕ → Bool
owns_left p line n a = is_exclusive p a line n && not (is_evicted p a line n)

-- the line of the machine behind the request that begins, where cancellations below c count
abbrev pub WithBegun : Past → ℕ → ℕ → ℕ → MemoryLine → Type 0
WithBegun p line n c x =
    TiedBetween p line n (n + 1) c (holds_left p line n) (owns_left p line n) (λ a. is_dirty p a line n) x

-- agent a begins a request for the line at n
abbrev pub BeginsIt : Past → ℕ → ℕ → ℕ → Type 0
BeginsIt p line n a = begun_at p n ≡ Some (record { first = n; agent = a; line = line })

-- what is open is open with those that begin at n, and the other way round where none of the agent begins there
pub later : (p : Past) (a line n : ℕ) (request : OpenRequest) → IsOpenTo p a line n n n request
    → IsOpenTo p a line n (n + 1) n request
later p a line n request o = grind arith

pub earlier : (p : Past) (a line n : ℕ) (request : OpenRequest) → (BeginsIt p line n a → ⊥)
    → IsOpenTo p a line n (n + 1) n request → IsOpenTo p a line n n n request
earlier p a line n request none o = grind arith

pub kept : (held evicted : Bool) → evicted ≡ false → held ≡ (held && not evicted)
kept true evicted e = sym (ap not e)
kept false evicted e = refl

pub lost : (held evicted : Bool) → evicted ≡ true → false ≡ (held && not evicted)
lost true evicted e = sym (ap not e)
lost false evicted e = refl

-- where no request for the line begins and nobody drops it, everything stays
pub same-line : (p : Past) (line n : ℕ) (x : MemoryLine) → ((a : ℕ) → BeginsIt p line n a → ⊥)
    → ((a : ℕ) → is_evicted p a line n ≡ false) → AfterHits p line n x → WithBegun p line n n x
same-line p line n x none stays t = record {
  held = λ a. t.held a ∙ kept (holds_line p a line n) (is_evicted p a line n) (stays a);
  sole = λ a. t.sole a ∙ kept (is_exclusive p a line n) (is_evicted p a line n) (stays a);
  modified = t.modified;
  asked = λ a request e. later p a line n request (t.asked a request e);
  opened = λ a request o. t.opened a request (earlier p a line n request (none a) o);
  chain = t.chain;
  deferral = t.deferral;
  moved = t.moved;
}

-- who drops the line, by the request that begins
pub evicted-by : (p : Past) (a line n : ℕ) (o : Option Claim) → begun_at p n ≡ o
    → is_evicted p a line n ≡ is_some_and o (λ claim. nat_eq claim.agent a && is_rival p claim.line line)
unfolding is_evicted
evicted-by p a line n o e = ap (λ b. is_some_and b (λ claim. nat_eq claim.agent a && is_rival p claim.line line)) e

-- the line and the agent of a claim
abbrev pub line_of : Option Claim → ℕ
line_of o = option_map_or (λ claim. claim.line) o 0

abbrev pub agent_of : Option Claim → ℕ
agent_of o = option_map_or (λ claim. claim.agent) o 0

-- a request for another line is none for this one
pub other-line : (p : Past) (line n : ℕ) (claim : Claim) → begun_at p n ≡ Some claim → nat_eq claim.line line ≡ false
    → (a : ℕ) → BeginsIt p line n a → ⊥
other-line p line n claim e other a f = true≢false (sym (eq-eqb claim.line line (ap line_of (sym e ∙ f))) ∙ other)
