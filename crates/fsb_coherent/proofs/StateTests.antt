-- Tests of states that tell the agent of the last request from others.
use Rattle.fsb_coherent.proofs.Words
use Words.{ℕ, ◌≡◌, ◌==◌, Bool, true, false, cond, not, ◌&&◌, ◌||◌, if◌then◌else◌, nat_eq, refl, arith, Purpose, Mesi}
use Words.{Invalid, Modified, after_snoop, asks_line, granted, is_held, is_modified, is_sole}
use Rattle.fsb_line.specs.declared.purpose.Purpose.TheVariants as purposes

-- a test of states, and what it says of a grant that owns or does not, with the line shared or not: it passes for no
-- agent but that of the last request, and for that one as its grant says
pub record IsTest (test : Mesi → Bool) (says : Bool → Bool → Bool) : Type 0 where
  pub lost : test Invalid ≡ false
  pub owned : (shared : Bool) → test Modified ≡ says true shared
  pub read : (shared : Bool) → test (granted purposes.Read shared) ≡ says false shared
  pub snooped : (s : Mesi) (kind : Purpose) → asks_line kind ≡ true → test (after_snoop s kind) ≡ false
  pub unheld : (s : Mesi) → is_held s ≡ false → test s ≡ false

-- who has the line for itself
pub tests-sole : IsTest is_sole (λ owns shared. owns || not shared)
tests-sole = grind arith

-- who is dirty on it
pub tests-dirty : IsTest is_modified (λ owns shared. owns)
tests-dirty = grind arith

pub tested : (test : Mesi → Bool) (b agent : ℕ) (st own other : Mesi) (w o g gp s : Bool)
    → gp ≡ ((nat_eq agent b && true) && g)
    → ((b == agent) ≡ true → test own ≡ (if g then s else (test st && not w)))
    → ((b == agent) ≡ false → test other ≡ false)
    → test (cond (b == agent) own other) ≡ (if gp then s else (test st &&
    (not (((nat_eq agent b && true) && w) || ((not (nat_eq agent b) && true) && o)) && not
    (not (nat_eq agent b) && true))))
tested test b agent st own other w o g gp s k x y = grind arith

pub same-true : (b : Bool) → b ≡ (b && true)
same-true b = grind arith

pub none-false : (b : Bool) → false ≡ (b && false)
none-false b = grind arith

pub kept : (h : Bool) → h ≡ (h && not false)
kept true = refl
kept false = refl

pub lost-here : (h : Bool) → false ≡ (h && not true)
lost-here h = grind arith
