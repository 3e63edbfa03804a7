-- What states, requests and snoops say of each other.
use Rattle.std.proofs.Common.{◌≡◌, ◌≢◌, ◌==◌, ℕ, Bool, true, false, cond, not, ◌⊎◌, inl, inr, refl, arith}
use Rattle.std.proofs.lemmas.Bool.{false_from_ne_true, not-true}
use Rattle.std.proofs.lemmas.Bool.Decides.{nat_tests}
use Rattle.fsb_line.specs.declared.purpose.Purpose.{Purpose}
use Rattle.fsb_line.specs.declared.purpose.Purpose.TheVariants.{Own, Read, Upgrade, WriteBack}
use Rattle.fsb_line.specs.declared.state.Mesi.{Mesi}
use Rattle.fsb_line.specs.declared.state.Mesi.TheVariants.{Exclusive, Invalid, Modified, Shared}
use Rattle.fsb_line.specs.Links.{upgrades}
use Rattle.fsb_line.specs.States.{after_snoop, asks_line, gets_line, granted, is_held, is_modified, is_sole, kind_owns}
use Rattle.fsb_line.specs.States.{suits}

-- two agents are the same or they aren't
pub same_agent : (b a : ℕ) → (b ≡ a) ⊎ (b ≢ a)
same_agent b a = grind (arith, nat_tests)

pub cond-same : {A : Type 0} (a : ℕ) (u v : A) → cond (a == a) u v ≡ u
cond-same a u v = grind (arith, nat_tests)

pub cond-other : {A : Type 0} (b a : ℕ) (u v : A) → b ≢ a → cond (b == a) u v ≡ v
cond-other b a u v h = grind (arith, nat_tests)

-- who has the line Modified has it alone, and holds it
pub modified_is_sole : (s : Mesi) → is_modified s ≡ true → is_sole s ≡ true
modified_is_sole Modified h = refl
modified_is_sole Exclusive h = refl
modified_is_sole Shared h = absurd (cc)
modified_is_sole Invalid h = absurd (cc)

pub sole_is_held : (s : Mesi) → is_sole s ≡ true → is_held s ≡ true
sole_is_held Modified h = refl
sole_is_held Exclusive h = refl
sole_is_held Shared h = refl
sole_is_held Invalid h = absurd (cc)

pub unheld_unmodified : (s : Mesi) → is_held s ≡ false → is_modified s ≡ false
unheld_unmodified s h = false_from_ne_true (is_modified s) (λ g. let f = sole_is_held s (modified_is_sole s g) in cc)

-- a snoop gives nobody the line
pub snoop_unheld : (s : Mesi) (k : Purpose) → is_held s ≡ false → is_held (after_snoop s k) ≡ false
snoop_unheld Invalid Read h = refl
snoop_unheld Invalid Own h = refl
snoop_unheld Invalid Upgrade h = refl
snoop_unheld Invalid WriteBack h = refl
snoop_unheld Shared k h = absurd (cc)
snoop_unheld Exclusive k h = absurd (cc)
snoop_unheld Modified k h = absurd (cc)

-- and who holds the line after it held it before
pub snoop_held : (s : Mesi) (k : Purpose) → is_held (after_snoop s k) ≡ true → is_held s ≡ true
snoop_held Invalid Read h = h
snoop_held Invalid Own h = h
snoop_held Invalid Upgrade h = h
snoop_held Invalid WriteBack h = h
snoop_held Shared k h = refl
snoop_held Exclusive k h = refl
snoop_held Modified k h = refl

-- after the snoop of a request for the line nobody else is sole
pub snoop_not_sole : (s : Mesi) (k : Purpose) → asks_line k ≡ true → is_sole (after_snoop s k) ≡ false
snoop_not_sole Invalid Read h = refl
snoop_not_sole Shared Read h = refl
snoop_not_sole Exclusive Read h = refl
snoop_not_sole Modified Read h = refl
snoop_not_sole s Own h = refl
snoop_not_sole s Upgrade h = refl
snoop_not_sole s WriteBack h = absurd (cc)

-- a snoop keeps the state of a clean line suited to its agent's own request
pub snoop_suits : (j : Purpose) (s : Mesi) (k : Purpose) → suits j s ≡ true → is_modified s ≡ false
    → suits j (after_snoop s k) ≡ true
snoop_suits j Invalid Read h m = h
snoop_suits j Invalid Own h m = h
snoop_suits j Invalid Upgrade h m = h
snoop_suits j Invalid WriteBack h m = h
snoop_suits j s WriteBack h m = h
snoop_suits j Modified k h m = absurd (cc)
snoop_suits Read s Read h m = elim s as (λ s. not (is_held s) ≡ true
    → not (is_held (after_snoop s Read)) ≡ true) [
      | Invalid ↦ λ h. refl
      | Shared ↦ λ h. h
      | Exclusive ↦ λ h. h
      | Modified ↦ λ h. h
    ] h
snoop_suits Read s Own h m = refl
snoop_suits Read s Upgrade h m = refl
snoop_suits Own Shared Read h m = refl
snoop_suits Own Exclusive Read h m = refl
snoop_suits Own s Own h m = refl
snoop_suits Own s Upgrade h m = refl
snoop_suits Upgrade Shared Read h m = refl
snoop_suits Upgrade Exclusive Read h m = refl
snoop_suits Upgrade s Own h m = refl
snoop_suits Upgrade s Upgrade h m = refl
snoop_suits WriteBack Shared k h m = absurd (cc)
snoop_suits WriteBack Exclusive k h m = absurd (cc)

-- a state that suits a request and is sole suits it when it is Modified
pub sole_suits : (k : Purpose) (s : Mesi) → suits k s ≡ true → is_sole s ≡ true → suits k Modified ≡ true
sole_suits WriteBack s h m = refl
sole_suits Read Exclusive h m = h
sole_suits Read Modified h m = h
sole_suits Read Shared h m = absurd (cc)
sole_suits Read Invalid h m = absurd (cc)
sole_suits Own Exclusive h m = h
sole_suits Own Modified h m = h
sole_suits Own Shared h m = absurd (cc)
sole_suits Own Invalid h m = absurd (cc)
sole_suits Upgrade Exclusive h m = h
sole_suits Upgrade Modified h m = h
sole_suits Upgrade Shared h m = absurd (cc)
sole_suits Upgrade Invalid h m = absurd (cc)

-- whoever has the line Modified asks for nothing but its write-back
pub modified_suits : (k : Purpose) (s : Mesi) → suits k s ≡ true → is_modified s ≡ true → k ≡ WriteBack
modified_suits WriteBack s h m = refl
modified_suits Read Modified h m = absurd (cc)
modified_suits Own Modified h m = absurd (cc)
modified_suits Upgrade Modified h m = absurd (cc)
modified_suits k Exclusive h m = absurd (cc)
modified_suits k Shared h m = absurd (cc)
modified_suits k Invalid h m = absurd (cc)

-- a state that isn't Modified suits its request when the line is dropped
pub dropped_suits : (k : Purpose) (s : Mesi) → suits k s ≡ true → is_modified s ≡ false → suits k Invalid ≡ true
dropped_suits Read s h m = refl
dropped_suits Own s h m = refl
dropped_suits Upgrade s h m = refl
dropped_suits WriteBack s h m = absurd (cc)

-- who asks for a line has it not sole
pub asker_not_sole : (k : Purpose) (s : Mesi) → asks_line k ≡ true → suits k s ≡ true → is_sole s ≡ false
asker_not_sole Own s h m = not-true (is_sole s) m
asker_not_sole Upgrade s h m = not-true (is_sole s) m
asker_not_sole Read Invalid h m = refl
asker_not_sole Read Shared h m = refl
asker_not_sole Read Exclusive h m = absurd (cc)
asker_not_sole Read Modified h m = absurd (cc)
asker_not_sole WriteBack s h m = absurd (cc)

-- a kind that gets the line with its bytes asks for it, and is no upgrade
pub gets_asks : (k : Purpose) → gets_line k ≡ true → asks_line k ≡ true
gets_asks Read h = refl
gets_asks Own h = refl
gets_asks Upgrade h = refl
gets_asks WriteBack h = h

pub gets_no_upgrade : (k : Purpose) → gets_line k ≡ true → upgrades k ≡ false
gets_no_upgrade Read h = refl
gets_no_upgrade Own h = refl
gets_no_upgrade WriteBack h = refl
gets_no_upgrade Upgrade h = absurd (cc)

pub gets_owns : (k : Purpose) → gets_line k ≡ true → kind_owns k ≡ true → k ≡ Own
gets_owns Own h m = refl
gets_owns Read h m = absurd (cc)
gets_owns Upgrade h m = absurd (cc)
gets_owns WriteBack h m = absurd (cc)

-- a request gets its line Modified exactly where it owns
pub granted_owns : (k : Purpose) (shared : Bool) → is_modified (granted k shared) ≡ kind_owns k
granted_owns Read true = refl
granted_owns Read false = refl
granted_owns Own shared = refl
granted_owns Upgrade shared = refl
granted_owns WriteBack shared = refl

-- where a request gets its line for itself, it owns, or nobody was seen to hold the line
pub granted_sole : (k : Purpose) (shared : Bool) → is_sole (granted k shared) ≡ true
    → (kind_owns k ≡ true) ⊎ (shared ≡ false)
granted_sole Read true h = absurd (cc)
granted_sole Read false h = inr refl
granted_sole Own shared h = inl refl
granted_sole Upgrade shared h = inl refl
granted_sole WriteBack shared h = absurd (cc)

-- then nobody else holds the line after the snoop
pub granted_alone : (k : Purpose) (shared : Bool) (s : Mesi) → is_sole (granted k shared) ≡ true
    → (shared ≡ false → is_held s ≡ false) → is_held (after_snoop s k) ≡ false
granted_alone Read true s h f = absurd (cc)
granted_alone Read false s h f = snoop_unheld s Read (f refl)
granted_alone Own shared s h f = refl
granted_alone Upgrade shared s h f = refl
granted_alone WriteBack shared s h f = absurd (cc)

-- whoever still holds the line after the snoop of a request for it lost it to no owner
pub snoop_unowned : (s : Mesi) (k : Purpose) → asks_line k ≡ true → is_held (after_snoop s k) ≡ true
    → kind_owns k ≡ false
snoop_unowned s Read h m = refl
snoop_unowned s Own h m = absurd (cc)
snoop_unowned s Upgrade h m = absurd (cc)
snoop_unowned s WriteBack h m = refl
