-- The map that the sets of a cache make, when one set is written.
use Rattle.std.proofs.Common.{ℕ, zero, suc, Bor, replicate, ◌<◌, ◌%◌, ◌≡◌, ◌≢◌, Bool, true, false, cond, nat_eq}
use Rattle.std.proofs.Common.{is_some, Option, Some, None, [], length, length-set, set, get_or, get_or-set_same}
use Rattle.std.proofs.Common.{get_or-set_other, refl, sym, ap, subst, ◌∙◌, ⊎_elim, arith}
use Rattle.std.specs.Prelude.{IsTrue, ◌↔◌}
use Rattle.fsb_cache.proofs.Places.{power_is_positive}
use Rattle.std.specs.Option.{option_copied}
use Rattle.std.proofs.Math.Path.{fun_ext}
use Rattle.std.proofs.lemmas.Bool.{cases_eq, ne_eqb, eq-eqb}
use Rattle.std.proofs.lemmas.List.{get_or_default}
use Rattle.std.proofs.lemmas.Option.{same_Some}
use Rattle.fsb_line.specs.declared.state.Mesi.{Mesi}
use Rattle.fsb_line.specs.declared.state.Mesi.TheVariants.{Exclusive, Invalid, Modified, Shared}
use Rattle.fsb_line.specs.States.{is_held, is_sole}
use Rattle.fsb_line.specs.Line.{put}
use Rattle.fsb_cache.specs.declared.held.Held.{Held}
use Rattle.fsb_cache.specs.Sets.{CacheSets, Has, HasRoomFor, InOneSet, InTheirSets, bytes_of_held, copies, held_at}
use Rattle.fsb_cache.specs.Sets.{only_line, state_of_held, states}

-- what the line's set has, if anything, is the line
abbrev pub OnlyThis : CacheSets → ℕ → Type 0
OnlyThis sets line = (held : Held) → get_or sets (line % length sets) None ≡ Some held → held.line ≡ line

-- another line is not what a set has that has this one, or nothing
only_line-other : (line other : ℕ) (x : Option Held) → ((held : Held) → x ≡ Some held → held.line ≡ line)
    → other ≢ line → only_line other x ≡ None
only_line-other line other None this apart = refl
only_line-other line other (Some held) this apart =
    let is : held.line ≡ line = this held refl in
    rw (ne_eqb held.line other (λ e. apart (sym e ∙ is))) refl

only_line-this : (line : ℕ) (x : Option Held) → ((held : Held) → x ≡ Some held → held.line ≡ line)
    → only_line line x ≡ x
only_line-this line None this = refl
only_line-this line (Some held) this = rw (eq-eqb held.line line (this held refl)) refl

-- one set is written: its line, and the others
held_at-set : (sets : CacheSets) (line i : ℕ) (x : Option Held) → i ≡ line % length sets → i < length sets
    → OnlyThis sets line → ((held : Held) → x ≡ Some held → held.line ≡ line) → (other : ℕ)
    → held_at (set sets i x) other ≡ cond (nat_eq other line) x (held_at sets other)
unfolding held_at
held_at-set sets line i x at within old new other =
    ⊎_elim same apart (cases_eq (other % length sets) i)
  where
    same : other % length sets ≡ i → held_at (set sets i x) other ≡ cond (nat_eq other line) x (held_at sets other)
    same e =
        let here : held_at (set sets i x) other ≡ only_line other x =
        rw (length-set sets i x, e, get_or-set_same sets i x None within) refl in
        ⊎_elim
        (λ (is : other ≡ line).
        here ∙ ap (λ o. only_line o x) is ∙ only_line-this line x new
        ∙ sym (ap (λ b. cond b x (held_at sets other)) (eq-eqb other line is)))
        (λ (is_not : other ≢ line).
        let before : held_at sets other ≡ None =
        ap (λ k. only_line other (get_or sets k None)) (e ∙ at)
        ∙ only_line-other line other (get_or sets (line % length sets) None) old is_not in
        here ∙ only_line-other line other x new is_not ∙ sym before
        ∙ sym (ap (λ b. cond b x (held_at sets other)) (ne_eqb other line is_not)))
        (cases_eq other line)

    apart : other % length sets ≢ i → held_at (set sets i x) other ≡ cond (nat_eq other line) x (held_at sets other)
    apart ne =
        let stays : held_at (set sets i x) other ≡ held_at sets other =
        rw (length-set sets i x, get_or-set_other sets i (other % length sets) x None ne) refl in
        stays ∙ sym (ap (λ b. cond b x (held_at sets other))
        (ne_eqb other line (λ is. ne (ap (λ o. o % length sets) is ∙ sym at))))

-- the same of the states and of the bytes
states-set : (sets : CacheSets) (line i : ℕ) (x : Option Held) → i ≡ line % length sets → i < length sets
    → OnlyThis sets line → ((held : Held) → x ≡ Some held → held.line ≡ line)
    → states (set sets i x) ≡ put (states sets) line (state_of_held x)
unfolding states put
states-set sets line i x at within old new =
    fun_ext (λ other. ap state_of_held (held_at-set sets line i x at within old new other)
    ∙ split (nat_eq other line) (held_at sets other))
  where
    split : (b : Bool) (y : Option Held) → state_of_held (cond b x y) ≡ cond b (state_of_held x) (state_of_held y)
    split true y = refl
    split false y = refl

copies-set : (sets : CacheSets) (line i : ℕ) (x : Option Held) → i ≡ line % length sets → i < length sets
    → OnlyThis sets line → ((held : Held) → x ≡ Some held → held.line ≡ line)
    → copies (set sets i x) ≡ put (copies sets) line (bytes_of_held x)
unfolding copies put
copies-set sets line i x at within old new =
    fun_ext (λ other. ap bytes_of_held (held_at-set sets line i x at within old new other)
    ∙ split (nat_eq other line) (held_at sets other))
  where
    split : (b : Bool) (y : Option Held) → bytes_of_held (cond b x y) ≡ cond b (bytes_of_held x) (bytes_of_held y)
    split true y = refl
    split false y = refl

-- what was read of a line's set
pub set_read : (inside old : CacheSets) (line i : ℕ) (x : Option Held) → inside ≡ old → i ≡ line % length old
    → i < length old → x ≡ get_or inside i x → get_or old (line % length old) None ≡ x
set_read inside old line i x is at within read =
    get_or_default old (line % length old) None x (rw (← at) within) ∙ ap (λ k. get_or old k x) (sym at)
    ∙ ap (λ sets. get_or sets i x) (sym is) ∙ sym read

-- a line whose set is empty is not held
pub has_not : (sets : CacheSets) (line : ℕ) → Has sets line → get_or sets (line % length sets) None ≡ None → ⊥
unfolding held_at states
has_not sets line has e = let never : false ≡ true = rw e at has in cc

-- what a set has is this line, if it has one
abbrev pub IsThis : ℕ → Option Held → Type 0
IsThis line x = (held : Held) → x ≡ Some held → held.line ≡ line

pub is_this : (line : ℕ) (held : Held) → held.line ≡ line → IsThis line (Some held)
is_this line held is other same = sym (ap (λ h. h.line) (same_Some held other same)) ∙ is

-- one set of a cache is written
pub record SetPut (old new : CacheSets) (line : ℕ) (x : Option Held) : Type 0 where
  pub states : states new ≡ put (states old) line (state_of_held x)
  pub copies : copies new ≡ put (copies old) line (bytes_of_held x)

pub set_put : (inside old : CacheSets) (line i : ℕ) (x : Option Held) → inside ≡ old → i ≡ line % length old
    → i < length old → OnlyThis old line → IsThis line x → SetPut old (set inside i x) line x
set_put inside old line i x is at within only new =
    rw is record {
      states = states-set old line i x at within only new;
      copies = copies-set old line i x at within only new;
    }

-- what the set of a line has is that line: where the cache has the line, and where there is room for it
pub only_this-found : (sets : CacheSets) (line : ℕ) → is_some (held_at sets line) ≡ true → OnlyThis sets line
unfolding held_at
only_this-found sets line found held e =
    ⊎_elim
    (λ (is : held.line ≡ line). is)
    (λ (is_not : held.line ≢ line). absurd (let never : false ≡ true =
    rw (e, ne_eqb held.line line is_not) at found in (let h : ⊥ = cc in h)))
    (cases_eq held.line line)

pub only_this-has : (sets : CacheSets) (line : ℕ) → Has sets line → OnlyThis sets line
unfolding states
only_this-has sets line has = only_this-found sets line (found (held_at sets line) has)
  where
    found : (x : Option Held) → IsTrue (is_held (state_of_held x)) → is_some x ≡ true
    found None never = absurd (let h : ⊥ = cc in h)
    found (Some held) has = refl

-- what a set has is a line of the set, and the cache has it
own_line : (sets : CacheSets) (line : ℕ) (held : Held) → InTheirSets sets
    → get_or sets (line % length sets) None ≡ Some held
    → (line % length sets ≡ held.line % length sets) × Has sets held.line
unfolding held_at states
own_line sets line held inv e =
    let positive : 0 < length sets = power_is_positive (length sets) inv.power in
    let own : (held.line % length sets ≡ line % length sets) × IsTrue (is_held held.state) =
    rw e at (inv.own (line % length sets) (omega arith)) in
    (sym own.0, rw (own.0, e, eq-eqb held.line held.line refl) own.1)

pub only_this-room : (sets : CacheSets) (line : ℕ) → InTheirSets sets → HasRoomFor sets line → OnlyThis sets line
only_this-room sets line inv room held e =
    let own = own_line sets line held inv e in room held.line own.0 own.1

-- the line of a set, as the states tell it
pub resident-some : (sets : CacheSets) (line : ℕ) (held : Held) → InTheirSets sets
    → get_or sets (line % length sets) None ≡ Some held → (other : ℕ)
    → (Some held.line ≡ Some other) ↔ (InOneSet sets line other × Has sets other)
resident-some sets line held inv e other = (there, back)
  where
    there : Some held.line ≡ Some other → InOneSet sets line other × Has sets other
    there same =
        let is : held.line ≡ other = cc in
        let own = own_line sets line held inv e in
        (own.0 ∙ ap (λ o. o % length sets) is, subst (Has sets) is own.1)

    back : InOneSet sets line other × Has sets other → Some held.line ≡ Some other
    back has = ap Some (only_this-has sets other has.1 held (ap (λ k. get_or sets k None) (sym has.0) ∙ e))

pub resident-none : (sets : CacheSets) (line : ℕ) → get_or sets (line % length sets) None ≡ None → (other : ℕ)
    → (None ≡ Some other) ↔ (InOneSet sets line other × Has sets other)
resident-none sets line e other = (there, back)
  where
    there : None ≡ Some other → InOneSet sets line other × Has sets other
    there never = absurd (let h : ⊥ = cc in h)

    back : InOneSet sets line other × Has sets other → None ≡ Some other
    back has = absurd (has_not sets other has.1 (ap (λ k. get_or sets k None) (sym has.0) ∙ e))

-- two lines that one set has are the same
pub one_line : (sets : CacheSets) (line other : ℕ) → InOneSet sets line other → Has sets line → Has sets other
    → line ≡ other
one_line sets line other one has has_other = same (get_or sets (line % length sets) None) refl
  where
    same : (x : Option Held) → get_or sets (line % length sets) None ≡ x → line ≡ other
    same None e = absurd (has_not sets line has e)
    same (Some held) e =
        sym (only_this-has sets line has held e)
        ∙ only_this-has sets other has_other held (ap (λ k. get_or sets k None) (sym one) ∙ e)

-- a function with the value that it has
pub put-same : {A : Type 0} (f : ℕ → A) (line : ℕ) (x : A) → f line ≡ x → f ≡ put f line x
unfolding put
put-same f line x e =
    fun_ext
    (λ other.
    ⊎_elim (λ (is : other ≡ line). ap f is ∙ e ∙ sym (ap (λ b. cond b x (f other)) (eq-eqb other line is)))
    (λ (is_not : other ≢ line). sym (ap (λ b. cond b x (f other)) (ne_eqb other line is_not))) (cases_eq other line))

-- the bytes of a line that a set has
pub copies-held : (sets : CacheSets) (line : ℕ) (held : Held)
    → get_or sets (line % length sets) None ≡ Some held → held.line ≡ line → copies sets line ≡ held.bytes
unfolding held_at copies
copies-held sets line held e is = rw (e, eq-eqb held.line line is) refl

-- a cache without lines
pub states-empty : (sets : CacheSets) → ((i : ℕ) → get_or sets i None ≡ None) → states sets ≡ (λ (line : ℕ). Invalid)
unfolding held_at states
states-empty sets none = fun_ext (λ line. rw (none (line % length sets)) refl)

pub copies-empty : (sets : CacheSets) → ((i : ℕ) → get_or sets i None ≡ None) → copies sets ≡ (λ (line : ℕ). [])
unfolding held_at copies
copies-empty sets none = fun_ext (λ line. rw (none (line % length sets)) refl)

-- a line that is not found
pub states-missed : (sets : CacheSets) (line : ℕ) → is_some (held_at sets line) ≡ false
    → (states sets line ≡ Invalid) × (copies sets line ≡ [])
unfolding states copies
states-missed sets line missed = missing (held_at sets line) missed
  where
    missing : (x : Option Held) → is_some x ≡ false → (state_of_held x ≡ Invalid) × (bytes_of_held x ≡ [])
    missing None e = (refl, refl)
    missing (Some held) e = absurd (let h : ⊥ = cc in h)

-- a copy of what is lent is there where that is
pub is_some-copied : {A : Type 0} (x : Option (Bor A)) → is_some (option_copied x) ≡ is_some x
is_some-copied None = refl
is_some-copied (Some x) = refl

-- a line that may be written is held
pub sole_is_held : (state : Mesi) → IsTrue (is_sole state) → IsTrue (is_held state)
sole_is_held Invalid never = absurd (let h : ⊥ = cc in h)
sole_is_held Shared never = absurd (let h : ⊥ = cc in h)
sole_is_held Exclusive sole = refl
sole_is_held Modified sole = refl

-- no set of a new cache has a line
pub none-replicated : (n i : ℕ) → get_or (replicate {A = Option Held} n None) i None ≡ None
none-replicated zero i = refl
none-replicated (suc n) zero = refl
none-replicated (suc n) (suc i) = none-replicated n i
