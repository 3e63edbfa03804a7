-- What is in a set of joint states that is filtered, or that a step reaches.
use Rattle.std.proofs.Common.{zero, suc, ◌≡◌, Bool, true, false, List, [], ◌∷◌, cond, refl, ap, ◌∙◌, arith}
use Rattle.std.specs.List.{Contains, filter, list_any}
use Rattle.fsb_owners.specs.Joint.{Joint, every_joint, reached_by}
use Rattle.fsb_owners.specs.Rules.{is_none_left}
use Rattle.fsb_owner_laws.proofs.Members.{has_filter}
use Rattle.fsb_owner_laws.proofs.Quiet.{any_at, any_found}

in_tail : (y x : Joint) (ys : List Joint) → Contains ys x → Contains (y ∷ ys) x
in_tail y x ys c = (suc c.0, (let l = c.1 in omega (arith, l)), c.2)

in_either : (b : Bool) (y x : Joint) (ys : List Joint) → Contains ys x → Contains (cond b (y ∷ ys) ys) x
in_either true y x ys c = in_tail y x ys c
in_either false y x ys c = c

in_head : (b : Bool) (y x : Joint) (ys : List Joint) → b ≡ true → y ≡ x → Contains (cond b (y ∷ ys) ys) x
in_head true y x ys t e = (0, omega arith, e)
in_head false y x ys t e = absurd (let no : ⊥ = cc in no)

pub filter_in : (p : Joint → Bool) (xs : List Joint) (x : Joint) → Contains xs x → p x ≡ true → Contains (filter p xs) x
filter_in p [] x (k, l, e) t = absurd (omega (arith, l))
filter_in p (y ∷ ys) x (zero, l, e) t = in_head (p y) y x (filter p ys) (ap p e ∙ t) e
filter_in p (y ∷ ys) x (suc k, l, e) t = in_either (p y) y x (filter p ys) (filter_in p ys x (k, omega (arith, l), e) t)

pub filter_out : (p : Joint → Bool) (xs : List Joint) (x : Joint) → Contains (filter p xs) x → (Contains xs x) × (p x ≡ true)
filter_out p xs x c = has_filter (Contains xs) p xs (λ y d. d) x c

pub reached_in : (step : Joint → Joint → Bool) (set : List Joint) (x y : Joint) → Contains set x → Contains every_joint y
    → step x y ≡ true → Contains (reached_by step set) y
unfolding reached_by
reached_in step set x y c d t =
    filter_in (λ to. list_any (λ from. step from to) set) every_joint y d (any_at (λ from. step from y) set x c t)

-- where the step came from
pub record IsReached (step : Joint → Joint → Bool) (set : List Joint) (to : Joint) : Type 0 where
  pub from : Joint
  pub within : Contains set from
  pub stepped : step from to ≡ true
  pub coherent : Contains every_joint to

pub reached_out : (step : Joint → Joint → Bool) (set : List Joint) (y : Joint) → Contains (reached_by step set) y
    → IsReached step set y
unfolding reached_by
reached_out step set y c =
    let k = filter_out (λ to. list_any (λ from. step from to) set) every_joint y c in
    let f = any_found (λ from. step from y) set k.1 in
    record { from = f.0; within = f.1; stepped = f.2; coherent = k.0 }

-- a set in which something is left
pub some_left : (set : List Joint) (x : Joint) → Contains set x → is_none_left set ≡ false
some_left [] x (k, l, e) = absurd (omega (arith, l))
some_left (y ∷ ys) x c = refl

pub left_one : (set : List Joint) → is_none_left set ≡ false → (x : Joint) × Contains set x
left_one [] e = absurd (let no : ⊥ = cc in no)
left_one (y ∷ ys) e = (y, (0, omega arith, refl))
