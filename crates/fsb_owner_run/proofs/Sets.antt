-- Which joint states are in the sets that the rules of ownership go on with.
use Rattle.std.proofs.Common.{ℕ, zero, suc, ◌<◌, ◌≡◌, Bool, true, false, ◌&&◌, ◌||◌, not, nat_eq, List, [], ◌∷◌, Option, Some, None}
use Rattle.std.proofs.Common.{refl, sym, ap, subst, ◌∙◌, arith, map, if◌then◌else◌}
use Rattle.std.specs.List.{Contains, filter, list_any}
use Rattle.fsb_line.specs.declared.purpose.Purpose.{Purpose}
use Rattle.fsb_line.specs.declared.purpose.Settled.{Settled}
use Rattle.fsb_line.specs.declared.purpose.Settled.TheVariants.{Replied}
use Rattle.fsb_line.specs.declared.state.Mesi.{Mesi}
use Rattle.fsb_line.specs.States.{state_after}
use Rattle.fsb_owners.specs.Joint.{Joint, agents, every_joint, is_after_snoop_end, is_same_joint, reached_by, state_at}
use Rattle.fsb_owners.specs.Possible.{asking, may_ask, replied_to, settled_at_end}
use Rattle.fsb_owners.specs.Rules.{is_none_left}
use Rattle.fsb_owner_laws.specs.Losses.{AreCoherent, fits_reply}
use Rattle.fsb_owner_laws.proofs.Losses.{any_filter, lands, none_reached}
use Rattle.fsb_owner_laws.proofs.Members.{below_four}
use Rattle.fsb_owner_laws.proofs.Quiet.{any_at, any_found, same_joints}
use Rattle.fsb_owner_laws.proofs.StepLosses.{fits_end, reply_keeps, request_keeps, same_joint, showing_fits}

-- the joint state in which each agent has this
abbrev pub joint_of : (ℕ → Mesi) → Joint
joint_of f = map f agents

pub at_agent : (f : ℕ → Mesi) (a : ℕ) → a < 4 → state_at (joint_of f) a ≡ f a
unfolding state_at
at_agent f = below_four (λ a. state_at (joint_of f) a ≡ f a) refl refl refl refl

-- a joint state that passes is left
pub kept_in : (p : Joint → Bool) (set : List Joint) (x : Joint) → Contains every_joint x → Contains set x → p x ≡ true
    → Contains (filter p set) x
kept_in p set x e c t =
    let f = any_found (is_same_joint x) (filter p set)
    (any_filter p (is_same_joint x) set ∙ any_at (λ y. p y && is_same_joint x y) set x c (rw (t, same_joint x e) refl)) in
    subst (λ y. Contains (filter p set) y) (sym (same_joints x f.0 f.2)) f.1

pub reached_in : (step : Joint → Joint → Bool) (set : List Joint) (x y : Joint) → Contains every_joint y → Contains set x
    → step x y ≡ true → Contains (reached_by step set) y
unfolding reached_by
reached_in step set x y e c t =
    kept_in (λ to. list_any (λ from. step from to) set) every_joint y e e (any_at (λ from. step from y) set x c t)

pub if_in : (b : Bool) (one other : List Joint) (x : Joint) → (b ≡ true → Contains one x) → (b ≡ false → Contains other x)
    → Contains (if b then one else other) x
if_in true one other x f g = f refl
if_in false one other x f g = g refl

pub asking_in : (o : Option ℕ) (k : Option Purpose) (set : List Joint) (x : Joint) → Contains every_joint x → Contains set x
    → ((a : ℕ) (kind : Purpose) → o ≡ Some a → k ≡ Some kind → may_ask kind (state_at x a) ≡ true)
    → Contains (asking o k set) x
unfolding asking
asking_in None k set x e c h = c
asking_in (Some a) None set x e c h = c
asking_in (Some a) (Some kind) set x e c h =
    kept_in (λ joint. may_ask kind (state_at joint a)) set x e c (h a kind refl refl)

-- a set that has a joint state is not empty
pub some_left : (set : List Joint) (x : Joint) → Contains set x → is_none_left set ≡ false
some_left [] x c = absurd (let l = c.1 in omega (arith, l))
some_left (y ∷ set) x c = refl

-- the states that a snoop end leaves
abbrev pub turned : ℕ → Purpose → Settled → Bool → (ℕ → Mesi) → ℕ → Mesi
turned asker kind settled hit f a = state_after (f a) (nat_eq a asker) kind settled hit

pub turn_step : (asker : ℕ) (kind : Purpose) (settled : Settled) (hit : Bool) (f : ℕ → Mesi)
    → Contains every_joint (joint_of (turned asker kind settled hit f))
    → is_after_snoop_end asker kind settled hit (joint_of f) (joint_of (turned asker kind settled hit f)) ≡ true
unfolding is_after_snoop_end state_at
turn_step asker kind settled hit f e = same_joint (joint_of (turned asker kind settled hit f)) e

turn_is : (asker : ℕ) (kind : Purpose) (settled : Settled) (hit : Bool) (f : ℕ → Mesi) (y : Joint)
    → is_after_snoop_end asker kind settled hit (joint_of f) y ≡ true → y ≡ joint_of (turned asker kind settled hit f)
unfolding is_after_snoop_end state_at
turn_is asker kind settled hit f y e = same_joints y (joint_of (turned asker kind settled hit f)) e

one_lands : (step : Joint → Joint → Bool) (x : Joint) → is_none_left (reached_by step (x ∷ [])) ≡ false
    → lands step x ≡ true
one_lands step x e = by_one (lands step x) (sym (none_reached step (x ∷ [])) ∙ e)
  where
    by_one : (b : Bool) → not (b || false) ≡ false → b ≡ true
    by_one b h = grind arith

-- a joint state that fits a snoop end is turned into one of a coherent line
lands_coherent : (asker : ℕ) (kind : Purpose) (settled : Settled) (hit : Bool) (f : ℕ → Mesi)
    → lands (is_after_snoop_end asker kind settled hit) (joint_of f) ≡ true
    → Contains every_joint (joint_of (turned asker kind settled hit f))
lands_coherent asker kind settled hit f t =
    let g = any_found (λ to. is_after_snoop_end asker kind settled hit (joint_of f) to) every_joint t in
    subst (λ y. Contains every_joint y) (turn_is asker kind settled hit f g.0 g.2) g.1

one_filter : (p : Joint → Bool) (x : Joint) → p x ≡ true → filter p (x ∷ []) ≡ x ∷ []
one_filter p x t = rw t refl

one_in : (x : Joint) → Contains every_joint x → AreCoherent (x ∷ [])
one_in x e zero d l = e
one_in x e (suc k) d l = absurd (omega (arith, l))

pub request_turns : (hit hitm turns : Bool) (asker : ℕ) (kind : Purpose) (f : ℕ → Mesi) → asker < 4
    → Contains every_joint (joint_of f) → fits_end hit hitm asker kind (joint_of f) ≡ true
    → Contains every_joint (joint_of (turned asker kind (settled_at_end hitm turns kind) hit f))
request_turns hit hitm turns asker kind f l e t =
    let x = joint_of f in
    let step = is_after_snoop_end asker kind (settled_at_end hitm turns kind) hit in
    let one = showing_fits hit hitm asker kind (x ∷ []) ∙ one_filter (fits_end hit hitm asker kind) x t in
    lands_coherent asker kind (settled_at_end hitm turns kind) hit f
    (one_lands step x
    (ap (λ set. is_none_left (reached_by step set)) (sym one)
    ∙ request_keeps hit hitm turns asker kind (x ∷ []) l (one_in x e) ∙ ap is_none_left one))

pub reply_turns : (hit : Bool) (asker : ℕ) (kind : Purpose) (f : ℕ → Mesi) → asker < 4
    → Contains every_joint (joint_of f) → fits_reply hit asker kind (joint_of f) ≡ true
    → Contains every_joint (joint_of (turned asker kind Replied hit f))
unfolding replied_to
reply_turns hit asker kind f l e t =
    let x = joint_of f in
    lands_coherent asker kind Replied hit f
    (one_lands (is_after_snoop_end asker kind Replied hit) x
    (reply_keeps hit asker kind (x ∷ []) l (one_in x e)
    ∙ ap is_none_left (one_filter (fits_reply hit asker kind) x t)))
