-- What all joint states of a set are, and stay.
use Rattle.std.proofs.Common.{ℕ, zero, suc, ◌+◌, ◌<◌, ◌≡◌, Bool, true, false, not, nat_eq, List, [], ◌∷◌, Option, Some, None}
use Rattle.std.proofs.Common.{refl, sym, ap, ◌∙◌, arith, length, cond, map, if◌then◌else◌}
use Rattle.std.specs.List.{Contains, filter, list_any}
use Rattle.std.proofs.lemmas.List.Elements.{All-contains, All-contains_itself, All-filter}
use Rattle.std.specs.Prelude.{slice_index_or}
use Rattle.fsb_line.specs.declared.purpose.Purpose.{Purpose}
use Rattle.fsb_line.specs.declared.purpose.Settled.{Settled}
use Rattle.fsb_line.specs.declared.state.Mesi.{Mesi}
use Rattle.fsb_line.specs.States.{state_after}
use Rattle.fsb_trace.specs.At.{Trace}
use Rattle.fsb_owners.specs.Joint.{Joint, agents, every_joint, is_after_drops, is_after_snoop_end, is_after_stores}
use Rattle.fsb_owners.specs.Joint.{reached_by, state_at}
use Rattle.fsb_owners.specs.Possible.{after_begin, after_unseen, asking, may_ask}
use Rattle.fsb_owners.specs.Shown.{agent_at, is_coming, may_drop_at, names, purpose_at}
use Rattle.fsb_owner_laws.proofs.Quiet.{any_found, same_joints}

-- each joint state of the set is so
abbrev pub Has : (Joint → Type 0) → List Joint → Type 0
Has P set = (x : Joint) → Contains set x → P x

passes_cons : (p : Joint → Bool) (x : Joint) (xs : List Joint) (b : Bool) (k : ℕ) (d : Joint) → p x ≡ b
    → ((k : ℕ) (d : Joint) → k < length (filter p xs) → p (slice_index_or (filter p xs) k d) ≡ true)
    → k < length (cond b (x ∷ filter p xs) (filter p xs)) → p (slice_index_or (cond b (x ∷ filter p xs) (filter p xs)) k d) ≡ true
passes_cons p x xs true zero d e h l = e
passes_cons p x xs true (suc k) d e h l = h k d (omega (arith, l))
passes_cons p x xs false k d e h l = h k d l

passes_below : (p : Joint → Bool) (xs : List Joint) (k : ℕ) (d : Joint) → k < length (filter p xs)
    → p (slice_index_or (filter p xs) k d) ≡ true
passes_below p [] k d l = absurd (omega (arith, l))
passes_below p (x ∷ xs) k d l = passes_cons p x xs (p x) k d refl (passes_below p xs) l

from_filter : (p : Joint → Bool) (set : List Joint) (x : Joint) → Contains (filter p set) x → Contains set x
from_filter p set x c = All-contains (Contains set) (filter p set) x (All-filter p (Contains set) set (All-contains_itself set)) c

pub has_filter : (P : Joint → Type 0) (p : Joint → Bool) (set : List Joint) → Has P set
    → Has (λ x. (P x) × (p x ≡ true)) (filter p set)
has_filter P p set h x c = (h x (from_filter p set x c), sym (ap p c.2) ∙ passes_below p set c.0 x c.1)

pub has_filtered : (P : Joint → Type 0) (p : Joint → Bool) (set : List Joint) → Has P set → Has P (filter p set)
has_filtered P p set h x c = h x (from_filter p set x c)

pub has_reached : (P R : Joint → Type 0) (step : Joint → Joint → Bool) (set : List Joint)
    → ((x y : Joint) → P x → Contains every_joint y → step x y ≡ true → R y) → Has P set → Has R (reached_by step set)
unfolding reached_by
has_reached P R step set h m y c =
    let k = has_filter (Contains every_joint) (λ to. list_any (λ from. step from to) set) every_joint (λ x e. e) y c in
    let f = any_found (λ from. step from y) set k.1 in
    h f.0 y (m f.0 f.1) k.0 f.2

has_asking : (P : Joint → Type 0) (o : Option ℕ) (k : Option Purpose) (set : List Joint) → Has P set → Has P (asking o k set)
unfolding asking
has_asking P None k set h = h
has_asking P (Some a) None set h = h
has_asking P (Some a) (Some kind) set h = has_filtered P (λ joint. may_ask kind (state_at joint a)) set h

pub has_if : (P : Joint → Type 0) (b : Bool) (one other : List Joint) → Has P one → Has P other → Has P (if b then one else other)
has_if P true one other h k = h
has_if P false one other h k = k

pub has_begin : (P : Joint → Type 0) (v : Trace) (line b : ℕ) (set : List Joint) → Has P set → Has P (after_begin v line b set)
unfolding after_begin
has_begin P v line b set h =
    has_if P (names v line b) (asking (agent_at v b) (purpose_at v b) set) set (has_asking P (agent_at v b) (purpose_at v b) set h) h

pub has_unseen : (P : Joint → Type 0) (v : Trace) (line b : ℕ) (set : List Joint)
    → ((ready : ℕ → Bool) (x y : Joint) → P x → is_after_stores ready x y ≡ true → P y)
    → ((may : ℕ → Bool) (x y : Joint) → P x → is_after_drops may x y ≡ true → P y) → Has P set → Has P (after_unseen v line b set)
unfolding after_unseen
has_unseen P v line b set s d h =
    has_reached P P (is_after_drops (may_drop_at v line b)) (reached_by (is_after_stores (λ a. not (is_coming v line a (b + 1)))) set)
    (λ x y p c e. d (may_drop_at v line b) x y p e)
    (has_reached P P (is_after_stores (λ a. not (is_coming v line a (b + 1)))) set
    (λ x y p c e. s (λ a. not (is_coming v line a (b + 1))) x y p e) h)

-- what holds of each of four agents
pub below_four : (P : ℕ → Type 0) → P 0 → P 1 → P 2 → P 3 → (a : ℕ) → a < 4 → P a
below_four P p r s t zero l = p
below_four P p r s t (suc zero) l = r
below_four P p r s t (suc (suc zero)) l = s
below_four P p r s t (suc (suc (suc zero))) l = t
below_four P p r s t (suc (suc (suc (suc a)))) l = absurd (omega (arith, l))

pub at_agents : (f : ℕ → Mesi) (a : ℕ) → a < 4 → state_at (map f agents) a ≡ f a
unfolding state_at
at_agents f = below_four (λ a. state_at (map f agents) a ≡ f a) refl refl refl refl

-- what a snoop end makes of the state of an agent
pub state_then : (asker : ℕ) (kind : Purpose) (settled : Settled) (shared : Bool) (x y : Joint) (a : ℕ) → a < 4
    → is_after_snoop_end asker kind settled shared x y ≡ true
    → state_at y a ≡ state_after (state_at x a) (nat_eq a asker) kind settled shared
unfolding is_after_snoop_end
state_then asker kind settled shared x y a l e =
    ap (λ j. state_at j a) (same_joints y (map (λ b. state_after (state_at x b) (nat_eq b asker) kind settled shared) agents) e)
    ∙ at_agents (λ b. state_after (state_at x b) (nat_eq b asker) kind settled shared) a l
