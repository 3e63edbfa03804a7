-- A request that begins leaves the joint states in which its agent may ask so.
use Rattle.std.proofs.Common.{ℕ, ◌≡◌, Bool, true, false, ◌&&◌, List, Option, Some, None, refl, sym, ap, ◌∙◌, if◌then◌else◌}
use Rattle.std.specs.List.{Contains}
use Rattle.std.proofs.lemmas.Bool.{eq-eqb, eqb-true}
use Rattle.fsb_count.specs.Options.{is_at, is_some_and}
use Rattle.fsb_line.specs.declared.purpose.Purpose.{Purpose}
use Rattle.fsb_trace.specs.At.{Trace}
use Rattle.fsb_owners.specs.Joint.{Joint, state_at}
use Rattle.fsb_owners.specs.Possible.{after_begin, asking, may_ask}
use Rattle.fsb_owners.specs.Shown.{agent_at, asks, names, purpose_at}
use Rattle.fsb_owner_laws.proofs.AgreeWords.{some_same}
use Rattle.fsb_courses.proofs.Sets.{filter_in, filter_out}

-- whoever asks, by these words of the request, may ask so
abbrev MayAsk : Bool → Option ℕ → Option Purpose → Joint → Type 0
MayAsk b o k x = (a : ℕ) (kind : Purpose) → (b && is_at o a) ≡ true → k ≡ Some kind → may_ask kind (state_at x a) ≡ true

nobody : (a : ℕ) → is_at None a ≡ false
unfolding is_at is_some_and
nobody a = refl

asker_is : (a b : ℕ) → is_at (Some a) b ≡ true → a ≡ b
unfolding is_at is_some_and
asker_is a b e = eqb-true a b e

is_asker : (a : ℕ) → is_at (Some a) a ≡ true
unfolding is_at is_some_and
is_asker a = eq-eqb a a refl

out_by : (b : Bool) (o : Option ℕ) (k : Option Purpose) (set : List Joint) (x : Joint)
    → Contains (if b then asking o k set else set) x → (Contains set x) × MayAsk b o k x
unfolding asking
out_by false o k set x c = (c, λ a kind e f. absurd (let no : ⊥ = cc in no))
out_by true None k set x c = (c, λ a kind e f. absurd (let n = nobody a in let no : ⊥ = cc in no))
out_by true (Some a) None set x c = (c, λ b kind e f. absurd (let no : ⊥ = cc in no))
out_by true (Some a) (Some kind) set x c =
    let k = filter_out (λ joint. may_ask kind (state_at joint a)) set x c in (
      k.0,
      λ b other e f. ap (λ n. may_ask other (state_at x n)) (sym (asker_is a b e))
          ∙ ap (λ p. may_ask p (state_at x a)) (sym (some_same kind other f)) ∙ k.1,
    )

in_by : (b : Bool) (o : Option ℕ) (k : Option Purpose) (set : List Joint) (x : Joint) → Contains set x → MayAsk b o k x
    → Contains (if b then asking o k set else set) x
unfolding asking
in_by false o k set x c h = c
in_by true None k set x c h = c
in_by true (Some a) None set x c h = c
in_by true (Some a) (Some kind) set x c h =
    filter_in (λ joint. may_ask kind (state_at joint a)) set x c (h a kind (is_asker a) refl)

-- the same of the request that begins at c
abbrev pub AsksFitly : Trace → ℕ → ℕ → Joint → Type 0
AsksFitly v line c x =
    (a : ℕ) (kind : Purpose) → asks v line a c ≡ true → purpose_at v c ≡ Some kind → may_ask kind (state_at x a) ≡ true

pub begin_out : (v : Trace) (line c : ℕ) (set : List Joint) (x : Joint) → Contains (after_begin v line c set) x
    → (Contains set x) × AsksFitly v line c x
unfolding after_begin asks
begin_out v line c set x h = out_by (names v line c) (agent_at v c) (purpose_at v c) set x h

pub begin_in : (v : Trace) (line c : ℕ) (set : List Joint) (x : Joint) → Contains set x → AsksFitly v line c x
    → Contains (after_begin v line c set) x
unfolding after_begin asks
begin_in v line c set x h m = in_by (names v line c) (agent_at v c) (purpose_at v c) set x h m
