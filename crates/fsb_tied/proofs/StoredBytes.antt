-- What the events of a clock store into a line: the stores of the entries on it, in their order.
use Rattle.fsb_tied.proofs.Words
use Words.{◌≡◌, ℕ, Bool, true, false, not, if◌then◌else◌, nat_eq, List, [], ◌∷◌, ◌++◌, map, fold, Option, Some, None}
use Words.{refl, ◌∙◌, inl, inr, arith, cases_Bool, filter, list_all, option_and_then, option_map_or, is_some_and, Done}
use Words.{Purpose, Event, after, stored, Begins, Drops, Ends, IsCancelled, IsDeferred, IsGranted, IsHanded, IsLost}
use Words.{IsReplied, IsRetried, IsUpgraded, IsWritten, Loads, Responds, Stores, Bytes, MemoryLine, run, stored_by_all}
use Words.{Outcome, Claim, Past, SnoopEnd, snooped_at, is_load, purpose_of, access_event, begin_events, begins_on}
use Words.{cancel_events, cancels_on, change_of, changes_of, claimed_events, responds_on, settled_events, snoop_events}
use Words.{snoops_on}

-- the stores of two lists of events, one after the other
pub stored-append : (x : MemoryLine) (es fs : List Event) (bytes : Bytes)
    → stored_by_all x (es ++ fs) bytes ≡ stored_by_all (run x es) fs (stored_by_all x es bytes)
stored-append x [] fs bytes = refl
stored-append x (e ∷ es) fs bytes = stored-append (after x e) es fs (stored x e bytes)

-- the event makes no store and moves no data
abbrev pub is_still : Event → Bool
is_still (Stores a change) = false
is_still (Ends change) = false
is_still (Loads a) = true
is_still (Drops a) = true
is_still (Begins a kind number) = true
is_still (IsCancelled a) = true
is_still (IsWritten a) = true
is_still (IsHanded a kind owner) = true
is_still (IsGranted a kind shared) = true
is_still (IsUpgraded a) = true
is_still (IsLost a) = true
is_still (IsRetried a kind) = true
is_still (IsDeferred a kind shared) = true
is_still IsReplied = true
is_still Responds = false

-- events that make no store
pub storeless : (x : MemoryLine) (es : List Event) (bytes : Bytes) → list_all is_still es ≡ true
    → stored_by_all x es bytes ≡ bytes
unfolding stored
storeless x [] bytes h = refl
storeless x (e ∷ es) bytes h = grind (arith, storeless (after x e) es (stored x e bytes))

-- the accesses of entries store what these entries store
pub accesses-store : (x : MemoryLine) (entries : List Done) (bytes : Bytes)
    → stored_by_all x (map access_event entries) bytes
    ≡ changes_of (filter (λ done. not (is_load done.access)) entries) bytes
unfolding changes_of
accesses-store x [] bytes = refl
accesses-store x (done ∷ entries) bytes =
    accesses-store (after x (access_event done)) entries (stored x (access_event done) bytes)
    ∙ step x done entries bytes (is_load done.access) refl
  where
    step : (x : MemoryLine) (done : Done) (entries : List Done) (bytes : Bytes) (load : Bool)
        → is_load done.access ≡ load
        → fold (λ before d. change_of d before) (stored x (access_event done) bytes)
        (filter (λ d. not (is_load d.access)) entries)
        ≡ fold (λ before d. change_of d before) bytes (filter (λ d. not (is_load d.access)) (done ∷ entries))
    step x done entries bytes true e = unfold access_event stored in rw e refl
    step x done entries bytes false e = unfold access_event stored in rw e refl

-- the response makes no store
pub response-storeless : (x : MemoryLine) (p : Past) (line n : ℕ) (bytes : Bytes)
    → stored_by_all x (responds_on p line n) bytes ≡ bytes
unfolding responds_on stored
response-storeless x p line n bytes = grind arith

-- a first clock, a cancellation and a snoop end make no store and move no data
pub begins-still : (p : Past) (line n : ℕ) → list_all is_still (begins_on p line n) ≡ true
unfolding begins_on begin_events
begins-still p line n = grind arith

pub cancels-still : (p : Past) (line n : ℕ) → list_all is_still (cancels_on p line n) ≡ true
unfolding cancels_on cancel_events
cancels-still p line n = grind arith

settled-still : (p : Past) (line n : ℕ) (s : SnoopEnd) (a : ℕ) (kind : Purpose) (outcome : Outcome)
    → s.outcome ≡ outcome
    → list_all is_still (settled_events p line n s a kind) ≡ true
unfolding settled_events
settled-still p line n s a kind outcome h1 = grind arith

claimed-still : (p : Past) (line n : ℕ) (s : SnoopEnd) (claim : Claim)
    → list_all is_still (claimed_events p line n s claim) ≡ true
unfolding claimed_events
claimed-still p line n s claim = elim (cases_Bool (nat_eq claim.line line)) [
  | inl here ↦ rw here (kinds (option_and_then purpose_of s.kind))
  | inr there ↦ rw there refl
]
  where
    kinds : (o : Option Purpose) → list_all is_still (option_map_or (settled_events p line n s claim.agent) o []) ≡ true
    kinds None = refl
    kinds (Some kind) = settled-still p line n s claim.agent kind s.outcome refl

pub snoops-still : (p : Past) (line n : ℕ) → list_all is_still (snoops_on p line n) ≡ true
unfolding snoops_on snoop_events
snoops-still p line n = one (snooped_at p n)
  where
    told : (s : SnoopEnd) (o : Option Claim) → list_all is_still (elim o [
      | Some claim ↦ claimed_events p line n s claim
      | None ↦ if is_some_and s.grant (λ grant. nat_eq grant.line line) then IsReplied ∷ [] else []
    ]) ≡ true
    told s (Some claim) = claimed-still p line n s claim
    told s None = elim (cases_Bool (is_some_and s.grant (λ grant. nat_eq grant.line line))) [
      | inl e ↦ rw e refl
      | inr e ↦ rw e refl
    ]

    one : (o : Option SnoopEnd) → list_all is_still (option_map_or (snoop_events p line n) o []) ≡ true
    one None = refl
    one (Some s) = told s s.claim
