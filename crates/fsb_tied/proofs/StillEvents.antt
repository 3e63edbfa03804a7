-- Which events of a clock leave the data that are on the bus and the memory of a line as they are.
use Rattle.fsb_tied.proofs.Words
use Words.{ℕ, ◌≡◌, Bool, true, false, List, [], ◌∷◌, ◌++◌, map, Option, Some, None, refl, ap, ◌∙◌, inl, inr, arith}
use Words.{cases_Bool, filter, list_all, list_any, option_and_then, cond, unwrap_or, is_some_and, Done, Link, Event}
use Words.{after, arrived, effect, given, linked, oldest_ended, replied, responded, settled, Begins, Drops, Ends}
use Words.{IsCancelled, IsDeferred, IsGranted, IsHanded, IsLost, IsReplied, IsRetried, IsUpgraded, IsWritten, Loads}
use Words.{Responds, Stores, Bytes, LineDeferral, MemoryLine, brought, source, trimmed, feeds_memory, run}
use Words.{ended_requests, Past, is_load, Awaited, awaited_at, responded_in, does_end_on, does_respond_on, access_event}
use Words.{awaited_events, awaiting_stores, begins_on, cancels_on, changes_of, end_events, ends_on, entries_on}
use Words.{events_of_ends, hits_on, is_of_other_line, moves_on, others_on, responds_on, snoops_on, events_before_snoop}
use Words.{run-append}
use Rattle.std.specs.Prelude.{nat_eq}
use Rattle.fsb_tied.proofs.StoredBytes.{begins-still, cancels-still, is_still, snoops-still}
use Rattle.fsb_tied.proofs.StoredClocks.{all_both, hit_entries_on, lists-are}

-- the line has the data on the bus and the memory of another one
pub record SameData (x y : MemoryLine) : Type 0 where
  pub moved : x.moved ≡ y.moved
  pub memory : x.memory ≡ y.memory

same-data : (x : MemoryLine) → SameData x x
same-data x = record { moved = refl; memory = refl }

pub both-same : (x y z : MemoryLine) → SameData x y → SameData y z → SameData x z
both-same x y z f g = record { moved = f.moved ∙ g.moved; memory = f.memory ∙ g.memory }

replied-data : (x : MemoryLine) (o : Option LineDeferral) → SameData (trimmed (replied x o)) x
unfolding trimmed replied linked settled
replied-data x o = grind arith

still-data : (x : MemoryLine) (e : Event) → is_still e ≡ true → SameData (after x e) x
unfolding after effect trimmed linked settled given
still-data x (Stores a change) h = absurd (cc)
still-data x (Ends change) h = absurd (cc)
still-data x Responds h = absurd (cc)
still-data x (Loads a) h = record { moved = refl; memory = refl }
still-data x (Drops a) h = record { moved = refl; memory = refl }
still-data x (Begins a kind number) h = record { moved = refl; memory = refl }
still-data x (IsCancelled a) h = record { moved = refl; memory = refl }
still-data x (IsWritten a) h = record { moved = refl; memory = refl }
still-data x (IsHanded a kind owner) h = record { moved = refl; memory = refl }
still-data x (IsGranted a kind shared) h = record { moved = refl; memory = refl }
still-data x (IsUpgraded a) h = record { moved = refl; memory = refl }
still-data x (IsLost a) h = record { moved = refl; memory = refl }
still-data x (IsRetried a kind) h = record { moved = refl; memory = refl }
still-data x (IsDeferred a kind shared) h = record { moved = refl; memory = refl }
still-data x IsReplied h = replied-data x x.deferral

all-still : (x : MemoryLine) (es : List Event) → list_all is_still es ≡ true → SameData (run x es) x
all-still x [] h = same-data x
all-still x (e ∷ es) h = grind (arith, still-data, all-still (after x e) es)

access-data : (x : MemoryLine) (done : Done) (load : Bool) → is_load done.access ≡ load
    → SameData (after x (access_event done)) x
unfolding access_event after effect trimmed
access-data x done load h1 = grind arith

-- accesses of entries leave them
pub accesses-data : (x : MemoryLine) (entries : List Done) → SameData (run x (map access_event entries)) x
accesses-data x [] = same-data x
accesses-data x (done ∷ entries) =
    let y : MemoryLine = after x (access_event done) in
    both-same (run y (map access_event entries)) y x (accesses-data y entries)
    (access-data x done (is_load done.access) refl)

-- behind the response, up to the end, nothing changes them
pub between-data : (x : MemoryLine) (p : Past) (line n : ℕ)
    → SameData (run x (events_before_snoop p line n ++ snoops_on p line n)) (run x (responds_on p line n))
unfolding events_before_snoop hits_on
between-data x p line n =
    let y : MemoryLine = run x (responds_on p line n) in
    let z : MemoryLine = run y (hits_on p line n) in
    let rest : List Event = begins_on p line n ++ (cancels_on p line n ++ snoops_on p line n) in
    let still = all_both (begins_on p line n) (cancels_on p line n ++ snoops_on p line n) (begins-still p line n)
    (all_both (cancels_on p line n) (snoops_on p line n) (cancels-still p line n) (snoops-still p line n)) in
    let before : List Event = responds_on p line n ++ hits_on p line n ++ begins_on p line n ++ cancels_on p line n in
    let split : run x (before ++ snoops_on p line n)
    ≡ run z rest =
    ap (run x) (lists-are (responds_on p line n) (hits_on p line n) (begins_on p line n) (cancels_on p line n)
    (snoops_on p line n))
    ∙ run-append x (responds_on p line n) (hits_on p line n ++ rest) ∙ run-append y (hits_on p line n) rest in
    let late = both-same (run z rest) z y (all-still z rest still) (accesses-data y (hit_entries_on p line n)) in
    record {
      moved = ap (λ (w : MemoryLine). w.moved) split ∙ late.moved;
      memory = ap (λ (w : MemoryLine). w.memory) split ∙ late.memory;
    }

-- where no data of the line are put on the bus, the response changes nothing
pub no-response : (x : MemoryLine) (p : Past) (line n : ℕ) → does_respond_on p line n ≡ false
    → run x (responds_on p line n) ≡ x
unfolding responds_on does_respond_on
no-response x p line n e = rw e refl

response-kept : (x : MemoryLine) (links : List Link) → (trimmed (responded x links)).memory ≡ x.memory
unfolding trimmed responded
response-kept x links = grind arith

-- no response changes memory
pub response-memory : (x : MemoryLine) (p : Past) (line n : ℕ) → (run x (responds_on p line n)).memory ≡ x.memory
unfolding responds_on after effect
response-memory x p line n =
    elim (cases_Bool (is_some_and (option_and_then (awaited_at p n) (responded_in p n)) (moves_on line))) [
      | inl e ↦ rw e (response-kept x x.chain)
      | inr e ↦ rw e refl
    ]

-- where they are, they are those of the source of the oldest link
pub one-response : (x : MemoryLine) (p : Past) (line n : ℕ) (link : Link) (links : List Link)
    → does_respond_on p line n ≡ true → x.chain ≡ link ∷ links
    → ((run x (responds_on p line n)).moved ≡ source x link) × ((run x (responds_on p line n)).memory ≡ x.memory)
unfolding responds_on does_respond_on after effect trimmed responded
one-response x p line n link links e chain = rw (e, chain) (refl, refl)

-- where no end is awaited on the line, there is none
pub no-ends : (p : Past) (line n : ℕ) (qs : List ℕ)
    → list_any (λ q. is_some_and (awaited_at p n q) (λ awaited. nat_eq awaited.line line)) qs ≡ false
    → events_of_ends p line n qs ≡ []
unfolding events_of_ends end_events awaited_events is_some_and
no-ends p line n [] e = refl
no-ends p line n (q ∷ qs) e = by-awaited (awaited_at p n q) refl (λ rest. no-ends p line n qs rest)
  where
    by-awaited : (o : Option Awaited) → awaited_at p n q ≡ o
        → (list_any (λ k. is_some_and (awaited_at p n k) (λ (x : Awaited). nat_eq x.line line)) qs ≡ false
        → events_of_ends p line n qs ≡ [])
        → events_of_ends p line n (q ∷ qs) ≡ []
    by-awaited o h1 h2 = grind arith

pub no-end-data : (x : MemoryLine) (p : Past) (line n : ℕ) → does_end_on p line n ≡ false
    → SameData (run x (ends_on p line n ++ others_on p line n)) x
unfolding ends_on others_on does_end_on
no-end-data x p line n e =
    let none = no-ends p line n (ended_requests p n) e in
    let gone : run x (events_of_ends p line n (ended_requests p n) ++ others_on p line n) ≡ run x (others_on p line n) =
    ap (λ es. run x (es ++ others_on p line n)) none in
    let rest = accesses-data x (filter (is_of_other_line p line n) (entries_on p line n)) in
    record {
      moved = ap (λ (w : MemoryLine). w.moved) gone ∙ rest.moved;
      memory = ap (λ (w : MemoryLine). w.memory) gone ∙ rest.memory;
    }

end-data : (x : MemoryLine) (change : Bytes → Bytes) (link : Link) (links : List Link) → x.chain ≡ link ∷ links
    → ((after x (Ends change)).moved ≡ None)
    × ((after x (Ends change)).memory ≡ cond (feeds_memory link) (unwrap_or (brought x link) []) x.memory)
unfolding after effect trimmed oldest_ended arrived
end-data x change link links chain = rw chain (refl, refl)

-- the end of the oldest link puts what it brought into memory, where the link feeds it; and nothing is left on the bus
pub one-end-data : (x : MemoryLine) (p : Past) (line n q : ℕ) (awaited : Awaited) (link : Link) (links : List Link)
    → ended_requests p n ≡ q ∷ [] → awaited_at p n q ≡ Some awaited → nat_eq awaited.line line ≡ true
    → x.chain ≡ link ∷ links
    → ((run x (ends_on p line n ++ others_on p line n)).moved ≡ None)
    × ((run x (ends_on p line n ++ others_on p line n)).memory
    ≡ cond (feeds_memory link) (unwrap_or (brought x link) []) x.memory)
unfolding ends_on others_on events_of_ends end_events awaited_events
one-end-data x p line n q awaited link links e f names chain =
    let change : Bytes → Bytes = changes_of (awaiting_stores p line n awaited.agent) in
    let y : MemoryLine = after x (Ends change) in
    let first = end-data x change link links chain in
    let rest = accesses-data y (filter (is_of_other_line p line n) (entries_on p line n)) in
    rw (e, f, names) (rest.moved ∙ first.0, rest.memory ∙ first.1)
