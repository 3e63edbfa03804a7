-- The hits of a clock, one after the other.
use Rattle.fsb_coherent.proofs.Words
use Words.{ℕ, ◌≡◌, Bool, true, false, not, ◌&&◌, ◌||◌, if◌then◌else◌, nat_eq, List, [], ◌∷◌, ◌++◌, map, sym, ap, ◌∙◌}
use Words.{inl, inr, arith, and-true, and_parts, cases_Bool, filter, list_all, list_any, Done, Modified, Event, IsReady}
use Words.{May, after, effect, Loads, Stores, Bytes, MemoryLine, put, is_linked, is_held, is_modified, is_sole, Past}
use Words.{holds_line, is_exclusive, is_ready, is_dirty, is_hit, is_load, AccessesServed, is_served_hit, access_event}
use Words.{change_of, entries_on, hits_on, is_dirty_below}
use Rattle.fsb_coherent.proofs.HitStores.{by-store, does_store, dirty-with-hits, served-parts}
use Rattle.fsb_coherent.proofs.ResponseStep.{AfterResponse}
use Rattle.fsb_coherent.proofs.TiedBetween.{Goes, TiedBetween, goes-on, goes-same, put-cases, tied-dirty}
use Rattle.fsb_coherent.proofs.TiedBetween.{tied-trimmed}

-- the line of the machine in the middle of the hits, where the agents with this test are dirty on it
abbrev AmongHits : Past → ℕ → ℕ → (ℕ → Bool) → MemoryLine → Type 0
AmongHits p line n dirty x =
    TiedBetween p line n n n (λ a. holds_line p a line n) (λ a. is_exclusive p a line n) dirty x

-- and after this entry, where it is one of a hit
abbrev AfterEntry : Past → ℕ → ℕ → (ℕ → Bool) → Done → MemoryLine → Type 0
AfterEntry p line n dirty done x = AmongHits p line n (λ a. dirty a || does_store p n a done) x

-- an agent that holds the line ready has a copy to access
ready : (p : Past) (line n a : ℕ) (dirty : ℕ → Bool) (x : MemoryLine) → AccessesServed p line n
    → holds_line p a line n ≡ true → is_ready p a line n ≡ true → AmongHits p line n dirty x → IsReady x a
ready p line n a dirty x h held there t = record {
  held = t.held a ∙ held;
  no_link = ap (is_linked a) t.chain ∙ h.unlinked a held there;
}

load-step : (p : Past) (line n a : ℕ) (dirty : ℕ → Bool) (x : MemoryLine) → IsReady x a → AmongHits p line n dirty x
    → Goes x (Loads a ∷ []) (AmongHits p line n dirty)
unfolding May after effect
load-step p line n a dirty x r t = ((r, tt), tied-trimmed p line n n n _ _ _ x t)

-- a store makes its agent dirty; it held the line, and had it for itself
store-step : (p : Past) (line n a : ℕ) (dirty : ℕ → Bool) (change : Bytes → Bytes) (x : MemoryLine) → IsReady x a
    → holds_line p a line n ≡ true → is_exclusive p a line n ≡ true → AmongHits p line n dirty x
    → Goes x (Stores a change ∷ []) (AmongHits p line n (λ b. dirty b || nat_eq a b))
unfolding May after effect
store-step p line n a dirty change x r held alone t =
    let here : (b : ℕ) → b ≡ a → true ≡ (dirty b || nat_eq a b) = grind arith in
    let there : (b : ℕ) → (b ≡ a → ⊥) → dirty b ≡ (dirty b || nat_eq a b) = grind arith in
    let y : MemoryLine =
    record x { state = put x.state a Modified; copy = put x.copy a (change (x.copy a)); now = change x.now } in
    let stored : AmongHits p line n (λ b. dirty b || nat_eq a b) y = record {
      held = λ b. put-cases x.state a Modified b (λ s. is_held s ≡ holds_line p b line n)
          (λ same. sym (ap (λ k. holds_line p k line n) same ∙ held)) (λ other. t.held b);
      sole = λ b. put-cases x.state a Modified b (λ s. is_sole s ≡ is_exclusive p b line n)
          (λ same. sym (ap (λ k. is_exclusive p k line n) same ∙ alone)) (λ other. t.sole b);
      modified = λ b. put-cases x.state a Modified b (λ s. is_modified s ≡ (dirty b || nat_eq a b))
          (here b) (λ other. t.modified b ∙ there b other);
      asked = t.asked;
      opened = t.opened;
      chain = t.chain;
      deferral = t.deferral;
      moved = t.moved;
    } in
    (((r, t.sole a ∙ alone), tt), tied-trimmed p line n n n _ _ _ y stored)

-- the event of an entry, where it is one of a hit
abbrev hit_events : Past → ℕ → Done → List Event
hit_events p n done = if is_hit p done.agent n then access_event done ∷ [] else []

-- with the same agents dirty, the line is that after the entry
as-after : (p : Past) (line n : ℕ) (dirty other : ℕ → Bool) (done : Done) (x : MemoryLine)
    → ((a : ℕ) → other a ≡ (dirty a || does_store p n a done)) → AmongHits p line n other x
    → AfterEntry p line n dirty done x
as-after p line n dirty other done x same t = grind arith

access-list : (done : Done) (b : Bool) → is_load done.access ≡ b
    → access_event done ∷ [] ≡ (if b then Loads done.agent else Stores done.agent (change_of done)) ∷ []
unfolding access_event
access-list done b e = ap (λ t. (if t then Loads done.agent else Stores done.agent (change_of done)) ∷ []) e

no-store : (d load b : Bool) (h : Bool) → load ≡ true → d ≡ (d || (h && (b && not load)))
no-store d load b h e = grind arith

a-store : (d load b : Bool) (h : Bool) → load ≡ false → h ≡ true → (d || b) ≡ (d || (h && (b && not load)))
a-store d load b h e f = ap (λ m. d || m) (sym ((λ i. f i && (b && not (e i))) ∙ and-true b))

access-step : (p : Past) (line n : ℕ) (dirty : ℕ → Bool) (done : Done) (x : MemoryLine) → AccessesServed p line n
    → is_served_hit p line n done ≡ true → is_hit p done.agent n ≡ true → AmongHits p line n dirty x
    → Goes x (access_event done ∷ []) (AfterEntry p line n dirty done)
access-step p line n dirty done x h served hit t =
    let has = served-parts p line n done hit served in
    let r : IsReady x done.agent = ready p line n done.agent dirty x h has.0 has.1 t in
    let mine : ℕ → Bool = λ a. nat_eq done.agent a in
    elim (cases_Bool (is_load done.access)) [
      | inl load ↦
          let step = load-step p line n done.agent dirty x r t in
          let same = λ (a : ℕ). no-store (dirty a) (is_load done.access) (mine a) (is_hit p done.agent n) load in
          goes-same x _ (Loads done.agent ∷ []) (AfterEntry p line n dirty done) (access-list done true load)
          (step.0, as-after p line n dirty dirty done _ same step.1)
      | inr store ↦
          let alone = by-store (is_load done.access) (is_exclusive p done.agent line n) (ap not store) has.2 in
          let step = store-step p line n done.agent dirty (change_of done) x r has.0 alone t in
          let same = λ (a : ℕ). a-store (dirty a) (is_load done.access) (mine a) (is_hit p done.agent n) store hit in
          goes-same x _ (Stores done.agent (change_of done) ∷ []) (AfterEntry p line n dirty done)
          (access-list done false store) (step.0, as-after p line n dirty (λ a. dirty a || mine a) done _ same step.1)
    ]

hit-step : (p : Past) (line n : ℕ) (dirty : ℕ → Bool) (done : Done) (x : MemoryLine) → AccessesServed p line n
    → is_served_hit p line n done ≡ true → AmongHits p line n dirty x
    → Goes x (hit_events p n done) (AfterEntry p line n dirty done)
hit-step p line n dirty done x h served t =
    elim (cases_Bool (is_hit p done.agent n)) [
      | inl hit ↦
          let events = ap (λ b. if b then access_event done ∷ [] else []) hit in
          goes-same x _ (access_event done ∷ []) (AfterEntry p line n dirty done) events
          (access-step p line n dirty done x h served hit t)
      | inr none ↦
          let events = ap (λ b. if b then access_event done ∷ [] else []) none in
          let same : (a : ℕ) → dirty a ≡ (dirty a || does_store p n a done) = grind arith in
          goes-same x _ [] (AfterEntry p line n dirty done) events (tt, as-after p line n dirty dirty done x same t)
    ]

first-of : (b : Bool) (done : Done) (es : List Done)
    → map access_event (if b then done ∷ es else es) ≡ (if b then access_event done ∷ [] else []) ++ map access_event es
first-of b done es = grind arith

or-joined : (a b c : Bool) → ((a || b) || c) ≡ (a || (b || c))
or-joined a b c = grind arith

-- the line of the machine after the hits among these entries
abbrev AfterEntries : Past → ℕ → ℕ → (ℕ → Bool) → List Done → MemoryLine → Type 0
AfterEntries p line n dirty es x = AmongHits p line n (λ a. dirty a || list_any (does_store p n a) es) x

among : (p : Past) (line n : ℕ) (dirty : ℕ → Bool) (es : List Done) (x : MemoryLine) → AccessesServed p line n
    → list_all (is_served_hit p line n) es ≡ true → AmongHits p line n dirty x
    → Goes x (map access_event (filter (λ done. is_hit p done.agent n) es)) (AfterEntries p line n dirty es)
among p line n dirty [] x h served t = grind arith
among p line n dirty (done ∷ es) x h served t =
    let parts = and_parts (is_served_hit p line n done) (list_all (is_served_hit p line n) es) served in
    let hits : List Done = filter (λ d. is_hit p d.agent n) es in
    let stored : ℕ → Bool = λ a. dirty a || does_store p n a done in
    let here = hit-step p line n dirty done x h parts.0 t in
    let before : MemoryLine → Type 0 = AmongHits p line n stored in
    let behind : MemoryLine → Type 0 = AfterEntries p line n stored es in
    let all = goes-on x (hit_events p n done) (map access_event hits) before behind here (λ y s.
    among p line n stored es y h parts.1 s) in
    let joined = tied-dirty p line n n n _ _ _ (λ a. dirty a || list_any (does_store p n a) (done ∷ es)) _
    (λ a. or-joined (dirty a) (does_store p n a done) (list_any (does_store p n a) es)) all.1 in
    goes-same x _ (hit_events p n done ++ map access_event hits) (AfterEntries p line n dirty (done ∷ es))
    (first-of (is_hit p done.agent n) done hits) (all.0, joined)

-- the line of the machine after the hits
abbrev pub AfterHits : Past → ℕ → ℕ → MemoryLine → Type 0
AfterHits p line n x = AmongHits p line n (λ a. is_dirty p a line n) x

-- the hits may happen, and after them their agents are dirty where they stored
pub hits-step : (p : Past) (line n : ℕ) (x : MemoryLine) → AccessesServed p line n → AfterResponse p line n x
    → Goes x (hits_on p line n) (AfterHits p line n)
unfolding hits_on
hits-step p line n x h t =
    let done = among p line n (λ a. is_dirty_below p a line n) (entries_on p line n) x h h.hits t in
    let same = λ (a : ℕ). dirty-with-hits p a line n h.hits in
    (done.0, tied-dirty p line n n n _ _ _ (λ a. is_dirty p a line n) _ same done.1)
