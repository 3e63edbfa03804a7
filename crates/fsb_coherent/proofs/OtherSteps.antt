-- The accesses to a line that come with the end of another line may happen, and dirty it for whoever stores.
use Rattle.fsb_coherent.proofs.Words
use Words.{ℕ, ◌+◌, ◌≡◌, Bool, true, false, not, ◌&&◌, ◌||◌, nat_eq, List, [], ◌∷◌, map, refl, sym, ap, subst, ◌∙◌, inl}
use Words.{inr, arith, or_assoc, and_parts, cases_Bool, list_all, list_any, Done, Mesi, Modified, Event, IsReady, May}
use Words.{after, effect, Loads, Stores, Bytes, MemoryLine, put, trimmed, is_linked, MayRun, run, is_held, is_modified}
use Words.{is_sole, Past, has_arrived, holds_line, is_exclusive, is_load, AccessesServed, access_event, change_of}
use Rattle.fsb_coherent.proofs.Behind.{TiedButDirty}

-- the entry is a store of agent a
abbrev pub is_store_by : ℕ → Done → Bool
is_store_by a done = nat_eq done.agent a && not (is_load done.access)

-- behind the snoop end the agent of the entry holds the line, with its latest grant ended before, and for itself where
-- it is a store
abbrev pub is_served_behind : Past → ℕ → ℕ → Done → Bool
is_served_behind p line n done =
    holds_line p done.agent line (n + 1) && has_arrived p done.agent line (n + 1) n &&
    (is_load done.access || is_exclusive p done.agent line (n + 1))

-- these accesses may happen; after them the line is tied as before, and who stores is dirty
pub record BringsAccesses (p : Past) (line n : ℕ) (z : MemoryLine) (dones : List Done) : Type 0 where
  pub may : MayRun z (map access_event dones)
  pub tied : TiedButDirty p line n (run z (map access_event dones))
  pub dirty : (a : ℕ)
      → is_modified ((run z (map access_event dones)).state a)
      ≡ (is_modified (z.state a) || list_any (is_store_by a) dones)

-- and so does one of them, as this event
record BringsAccess (p : Past) (line n : ℕ) (z : MemoryLine) (done : Done) (e : Event) : Type 0 where
  pub may : May z e
  pub tied : TiedButDirty p line n (after z e)
  pub dirty : (a : ℕ) → is_modified ((after z e).state a) ≡ (is_modified (z.state a) || is_store_by a done)

-- what is served is held, has come, and is the agent's own where it is a store
pub record IsServed (p : Past) (line n : ℕ) (done : Done) : Type 0 where
  pub held : holds_line p done.agent line (n + 1) ≡ true
  pub arrived : has_arrived p done.agent line (n + 1) n ≡ true
  pub alone : (is_load done.access || is_exclusive p done.agent line (n + 1)) ≡ true

pub served-parts : (p : Past) (line n : ℕ) (done : Done) → is_served_behind p line n done ≡ true
    → IsServed p line n done
served-parts p line n done served = grind arith

ready : (p : Past) (line n : ℕ) (z : MemoryLine) (done : Done) → AccessesServed p line n → TiedButDirty p line n z
    → IsServed p line n done → IsReady z done.agent
ready p line n z done h t served = record {
  held = t.held done.agent ∙ served.held;
  no_link = ap (is_linked done.agent) t.chain ∙ h.unlinked_after done.agent served.held served.arrived;
}

pub alone-behind : (p : Past) (line n : ℕ) (done : Done) → IsServed p line n done → is_load done.access ≡ false
    → is_exclusive p done.agent line (n + 1) ≡ true
alone-behind p line n done served store = grind arith

loads : (p : Past) (line n : ℕ) (z : MemoryLine) (done : Done) → AccessesServed p line n → TiedButDirty p line n z
    → IsServed p line n done
    → is_load done.access ≡ true → BringsAccess p line n z done (Loads done.agent)
unfolding May after effect trimmed
loads p line n z done h t served load = grind arith

-- a test that a Modified state passes stays as the run has it where the agent stores
stored-test : (test : Mesi → Bool) (z : MemoryLine) (a b : ℕ) (says : ℕ → Bool) → test Modified ≡ true
    → says a ≡ true → test (z.state b) ≡ says b
    → test (put z.state a Modified b) ≡ says b
unfolding put
stored-test test z a b says m here e = grind arith

store-dirties : (z : MemoryLine) (a b : ℕ) (load : Bool) → load ≡ false
    → is_modified (put z.state a Modified b) ≡ (is_modified (z.state b) || (nat_eq a b && not load))
unfolding put
store-dirties z a b load l = grind arith

stores : (p : Past) (line n : ℕ) (z : MemoryLine) (done : Done) (change : Bytes → Bytes) → AccessesServed p line n
    → TiedButDirty p line n z → IsServed p line n done
    → is_load done.access ≡ false → BringsAccess p line n z done (Stores done.agent change)
unfolding May after effect trimmed
stores p line n z done change h t served store =
    let ready_there = ready p line n z done h t served in
    let sole : is_exclusive p done.agent line (n + 1) ≡ true = alone-behind p line n done served store in
    let held : holds_line p done.agent line (n + 1) ≡ true = sym (t.held done.agent) ∙ ready_there.held in
    record {
      may = (ready_there, t.sole done.agent ∙ sole);
      tied = record {
        held = λ b. stored-test is_held z done.agent b (λ a. holds_line p a line (n + 1)) refl held (t.held b);
        sole = λ b. stored-test is_sole z done.agent b (λ a. is_exclusive p a line (n + 1)) refl sole (t.sole b);
        asked = t.asked;
        opened = t.opened;
        chain = t.chain;
        deferral = t.deferral;
        moved = t.moved;
      };
      dirty = λ b. store-dirties z done.agent b (is_load done.access) store;
    }

access : (p : Past) (line n : ℕ) (z : MemoryLine) (done : Done) → AccessesServed p line n → TiedButDirty p line n z
    → IsServed p line n done
    → BringsAccess p line n z done (access_event done)
unfolding access_event
access p line n z done h t served =
    elim (cases_Bool (is_load done.access)) [
      | inl load ↦
          let here : access_event done ≡ Loads done.agent = grind arith in
          subst (BringsAccess p line n z done) (sym here) (loads p line n z done h t served load)
      | inr store ↦
          let here : access_event done ≡ Stores done.agent (change_of done) = grind arith in
          subst (BringsAccess p line n z done) (sym here) (stores p line n z done (change_of done) h t served store)
    ]

-- the accesses, one after the other
pub accesses-step : (p : Past) (line n : ℕ) (z : MemoryLine) (dones : List Done) → AccessesServed p line n
    → TiedButDirty p line n z
    → list_all (is_served_behind p line n) dones ≡ true → BringsAccesses p line n z dones
accesses-step p line n z [] h t served = grind arith
accesses-step p line n z (done ∷ dones) h t served =
    let parts = and_parts (is_served_behind p line n done) (list_all (is_served_behind p line n) dones) served in
    let here = access p line n z done h t (served-parts p line n done parts.0) in
    let rest = accesses-step p line n (after z (access_event done)) dones h here.tied parts.1 in
    record {
      may = (here.may, rest.may);
      tied = rest.tied;
      dirty = λ a.
          rest.dirty a ∙ ap (λ b. b || list_any (is_store_by a) dones) (here.dirty a)
          ∙ or_assoc (is_modified (z.state a)) (is_store_by a done) (list_any (is_store_by a) dones);
    }
