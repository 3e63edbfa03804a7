-- The events of the machine of a line move its states as a course says.
use Rattle.std.proofs.Common.{ℕ, ◌≡◌, Bool, true, false, nat_eq, IsTrue, List, [], ◌∷◌, map, Option, Some, None}
use Rattle.std.proofs.Common.{refl, sym, ap, ◌∙◌, if◌then◌else◌}
use Rattle.std.specs.Option.{option_map}
use Rattle.fsb_line.specs.declared.link.Link.{Link}
use Rattle.fsb_line.specs.declared.purpose.Purpose.{Purpose}
use Rattle.fsb_line.specs.declared.purpose.Purpose.TheVariants.{Own, Read, Upgrade, WriteBack}
use Rattle.fsb_line.specs.declared.state.Mesi.{Mesi}
use Rattle.fsb_line.specs.declared.state.Mesi.TheVariants.{Invalid, Modified}
use Rattle.fsb_line.specs.Coherence.{IsCoherent}
use Rattle.fsb_line.specs.Events.{Event, May, after, arrived, effect, given, linked, oldest_ended, replied, responded, settled}
use Rattle.fsb_line.specs.Events.Event.{Begins, Drops, Ends, IsCancelled, IsDeferred, IsGranted, IsHanded, IsLost, IsReplied}
use Rattle.fsb_line.specs.Events.Event.{IsRetried, IsUpgraded, IsWritten, Loads, Responds, Stores}
use Rattle.fsb_line.specs.Line.{LineDeferral, MemoryLine, put, trimmed}
use Rattle.fsb_line.specs.States.{asks_line, gets_line, is_held, is_sole}
use Rattle.fsb_owners.specs.Joint.{agents}
use Rattle.fsb_owners.specs.Possible.{settled_at_end}
use Rattle.fsb_owner_laws.proofs.AgreeWords.{some_same}
use Rattle.fsb_owner_laws.proofs.Members.{at_agents}
use Rattle.fsb_courses.specs.Courses.{HasOneWriter}
use Rattle.fsb_courses.specs.Machine.{MachineSnoop, changes_no_state, machine_snoop, of_asker, of_deferral, state_by_course}

-- what the machine makes of the state of agent b
abbrev state_now : MemoryLine → Event → ℕ → Mesi
state_now x e b = (after x e).state b

by_snoop : (x : MemoryLine) (e : Event) (b : ℕ) (s t : MachineSnoop) → Some s ≡ Some t
    → state_now x e b ≡ state_by_course s (x.state b) b → state_now x e b ≡ state_by_course t (x.state b) b
by_snoop x e b s t f h = h ∙ ap (λ u. state_by_course u (x.state b) b) (some_same s t f)

granted_state : (x : MemoryLine) (a b : ℕ) (kind : Purpose) (shared : Bool) → IsTrue (gets_line kind)
    → state_now x (IsGranted a kind shared) b ≡ state_by_course (of_asker a kind false false shared) (x.state b) b
unfolding after effect trimmed settled linked state_by_course of_asker settled_at_end
granted_state x a b Read shared g = refl
granted_state x a b Own shared g = refl
granted_state x a b Upgrade shared g = absurd (let no : ⊥ = cc in no)
granted_state x a b WriteBack shared g = absurd (let no : ⊥ = cc in no)

deferred_state : (x : MemoryLine) (a b : ℕ) (kind : Purpose) (shared : Bool) → IsTrue (gets_line kind)
    → state_now x (IsDeferred a kind shared) b ≡ state_by_course (of_asker a kind false true shared) (x.state b) b
unfolding after effect trimmed settled linked state_by_course of_asker settled_at_end
deferred_state x a b Read shared g = refl
deferred_state x a b Own shared g = refl
deferred_state x a b Upgrade shared g = absurd (let no : ⊥ = cc in no)
deferred_state x a b WriteBack shared g = absurd (let no : ⊥ = cc in no)

retried_state : (x : MemoryLine) (a b : ℕ) (kind : Purpose) (hit : Bool) → IsTrue (asks_line kind)
    → state_now x (IsRetried a kind) b ≡ state_by_course (of_asker a kind false true hit) (x.state b) b
unfolding after effect trimmed settled linked state_by_course of_asker settled_at_end
retried_state x a b Read hit g = refl
retried_state x a b Own hit g = refl
retried_state x a b Upgrade hit g = refl
retried_state x a b WriteBack hit g = absurd (let no : ⊥ = cc in no)

replied_state : (x : MemoryLine) (b : ℕ) (d : LineDeferral)
    → (replied x (Some d)).state b ≡ state_by_course (of_deferral d) (x.state b) b
unfolding replied settled linked state_by_course of_deferral
replied_state x b d = refl

by_deferral : (x : MemoryLine) (b : ℕ) (s : MachineSnoop) (o : Option LineDeferral)
    → option_map {U = MachineSnoop} of_deferral o ≡ Some s
    → (replied x o).state b ≡ state_by_course s (x.state b) b
by_deferral x b s None e = absurd (let no : ⊥ = cc in no)
by_deferral x b s (Some d) e =
    replied_state x b d ∙ ap (λ u. state_by_course u (x.state b) b) (some_same (of_deferral d) s e)

reply_state : (x : MemoryLine) (b : ℕ) (s : MachineSnoop) (hit : Bool) → machine_snoop x IsReplied hit ≡ Some s
    → state_now x IsReplied b ≡ state_by_course s (x.state b) b
unfolding machine_snoop after effect trimmed
reply_state x b s hit e = by_deferral x b s x.deferral e

written_state : (x : MemoryLine) (a b : ℕ) (hit : Bool)
    → state_now x (IsWritten a) b ≡ state_by_course (of_asker a WriteBack false false hit) (x.state b) b
unfolding after effect trimmed settled linked given state_by_course of_asker settled_at_end
written_state x a b hit = refl

handed_state : (x : MemoryLine) (a b owner : ℕ) (kind : Purpose) (hit : Bool)
    → state_now x (IsHanded a kind owner) b ≡ state_by_course (of_asker a kind true false hit) (x.state b) b
unfolding after effect trimmed settled linked given state_by_course of_asker settled_at_end
handed_state x a b owner kind hit = refl

upgraded_state : (x : MemoryLine) (a b : ℕ) (hit : Bool)
    → state_now x (IsUpgraded a) b ≡ state_by_course (of_asker a Upgrade false false hit) (x.state b) b
unfolding after effect trimmed settled linked state_by_course of_asker settled_at_end
upgraded_state x a b hit = refl

lost_state : (x : MemoryLine) (a b : ℕ) (hit : Bool)
    → state_now x (IsLost a) b ≡ state_by_course (of_asker a Upgrade false false hit) (x.state b) b
unfolding after effect trimmed settled linked state_by_course of_asker settled_at_end
lost_state x a b hit = refl

pub snoops_move : (x : MemoryLine) (e : Event) (hit : Bool) (s : MachineSnoop) (b : ℕ) → May x e
    → machine_snoop x e hit ≡ Some s → state_now x e b ≡ state_by_course s (x.state b) b
unfolding machine_snoop May
snoops_move x (IsWritten a) hit s b m e = by_snoop x (IsWritten a) b (of_asker a WriteBack false false hit) s e (written_state x a b hit)
snoops_move x (IsHanded a kind owner) hit s b m e =
    by_snoop x (IsHanded a kind owner) b (of_asker a kind true false hit) s e (handed_state x a b owner kind hit)
snoops_move x (IsGranted a kind shared) hit s b m e =
    by_snoop x (IsGranted a kind shared) b (of_asker a kind false false shared) s e (granted_state x a b kind shared m.gets)
snoops_move x (IsUpgraded a) hit s b m e =
    by_snoop x (IsUpgraded a) b (of_asker a Upgrade false false hit) s e (upgraded_state x a b hit)
snoops_move x (IsLost a) hit s b m e = by_snoop x (IsLost a) b (of_asker a Upgrade false false hit) s e (lost_state x a b hit)
snoops_move x (IsRetried a kind) hit s b m e =
    by_snoop x (IsRetried a kind) b (of_asker a kind false true hit) s e (retried_state x a b kind hit m.1)
snoops_move x (IsDeferred a kind shared) hit s b m e =
    by_snoop x (IsDeferred a kind shared) b (of_asker a kind false true shared) s e (deferred_state x a b kind shared m.gets)
snoops_move x IsReplied hit s b m e = reply_state x b s hit e
snoops_move x (Loads a) hit s b m e = absurd (let no : ⊥ = cc in no)
snoops_move x (Stores a change) hit s b m e = absurd (let no : ⊥ = cc in no)
snoops_move x (Drops a) hit s b m e = absurd (let no : ⊥ = cc in no)
snoops_move x (Begins a kind number) hit s b m e = absurd (let no : ⊥ = cc in no)
snoops_move x (IsCancelled a) hit s b m e = absurd (let no : ⊥ = cc in no)
snoops_move x Responds hit s b m e = absurd (let no : ⊥ = cc in no)
snoops_move x (Ends change) hit s b m e = absurd (let no : ⊥ = cc in no)

-- other events: what a store and a drop make of the states, and that nothing else changes them

pub stores_move : (x : MemoryLine) (a : ℕ) (change : List ℕ → List ℕ) (b : ℕ)
    → state_now x (Stores a change) b ≡ (if nat_eq b a then Modified else x.state b)
unfolding after effect trimmed put
stores_move x a change b = refl

pub drops_move : (x : MemoryLine) (a b : ℕ) → state_now x (Drops a) b ≡ (if nat_eq b a then Invalid else x.state b)
unfolding after effect trimmed put
drops_move x a b = refl

responded_state : (x : MemoryLine) (b : ℕ) (ls : List Link) → (responded x ls).state b ≡ x.state b
unfolding responded
responded_state x b [] = refl
responded_state x b (l ∷ ls) = refl

ended_state : (x : MemoryLine) (b : ℕ) (ls : List Link) (change : List ℕ → List ℕ) → (oldest_ended x ls change).state b ≡ x.state b
unfolding oldest_ended arrived
ended_state x b [] change = refl
ended_state x b (l ∷ ls) change = refl

pub others_move : (x : MemoryLine) (e : Event) (b : ℕ) → changes_no_state e ≡ true → state_now x e b ≡ x.state b
unfolding changes_no_state after effect trimmed
others_move x (Loads a) b t = refl
others_move x (Begins a kind number) b t = refl
others_move x (IsCancelled a) b t = refl
others_move x Responds b t = responded_state x b x.chain
others_move x (Ends change) b t = ended_state x b x.chain change
others_move x (Stores a change) b t = absurd (let no : ⊥ = cc in no)
others_move x (Drops a) b t = absurd (let no : ⊥ = cc in no)
others_move x (IsWritten a) b t = absurd (let no : ⊥ = cc in no)
others_move x (IsHanded a kind owner) b t = absurd (let no : ⊥ = cc in no)
others_move x (IsGranted a kind shared) b t = absurd (let no : ⊥ = cc in no)
others_move x (IsUpgraded a) b t = absurd (let no : ⊥ = cc in no)
others_move x (IsLost a) b t = absurd (let no : ⊥ = cc in no)
others_move x (IsRetried a kind) b t = absurd (let no : ⊥ = cc in no)
others_move x (IsDeferred a kind shared) b t = absurd (let no : ⊥ = cc in no)
others_move x IsReplied b t = absurd (let no : ⊥ = cc in no)

-- a coherent line has one writer

pub coherent_writes : (x : MemoryLine) → IsCoherent x → HasOneWriter (map x.state agents)
coherent_writes x h = record {
  four = refl;
  alone = λ a b l m n t.
      ap is_held (at_agents x.state b m)
      ∙ h.one_writer a (ap is_sole (sym (at_agents x.state a l)) ∙ t) b (λ e. n (sym e));
}
