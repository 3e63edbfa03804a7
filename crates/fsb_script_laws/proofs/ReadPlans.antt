-- A plan that was read is lawful.
use Rattle.std.proofs.Common.{◌≡◌, ℕ, ◌+◌, ◌≤◌, Bool, true, false, cond, List, [], ◌∷◌, Result, Ok, Err, length, refl}
use Rattle.std.proofs.Common.{sym, subst}
use Rattle.std.specs.Prelude.{◌&&◌, nat_le, codes}
use Rattle.std.specs.Str.{bytes_eq}
use Rattle.std.proofs.lemmas.Bool.{leb-true, eqb-true, and_parts}
use Rattle.fsb_script.specs.declared.fault.Cause.{Cause}
use Rattle.fsb_script.specs.declared.fault.Cause.TheVariants.{Word}
use Rattle.fsb_script.specs.declared.fault.ScriptFault.{ScriptFault}
use Rattle.fsb_script.specs.Places.{ReadingPlace, at_agents, at_clocks, at_cache, at_ahead, at_profile, at_bridge}
use Rattle.fsb_script.specs.Places.{at_memory, at_agent, at_items, at_locked, at_hazards}
use Rattle.fsb_script.specs.Parsing.{◌>>=◌}
use Rattle.fsb_script.specs.Bounds.{is_lawful_script, are_lawful_hazards}
use Rattle.fsb_script.specs.DraftKept.{is_fresh, has_all, has_lock_room}
use Rattle.fsb_script.specs.TextWords.{text_lines, is_silent, next_word}
use Rattle.fsb_script.specs.Statements.{load_of, store_of}
use Rattle.fsb_script.specs.Plans.{PlanView}
use Rattle.fsb_script.specs.Drafts.{Progress, beginning, after_line, choice_line, line_by_word, front_line, body_line}
use Rattle.fsb_script.specs.Drafts.{memory_line, next_agent_line, item_line, locked_line, hazard_line, profile_line}
use Rattle.fsb_script.specs.Drafts.{bridge_line, mem_line, agent_line, load_item, store_item, idle_item, lock_item}
use Rattle.fsb_script.specs.Drafts.{end_line, locked_access, unlock_line, transaction_line, block_line, on_line}
use Rattle.fsb_script.specs.Drafts.{plan_from, plan_at_end, plan_so_far, end_at, said_plan, BenchText}
use Rattle.fsb_script.proofs.Interface.{AtEach, at_every}
use Rattle.fsb_script_laws.specs.LawfulPlans.{IsLawfulPlan}
use Rattle.fsb_script_laws.proofs.Inverted.{bind_ok, load_is, store_is}
use Rattle.fsb_script_laws.proofs.Sound.{IsSound, Gives, at, first_sound, agents_sound, clocks_sound, cache_sound}
use Rattle.fsb_script_laws.proofs.Sound.{ahead_sound, profile_sound, bridge_sound, mem_sound, agent_sound, load_sound}
use Rattle.fsb_script_laws.proofs.Sound.{store_sound, idle_sound, lock_sound, end_sound, locked_sound, unlock_sound}
use Rattle.fsb_script_laws.proofs.Sound.{transaction_sound, block_sound}

-- ---- by the first word

-- a choice of two sound lines is sound
either : (t : Bool) (a b : Result Progress Cause) → Gives a → Gives b → Gives (cond t a b)
either true a b left right = left
either false a b left right = right

none : Gives (Err Word)
none e h = absurd cc

memory_by_word : (d : Progress) (word line : List ℕ) → IsSound d → Gives (memory_line d word line)
unfolding memory_line
memory_by_word d word line s =
    either (bytes_eq word (codes "mem")) (mem_line d line)
    (cond (bytes_eq word (codes "agent")) (agent_line d line) (Err Word)) (mem_sound d line s)
    (either (bytes_eq word (codes "agent")) (agent_line d line) (Err Word) (agent_sound d line s) none)

body_by_word : (d : Progress) (word line : List ℕ) → IsSound d → Gives (body_line d word line)
unfolding body_line
body_by_word d word line s = either (bytes_eq word (codes "bridge")) (bridge_line d line) (memory_line d word line)
    (bridge_sound d line s) (memory_by_word d word line s)

front_by_word : (d : Progress) (word line : List ℕ) → IsSound d → Gives (front_line d word line)
unfolding front_line
front_by_word d word line s = either (bytes_eq word (codes "profile")) (profile_line d line) (body_line d word line)
    (profile_sound d line s) (body_by_word d word line s)

agent_by_word : (d : Progress) (word line : List ℕ) → IsSound d → Gives (next_agent_line d word line)
unfolding next_agent_line
agent_by_word d word line s = either (bytes_eq word (codes "agent")) (agent_line d line) (Err Word)
    (agent_sound d line s) none

item_by_word : (d : Progress) (word line : List ℕ) → IsSound (at at_items d)
    → Gives (item_line (at at_items d) word line)
unfolding item_line
item_by_word d word line s =
    either (bytes_eq word (codes "ld")) (load_item (at at_items d) line) _ (load_sound d line s)
    (either (bytes_eq word (codes "st")) (store_item (at at_items d) line) _ (store_sound d line s)
    (either (bytes_eq word (codes "idle")) (idle_item (at at_items d) line) _ (idle_sound d line s)
    (either (bytes_eq word (codes "lock")) (lock_item (at at_items d) line) _ (lock_sound d line s)
    (either (bytes_eq word (codes "end")) (end_line (at at_items d) line) (Err Word) (end_sound d line s) none))))

locked_load : (d : Progress) (line : List ℕ) → IsSound (at at_locked d)
    → Gives (load_of line >>= (λ access. locked_access (at at_locked d) access))
locked_load d line s e h = let a = bind_ok (load_of line)
    (λ access. locked_access (at at_locked d) access) e h in locked_sound d a.0 s (load_is line a.0 a.1.0) e a.1.1

locked_store : (d : Progress) (line : List ℕ) → IsSound (at at_locked d)
    → Gives (store_of line >>= (λ access. locked_access (at at_locked d) access))
locked_store d line s e h = let a = bind_ok (store_of line)
    (λ access. locked_access (at at_locked d) access) e h in locked_sound d a.0 s (store_is line a.0 a.1.0) e a.1.1

locked_by_word : (d : Progress) (word line : List ℕ) → IsSound (at at_locked d)
    → Gives (locked_line (at at_locked d) word line)
unfolding locked_line
locked_by_word d word line s =
    either (bytes_eq word (codes "ld")) (load_of line >>= (λ access. locked_access (at at_locked d) access)) _
    (locked_load d line s)
    (either (bytes_eq word (codes "st")) (store_of line >>= (λ access. locked_access (at at_locked d) access)) _
    (locked_store d line s)
    (either (bytes_eq word (codes "unlock")) (unlock_line (at at_locked d) line) (Err Word)
    (unlock_sound d line s) none))

hazard_by_word : (d : Progress) (word line : List ℕ) → IsSound d → Gives (hazard_line d word line)
unfolding hazard_line
hazard_by_word d word line s =
    either (bytes_eq word (codes "tx")) (transaction_line d line) _ (transaction_sound d line s)
    (either (bytes_eq word (codes "bnr")) (block_line d line) (Err Word) (block_sound d line s) none)

-- ---- every line

-- a line that is read past leaves all as it is
past : (t : Bool) (d : Progress) (r : Result Progress Cause) → IsSound d → Gives r → Gives (cond t (Ok d) r)
past true d r s gives e h = let same : d ≡ e = cc in subst (λ (x : Progress). IsSound x) same s
past false d r s gives e h = gives e h

-- a line by its first word
by_word : (d : Progress) (line : List ℕ) → ((word rest : List ℕ) → Gives (line_by_word d.place d word rest))
    → Gives (choice_line d line)
unfolding choice_line
by_word d line each e h = let a = bind_ok (next_word line)
    (λ w. line_by_word d.place d w.0 w.1) e h in each a.0.0 a.0.1 e a.1.1

-- a line at a place, where the lines so far are sound
abbrev KeptAt : ReadingPlace → Type 0
KeptAt place = (d : Progress) (line : List ℕ) → IsSound (at place d) → Gives (after_line (at place d) line)

kept_at_each : AtEach KeptAt
unfolding after_line
kept_at_each = record {
  first = λ d line s. first_sound d line s;
  agents = λ d line s. past (is_silent line) (at at_agents d) _ s (agents_sound d line s);
  clocks = λ d line s. past (is_silent line) (at at_clocks d) _ s (clocks_sound d line s);
  cache = λ d line s. past (is_silent line) (at at_cache d) _ s (cache_sound d line s);
  ahead = λ d line s. past (is_silent line) (at at_ahead d) _ s (ahead_sound d line s);
  profile = λ d line s. past (is_silent line) (at at_profile d) _ s
      (by_word (at at_profile d) line (λ word rest. front_by_word (at at_profile d) word rest s));
  bridge = λ d line s. past (is_silent line) (at at_bridge d) _ s
      (by_word (at at_bridge d) line (λ word rest. body_by_word (at at_bridge d) word rest s));
  memory = λ d line s. past (is_silent line) (at at_memory d) _ s
      (by_word (at at_memory d) line (λ word rest. memory_by_word (at at_memory d) word rest s));
  agent = λ d line s. past (is_silent line) (at at_agent d) _ s
      (by_word (at at_agent d) line (λ word rest. agent_by_word (at at_agent d) word rest s));
  items = λ d line s. past (is_silent line) (at at_items d) _ s
      (by_word (at at_items d) line (λ word rest. item_by_word d word rest s));
  locked = λ d line s. past (is_silent line) (at at_locked d) _ s
      (by_word (at at_locked d) line (λ word rest. locked_by_word d word rest s));
  hazards = λ d line s. past (is_silent line) (at at_hazards d) _ s
      (by_word (at at_hazards d) line (λ word rest. hazard_by_word (at at_hazards d) word rest s));
}

after_sound : (d : Progress) (line : List ℕ) → IsSound d → Gives (after_line d line)
after_sound d line s = at_every KeptAt kept_at_each d.place d line s

-- ---- the whole text

begins_sound : IsSound beginning
unfolding is_lawful_script are_lawful_hazards is_fresh has_all has_lock_room
begins_sound = record {
  counts = refl;
  cache = refl;
  profile = refl;
  bridge = refl;
  mem = refl;
  bytes =
      refl;
  hazards = refl;
  scripts = refl;
  script = refl;
  group = refl;
  fresh = refl;
  all = refl;
  room = refl;
}

-- the plan at the end of the last script is lawful
so_far : (d : Progress) → IsSound (at at_hazards d) → IsLawfulPlan (plan_so_far d)
unfolding has_all
so_far d s =
    let agents_two : (nat_le 1 d.agents && nat_le d.agents 4) ≡ true =
    (and_parts (nat_le 1 d.agents && nat_le d.agents 4)
    (nat_le d.clocks 200000 && (nat_le 1 d.ahead && nat_le d.ahead 4)) s.counts).0 in
    let others : (nat_le d.clocks 200000 && (nat_le 1 d.ahead && nat_le d.ahead 4)) ≡ true =
    (and_parts (nat_le 1 d.agents && nat_le d.agents 4)
    (nat_le d.clocks 200000 && (nat_le 1 d.ahead && nat_le d.ahead 4)) s.counts).1 in
    let ahead_two : (nat_le 1 d.ahead && nat_le d.ahead 4) ≡ true =
    (and_parts (nat_le d.clocks 200000) (nat_le 1 d.ahead && nat_le d.ahead 4) others).1 in
    let count : d.agents ≡ length d.scripts = sym (eqb-true (length d.scripts) d.agents s.all) in
    record {
      some_agents = subst (λ (n : ℕ). 1 ≤ n) count (leb-true 1 d.agents
          (and_parts (nat_le 1 d.agents) (nat_le d.agents 4) agents_two).0);
      few_agents = subst (λ (n : ℕ). n ≤ 4) count (leb-true d.agents 4
          (and_parts (nat_le 1 d.agents) (nat_le d.agents 4) agents_two).1);
      few_clocks = leb-true d.clocks 200000 (and_parts (nat_le d.clocks 200000)
          (nat_le 1 d.ahead && nat_le d.ahead 4) others).0;
      lawful_cache = s.cache;
      some_ahead = leb-true 1 d.ahead (and_parts (nat_le 1 d.ahead) (nat_le d.ahead 4) ahead_two).0;
      few_ahead = leb-true d.ahead 4 (and_parts (nat_le 1 d.ahead) (nat_le d.ahead 4) ahead_two).1;
      lawful_profile = s.profile;
      lawful_bridge = s.bridge;
      lawful_mem = s.mem;
      byte_mem = s.bytes;
      lawful_scripts = s.scripts;
      lawful_hazards = s.hazards;
    }

-- a plan, as an answer
abbrev the_plan : PlanView → Result PlanView ScriptFault
the_plan q = Ok q

plan_is : (q p : PlanView) → IsLawfulPlan q → the_plan q ≡ Ok p → IsLawfulPlan p
plan_is q p lawful h = let same : q ≡ p = cc in subst (λ (x : PlanView). IsLawfulPlan x) same lawful

-- the end of a text there, where the lines so far are sound
abbrev LawfulAt : ReadingPlace → Type 0
LawfulAt place = (number : ℕ) (d : Progress) (p : PlanView) → IsSound (at place d) → end_at number d place ≡ Ok p
    → IsLawfulPlan p

no_plan : (fault : ScriptFault) (p : PlanView) → Err fault ≡ Ok p → ⊥
no_plan fault p h = absurd cc

lawful_at_each : AtEach LawfulAt
lawful_at_each = record {
  first = λ number d p s h. absurd (no_plan _ p h);
  agents = λ number d p s h. absurd (no_plan _ p h);
  clocks = λ number d p s h. absurd (no_plan _ p h);
  cache = λ number d p s h. absurd (no_plan _ p h);
  ahead = λ number d p s h. absurd (no_plan _ p h);
  profile = λ number d p s h. absurd (no_plan _ p h);
  bridge = λ number d p s h. absurd (no_plan _ p h);
  memory = λ number d p s h. absurd (no_plan _ p h);
  agent = λ number d p s h. absurd (no_plan _ p h);
  items = λ number d p s h. absurd (no_plan _ p h);
  locked = λ number d p s h. absurd (no_plan _ p h);
  hazards = λ number d p s h. plan_is (plan_so_far d) p (so_far d s) h;
}

line_of : (number : ℕ) (r : Result Progress Cause) (e : Progress) → on_line number r ≡ Ok e → r ≡ Ok e
line_of number (Ok d) e h = cc
line_of number (Err cause) e h = absurd cc

from_lawful : (texts : List (List ℕ)) (number : ℕ) (d : Progress) (p : PlanView) → IsSound d
    → plan_from number d texts ≡ Ok p → IsLawfulPlan p
unfolding plan_at_end
from_lawful [] number d p s h = at_every LawfulAt lawful_at_each d.place number d p s h
from_lawful (line ∷ texts) number d p s h =
    let a = bind_ok (on_line number (after_line d line)) (λ e. plan_from (number + 1) e texts) p h in
    from_lawful texts (number + 1) a.0 p (after_sound d line s a.0 (line_of number (after_line d line) a.0 a.1.0)) a.1.1

pub read_is_lawful : (text : List ℕ) (p : PlanView) → BenchText text p → IsLawfulPlan p
unfolding said_plan
read_is_lawful text p h = from_lawful (text_lines text) 1 beginning p begins_sound h
