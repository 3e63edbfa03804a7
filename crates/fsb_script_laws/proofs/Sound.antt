-- What the lines so far keep, and that a line which is taken keeps it.
use Rattle.std.proofs.Common.{◌≡◌, ℕ, ◌<◌, Bool, true, false, cond, eqb, List, [], ◌∷◌, ◌++◌, length, Some, Result, Ok}
use Rattle.std.proofs.Common.{refl, sym, subst, ◌∙◌, arith, length-append}
use Rattle.std.specs.Prelude.{◌&&◌, nat_lt, nat_le}
use Rattle.std.specs.List.{list_all}
use Rattle.std.proofs.lemmas.Bool.{le-leb, ltb-true, eqb-true, and_from, and_parts}
use Rattle.std.proofs.lemmas.List.Folds.{list_all-append}
use Rattle.fsb_access.specs.declared.access.Access.{Access}
use Rattle.fsb_access.specs.declared.item.Item.{Item}
use Rattle.fsb_access.specs.declared.item.Item.TheVariants.{One, Locked, Idle}
use Rattle.fsb_access.specs.Access.{is_lawful_access}
use Rattle.fsb_hazard.specs.declared.line.HazardLine.{HazardLine}
use Rattle.fsb_script.specs.declared.fault.Cause.{Cause}
use Rattle.fsb_script.specs.declared.fault.Cause.TheVariants.{Range, LockSize, LockConflict}
use Rattle.fsb_script.specs.Places.{ReadingPlace, at_first, at_agents, at_clocks, at_cache, at_ahead, at_profile}
use Rattle.fsb_script.specs.Places.{at_bridge, at_memory, at_agent, at_items, at_locked, at_hazards}
use Rattle.fsb_script.specs.Parsing.{◌>>=◌, require}
use Rattle.fsb_script.specs.Bounds.{is_cache, is_profile, is_lawful_bridge, is_lawful_setting, is_lawful_item}
use Rattle.fsb_script.specs.Bounds.{is_lawful_script, is_lawful_hazard, are_lawful_hazards, is_lock_size, is_lock_apart}
use Rattle.fsb_script.specs.DraftKept.{are_counts, is_fresh, has_all, has_lock_room}
use Rattle.fsb_script.specs.TextWords.{line_ended, decimal_word, decimal_within}
use Rattle.fsb_script.specs.Statements.{keyword, load_of, store_of, idle_of, profile_of, window_of, memory_of}
use Rattle.fsb_script.specs.Statements.{settings_at, agent_of, transaction_of, block_of}
use Rattle.fsb_script.specs.Drafts.{Progress, first_line, agents_line, clocks_line, cache_line, ahead_line}
use Rattle.fsb_script.specs.Drafts.{profile_line, bridge_line, mem_line, agent_line, room, add_item, load_item}
use Rattle.fsb_script.specs.Drafts.{store_item, idle_item, lock_item, end_line, locked_access, unlock_line, hazard_room}
use Rattle.fsb_script.specs.Drafts.{add_hazard, transaction_line, block_line, place_behind, heading_of, ends_heading}
use Rattle.fsb_script_laws.specs.LawfulPlans.{is_byte_setting}
use Rattle.fsb_script_laws.proofs.Inverted.{bind_ok, require_ok, ended_is, within_is, load_is, store_is, idle_is}
use Rattle.fsb_script_laws.proofs.Inverted.{profile_is, window_is, memory_is, settings_lawful, transaction_is, block_is}

-- the lines so far are within the bounds of a bench file
pub record IsSound (d : Progress) : Type 0 where
  pub counts : are_counts d.agents d.clocks d.ahead ≡ true
  pub cache : is_cache d.cache ≡ true
  pub profile : is_profile d.profile ≡ true
  pub bridge : is_lawful_bridge d.bridge ≡ true
  pub mem : list_all is_lawful_setting d.mem ≡ true
  pub bytes : list_all is_byte_setting d.mem ≡ true
  pub hazards : are_lawful_hazards d.hazards ≡ true
  pub scripts : list_all (is_lawful_script d.cache) d.scripts ≡ true
  pub script : is_lawful_script d.cache d.script ≡ true
  pub group : list_all is_lawful_access d.group ≡ true
  pub fresh : is_fresh d.place d.scripts d.script ≡ true
  pub all : has_all d.place d.agents d.scripts ≡ true
  pub room : has_lock_room d.place d.script ≡ true

-- what a line gave is sound
abbrev pub Gives : Result Progress Cause → Type 0
Gives r = (e : Progress) → r ≡ Ok e → IsSound e

-- the reading stands at a place
abbrev pub at : ReadingPlace → Progress → Progress
at place d = record d { place = place }

-- a line gave that state
abbrev Gave : Result Progress Cause → Progress → Type 0
Gave r e = r ≡ Ok e

sound_ok : (d e : Progress) → IsSound d → Gave (Ok d) e → IsSound e
sound_ok d e s h = let same : d ≡ e = cc in subst (λ (x : Progress). IsSound x) same s

-- ---- lists through a push

all_push : {X : Type 0} (p : X → Bool) (xs : List X) (x : X) → list_all p xs ≡ true → p x ≡ true
    → list_all p (xs ++ x ∷ []) ≡ true
all_push p xs x old new = list_all-append p xs (x ∷ [])
    ∙ and_from (list_all p xs) (p x && true) old (and_from (p x) true new refl)

short_push : {X : Type 0} (xs : List X) (x : X) → length xs < 4096 → nat_le (length (xs ++ x ∷ [])) 4096 ≡ true
short_push xs x few = le-leb _ _ (omega (arith, length-append xs (x ∷ [])))

script_push : (cache : ℕ) (items : List Item) (item : Item) → is_lawful_script cache items ≡ true
    → length items < 4096 → is_lawful_item cache item ≡ true → is_lawful_script cache (items ++ item ∷ []) ≡ true
unfolding is_lawful_script
script_push cache items item old few new =
    and_from (nat_le (length (items ++ item ∷ [])) 4096) (list_all (is_lawful_item cache) (items ++ item ∷ []))
    (short_push items item few)
    (all_push (is_lawful_item cache) items item (and_parts (nat_le (length items) 4096)
    (list_all (is_lawful_item cache) items) old).1 new)

hazard_push : (lines : List HazardLine) (line : HazardLine) → are_lawful_hazards lines ≡ true → length lines < 4096
    → is_lawful_hazard line ≡ true → are_lawful_hazards (lines ++ line ∷ []) ≡ true
unfolding are_lawful_hazards
hazard_push lines line old few new =
    and_from (nat_le (length (lines ++ line ∷ [])) 4096) (list_all is_lawful_hazard (lines ++ line ∷ []))
    (short_push lines line few)
    (all_push is_lawful_hazard lines line (and_parts (nat_le (length lines) 4096)
    (list_all is_lawful_hazard lines) old).1 new)

-- ---- the head

agents_count : (agents clocks ahead n : ℕ) → are_counts agents clocks ahead ≡ true → (nat_le 1 n && nat_le n 4) ≡ true
    → are_counts n clocks ahead ≡ true
agents_count agents clocks ahead n old new =
    and_from (nat_le 1 n && nat_le n 4) (nat_le clocks 200000 && (nat_le 1 ahead && nat_le ahead 4)) new
    (and_parts (nat_le 1 agents && nat_le agents 4) (nat_le clocks 200000 && (nat_le 1 ahead && nat_le ahead 4)) old).1

clocks_count : (agents clocks ahead n : ℕ) → are_counts agents clocks ahead ≡ true
    → (nat_le 0 n && nat_le n 200000) ≡ true → are_counts agents n ahead ≡ true
clocks_count agents clocks ahead n old new =
    let others : (nat_le clocks 200000 && (nat_le 1 ahead && nat_le ahead 4)) ≡ true =
    (and_parts (nat_le 1 agents && nat_le agents 4)
    (nat_le clocks 200000 && (nat_le 1 ahead && nat_le ahead 4)) old).1 in
    and_from (nat_le 1 agents && nat_le agents 4) (nat_le n 200000 && (nat_le 1 ahead && nat_le ahead 4))
    (and_parts (nat_le 1 agents && nat_le agents 4) (nat_le clocks 200000 && (nat_le 1 ahead && nat_le ahead 4)) old).0
    (and_from (nat_le n 200000) (nat_le 1 ahead && nat_le ahead 4) (and_parts (nat_le 0 n) (nat_le n 200000) new).1
    (and_parts (nat_le clocks 200000) (nat_le 1 ahead && nat_le ahead 4) others).1)

ahead_count : (agents clocks ahead n : ℕ) → are_counts agents clocks ahead ≡ true → (nat_le 1 n && nat_le n 4) ≡ true
    → are_counts agents clocks n ≡ true
ahead_count agents clocks ahead n old new =
    let others : (nat_le clocks 200000 && (nat_le 1 ahead && nat_le ahead 4)) ≡ true =
    (and_parts (nat_le 1 agents && nat_le agents 4)
    (nat_le clocks 200000 && (nat_le 1 ahead && nat_le ahead 4)) old).1 in
    and_from (nat_le 1 agents && nat_le agents 4) (nat_le clocks 200000 && (nat_le 1 n && nat_le n 4))
    (and_parts (nat_le 1 agents && nat_le agents 4) (nat_le clocks 200000 && (nat_le 1 ahead && nat_le ahead 4)) old).0
    (and_from (nat_le clocks 200000) (nat_le 1 n && nat_le n 4)
    (and_parts (nat_le clocks 200000) (nat_le 1 ahead && nat_le ahead 4) others).0 new)

pub first_sound : (d : Progress) (line : List ℕ) → IsSound (at at_first d) → Gives (first_line (at at_first d) line)
unfolding first_line is_fresh has_all has_lock_room
first_sound d line s e h =
    let r = require_ok (ends_heading (heading_of line)) _ (at at_agents d) e h in
    subst (λ (x : Progress). IsSound x) r.1
    (record {
      counts = s.counts;
      cache = s.cache;
      profile = s.profile;
      bridge = s.bridge;
      mem = s.mem;
      bytes =
          s.bytes;
      hazards = s.hazards;
      scripts = s.scripts;
      script = s.script;
      group = s.group;
      fresh = s.fresh;
      all =
          refl;
      room = refl;
    })

pub agents_sound : (d : Progress) (line : List ℕ) → IsSound (at at_agents d) → Gives (agents_line (at at_agents d) line)
unfolding agents_line is_fresh has_all has_lock_room
agents_sound d line s e h =
    let a = bind_ok (keyword _ line) _ e h in
    let b = bind_ok (decimal_within 1 4 a.0) _ e a.1.1 in
    let c = bind_ok (line_ended b.0.0 b.0.1) _ e b.1.1 in
    let n : (nat_le 1 c.0 && nat_le c.0 4) ≡ true =
    subst (λ (m : ℕ). (nat_le 1 m && nat_le m 4) ≡ true) (ended_is b.0.0 c.0 b.0.1 c.1.0)
    (within_is 1 4 a.0 b.0 b.1.0) in
    sound_ok (record d { agents = c.0; place = at_clocks }) e
    (record {
      counts = agents_count d.agents d.clocks d.ahead c.0 s.counts n;
      cache = s.cache;
      profile =
          s.profile;
      bridge = s.bridge;
      mem = s.mem;
      bytes = s.bytes;
      hazards = s.hazards;
      scripts = s.scripts;
      script =
          s.script;
      group = s.group;
      fresh = s.fresh;
      all = refl;
      room = refl;
    })
    c.1.1

pub clocks_sound : (d : Progress) (line : List ℕ) → IsSound (at at_clocks d) → Gives (clocks_line (at at_clocks d) line)
unfolding clocks_line is_fresh has_all has_lock_room
clocks_sound d line s e h =
    let a = bind_ok (keyword _ line) _ e h in
    let b = bind_ok (decimal_within 0 200000 a.0) _ e a.1.1 in
    let c = bind_ok (line_ended b.0.0 b.0.1) _ e b.1.1 in
    let n : (nat_le 0 c.0 && nat_le c.0 200000) ≡ true =
    subst (λ (m : ℕ). (nat_le 0 m && nat_le m 200000) ≡ true) (ended_is b.0.0 c.0 b.0.1 c.1.0)
    (within_is 0 200000 a.0 b.0 b.1.0) in
    sound_ok (record d { clocks = c.0; place = at_cache }) e
    (record {
      counts = clocks_count d.agents d.clocks d.ahead c.0 s.counts n;
      cache = s.cache;
      profile =
          s.profile;
      bridge = s.bridge;
      mem = s.mem;
      bytes = s.bytes;
      hazards = s.hazards;
      scripts = s.scripts;
      script =
          s.script;
      group = s.group;
      fresh = s.fresh;
      all = refl;
      room = refl;
    })
    c.1.1

-- no item stands before the number of cache lines is known
none_lawful : (cache : ℕ) (scripts : List (List Item)) (script : List Item)
    → (eqb (length scripts) 0 && eqb (length script) 0) ≡ true
    → (list_all (is_lawful_script cache) scripts ≡ true) × (is_lawful_script cache script ≡ true)
unfolding is_lawful_script
none_lawful cache [] [] h = (refl, refl)
none_lawful cache (items ∷ scripts) script h =
    let none : length (items ∷ scripts) ≡ 0 = eqb-true (length (items ∷ scripts)) 0
    (and_parts (eqb (length (items ∷ scripts)) 0) (eqb (length script) 0) h).0 in
    absurd (omega arith)
none_lawful cache [] (item ∷ items) h =
    let none : length (item ∷ items) ≡ 0 = eqb-true (length (item ∷ items)) 0
    (and_parts (eqb (length {A = List Item} []) 0) (eqb (length (item ∷ items)) 0) h).1 in
    absurd (omega arith)

pub cache_sound : (d : Progress) (line : List ℕ) → IsSound (at at_cache d) → Gives (cache_line (at at_cache d) line)
unfolding cache_line is_fresh has_all has_lock_room
cache_sound d line s e h =
    let a = bind_ok (keyword _ line) _ e h in
    let b = bind_ok (decimal_word a.0) _ e a.1.1 in
    let c = bind_ok (require (is_cache b.0.0) Range b.0) _ e b.1.1 in
    let r = require_ok (is_cache b.0.0) Range b.0 c.0 c.1.0 in
    let f = bind_ok (line_ended c.0.0 c.0.1) _ e c.1.1 in
    let lawful : is_cache f.0 ≡ true = subst (λ (m : ℕ). is_cache m ≡ true) (ended_is c.0.0 f.0 c.0.1 f.1.0)
    (subst (λ (m : ℕ × List ℕ). is_cache m.0 ≡ true) r.1 r.0) in
    let none = none_lawful f.0 d.scripts d.script s.fresh in
    sound_ok (record d { cache = f.0; place = at_ahead }) e
    (record {
      counts = s.counts;
      cache = lawful;
      profile = s.profile;
      bridge = s.bridge;
      mem = s.mem;
      bytes =
          s.bytes;
      hazards = s.hazards;
      scripts = none.0;
      script = none.1;
      group = s.group;
      fresh = refl;
      all =
          refl;
      room = refl;
    })
    f.1.1

pub ahead_sound : (d : Progress) (line : List ℕ) → IsSound (at at_ahead d) → Gives (ahead_line (at at_ahead d) line)
unfolding ahead_line is_fresh has_all has_lock_room
ahead_sound d line s e h =
    let a = bind_ok (keyword _ line) _ e h in
    let b = bind_ok (decimal_within 1 4 a.0) _ e a.1.1 in
    let c = bind_ok (line_ended b.0.0 b.0.1) _ e b.1.1 in
    let n : (nat_le 1 c.0 && nat_le c.0 4) ≡ true =
    subst (λ (m : ℕ). (nat_le 1 m && nat_le m 4) ≡ true) (ended_is b.0.0 c.0 b.0.1 c.1.0)
    (within_is 1 4 a.0 b.0 b.1.0) in
    sound_ok (record d { ahead = c.0; place = at_profile }) e
    (record {
      counts = ahead_count d.agents d.clocks d.ahead c.0 s.counts n;
      cache = s.cache;
      profile =
          s.profile;
      bridge = s.bridge;
      mem = s.mem;
      bytes = s.bytes;
      hazards = s.hazards;
      scripts = s.scripts;
      script =
          s.script;
      group = s.group;
      fresh = refl;
      all = refl;
      room = refl;
    })
    c.1.1

-- ---- the profile, the bridge, memory, and the beginning of a script

pub profile_sound : (d : Progress) (line : List ℕ) → IsSound d → Gives (profile_line d line)
unfolding profile_line is_fresh has_all has_lock_room
profile_sound d line s e h =
    let a = bind_ok (profile_of line) _ e h in
    sound_ok (record d { profile = a.0; place = at_bridge }) e
    (record {
      counts = s.counts;
      cache = s.cache;
      profile = profile_is line a.0 a.1.0;
      bridge = s.bridge;
      mem =
          s.mem;
      bytes = s.bytes;
      hazards = s.hazards;
      scripts = s.scripts;
      script = s.script;
      group = s.group;
      fresh =
          refl;
      all = refl;
      room = refl;
    })
    a.1.1

pub bridge_sound : (d : Progress) (line : List ℕ) → IsSound d → Gives (bridge_line d line)
unfolding bridge_line is_fresh has_all has_lock_room
bridge_sound d line s e h =
    let a = bind_ok (window_of line) _ e h in
    sound_ok (record d { bridge = Some a.0; place = at_memory }) e
    (record {
      counts = s.counts;
      cache = s.cache;
      profile = s.profile;
      bridge = window_is line a.0 a.1.0;
      mem =
          s.mem;
      bytes = s.bytes;
      hazards = s.hazards;
      scripts = s.scripts;
      script = s.script;
      group = s.group;
      fresh =
          refl;
      all = refl;
      room = refl;
    })
    a.1.1

pub mem_sound : (d : Progress) (line : List ℕ) → IsSound d → Gives (mem_line d line)
unfolding mem_line is_fresh has_all has_lock_room
mem_sound d line s e h =
    let a = bind_ok (memory_of line) _ e h in
    let m = memory_is line a.0 a.1.0 in
    let new = settings_lawful a.0.0 a.0.1 m.inside m.small in
    sound_ok (record d { mem = d.mem ++ settings_at a.0.0 a.0.1; place = at_memory }) e
    (record {
      counts = s.counts;
      cache = s.cache;
      profile = s.profile;
      bridge = s.bridge;
      mem = list_all-append is_lawful_setting d.mem (settings_at a.0.0 a.0.1)
          ∙ and_from (list_all is_lawful_setting d.mem)
          (list_all is_lawful_setting (settings_at a.0.0 a.0.1)) s.mem new.0;
      bytes = list_all-append is_byte_setting d.mem (settings_at a.0.0 a.0.1)
          ∙ and_from (list_all is_byte_setting d.mem) (list_all is_byte_setting (settings_at a.0.0 a.0.1)) s.bytes
          new.1;
      hazards = s.hazards;
      scripts = s.scripts;
      script = s.script;
      group = s.group;
      fresh = refl;
      all = refl;
      room = refl;
    })
    a.1.1

pub agent_sound : (d : Progress) (line : List ℕ) → IsSound d → Gives (agent_line d line)
unfolding agent_line is_fresh has_all has_lock_room
agent_sound d line s e h =
    let a = bind_ok (agent_of (length d.scripts) line) _ e h in
    sound_ok (at at_items d) e
    (record {
      counts = s.counts;
      cache = s.cache;
      profile = s.profile;
      bridge = s.bridge;
      mem = s.mem;
      bytes =
          s.bytes;
      hazards = s.hazards;
      scripts = s.scripts;
      script = s.script;
      group = s.group;
      fresh = refl;
      all =
          refl;
      room = refl;
    })
    a.1.1

-- ---- items

item_sound : (d : Progress) (item : Item) → IsSound (at at_items d) → length d.script < 4096
    → is_lawful_item d.cache item ≡ true → Gives (add_item (at at_items d) item)
unfolding add_item is_fresh has_all has_lock_room
item_sound d item s few lawful e h =
    sound_ok (record d { place = at_items; script = d.script ++ item ∷ [] }) e
    (record {
      counts = s.counts;
      cache = s.cache;
      profile = s.profile;
      bridge = s.bridge;
      mem = s.mem;
      bytes =
          s.bytes;
      hazards = s.hazards;
      scripts = s.scripts;
      script =
          script_push d.cache d.script item s.script few lawful;
      group = s.group;
      fresh = refl;
      all = refl;
      room =
          refl;
    })
    h

-- an item's line was taken where there was room for it
has_room : (d : Progress) (f : Progress → Result Progress Cause) (e : Progress) → (room d >>= f) ≡ Ok e
    → (length d.script < 4096) × (f d ≡ Ok e)
has_room d f e h =
    let a = bind_ok (room d) f e h in
    let r = require_ok (nat_lt (length d.script) 4096) Range d a.0 a.1.0 in
    (ltb-true (length d.script) 4096 r.0, subst (λ (x : Progress). f x ≡ Ok e) (sym r.1) a.1.1)

pub load_sound : (d : Progress) (line : List ℕ) → IsSound (at at_items d) → Gives (load_item (at at_items d) line)
unfolding load_item
load_sound d line s e h =
    let a = has_room (at at_items d) _ e h in
    let b = bind_ok (load_of line) _ e a.1 in
    item_sound d (One b.0) s a.0 (load_is line b.0 b.1.0) e b.1.1

pub store_sound : (d : Progress) (line : List ℕ) → IsSound (at at_items d) → Gives (store_item (at at_items d) line)
unfolding store_item
store_sound d line s e h =
    let a = has_room (at at_items d) _ e h in
    let b = bind_ok (store_of line) _ e a.1 in
    item_sound d (One b.0) s a.0 (store_is line b.0 b.1.0) e b.1.1

pub idle_sound : (d : Progress) (line : List ℕ) → IsSound (at at_items d) → Gives (idle_item (at at_items d) line)
unfolding idle_item
idle_sound d line s e h =
    let a = has_room (at at_items d) _ e h in
    let b = bind_ok (idle_of line) _ e a.1 in
    item_sound d (Idle b.0) s a.0 (idle_is line b.0 d.cache b.1.0) e b.1.1

pub lock_sound : (d : Progress) (line : List ℕ) → IsSound (at at_items d) → Gives (lock_item (at at_items d) line)
unfolding lock_item is_fresh has_all has_lock_room
lock_sound d line s e h =
    let a = bind_ok (room (at at_items d)) _ e h in
    let r = require_ok (nat_lt (length d.script) 4096) Range (at at_items d) a.0 a.1.0 in
    let b = bind_ok (line_ended (at at_items d) line) _ e a.1.1 in
    sound_ok (record d { group = []; place = at_locked }) e
    (record {
      counts = s.counts;
      cache = s.cache;
      profile = s.profile;
      bridge = s.bridge;
      mem = s.mem;
      bytes =
          s.bytes;
      hazards = s.hazards;
      scripts = s.scripts;
      script = s.script;
      group = refl;
      fresh = refl;
      all =
          refl;
      room = r.0;
    })
    b.1.1

pub locked_sound : (d : Progress) (access : Access) → IsSound (at at_locked d) → is_lawful_access access ≡ true
    → Gives (locked_access (at at_locked d) access)
unfolding locked_access
locked_sound d access s lawful e h =
    sound_ok (record d { place = at_locked; group = d.group ++ access ∷ [] }) e
    (record {
      counts = s.counts;
      cache = s.cache;
      profile = s.profile;
      bridge = s.bridge;
      mem = s.mem;
      bytes =
          s.bytes;
      hazards = s.hazards;
      scripts = s.scripts;
      script = s.script;
      group =
          all_push is_lawful_access d.group access s.group lawful;
      fresh = s.fresh;
      all = s.all;
      room = s.room;
    })
    h

pub unlock_sound : (d : Progress) (line : List ℕ) → IsSound (at at_locked d) → Gives (unlock_line (at at_locked d) line)
unfolding unlock_line is_fresh has_all has_lock_room
unlock_sound d line s e h =
    let a = bind_ok (line_ended (at at_locked d) line) _ e h in
    let b = bind_ok (require (is_lock_size d.group) LockSize (at at_locked d)) _ e a.1.1 in
    let few = require_ok (is_lock_size d.group) LockSize (at at_locked d) b.0 b.1.0 in
    let c = bind_ok (require (is_lock_apart d.cache d.group) LockConflict (at at_locked d)) _ e b.1.1 in
    let apart = require_ok (is_lock_apart d.cache d.group) LockConflict (at at_locked d) c.0 c.1.0 in
    let lawful : is_lawful_item d.cache (Locked d.group) ≡ true =
    and_from (list_all is_lawful_access d.group) (is_lock_size d.group && is_lock_apart d.cache d.group) s.group
    (and_from (is_lock_size d.group) (is_lock_apart d.cache d.group) few.0 apart.0) in
    sound_ok (record d { script = d.script ++ Locked d.group ∷ []; group = []; place = at_items }) e
    (record {
      counts = s.counts;
      cache = s.cache;
      profile = s.profile;
      bridge = s.bridge;
      mem = s.mem;
      bytes =
          s.bytes;
      hazards = s.hazards;
      scripts = s.scripts;
      script =
          script_push d.cache d.script (Locked d.group) s.script
          (ltb-true (length d.script) 4096 s.room) lawful;
      group = refl;
      fresh = refl;
      all = refl;
      room = refl;
    })
    c.1.1

-- ---- behind a script

behind_fresh : (t : Bool) (scripts : List (List Item)) (script : List Item)
    → is_fresh (cond t at_hazards at_agent) scripts script ≡ true
unfolding is_fresh
behind_fresh true scripts script = refl
behind_fresh false scripts script = refl

behind_all : (t : Bool) (agents : ℕ) (scripts : List (List Item)) → eqb (length scripts) agents ≡ t
    → has_all (cond t at_hazards at_agent) agents scripts ≡ true
unfolding has_all
behind_all true agents scripts same = same
behind_all false agents scripts same = refl

behind_room : (t : Bool) (script : List Item) → has_lock_room (cond t at_hazards at_agent) script ≡ true
unfolding has_lock_room
behind_room true script = refl
behind_room false script = refl

empty_lawful : (cache : ℕ) → is_lawful_script cache [] ≡ true
unfolding is_lawful_script
empty_lawful cache = refl

pub end_sound : (d : Progress) (line : List ℕ) → IsSound (at at_items d) → Gives (end_line (at at_items d) line)
unfolding end_line
end_sound d line s e h =
    let a = bind_ok (line_ended (at at_items d) line) _ e h in
    let done : List (List Item) = d.scripts ++ d.script ∷ [] in
    sound_ok (record d {
      scripts = d.scripts ++ d.script ∷ [];
      script = [];
      place =
          place_behind (length (d.scripts ++ d.script ∷ [])) d.agents;
    }) e
    (record {
      counts = s.counts;
      cache = s.cache;
      profile = s.profile;
      bridge = s.bridge;
      mem = s.mem;
      bytes = s.bytes;
      hazards = s.hazards;
      scripts = all_push (is_lawful_script d.cache) d.scripts d.script s.scripts s.script;
      script = empty_lawful d.cache;
      group = s.group;
      fresh = behind_fresh (eqb (length done) d.agents) done [];
      all = behind_all (eqb (length done) d.agents) d.agents done refl;
      room = behind_room (eqb (length done) d.agents) [];
    })
    a.1.1

-- ---- hazards

hazard_sound : (d : Progress) (line : HazardLine) → IsSound d → length d.hazards < 4096 → is_lawful_hazard line ≡ true
    → Gives (add_hazard d line)
unfolding add_hazard
hazard_sound d line s few lawful e h =
    sound_ok (record d { hazards = d.hazards ++ line ∷ [] }) e
    (record {
      counts = s.counts;
      cache = s.cache;
      profile = s.profile;
      bridge = s.bridge;
      mem = s.mem;
      bytes =
          s.bytes;
      hazards = hazard_push d.hazards line s.hazards few lawful;
      scripts = s.scripts;
      script =
          s.script;
      group = s.group;
      fresh = s.fresh;
      all = s.all;
      room = s.room;
    })
    h

-- a hazard's line was taken where there was room for it
has_hazard_room : (d : Progress) (f : Progress → Result Progress Cause) (e : Progress) → (hazard_room d >>= f) ≡ Ok e
    → (length d.hazards < 4096) × (f d ≡ Ok e)
has_hazard_room d f e h =
    let a = bind_ok (hazard_room d) f e h in
    let r = require_ok (nat_lt (length d.hazards) 4096) Range d a.0 a.1.0 in
    (ltb-true (length d.hazards) 4096 r.0, subst (λ (x : Progress). f x ≡ Ok e) (sym r.1) a.1.1)

pub transaction_sound : (d : Progress) (line : List ℕ) → IsSound d → Gives (transaction_line d line)
unfolding transaction_line
transaction_sound d line s e h =
    let a = has_hazard_room d _ e h in
    let b = bind_ok (transaction_of line) _ e a.1 in
    hazard_sound d b.0 s a.0 (transaction_is line b.0 b.1.0) e b.1.1

pub block_sound : (d : Progress) (line : List ℕ) → IsSound d → Gives (block_line d line)
unfolding block_line
block_sound d line s e h =
    let a = has_hazard_room d _ e h in
    let b = bind_ok (block_of line) _ e a.1 in
    hazard_sound d b.0 s a.0 (block_is line b.0 b.1.0) e b.1.1
