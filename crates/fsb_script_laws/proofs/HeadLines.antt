-- The lines before the first script read back.
use Rattle.std.proofs.Common.{◌≡◌, ℕ, ◌^◌, ◌<◌, ◌≤◌, Bool, true, false, eqb, List, [], ◌∷◌, ◌++◌, Option, Some, None}
use Rattle.std.proofs.Common.{Ok, ◌⊎◌, inl, inr, refl, sym, subst, ◌∙◌, arith}
use Rattle.std.specs.Prelude.{◌||◌, codes}
use Rattle.std.specs.List.{list_all}
use Rattle.std.specs.Fmt.{decimal}
use Rattle.std.proofs.lemmas.Bool.{le-leb, ltb-true, eqb-true, and_parts}
use Rattle.std.proofs.lemmas.List.{append-nil, append_assoc}
use Rattle.fsb_access.specs.declared.access.Setting.{Setting}
use Rattle.fsb_script.specs.Places.{at_agents, at_clocks, at_cache, at_ahead, at_profile, at_bridge, at_memory}
use Rattle.fsb_script.specs.declared.plan.Window.{Window}
use Rattle.fsb_script.specs.TextWords.{is_silent, next_word, line_ended, decimal_word, decimal_of, decimal_within}
use Rattle.fsb_script.specs.Statements.{keyword, profile_of}
use Rattle.fsb_script.specs.Bounds.{is_cache, is_profile, is_lawful_bridge, is_lawful_setting}
use Rattle.fsb_script.specs.Plans.{PlanView}
use Rattle.fsb_script.specs.Drafts.{beginning, after_line, heading_of, first_line, agents_line, clocks_line, cache_line}
use Rattle.fsb_script.specs.Drafts.{ahead_line, choice_line, front_line, profile_line, body_line, bridge_line}
use Rattle.fsb_script.specs.Drafts.{memory_line, mem_line}
use Rattle.fsb_script.specs.Text.{head_text, profile_text, bridge_text, setting_text, settings_text}
use Rattle.fsb_script_laws.specs.LawfulPlans.{is_byte_setting}
use Rattle.fsb_script_laws.proofs.Split.{is_inner, decimal_last, decimal_inner, inner_append, GoesOn, goes_on}
use Rattle.fsb_script_laws.proofs.MemoryLines.{setting_words, memory_back, setting_line, setting_inner}
use Rattle.fsb_script_laws.proofs.EachLine.{window_words, window_line_then, window_inner, window_read}
use Rattle.fsb_script_laws.proofs.States.{state, Head, Bare, Profiled, head_place, Before, Early, Settled, before_place}

-- what the head alone says
abbrev pub head_plan : ℕ → ℕ → ℕ → PlanView
head_plan clocks cache ahead = record {
  scripts = [];
  clocks = clocks;
  cache = cache;
  ahead = ahead;
  profile =
      1;
  bridge = None;
  mem = [];
  hazards = [];
}

-- ---- the five lines of the head

first_taken : after_line beginning (codes "p6bench 1") ≡ Ok (state at_agents 1 (head_plan 0 1 1) [] [])
unfolding after_line heading_of first_line keyword next_word
first_taken = refl

agents_taken : (agents : ℕ) → 1 ≤ agents → agents ≤ 4
    → after_line (state at_agents 1 (head_plan 0 1 1) [] []) (codes "agents " ++ decimal agents) ≡ Ok
    (state at_clocks agents (head_plan 0 1 1) [] [])
unfolding after_line is_silent agents_line keyword next_word decimal_within line_ended
agents_taken agents some few = rw (decimal_last agents (omega arith))
    (rw (le-leb 1 agents some, le-leb agents 4 few) refl)

clocks_taken : (agents clocks : ℕ) → clocks ≤ 200000
    → after_line (state at_clocks agents (head_plan 0 1 1) [] []) (codes "clocks " ++ decimal clocks) ≡ Ok
    (state at_cache agents (head_plan clocks 1 1) [] [])
unfolding after_line is_silent clocks_line keyword next_word decimal_within line_ended
clocks_taken agents clocks few = rw (decimal_last clocks (omega arith))
    (rw (le-leb 0 clocks (omega arith), le-leb clocks 200000 few) refl)

cache_taken : (agents clocks cache : ℕ) → cache ≤ 1024 → is_cache cache ≡ true
    → after_line (state at_cache agents (head_plan clocks 1 1) [] []) (codes "cache " ++ decimal cache) ≡ Ok
    (state at_ahead agents (head_plan clocks cache 1) [] [])
unfolding after_line is_silent cache_line keyword next_word line_ended
cache_taken agents clocks cache small lawful = rw (decimal_last cache (omega arith)) (rw lawful refl)

ahead_taken : (agents clocks cache ahead : ℕ) → 1 ≤ ahead → ahead ≤ 4
    → after_line (state at_ahead agents (head_plan clocks cache 1) [] []) (codes "ahead " ++ decimal ahead) ≡ Ok
    (state at_profile agents (head_plan clocks cache ahead) [] [])
unfolding after_line is_silent ahead_line keyword next_word decimal_within line_ended
ahead_taken agents clocks cache ahead some few =
    rw (decimal_last ahead (omega arith)) (rw (le-leb 1 ahead some, le-leb ahead 4 few) refl)

head_lines : (agents clocks cache ahead : ℕ) (rest : List ℕ) → head_text agents clocks cache ahead ++ rest
    ≡ codes "p6bench 1" ++ (10 ∷ ((codes "agents " ++ decimal agents)
    ++ (10 ∷ ((codes "clocks " ++ decimal clocks)
    ++ (10 ∷ ((codes "cache " ++ decimal cache) ++ (10 ∷ ((codes "ahead " ++ decimal ahead) ++ (10 ∷ rest)))))))))
unfolding head_text
head_lines agents clocks cache ahead rest = simp append_assoc

word_inner : (word : List ℕ) (n : ℕ) → n < 10 ^ 18 → list_all is_inner word ≡ true
    → list_all is_inner (word ++ decimal n) ≡ true
word_inner word n below inner = inner_append word (decimal n) inner (decimal_inner n below)

pub head_goes_on : (agents clocks cache ahead : ℕ) (rest : List ℕ) (p : PlanView) → 1 ≤ agents → agents ≤ 4
    → clocks ≤ 200000 → cache ≤ 1024 → is_cache cache ≡ true → 1 ≤ ahead → ahead ≤ 4
    → GoesOn (state at_profile agents (head_plan clocks cache ahead) [] []) rest p
    → GoesOn beginning (head_text agents clocks cache ahead ++ rest) p
head_goes_on agents clocks cache ahead rest p some few few_clocks small lawful some_ahead few_ahead then_ =
    let ahead_rest : List ℕ = (codes "ahead " ++ decimal ahead) ++ (10 ∷ rest) in
    let cache_rest : List ℕ = (codes "cache " ++ decimal cache) ++ (10 ∷ ahead_rest) in
    let clocks_rest : List ℕ = (codes "clocks " ++ decimal clocks) ++ (10 ∷ cache_rest) in
    let agents_rest : List ℕ = (codes "agents " ++ decimal agents) ++ (10 ∷ clocks_rest) in
    let profile_next = goes_on (state at_ahead agents (head_plan clocks cache 1) [] [])
    (state at_profile agents (head_plan clocks cache ahead) [] []) (codes "ahead " ++ decimal ahead) rest p
    (word_inner (codes "ahead ") ahead (omega arith) refl)
    (ahead_taken agents clocks cache ahead some_ahead few_ahead) then_ in
    let ahead_next = goes_on (state at_cache agents (head_plan clocks 1 1) [] [])
    (state at_ahead agents (head_plan clocks cache 1) [] []) (codes "cache " ++ decimal cache) ahead_rest p
    (word_inner (codes "cache ") cache (omega arith) refl)
    (cache_taken agents clocks cache small lawful) profile_next in
    let cache_next = goes_on (state at_clocks agents (head_plan 0 1 1) [] [])
    (state at_cache agents (head_plan clocks 1 1) [] []) (codes "clocks " ++ decimal clocks) cache_rest p
    (word_inner (codes "clocks ") clocks (omega arith) refl) (clocks_taken agents clocks few_clocks) ahead_next in
    let clocks_next = goes_on (state at_agents 1 (head_plan 0 1 1) [] [])
    (state at_clocks agents (head_plan 0 1 1) [] []) (codes "agents " ++ decimal agents) clocks_rest p
    (word_inner (codes "agents ") agents (omega arith) refl) (agents_taken agents some few) cache_next in
    subst (λ text. GoesOn beginning text p) (sym (head_lines agents clocks cache ahead rest))
    (goes_on beginning (state at_agents 1 (head_plan 0 1 1) [] [])
    (codes "p6bench 1") agents_rest p refl first_taken clocks_next)

-- ---- the profile

profile_one_or_two : (n : ℕ) → is_profile n ≡ true → (n ≡ 1) ⊎ (n ≡ 2)
profile_one_or_two n lawful = by (eqb n 1) (eqb n 2) refl refl lawful
  where
    by : (s t : Bool) → eqb n 1 ≡ s → eqb n 2 ≡ t → (s || t) ≡ true → (n ≡ 1) ⊎ (n ≡ 2)
    by true t a b h = inl (eqb-true n 1 a)
    by false true a b h = inr (eqb-true n 2 b)
    by false false a b h = absurd cc

profile_taken : (agents : ℕ) (q : PlanView) → after_line (state at_profile agents q [] []) (codes "profile 2") ≡ Ok
    (state at_bridge agents (record q { profile = 2 }) [] [])
unfolding after_line is_silent choice_line front_line profile_line profile_of next_word decimal_within
    decimal_word decimal_of line_ended
profile_taken agents q = refl

pub profile_goes_on : (agents : ℕ) (q : PlanView) (n : ℕ) (rest : List ℕ) (p : PlanView) → q.profile ≡ 1
    → is_profile n ≡ true
    → ((head : Head) → GoesOn (state (head_place head) agents (record q { profile = n }) [] []) rest p)
    → GoesOn (state at_profile agents q [] []) (profile_text n ++ rest) p
profile_goes_on agents q n rest p first lawful then_ = by (profile_one_or_two n lawful)
  where
    by : (n ≡ 1) ⊎ (n ≡ 2) → GoesOn (state at_profile agents q [] []) (profile_text n ++ rest) p
    by (inl one) =
        subst (λ (k : ℕ). GoesOn (state at_profile agents (record q { profile = k }) [] [])
        (profile_text n ++ rest) p) (sym first)
        (subst (λ (k : ℕ). GoesOn (state at_profile agents (record q { profile = 1 }) [] [])
        (profile_text k ++ rest) p) (sym one)
        (subst (λ (k : ℕ). GoesOn (state at_profile agents (record q { profile = k }) [] []) rest p) one (then_ Bare)))
    by (inr two) =
        subst (λ (k : ℕ). GoesOn (state at_profile agents q [] []) (profile_text k ++ rest) p) (sym two)
        (goes_on (state at_profile agents q [] []) (state at_bridge agents (record q { profile = 2 }) [] [])
        (codes "profile 2") rest p refl (profile_taken agents q)
        (subst (λ (k : ℕ). GoesOn (state at_bridge agents (record q { profile = k }) [] []) rest p) two
        (then_ Profiled)))

-- ---- the bridge

window_taken : (head : Head) (agents : ℕ) (q : PlanView) (w : Window) → is_lawful_bridge (Some w) ≡ true
    → after_line (state (head_place head) agents q [] []) (codes "bridge " ++ window_words w.base w.size) ≡ Ok
    (state at_memory agents (record q { bridge = Some w }) [] [])
unfolding after_line is_silent choice_line front_line body_line bridge_line next_word
window_taken Bare agents q w lawful = rw (window_read w lawful) refl
window_taken Profiled agents q w lawful = rw (window_read w lawful) refl

pub bridge_goes_on : (head : Head) (agents : ℕ) (q : PlanView) (bridge : Option Window) (rest : List ℕ) (p : PlanView)
    → q.bridge ≡ None → is_lawful_bridge bridge ≡ true
    → ((before : Before) → GoesOn (state (before_place before) agents (record q { bridge = bridge }) [] []) rest p)
    → GoesOn (state (head_place head) agents q [] []) (bridge_text bridge ++ rest) p
bridge_goes_on head agents q None rest p none lawful then_ =
    subst (λ (b : Option Window). GoesOn (state (head_place head) agents (record q { bridge = b }) [] []) rest p)
    (sym none) (then_ (Early head))
bridge_goes_on head agents q (Some w) rest p none lawful then_ =
    subst (λ text. GoesOn (state (head_place head) agents q [] []) text p) (sym (window_line_then w rest))
    (goes_on (state (head_place head) agents q [] []) (state at_memory agents (record q { bridge = Some w }) [] [])
    (codes "bridge " ++ window_words w.base w.size) rest p (window_inner w lawful)
    (window_taken head agents q w lawful) (then_ Settled))

-- ---- memory

setting_taken : (before : Before) (agents : ℕ) (q : PlanView) (addr byte : ℕ) → addr < 2 ^ 36 → byte < 256
    → after_line (state (before_place before) agents q [] []) (codes "mem " ++ setting_words addr byte) ≡ Ok
    (state at_memory agents (record q { mem = q.mem ++ record { addr = addr; byte = byte } ∷ [] }) [] [])
unfolding after_line is_silent choice_line front_line body_line memory_line mem_line next_word
setting_taken (Early Bare) agents q addr byte below small = rw (memory_back addr byte below small) refl
setting_taken (Early Profiled) agents q addr byte below small = rw (memory_back addr byte below small) refl
setting_taken Settled agents q addr byte below small = rw (memory_back addr byte below small) refl

pub settings_go_on : (settings : List Setting) (before : Before) (agents : ℕ) (q : PlanView) (rest : List ℕ)
    (p : PlanView)
    → list_all is_lawful_setting settings ≡ true → list_all is_byte_setting settings ≡ true
    → ((b : Before) → GoesOn (state (before_place b) agents (record q { mem = q.mem ++ settings }) [] []) rest p)
    → GoesOn (state (before_place before) agents q [] []) (settings_text settings ++ rest) p
settings_go_on [] before agents q rest p lawful bytes then_ =
    subst (λ (m : List Setting). GoesOn (state (before_place before) agents (record q { mem = m }) [] []) rest p)
    (append-nil q.mem) (then_ before)
settings_go_on (s ∷ ss) before agents q rest p lawful bytes then_ =
    let below : s.addr < 2 ^ 36 = ltb-true s.addr (2 ^ 36)
    (and_parts (is_lawful_setting s) (list_all is_lawful_setting ss) lawful).0 in
    let small : s.byte < 256 = ltb-true s.byte 256
    (and_parts (is_byte_setting s) (list_all is_byte_setting ss) bytes).0 in
    let others = settings_go_on ss Settled agents (record q { mem = q.mem ++ s ∷ [] }) rest p
    (and_parts (is_lawful_setting s) (list_all is_lawful_setting ss) lawful).1
    (and_parts (is_byte_setting s) (list_all is_byte_setting ss) bytes).1
    (λ b. subst (λ (m : List Setting). GoesOn (state (before_place b) agents (record q { mem = m }) [] []) rest p)
    (sym (append_assoc q.mem (s ∷ []) ss)) (then_ b)) in
    let here = goes_on (state (before_place before) agents q [] [])
    (state at_memory agents (record q { mem = q.mem ++ s ∷ [] }) [] [])
    (codes "mem " ++ setting_words s.addr s.byte) (settings_text ss ++ rest) p
    (setting_inner s.addr s.byte below small) (setting_taken before agents q s.addr s.byte below small) others in
    subst (λ text. GoesOn (state (before_place before) agents q [] []) text p)
    (sym (append_assoc (setting_text s) (settings_text ss) rest
    ∙ setting_line s.addr s.byte (settings_text ss ++ rest))) here
