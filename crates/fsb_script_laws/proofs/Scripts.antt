-- The lines of the scripts read back.
use Rattle.std.proofs.Common.{◌≡◌, ℕ, ◌+◌, ◌^◌, ◌<◌, ◌≤◌, true, List, [], ◌∷◌, ◌++◌, length, Ok, refl, sym, subst, ◌∙◌}
use Rattle.std.proofs.Common.{arith, length-append}
use Rattle.std.specs.Prelude.{◌&&◌, codes, nat_le}
use Rattle.std.specs.List.{list_all}
use Rattle.std.specs.Fmt.{decimal}
use Rattle.std.proofs.lemmas.Bool.{leb-true, lt-ltb, eq-eqb, ne_eqb, and_parts}
use Rattle.std.proofs.lemmas.List.{append-nil, append_assoc}
use Rattle.fsb_access.specs.declared.access.Access.{Access}
use Rattle.fsb_access.specs.declared.access.Access.TheVariants.{Load, Store}
use Rattle.fsb_access.specs.declared.item.Item.{Item}
use Rattle.fsb_access.specs.declared.item.Item.TheVariants.{One, Locked, Idle}
use Rattle.fsb_access.specs.Access.{is_place, fits, number_of, is_lawful_access}
use Rattle.fsb_script.specs.Places.{ReadingPlace, at_agent, at_items, at_locked, at_hazards}
use Rattle.fsb_script.specs.Bounds.{is_lock_size, is_lock_apart, is_lawful_item, is_lawful_script}
use Rattle.fsb_script.specs.TextWords.{is_silent, next_word, line_ended}
use Rattle.fsb_script.specs.Statements.{agent_of}
use Rattle.fsb_script.specs.Plans.{PlanView}
use Rattle.fsb_script.specs.Drafts.{after_line, choice_line, front_line, body_line, memory_line, next_agent_line}
use Rattle.fsb_script.specs.Drafts.{agent_line, item_line, load_item, store_item, idle_item, add_item, lock_item}
use Rattle.fsb_script.specs.Drafts.{locked_line, locked_access, unlock_line, end_line, place_behind}
use Rattle.fsb_script.specs.Text.{access_text, accesses_text, idle_text, item_text, items_text, agent_text, script_text}
use Rattle.fsb_script.specs.Text.{scripts_text}
use Rattle.fsb_script_laws.proofs.Split.{decimal_last, decimal_inner, inner_append, GoesOn, goes_on}
use Rattle.fsb_script_laws.proofs.AccessLines.{place_is, load_back, store_back, access_line, access_line_is}
use Rattle.fsb_script_laws.proofs.AccessLines.{access_inner}
use Rattle.fsb_script_laws.proofs.EachLine.{line_then, idle_line, idle_back, idle_inner}
use Rattle.fsb_script_laws.proofs.States.{state, Bare, Profiled, Early, Settled, Outside, Opening, Next, outside_place}

-- ---- accesses and idle items

access_taken : (access : Access) (agents : ℕ) (q : PlanView) (script : List Item) → is_lawful_access access ≡ true
    → length script < 4096
    → after_line (state at_items agents q script []) (access_line access) ≡ Ok
    (state at_items agents q (script ++ One access ∷ []) [])
unfolding after_line is_silent choice_line next_word item_line load_item store_item add_item
access_taken (Load size addr) agents q script lawful room =
    rw (lt-ltb (length script) 4096 room) (rw (load_back size addr (place_is size addr lawful)) refl)
access_taken (Store size addr value) agents q script lawful room =
    rw (lt-ltb (length script) 4096 room) (rw (store_back size addr value
    (place_is size addr (and_parts (is_place size addr) (fits size (number_of value)) lawful).0)
    (and_parts (is_place size addr) (fits size (number_of value)) lawful).1) refl)

idle_taken : (clocks agents : ℕ) (q : PlanView) (script : List Item) → 1 ≤ clocks → clocks ≤ 200000
    → length script < 4096
    → after_line (state at_items agents q script []) (codes "idle " ++ decimal clocks) ≡ Ok
    (state at_items agents q (script ++ Idle clocks ∷ []) [])
unfolding after_line is_silent choice_line next_word item_line idle_item add_item
idle_taken clocks agents q script some few room =
    rw (lt-ltb (length script) 4096 room) (rw (idle_back clocks some few) refl)

-- ---- locked items

lock_taken : (agents : ℕ) (q : PlanView) (script : List Item) → length script < 4096
    → after_line (state at_items agents q script []) (codes "lock") ≡ Ok (state at_locked agents q script [])
unfolding after_line is_silent choice_line next_word item_line lock_item line_ended
lock_taken agents q script room = rw (lt-ltb (length script) 4096 room) refl

locked_taken : (access : Access) (agents : ℕ) (q : PlanView) (script : List Item) (group : List Access)
    → is_lawful_access access ≡ true
    → after_line (state at_locked agents q script group) (access_line access) ≡ Ok
    (state at_locked agents q script (group ++ access ∷ []))
unfolding after_line is_silent choice_line next_word locked_line locked_access
locked_taken (Load size addr) agents q script group lawful = rw (load_back size addr (place_is size addr lawful)) refl
locked_taken (Store size addr value) agents q script group lawful =
    rw (store_back size addr value (place_is size addr
    (and_parts (is_place size addr) (fits size (number_of value)) lawful).0)
    (and_parts (is_place size addr) (fits size (number_of value)) lawful).1) refl

unlock_taken : (agents : ℕ) (q : PlanView) (script : List Item) (group : List Access) → is_lock_size group ≡ true
    → is_lock_apart q.cache group ≡ true
    → after_line (state at_locked agents q script group) (codes "unlock") ≡ Ok
    (state at_items agents q (script ++ Locked group ∷ []) [])
unfolding after_line is_silent choice_line next_word locked_line unlock_line line_ended
unlock_taken agents q script group few apart = rw few (rw apart refl)

accesses_go_on : (accesses : List Access) (agents : ℕ) (q : PlanView) (script : List Item) (group : List Access)
    (rest : List ℕ) (p : PlanView) → list_all is_lawful_access accesses ≡ true
    → GoesOn (state at_locked agents q script (group ++ accesses)) rest p
    → GoesOn (state at_locked agents q script group) (accesses_text accesses ++ rest) p
accesses_go_on [] agents q script group rest p lawful then_ =
    subst (λ (g : List Access). GoesOn (state at_locked agents q script g) rest p) (append-nil group) then_
accesses_go_on (access ∷ accesses) agents q script group rest p lawful then_ =
    let here : is_lawful_access access ≡ true = (and_parts (is_lawful_access access)
    (list_all is_lawful_access accesses) lawful).0 in
    let others = accesses_go_on accesses agents q script (group ++ access ∷ []) rest p
    (and_parts (is_lawful_access access) (list_all is_lawful_access accesses) lawful).1
    (subst (λ (g : List Access). GoesOn (state at_locked agents q script g) rest p)
    (sym (append_assoc group (access ∷ []) accesses)) then_) in
    subst (λ text. GoesOn (state at_locked agents q script group) text p)
    (sym (append_assoc (access_text access) (accesses_text accesses) rest
    ∙ access_line_is access (accesses_text accesses ++ rest)))
    (goes_on (state at_locked agents q script group) (state at_locked agents q script (group ++ access ∷ []))
    (access_line access) (accesses_text accesses ++ rest) p (access_inner access here)
    (locked_taken access agents q script group here) others)

-- ---- items

item_goes_on : (item : Item) (agents : ℕ) (q : PlanView) (script : List Item) (rest : List ℕ) (p : PlanView)
    → is_lawful_item q.cache item ≡ true → length script < 4096
    → GoesOn (state at_items agents q (script ++ item ∷ []) []) rest p
    → GoesOn (state at_items agents q script []) (item_text item ++ rest) p
unfolding item_text
item_goes_on (One access) agents q script rest p lawful room then_ =
    subst (λ text. GoesOn (state at_items agents q script []) text p) (sym (access_line_is access rest))
    (goes_on (state at_items agents q script []) (state at_items agents q (script ++ One access ∷ []) [])
    (access_line access) rest p (access_inner access lawful)
    (access_taken access agents q script lawful room) then_)
item_goes_on (Idle clocks) agents q script rest p lawful room then_ =
    let some : 1 ≤ clocks = leb-true 1 clocks (and_parts (nat_le 1 clocks) (nat_le clocks 200000) lawful).0 in
    let few : clocks ≤ 200000 = leb-true clocks 200000 (and_parts (nat_le 1 clocks) (nat_le clocks 200000) lawful).1 in
    subst (λ text. GoesOn (state at_items agents q script []) text p)
    (sym (line_then (codes "idle " ++ decimal clocks) (idle_text clocks) rest (idle_line clocks)))
    (goes_on (state at_items agents q script []) (state at_items agents q (script ++ Idle clocks ∷ []) [])
    (codes "idle " ++ decimal clocks) rest p (idle_inner clocks few)
    (idle_taken clocks agents q script some few room) then_)
item_goes_on (Locked accesses) agents q script rest p lawful room then_ =
    let each : list_all is_lawful_access accesses ≡ true =
    (and_parts (list_all is_lawful_access accesses)
    (is_lock_size accesses && is_lock_apart q.cache accesses) lawful).0 in
    let both : (is_lock_size accesses && is_lock_apart q.cache accesses) ≡ true =
    (and_parts (list_all is_lawful_access accesses)
    (is_lock_size accesses && is_lock_apart q.cache accesses) lawful).1 in
    let few : is_lock_size accesses ≡ true = (and_parts (is_lock_size accesses)
    (is_lock_apart q.cache accesses) both).0 in
    let apart : is_lock_apart q.cache accesses ≡ true =
    (and_parts (is_lock_size accesses) (is_lock_apart q.cache accesses) both).1 in
    let last : List ℕ = codes "unlock" ++ (10 ∷ rest) in
    let unlocks = goes_on (state at_locked agents q script accesses)
    (state at_items agents q (script ++ Locked accesses ∷ []) []) (codes "unlock") rest p refl
    (unlock_taken agents q script accesses few apart) then_ in
    let locked = accesses_go_on accesses agents q script [] last p each unlocks in
    let text_is : ((codes "lock" ++ (10 ∷ [])) ++ (accesses_text accesses ++ (codes "unlock" ++ (10 ∷ []))))
    ++ rest ≡ codes "lock" ++ (10 ∷ (accesses_text accesses ++ last)) = simp append_assoc in
    subst (λ text. GoesOn (state at_items agents q script []) text p) (sym text_is)
    (goes_on (state at_items agents q script []) (state at_locked agents q script []) (codes "lock")
    (accesses_text accesses ++ last) p refl (lock_taken agents q script room) locked)

items_go_on : (items : List Item) (agents : ℕ) (q : PlanView) (script : List Item) (rest : List ℕ) (p : PlanView)
    → list_all (is_lawful_item q.cache) items ≡ true → length script + length items ≤ 4096
    → GoesOn (state at_items agents q (script ++ items) []) rest p
    → GoesOn (state at_items agents q script []) (items_text items ++ rest) p
items_go_on [] agents q script rest p lawful few then_ =
    subst (λ (s : List Item). GoesOn (state at_items agents q s []) rest p) (append-nil script) then_
items_go_on (item ∷ items) agents q script rest p lawful few then_ =
    let here : is_lawful_item q.cache item ≡ true =
    (and_parts (is_lawful_item q.cache item) (list_all (is_lawful_item q.cache) items) lawful).0 in
    let room : length script < 4096 = omega arith in
    let few_more : length (script ++ item ∷ []) + length items ≤ 4096 =
    omega (arith, length-append script (item ∷ [])) in
    let others = items_go_on items agents q (script ++ item ∷ []) rest p
    (and_parts (is_lawful_item q.cache item) (list_all (is_lawful_item q.cache) items) lawful).1 few_more
    (subst (λ (s : List Item). GoesOn (state at_items agents q s []) rest p)
    (sym (append_assoc script (item ∷ []) items)) then_) in
    subst (λ text. GoesOn (state at_items agents q script []) text p)
    (sym (append_assoc (item_text item) (items_text items) rest))
    (item_goes_on item agents q script (items_text items ++ rest) p here room others)

-- ---- scripts

agent_taken : (there : Outside) (agents : ℕ) (q : PlanView) → length q.scripts < 10 ^ 18
    → after_line (state (outside_place there) agents q [] []) (codes "agent " ++ decimal (length q.scripts)) ≡ Ok
    (state at_items agents q [] [])
unfolding after_line is_silent choice_line next_word front_line body_line memory_line next_agent_line agent_line
    agent_of line_ended
agent_taken (Opening (Early Bare)) agents q small =
    rw (decimal_last (length q.scripts) small) (rw (eq-eqb (length q.scripts) (length q.scripts) refl) refl)
agent_taken (Opening (Early Profiled)) agents q small =
    rw (decimal_last (length q.scripts) small) (rw (eq-eqb (length q.scripts) (length q.scripts) refl) refl)
agent_taken (Opening Settled) agents q small =
    rw (decimal_last (length q.scripts) small) (rw (eq-eqb (length q.scripts) (length q.scripts) refl) refl)
agent_taken Next agents q small = rw (decimal_last (length q.scripts) small)
    (rw (eq-eqb (length q.scripts) (length q.scripts) refl) refl)

end_taken : (agents : ℕ) (q : PlanView) (script : List Item)
    → after_line (state at_items agents q script []) (codes "end") ≡ Ok
    (state (place_behind (length (q.scripts ++ script ∷ [])) agents) agents
    (record q { scripts = q.scripts ++ script ∷ [] }) [] [])
unfolding after_line is_silent choice_line next_word item_line end_line line_ended
end_taken agents q script = refl

agent_line_is : (number : ℕ) (rest : List ℕ) → agent_text number ++ rest ≡ (codes "agent " ++ decimal number)
    ++ (10 ∷ rest)
unfolding agent_text
agent_line_is number rest = simp append_assoc

script_text_is : (number : ℕ) (script : List Item) (rest : List ℕ)
    → script_text number script ++ rest ≡ (codes "agent " ++ decimal number)
    ++ (10 ∷ (items_text script ++ (codes "end" ++ (10 ∷ rest))))
unfolding script_text
script_text_is number script rest =
    append_assoc (agent_text number ++ items_text script) (codes "end" ++ (10 ∷ [])) rest
    ∙ append_assoc (agent_text number) (items_text script) (codes "end" ++ (10 ∷ rest))
    ∙ agent_line_is number (items_text script ++ (codes "end" ++ (10 ∷ rest)))

script_goes_on : (script : List Item) (there : Outside) (agents : ℕ) (q : PlanView) (rest : List ℕ) (p : PlanView)
    → length q.scripts < 10 ^ 18 → is_lawful_script q.cache script ≡ true
    → GoesOn (state (place_behind (length (q.scripts ++ script ∷ [])) agents) agents
    (record q { scripts = q.scripts ++ script ∷ [] }) [] []) rest p
    → GoesOn (state (outside_place there) agents q [] []) (script_text (length q.scripts) script ++ rest) p
unfolding is_lawful_script
script_goes_on script there agents q rest p small lawful then_ =
    let last : List ℕ = codes "end" ++ (10 ∷ rest) in
    let short : length script ≤ 4096 = leb-true (length script) 4096
    (and_parts (nat_le (length script) 4096) (list_all (is_lawful_item q.cache) script) lawful).0 in
    let few : 0 + length script ≤ 4096 = omega arith in
    let ends = goes_on (state at_items agents q script [])
    (state (place_behind (length (q.scripts ++ script ∷ [])) agents) agents
    (record q { scripts = q.scripts ++ script ∷ [] }) [] []) (codes "end") rest p refl
    (end_taken agents q script) then_ in
    let items = items_go_on script agents q [] last p
    (and_parts (nat_le (length script) 4096) (list_all (is_lawful_item q.cache) script) lawful).1 few ends in
    subst (λ text. GoesOn (state (outside_place there) agents q [] []) text p)
    (sym (script_text_is (length q.scripts) script rest))
    (goes_on (state (outside_place there) agents q [] []) (state at_items agents q [] [])
    (codes "agent " ++ decimal (length q.scripts)) (items_text script ++ last) p
    (inner_append (codes "agent ") (decimal (length q.scripts)) refl (decimal_inner (length q.scripts) small))
    (agent_taken there agents q small) items)

place_last : (n agents : ℕ) → n ≡ agents → place_behind n agents ≡ at_hazards
place_last n agents same = rw (eq-eqb n agents same) refl

place_next : (n agents : ℕ) → (n ≡ agents → ⊥) → place_behind n agents ≡ at_agent
place_next n agents differs = rw (ne_eqb n agents differs) refl

pub scripts_go_on : (script : List Item) (scripts : List (List Item)) (there : Outside) (agents : ℕ) (q : PlanView)
    (rest : List ℕ) (p : PlanView)
    → length q.scripts + (1 + length scripts) ≡ agents → agents ≤ 4 → is_lawful_script q.cache script ≡ true
    → list_all (is_lawful_script q.cache) scripts ≡ true
    → GoesOn (state at_hazards agents (record q { scripts = q.scripts ++ script ∷ scripts }) [] []) rest p
    → GoesOn (state (outside_place there) agents q [] []) (scripts_text (length q.scripts) (script ∷ scripts) ++ rest) p
scripts_go_on script [] there agents q rest p count few lawful others then_ =
    let small : length q.scripts < 10 ^ 18 = omega arith in
    let all : length (q.scripts ++ script ∷ []) ≡ agents = omega (arith, length-append q.scripts (script ∷ [])) in
    let done = subst (λ (place : ReadingPlace). GoesOn
    (state place agents (record q { scripts = q.scripts ++ script ∷ [] }) [] []) rest p)
    (sym (place_last (length (q.scripts ++ script ∷ [])) agents all)) then_ in
    subst (λ text. GoesOn (state (outside_place there) agents q [] []) text p)
    (sym (append_assoc (script_text (length q.scripts) script) [] rest))
    (script_goes_on script there agents q rest p small lawful done)
scripts_go_on script (next ∷ scripts) there agents q rest p count few lawful others then_ =
    let small : length q.scripts < 10 ^ 18 = omega arith in
    let grown : length (q.scripts ++ script ∷ []) ≡ length q.scripts + 1 = length-append q.scripts (script ∷ []) in
    let more : length (q.scripts ++ script ∷ []) ≡ agents → ⊥ = λ e. omega arith in
    let counted : length (q.scripts ++ script ∷ []) + (1 + length scripts) ≡ agents = omega arith in
    let text : List ℕ = scripts_text (length q.scripts + 1) (next ∷ scripts) ++ rest in
    let later = scripts_go_on next scripts Next agents
    (record q { scripts = q.scripts ++ script ∷ [] }) rest p counted few
    (and_parts (is_lawful_script q.cache next) (list_all (is_lawful_script q.cache) scripts) others).0
    (and_parts (is_lawful_script q.cache next) (list_all (is_lawful_script q.cache) scripts) others).1
    (subst (λ (all : List (List Item)). GoesOn (state at_hazards agents (record q { scripts = all }) [] []) rest p)
    (sym (append_assoc q.scripts (script ∷ []) (next ∷ scripts))) then_) in
    let numbered = subst (λ (n : ℕ). GoesOn (state at_agent agents
    (record q { scripts = q.scripts ++ script ∷ [] }) [] []) (scripts_text n (next ∷ scripts) ++ rest) p) grown
    later in
    let done = subst (λ (place : ReadingPlace). GoesOn
    (state place agents (record q { scripts = q.scripts ++ script ∷ [] }) [] []) text p)
    (sym (place_next (length (q.scripts ++ script ∷ [])) agents more)) numbered in
    subst (λ t. GoesOn (state (outside_place there) agents q [] []) t p)
    (sym (append_assoc (script_text (length q.scripts) script)
    (scripts_text (length q.scripts + 1) (next ∷ scripts)) rest))
    (script_goes_on script there agents q text p small lawful done)
