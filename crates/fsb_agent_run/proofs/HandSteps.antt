-- The lines of a cache after the accesses of an item: what is stored into is Modified, and all else stays.
use Rattle.fsb_agent_run.proofs.Words
use Words.{ℕ, ◌≡◌, ◌/◌, Bool, true, not, ◌&&◌, ◌||◌, List, [], ◌∷◌, length, refl, sym, ap, ◌∙◌, if◌then◌else◌, nat_eq}
use Words.{arith, ◌==◌, list_all, list_any, and_parts, Access, accessed_line, Step, CacheSets, states, Mesi, Modified}
use Words.{is_held, is_load, AtHand, hand_after, hand_after_steps, length-with_slot, list_all-from}
use Rattle.fsb_access.specs.declared.access.Access.TheVariants.{Load, Store}
use Rattle.fsb_access.specs.Replay.{put_of}
use Rattle.fsb_agent_run.proofs.SlotStates.{InSets, in_sets-mapped, state-stored}

-- the access is a store into the line
unfoldable pub stores_into : ℕ → Access → Bool
stores_into line access = not (is_load access) && nat_eq (accessed_line access) line

-- what is stored into is held
unfoldable pub may_store : CacheSets → Access → Bool
may_store lines access = is_load access || is_held (states lines (accessed_line access))

still : (lines after : CacheSets) (target : ℕ) (access : Access)
    → ((other : ℕ) → states after other ≡ (if other == target then Modified else states lines other))
    → may_store lines access ≡ true → may_store after access ≡ true
unfolding may_store
still lines after target access told may = grind arith

flip : (line target : ℕ) (x y : Mesi) → (if line == target then x else y) ≡ (if target == line then x else y)
flip line target x y = grind arith

joined : (here later : Bool) (state : Mesi)
    → (if later then Modified else (if here then Modified else state)) ≡ (if here || later then Modified else state)
joined here later state = grind arith

pub state-after : (hand : AtHand) (steps : List Step) (line : ℕ)
    → list_all (λ (step : Step). may_store hand.lines step.access) steps ≡ true
    → states (hand_after_steps hand steps).lines line
    ≡ (if list_any (λ (step : Step). stores_into line step.access) steps then Modified else states hand.lines line)
unfolding is_load stores_into may_store
state-after hand [] line may = refl
state-after hand (step ∷ steps) line may = by step.access refl (λ next rest. state-after next steps line rest)
  where
    Rest : Type 0
    Rest =
        (next : AtHand) → list_all (λ (s : Step). may_store next.lines s.access) steps ≡ true
        → states (hand_after_steps next steps).lines line
        ≡ (if list_any (λ (s : Step). stores_into line s.access) steps then Modified else states next.lines line)

    parts : (may_store hand.lines step.access ≡ true)
        × (list_all (λ (s : Step). may_store hand.lines s.access) steps ≡ true)
    parts = and_parts _ _ may

    whole : Bool → Mesi
    whole here =
        if here || list_any (λ (s : Step). stores_into line s.access) steps then Modified else states hand.lines line

    by : (access : Access) → step.access ≡ access → Rest
        → states (hand_after_steps (hand_after hand step.access) steps).lines line
        ≡ whole (stores_into line step.access)
    by (Load size addr) e go =
        ap (λ a. states (hand_after_steps (hand_after hand a) steps).lines line) e
        ∙ go (hand_after hand (Load size addr)) parts.1
        ∙ sym (ap (λ (a : Access). whole (stores_into line a)) e)
    by (Store size addr value) e go =
        let after = hand_after hand (Store size addr value) in
        let held : is_held (states hand.lines (addr / 32)) ≡ true = rw e at parts.0 in
        let told : (other : ℕ)
        → states after.lines other ≡ (if other == addr / 32 then Modified else states hand.lines other) =
        λ other. state-stored hand.lines addr size (put_of size hand.last value) other held in
        let rest = list_all-from (λ (s : Step). may_store hand.lines s.access)
        (λ (s : Step). may_store after.lines s.access) steps
        (λ s m. still hand.lines after.lines (addr / 32) s.access told m) parts.1 in
        let later = list_any (λ (s : Step). stores_into line s.access) steps in
        ap (λ a. states (hand_after_steps (hand_after hand a) steps).lines line) e
        ∙ go after rest
        ∙ ap (λ m. if later then Modified else m) (told line ∙ flip line (addr / 32) Modified (states hand.lines line))
        ∙ joined (addr / 32 == line) later (states hand.lines line)
        ∙ sym (ap (λ (a : Access). whole (stores_into line a)) e)

-- the sets stay as many, and each with a line of its own
pub length-after : (hand : AtHand) (steps : List Step) → length (hand_after_steps hand steps).lines ≡ length hand.lines
length-after hand [] = refl
length-after hand (step ∷ steps) = length-after (hand_after hand step.access) steps ∙ one step.access
  where
    one : (access : Access) → length (hand_after hand access).lines ≡ length hand.lines
    one access = grind (arith, length-with_slot)

pub in_sets-after : (hand : AtHand) (steps : List Step) → InSets hand.lines → InSets (hand_after_steps hand steps).lines
in_sets-after hand [] in_sets = in_sets
in_sets-after hand (step ∷ steps) in_sets =
    in_sets-after (hand_after hand step.access) steps (one step.access)
  where
    one : (access : Access) → InSets (hand_after hand access).lines
    one access = grind (arith, in_sets-mapped)
