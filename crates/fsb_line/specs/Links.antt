-- Links of a chain, and the questions to them.
use Rattle.std.specs.Prelude.{◌≡◌, ◌==◌, ℕ, Bool, true, false, cond, not, ◌&&◌, ◌||◌, Option, Some, None, is_some, is_none, List, [], ◌∷◌, ⊤}
use Rattle.fsb_line.specs.declared.purpose.Purpose.{Purpose}
use Rattle.fsb_line.specs.declared.purpose.Purpose.TheVariants.{Own, Read, Upgrade, WriteBack}
use Rattle.fsb_line.specs.declared.link.Link.{Link}
use Rattle.fsb_line.specs.States.{kind_owns}

-- the link makes its agent the owner of the line
abbrev pub owns : Link → Bool
owns l = kind_owns l.kind

-- it is an upgrade
abbrev pub upgrades : Purpose → Bool
upgrades Read = false
upgrades Own = false
upgrades Upgrade = true
upgrades WriteBack = false

-- it is an upgrade that was won: its agent keeps its copy, and no data move
abbrev pub is_won : Link → Bool
is_won l = upgrades l.kind && is_none l.giver

-- data move at its response
abbrev pub carries : Link → Bool
carries l = not (is_won l)

-- the memory takes the data that move
abbrev pub feeds_memory : Link → Bool
feeds_memory l = is_some l.giver

-- who gives the bytes of the link that comes right after it: its agent where it owns, else the memory
abbrev pub giver_after : Link → Option ℕ
giver_after l = cond (owns l) (Some l.agent) None

-- the agent awaits the end of a link
abbrev pub is_linked : ℕ → List Link → Bool
is_linked a [] = false
is_linked a (l ∷ ls) = (l.agent == a) || is_linked a ls

-- the agent awaits the end of an upgrade that was won
abbrev pub has_won : ℕ → List Link → Bool
has_won a [] = false
has_won a (l ∷ ls) = ((l.agent == a) && is_won l) || has_won a ls

-- the newest link
abbrev pub newest : List Link → Option Link
newest [] = None
newest (l ∷ []) = Some l
newest (l ∷ m ∷ ls) = newest (m ∷ ls)

-- one of the links owns
abbrev pub any_owns : List Link → Bool
any_owns [] = false
any_owns (l ∷ ls) = owns l || any_owns ls

-- one of the links is an upgrade that was won
abbrev pub any_won : List Link → Bool
any_won [] = false
any_won (l ∷ ls) = is_won l || any_won ls

-- an owning link of another agent stands there with no later link of this agent
abbrev pub is_overtaken : ℕ → List Link → Bool
is_overtaken a [] = false
is_overtaken a (l ∷ ls) = (owns l && (not (l.agent == a) && not (is_linked a ls))) || is_overtaken a ls

-- an upgrade that was won stands after an owning link
abbrev pub has_late_upgrade : List Link → Bool
has_late_upgrade [] = false
has_late_upgrade (l ∷ ls) = (owns l && any_won ls) || has_late_upgrade ls

-- each link but the first takes its bytes from the owner before it, and from the memory where the link before owns nothing
abbrev pub IsChained : List Link → Type 0
IsChained [] = ⊤
IsChained (l ∷ []) = ⊤
IsChained (l ∷ m ∷ ls) = (m.giver ≡ giver_after l) × IsChained (m ∷ ls)

-- the agent is the giver
abbrev pub gives : Option ℕ → ℕ → Bool
gives None a = false
gives (Some giver) a = giver == a
