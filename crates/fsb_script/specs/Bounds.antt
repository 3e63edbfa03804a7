-- The bounds that a plan keeps, as tests.
use Rattle.std.specs.Prelude.{ℕ, ◌+◌, ◌%◌, ◌^◌, List, [], ◌∷◌, length, Option, Some, None, Bool, true, ◌&&◌, ◌||◌, not, nat_lt, nat_le, ◌==◌, if◌then◌else◌}
use Rattle.std.specs.List.{list_all, list_any}
use Rattle.fsb_access.specs.declared.access.Access.{Access}
use Rattle.fsb_access.specs.declared.access.Setting.{Setting}
use Rattle.fsb_access.specs.declared.item.Item.{Item}
use Rattle.fsb_access.specs.declared.item.Item.TheVariants.{One, Locked, Idle}
use Rattle.fsb_access.specs.Access.{is_lawful_access, accessed_line}
use Rattle.fsb_hazard.specs.declared.line.HazardLine.{HazardLine}
use Rattle.fsb_hazard.specs.declared.line.HazardLine.TheVariants.{Stall, Trdy, Resp, Gap, Retry, Defer, Aerr, Bnr}
use Rattle.fsb_script.specs.declared.plan.Window.{Window}

-- a cache has a power of two of lines, 1 to 1,024
abbrev pub is_cache : ℕ → Bool
is_cache n =
    (((n == 1) || ((n == 2) || (n == 4))) || ((n == 8) || ((n == 16) || (n == 32))))
    || (((n == 64) || ((n == 128) || (n == 256))) || ((n == 512) || (n == 1024)))

-- the bus has two profiles
abbrev pub is_profile : ℕ → Bool
is_profile n = (n == 1) || (n == 2)

-- whether an access of the list is to the line
unfoldable pub names_line : ℕ → List Access → Bool
names_line line accesses = list_any (λ other. accessed_line other == line) accesses

-- how many different lines the accesses have
abbrev pub line_count : List Access → ℕ
line_count [] = 0
line_count (access ∷ accesses) = (if names_line (accessed_line access) accesses then 0 else 1) + line_count accesses

-- a locked item has 1 to 8 accesses and at most 4 different lines
unfoldable pub is_lock_size : List Access → Bool
is_lock_size accesses = (nat_le 1 (length accesses) && nat_le (length accesses) 8) && nat_le (line_count accesses) 4

-- whether two lines may be held at one time: they are one, or have different cache sets
abbrev pub is_apart : ℕ → ℕ → ℕ → Bool
is_apart cache line other = (line == other) || not (line % cache == other % cache)

-- whether a line may be held beside each of these accesses' lines
abbrev pub is_apart_from_all : ℕ → ℕ → List Access → Bool
is_apart_from_all cache line accesses = list_all (λ other. is_apart cache line (accessed_line other)) accesses

-- no two different lines of a locked item have one cache set
unfoldable pub is_lock_apart : ℕ → List Access → Bool
is_lock_apart cache accesses = list_all (λ access. is_apart_from_all cache (accessed_line access) accesses) accesses

-- one lawful access, one to eight of them under the lock, or 1 to 200,000 idle clocks
abbrev pub is_lawful_item : ℕ → Item → Bool
is_lawful_item cache (One access) = is_lawful_access access
is_lawful_item cache (Locked accesses) = list_all is_lawful_access accesses && (is_lock_size accesses && is_lock_apart cache accesses)
is_lawful_item cache (Idle clocks) = nat_le 1 clocks && nat_le clocks 200000

-- at most 4,096 items, each lawful
unfoldable pub is_lawful_script : ℕ → List Item → Bool
is_lawful_script cache items = nat_le (length items) 4096 && list_all (is_lawful_item cache) items

-- a window of whole lines, not empty, below 2^36
abbrev pub is_lawful_window : Window → Bool
is_lawful_window window =
    (nat_lt window.base (2 ^ 36) && (window.base % 32 == 0))
    && ((nat_lt 0 window.size && (window.size % 32 == 0)) && nat_le (window.base + window.size) (2 ^ 36))

-- no bridge, or one with a lawful window
abbrev pub is_lawful_bridge : Option Window → Bool
is_lawful_bridge None = true
is_lawful_bridge (Some window) = is_lawful_window window

-- a setting lies below 2^36
abbrev pub is_lawful_setting : Setting → Bool
is_lawful_setting setting = nat_lt setting.addr (2 ^ 36)

-- requests and clocks are below 200,000, and counts 1 to 255
abbrev pub is_lawful_hazard : HazardLine → Bool
is_lawful_hazard (Stall k n) = nat_le k 199999 && (nat_le 1 n && nat_le n 255)
is_lawful_hazard (Trdy k n) = nat_le k 199999 && (nat_le 1 n && nat_le n 255)
is_lawful_hazard (Resp k n) = nat_le k 199999 && (nat_le 1 n && nat_le n 255)
is_lawful_hazard (Gap k n) = nat_le k 199999 && (nat_le 1 n && nat_le n 255)
is_lawful_hazard (Retry k) = nat_le k 199999
is_lawful_hazard (Defer k later) = nat_le k 199999 && nat_le later 65535
is_lawful_hazard (Aerr k) = nat_le k 199999
is_lawful_hazard (Bnr from to) = nat_le from to && nat_le to 199999

-- at most 4,096 hazard lines, each lawful
unfoldable pub are_lawful_hazards : List HazardLine → Bool
are_lawful_hazards lines = nat_le (length lines) 4096 && list_all is_lawful_hazard lines
