-- Where a dump may go.
use Rattle.std.specs.Prelude.{◌≡◌, ◌<◌, ◌⊎◌, ℕ, Bool, ◌||◌, List, Option, None, Some, IsTrue, nat_eq, bytes_eq, codes}
use Rattle.std.specs.List.{starts_with}
use Rattle.fsb_io.specs.declared.place.FileId.{FileId}
use Rattle.fsb_io.specs.declared.place.Opened.{Opened}

-- the system tells which files the two are, and they are one
abbrev pub IsSame : Option FileId → Option FileId → Type 0
IsSame None other = ⊥
IsSame (Some one) None = ⊥
IsSame (Some one) (Some other) = one ≡ other

-- the name of an open descriptor, as written
abbrev pub is_descriptor_name : List ℕ → Bool
is_descriptor_name name = (starts_with nat_eq name (codes "/dev/fd/") || starts_with nat_eq name (codes "/proc/self/fd/"))
    || (bytes_eq name (codes "/dev/stdin") || bytes_eq name (codes "/dev/stderr"))

-- it is a file that holds something, and its name is not that of a descriptor: the dump replaces what it holds
abbrev pub IsReplaced : Opened → Type 0
IsReplaced file = IsTrue file.is_file × (0 < file.len) × ¬ IsTrue file.is_descriptor

-- no dump goes there: it is the file of standard output, or the one that is spared and no device as a terminal is, or it
-- would be replaced and the system does not tell which file standard output is
abbrev pub IsRefused : Option FileId → Option FileId → Opened → Type 0
IsRefused output spared file = IsSame output (Some file.id)
    ⊎ ((IsSame spared (Some file.id) × ¬ IsTrue file.is_char_device) ⊎ (IsReplaced file × (output ≡ None)))
