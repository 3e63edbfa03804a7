-- The control lines by their names.
use Rattle.std.specs.Prelude.{ℕ, List, [], ◌∷◌, Option, codes, option_map}
use Rattle.bitflags.specs.Sets.{find_name}
use Rattle.fsb_signal.specs.declared.lines.Lines.{Lines}

-- the 21 control lines in the order of their bits: their names and their bits
abbrev pub line_names : List (List ℕ × ℕ)
line_names =
    (codes "BREQ0", 1) ∷ (codes "BREQ1", 2) ∷ (codes "BREQ2", 4) ∷ (codes "BREQ3", 8)
    ∷ (codes "BPRI", 16) ∷ (codes "LOCK", 32) ∷ (codes "BNR", 64) ∷ (codes "ADS", 128)
    ∷ (codes "AERR", 256) ∷ (codes "HIT", 512) ∷ (codes "HITM", 1024) ∷ (codes "DEFER", 2048)
    ∷ (codes "RS0", 4096) ∷ (codes "RS1", 8192) ∷ (codes "RS2", 16384) ∷ (codes "TRDY", 32768)
    ∷ (codes "DBSY", 65536) ∷ (codes "DRDY", 131072)
    ∷ (codes "AP0", 262144) ∷ (codes "AP1", 524288) ∷ (codes "RP", 1048576) ∷ []

-- the line of these bits
abbrev pub line_with : ℕ → Lines
line_with bits = record { 0 = bits }

-- the line of this name
unfoldable pub line_named : List ℕ → Option Lines
line_named name = option_map line_with (find_name line_names name)
