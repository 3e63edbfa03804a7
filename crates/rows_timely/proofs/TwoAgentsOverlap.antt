-- Made by lab/worked_runs.py of the stored run two_agents_overlap; not to be edited.
use Rattle.rows_timely.proofs.Words.{Run, scripted, plain, ◌+◌, [], ◌∷◌, One, Load, on, pair, idle, idles, b0, b1, ads}
use Rattle.rows_timely.proofs.Words.{rs, dbsy, drdy, entry}

abbrev pub run : Run
run = scripted plain
    ((One (Load 1 0x40) ∷ []) ∷ (One (Load 1 0x80) ∷ []) ∷ [])
    (on (b0 + b1) ∷ on (b0 + b1) ∷ pair (b0 + b1 + ads) 0x6 0x8 ∷ pair b1 0x2 0x2 ∷ on b1 ∷ pair (b1 + ads) 0x6 0x10
    ∷ pair 0 0x2 0x20002 ∷ idle ∷ on (rs 7 + dbsy + drdy) ∷ on (dbsy + drdy) ∷ on (dbsy + drdy) ∷ on drdy
    ∷ on (rs 7 + dbsy + drdy) ∷ on (dbsy + drdy) ∷ on (dbsy + drdy) ∷ on drdy ∷ idles 44)
    (entry 11 0 0 0 (Load 1 0x40) 0x0 ∷ entry 15 1 0 0 (Load 1 0x80) 0x0 ∷ [])
