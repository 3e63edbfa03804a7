-- Made by lab/worked_runs.py of the stored run clean_victim_seen; not to be edited.
use Rattle.rows_timely.proofs.Words.{Run, scripted, plain, ◌+◌, [], ◌∷◌, ◌++◌, One, Idle, Load, on, pair, idle, idles}
use Rattle.rows_timely.proofs.Words.{b0, b1, ads, hit, rs, dbsy, drdy, entry}

abbrev pub run : Run
run = scripted (record plain { clocks = 42; cache = 1 })
    ((One (Load 1 0x40) ∷ One (Load 1 0x60) ∷ One (Load 1 0x80) ∷ []) ∷ (Idle 8 ∷ One (Load 1 0x40) ∷ Idle 1
    ∷ One (Load 1 0x60) ∷ []) ∷ [])
    (on b0 ∷ on b0 ∷ pair (b0 + ads) 0x6 0x8 ∷ pair 0 0x2 0x2 ∷ idles 4 ++ on (b1 + rs 7 + dbsy + drdy)
    ∷ on (b1 + dbsy + drdy) ∷ pair (b1 + ads + dbsy + drdy) 0x6 0x8 ∷ pair drdy 0x2 0x20002 ∷ on b0 ∷ on b0
    ∷ pair (b0 + ads + hit) 0x6 0xc ∷ pair 0 0x2 0x2 ∷ on (rs 7 + dbsy + drdy) ∷ on (dbsy + drdy) ∷ on (dbsy + drdy)
    ∷ on drdy ∷ on (rs 7 + dbsy + drdy) ∷ on (b1 + dbsy + drdy) ∷ on (b1 + dbsy + drdy)
    ∷ pair (b1 + ads + drdy) 0x6 0xc ∷ pair b0 0x2 0x20002 ∷ on b0 ∷ pair (b0 + ads) 0x6 0x10 ∷ pair 0 0x2 0x2 ∷ idle
    ∷ on (rs 7 + dbsy + drdy) ∷ on (dbsy + drdy) ∷ on (dbsy + drdy) ∷ on drdy ∷ on (rs 7 + dbsy + drdy)
    ∷ on (dbsy + drdy) ∷ on (dbsy + drdy) ∷ on drdy ∷ idles 5)
    (entry 11 0 0 0 (Load 1 0x40) 0x0 ∷ entry 19 1 1 0 (Load 1 0x40) 0x0 ∷ entry 23 0 1 0 (Load 1 0x60) 0x0
    ∷ entry 32 1 3 0 (Load 1 0x60) 0x0 ∷ entry 36 0 2 0 (Load 1 0x80) 0x0 ∷ [])
