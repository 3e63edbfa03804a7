-- Made by lab/worked_runs.py of the stored run write_back_behind_read; not to be edited.
use Rattle.rows_timely.proofs.Words.{Run, scripted, plain, ◌+◌, [], ◌∷◌, ◌++◌, One, Idle, Load, Store, Literal, on}
use Rattle.rows_timely.proofs.Words.{pair, full, idle, idles, b0, b1, ads, rs, trdy, dbsy, drdy, entry}

abbrev pub run : Run
run = scripted (record plain { clocks = 50; cache = 1 })
    ((Idle 9 ∷ One (Load 1 0x1a0) ∷ One (Load 1 0x40) ∷ []) ∷ (One (Store 1 0x40 (Literal 0x5)) ∷ One (Load 1 0x60)
    ∷ []) ∷ [])
    (on b1 ∷ on b1 ∷ pair (b1 + ads) 0x2 0x8 ∷ pair 0 0x2 0x20002 ∷ idles 4 ++ on (rs 7 + dbsy + drdy)
    ∷ on (b0 + dbsy + drdy) ∷ on (b0 + dbsy + drdy) ∷ pair (b0 + ads + drdy) 0x6 0x34 ∷ pair b1 0x2 0x2 ∷ on b1
    ∷ pair (b1 + ads) 0x5 0x8 ∷ pair 0 0x2 0x20000 ∷ idle ∷ on (rs 7 + dbsy + drdy) ∷ on (dbsy + drdy)
    ∷ on (dbsy + drdy) ∷ on drdy ∷ on (b0 + trdy) ∷ on b0 ∷ full (b0 + ads + rs 5 + dbsy + drdy) 0x6 0x8 0x5
    ∷ pair (dbsy + drdy) 0x2 0x2 ∷ on (dbsy + drdy) ∷ on drdy ∷ on b1 ∷ on b1
    ∷ full (b1 + ads + rs 7 + dbsy + drdy) 0x6 0xc 0x5 ∷ pair (dbsy + drdy) 0x2 0x20002 ∷ on (dbsy + drdy) ∷ on drdy
    ∷ idle ∷ idle ∷ on (rs 7 + dbsy + drdy) ∷ on (dbsy + drdy) ∷ on (dbsy + drdy) ∷ on drdy ∷ idles 11)
    (entry 11 1 0 0 (Store 1 0x40 (Literal 0x5)) 0x5 ∷ entry 20 0 1 0 (Load 1 0x1a0) 0x0
    ∷ entry 32 0 2 0 (Load 1 0x40) 0x5 ∷ entry 38 1 1 0 (Load 1 0x60) 0x0 ∷ [])
