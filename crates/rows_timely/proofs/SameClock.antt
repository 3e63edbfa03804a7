-- Made by lab/worked_runs.py of the stored run same_clock; not to be edited.
use Rattle.rows_timely.proofs.Words.{Run, scripted, plain, ◌+◌, [], ◌∷◌, One, Idle, Load, on, pair, idles, b0, b1, b2}
use Rattle.rows_timely.proofs.Words.{ads, rs, dbsy, drdy, entry}

abbrev pub run : Run
run = scripted (record plain { clocks = 40 })
    ((One (Load 1 0x80) ∷ One (Load 1 0x40) ∷ []) ∷ (One (Load 1 0x60) ∷ Idle 7 ∷ One (Load 1 0x61)
    ∷ One (Load 1 0x62) ∷ []) ∷ (One (Load 1 0xa0) ∷ Idle 3 ∷ One (Load 1 0xa1) ∷ One (Load 1 0xa2) ∷ []) ∷ [])
    (on (b0 + b1 + b2) ∷ on (b0 + b1 + b2) ∷ pair (b0 + b1 + b2 + ads) 0x6 0x10 ∷ pair (b1 + b2) 0x2 0x2
    ∷ on (b1 + b2) ∷ pair (b1 + b2 + ads) 0x6 0xc ∷ pair b2 0x2 0x20002 ∷ on b2
    ∷ pair (b2 + ads + rs 7 + dbsy + drdy) 0x6 0x14 ∷ pair (dbsy + drdy) 0x2 0x40002 ∷ on (dbsy + drdy) ∷ on drdy
    ∷ on (b0 + rs 7 + dbsy + drdy) ∷ on (b0 + dbsy + drdy) ∷ pair (b0 + ads + dbsy + drdy) 0x6 0x8 ∷ pair drdy 0x2 0x2
    ∷ on (rs 7 + dbsy + drdy) ∷ on (dbsy + drdy) ∷ on (dbsy + drdy) ∷ on drdy ∷ on (rs 7 + dbsy + drdy)
    ∷ on (dbsy + drdy) ∷ on (dbsy + drdy) ∷ on drdy ∷ idles 16)
    (entry 11 0 0 0 (Load 1 0x80) 0x0 ∷ entry 15 1 0 0 (Load 1 0x60) 0x0 ∷ entry 19 2 0 0 (Load 1 0xa0) 0x0
    ∷ entry 23 1 2 0 (Load 1 0x61) 0x0 ∷ entry 23 2 2 0 (Load 1 0xa1) 0x0 ∷ entry 23 0 1 0 (Load 1 0x40) 0x0
    ∷ entry 24 1 3 0 (Load 1 0x62) 0x0 ∷ entry 24 2 3 0 (Load 1 0xa2) 0x0 ∷ [])
