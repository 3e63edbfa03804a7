-- Made by lab/worked_runs.py of the stored run queue_full; not to be edited.
use Rattle.rows_timely.proofs.Words.{Run, scripted, plain, ◌+◌, [], ◌∷◌, One, Load, Resp, on, pair, b0, b1, b2, b3, ads}
use Rattle.rows_timely.proofs.Words.{rs, dbsy, drdy, entry}

abbrev pub run : Run
run = scripted (record plain { clocks = 36; ahead = 3; hazards = Resp 0 15 ∷ [] })
    ((One (Load 1 0x40) ∷ One (Load 1 0x60) ∷ One (Load 1 0x80) ∷ []) ∷ (One (Load 1 0x140) ∷ One (Load 1 0x160)
    ∷ One (Load 1 0x180) ∷ []) ∷ (One (Load 1 0x240) ∷ One (Load 1 0x260) ∷ One (Load 1 0x280) ∷ [])
    ∷ (One (Load 1 0x340) ∷ One (Load 1 0x360) ∷ One (Load 1 0x380) ∷ []) ∷ [])
    (on (b0 + b1 + b2 + b3) ∷ on (b0 + b1 + b2 + b3) ∷ pair (b0 + b1 + b2 + b3 + ads) 0x6 0x8
    ∷ pair (b1 + b2 + b3) 0x2 0x2 ∷ on (b0 + b1 + b2 + b3) ∷ pair (b0 + b1 + b2 + b3 + ads) 0x6 0x28
    ∷ pair (b0 + b2 + b3) 0x2 0x20002 ∷ on (b0 + b1 + b2 + b3) ∷ pair (b0 + b1 + b2 + b3 + ads) 0x6 0x48
    ∷ pair (b0 + b1 + b3) 0x2 0x40002 ∷ on (b0 + b1 + b2 + b3) ∷ pair (b0 + b1 + b2 + b3 + ads) 0x6 0x68
    ∷ pair (b0 + b1 + b2) 0x2 0x60002 ∷ on (b0 + b1 + b2 + b3) ∷ pair (b0 + b1 + b2 + b3 + ads) 0x6 0xc
    ∷ pair (b1 + b2 + b3) 0x2 0x2002 ∷ on (b0 + b1 + b2 + b3) ∷ pair (b0 + b1 + b2 + b3 + ads) 0x6 0x2c
    ∷ pair (b0 + b2 + b3) 0x2 0x22002 ∷ on (b0 + b1 + b2 + b3) ∷ pair (b0 + b1 + b2 + b3 + ads) 0x6 0x4c
    ∷ pair (b0 + b1 + b3) 0x2 0x42002 ∷ on (b0 + b1 + b2 + b3)
    ∷ pair (b0 + b1 + b2 + b3 + ads + rs 7 + dbsy + drdy) 0x6 0x6c ∷ pair (b0 + b1 + b2 + dbsy + drdy) 0x2 0x62002
    ∷ on (b0 + b1 + b2 + b3 + dbsy + drdy) ∷ on (b0 + b1 + b2 + b3 + drdy)
    ∷ pair (b0 + b1 + b2 + b3 + ads + rs 7 + dbsy + drdy) 0x6 0x10 ∷ pair (b1 + b2 + b3 + dbsy + drdy) 0x2 0x2
    ∷ on (b1 + b2 + b3 + dbsy + drdy) ∷ on (b1 + b2 + b3 + drdy)
    ∷ pair (b1 + b2 + b3 + ads + rs 7 + dbsy + drdy) 0x6 0x30 ∷ pair (b2 + b3 + dbsy + drdy) 0x2 0x20002
    ∷ on (b2 + b3 + dbsy + drdy) ∷ on (b2 + b3 + drdy) ∷ pair (b2 + b3 + ads + rs 7 + dbsy + drdy) 0x6 0x50 ∷ [])
    (entry 26 0 0 0 (Load 1 0x40) 0x0 ∷ entry 30 1 0 0 (Load 1 0x140) 0x0 ∷ entry 34 2 0 0 (Load 1 0x240) 0x0 ∷ [])
