-- Made by lab/worked_runs.py of the stored run four_outstanding; not to be edited.
use Rattle.rows_timely.proofs.Words.{Run, scripted, plain, ◌+◌, [], ◌∷◌, One, Load, on, pair, idles, b0, ads, rs, dbsy}
use Rattle.rows_timely.proofs.Words.{drdy, entry}

abbrev pub run : Run
run = scripted (record plain { ahead = 4 })
    ((One (Load 1 0x40) ∷ One (Load 1 0x80) ∷ One (Load 1 0xc0) ∷ One (Load 1 0x100) ∷ []) ∷ [])
    (on b0 ∷ on b0 ∷ pair (b0 + ads) 0x6 0x8 ∷ pair 0 0x2 0x2 ∷ on b0 ∷ on b0 ∷ pair (b0 + ads) 0x6 0x10
    ∷ pair 0 0x2 0x2002 ∷ on (b0 + rs 7 + dbsy + drdy) ∷ on (b0 + dbsy + drdy)
    ∷ pair (b0 + ads + dbsy + drdy) 0x6 0x18 ∷ pair drdy 0x2 0x4002 ∷ on (b0 + rs 7 + dbsy + drdy)
    ∷ on (b0 + dbsy + drdy) ∷ pair (b0 + ads + dbsy + drdy) 0x6 0x20 ∷ pair drdy 0x2 0x2 ∷ on (rs 7 + dbsy + drdy)
    ∷ on (dbsy + drdy) ∷ on (dbsy + drdy) ∷ on drdy ∷ on (rs 7 + dbsy + drdy) ∷ on (dbsy + drdy) ∷ on (dbsy + drdy)
    ∷ on drdy ∷ idles 36)
    (entry 11 0 0 0 (Load 1 0x40) 0x0 ∷ entry 15 0 1 0 (Load 1 0x80) 0x0 ∷ entry 19 0 2 0 (Load 1 0xc0) 0x0
    ∷ entry 23 0 3 0 (Load 1 0x100) 0x0 ∷ [])
