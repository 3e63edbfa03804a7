-- Made by lab/worked_runs.py of the stored run locked_twice; not to be edited.
use Rattle.rows_timely.proofs.Words.{Run, scripted, plain, ◌+◌, [], ◌∷◌, ◌++◌, One, Locked, Idle, Load, Store, Literal}
use Rattle.rows_timely.proofs.Words.{LastPlus, Retry, on, pair, idles, b0, b1, b2, lock, ads, defer, rs, dbsy, drdy}
use Rattle.rows_timely.proofs.Words.{entry}

abbrev pub run : Run
run = scripted (record plain { hazards = Retry 1 ∷ [] })
    ((Idle 13 ∷ Locked (Load 8 0x40 ∷ Store 8 0x58 (Literal 0x11) ∷ []) ∷ Locked (Load 1 0x60
    ∷ Store 1 0x60 (LastPlus 0x1) ∷ []) ∷ []) ∷ (One (Load 1 0x80) ∷ Idle 9 ∷ Locked (Load 1 0x80
    ∷ Store 1 0x81 (LastPlus 0x1) ∷ []) ∷ []) ∷ (Idle 10 ∷ One (Load 1 0x100) ∷ []) ∷ [])
    (on b1 ∷ on b1 ∷ pair (b1 + ads) 0x6 0x10 ∷ pair 0 0x2 0x20002 ∷ idles 4 ++ on (rs 7 + dbsy + drdy)
    ∷ on (dbsy + drdy) ∷ on (b2 + dbsy + drdy) ∷ on (b2 + drdy) ∷ pair (b2 + ads) 0x6 0x20 ∷ pair b0 0x2 0x40002
    ∷ on b0 ∷ pair (b0 + lock + ads) 0x2 0x8 ∷ pair (lock + defer) 0x2 0x0 ∷ on lock ∷ on (lock + rs 1)
    ∷ on (b2 + lock) ∷ on (b2 + lock) ∷ on (b2 + lock + rs 7 + dbsy + drdy) ∷ on (b2 + lock + dbsy + drdy)
    ∷ on (b2 + lock + dbsy + drdy) ∷ on (b2 + lock + drdy) ∷ on (b0 + b2) ∷ on (b0 + b2)
    ∷ pair (b0 + b2 + ads) 0x6 0x20 ∷ pair b0 0x2 0x40002 ∷ on b0 ∷ pair (b0 + lock + ads) 0x2 0xc ∷ pair lock 0x2 0x0
    ∷ on lock ∷ on (lock + rs 7 + dbsy + drdy) ∷ on (lock + dbsy + drdy) ∷ on (lock + dbsy + drdy) ∷ on (lock + drdy)
    ∷ on (lock + rs 7 + dbsy + drdy) ∷ on (lock + dbsy + drdy) ∷ on (lock + dbsy + drdy) ∷ on (lock + drdy) ∷ idles 19)
    (entry 11 1 0 0 (Load 1 0x80) 0x0 ∷ entry 21 1 2 0 (Load 1 0x80) 0x0
    ∷ entry 21 1 2 1 (Store 1 0x81 (LastPlus 0x1)) 0x1 ∷ entry 24 0 1 0 (Load 8 0x40) 0x0
    ∷ entry 24 0 1 1 (Store 8 0x58 (Literal 0x11)) 0x11 ∷ entry 36 2 1 0 (Load 1 0x100) 0x0
    ∷ entry 40 0 2 0 (Load 1 0x60) 0x0 ∷ entry 40 0 2 1 (Store 1 0x60 (LastPlus 0x1)) 0x1 ∷ [])
