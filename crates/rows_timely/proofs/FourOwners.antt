-- Made by lab/worked_runs.py of the stored run four_owners; not to be edited.
use Rattle.rows_timely.proofs.Words.{Run, scripted, plain, ◌+◌, [], ◌∷◌, One, Locked, Idle, Load, Store, Literal}
use Rattle.rows_timely.proofs.Words.{LastPlus, on, pair, chunk, idle, idles, b0, b1, b2, b3, lock, ads, hit, hitm, rs}
use Rattle.rows_timely.proofs.Words.{trdy, dbsy, drdy, entry}

abbrev pub run : Run
run = scripted (record plain { clocks = 44 })
    ((Idle 12 ∷ One (Load 1 0x40) ∷ []) ∷ (Idle 9 ∷ One (Store 1 0x80 (Literal 0x3)) ∷ [])
    ∷ (One (Store 1 0x80 (Literal 0x1)) ∷ One (Load 1 0x40) ∷ []) ∷ (One (Store 1 0x40 (Literal 0x2))
    ∷ Locked (Load 1 0xc0 ∷ Store 1 0xc0 (LastPlus 0x1) ∷ []) ∷ []) ∷ [])
    (on (b2 + b3) ∷ on (b2 + b3) ∷ pair (b2 + b3 + ads) 0x2 0x10 ∷ pair b3 0x2 0x40002 ∷ on b3
    ∷ pair (b3 + ads) 0x2 0x8 ∷ pair 0 0x2 0x60002 ∷ idle ∷ on (rs 7 + dbsy + drdy) ∷ on (b1 + dbsy + drdy)
    ∷ on (b1 + dbsy + drdy) ∷ pair (b1 + ads + drdy) 0x2 0x10 ∷ pair (b0 + b2 + rs 7 + dbsy + drdy) 0x2 0x20002
    ∷ on (b0 + b2 + dbsy + drdy) ∷ pair (b0 + b2 + ads + dbsy + drdy) 0x6 0x8 ∷ pair (b0 + hitm + drdy) 0x2 0x40002
    ∷ on (b0 + b3) ∷ pair (b0 + b3 + ads + trdy) 0x6 0x8 ∷ pair (b3 + hitm) 0x2 0x2
    ∷ chunk (b3 + rs 6 + dbsy + drdy) 0x1 ∷ pair (b3 + lock + ads + dbsy + drdy) 0x2 0x18
    ∷ pair (lock + hit + dbsy + drdy) 0x2 0x60000 ∷ on (lock + drdy) ∷ on (lock + trdy) ∷ on lock
    ∷ chunk (lock + rs 6 + dbsy + drdy) 0x2 ∷ on (lock + dbsy + drdy) ∷ on (lock + dbsy + drdy) ∷ on (lock + drdy)
    ∷ chunk (lock + rs 7 + dbsy + drdy) 0x2 ∷ on (lock + dbsy + drdy) ∷ on (lock + dbsy + drdy) ∷ on (lock + drdy)
    ∷ on (lock + rs 7 + dbsy + drdy) ∷ on (lock + dbsy + drdy) ∷ on (lock + dbsy + drdy) ∷ on (lock + drdy) ∷ idles 7)
    (entry 11 2 0 0 (Store 1 0x80 (Literal 0x1)) 0x1 ∷ entry 15 3 0 0 (Store 1 0x40 (Literal 0x2)) 0x2
    ∷ entry 22 1 1 0 (Store 1 0x80 (Literal 0x3)) 0x3 ∷ entry 28 2 1 0 (Load 1 0x40) 0x2
    ∷ entry 32 0 1 0 (Load 1 0x40) 0x2 ∷ entry 36 3 1 0 (Load 1 0xc0) 0x0
    ∷ entry 36 3 1 1 (Store 1 0xc0 (LastPlus 0x1)) 0x1 ∷ [])
