-- Made by lab/worked_runs.py of the stored run errors_under_lock; not to be edited.
use Rattle.rows_timely.proofs.Words.{Run, scripted, plain, ◌+◌, [], ◌∷◌, ◌++◌, One, Locked, Load, Store, Literal}
use Rattle.rows_timely.proofs.Words.{LastPlus, Stall, Trdy, Resp, Aerr, on, pair, chunk, idles, b0, lock, ads, aerr}
use Rattle.rows_timely.proofs.Words.{hit, hitm, rs, trdy, dbsy, drdy, entry}

abbrev pub run : Run
run = scripted
    (record plain { clocks = 70; cache = 2; hazards = Aerr 1 ∷ Stall 2 1 ∷ Aerr 3 ∷ Trdy 4 1 ∷ Resp 5 2 ∷ [] })
    ((One (Store 1 0x40 (Literal 0x1)) ∷ Locked (Load 1 0x60 ∷ Store 1 0x80 (LastPlus 0x2) ∷ []) ∷ []) ∷ [])
    (on b0 ∷ on b0 ∷ pair (b0 + ads) 0x2 0x8 ∷ pair 0 0x2 0x2 ∷ idles 4 ++ on (rs 7 + dbsy + drdy) ∷ on (dbsy + drdy)
    ∷ on (dbsy + drdy) ∷ on drdy ∷ on b0 ∷ on b0 ∷ pair (b0 + lock + ads) 0x2 0xc ∷ pair lock 0x2 0x0 ∷ on lock
    ∷ on (lock + aerr) ∷ on b0 ∷ on b0 ∷ pair (b0 + lock + ads) 0x2 0xc ∷ pair lock 0x2 0x0 ∷ on lock ∷ on lock
    ∷ on (lock + hit + hitm) ∷ on lock ∷ on lock ∷ on lock ∷ on (lock + rs 7 + dbsy + drdy) ∷ on (lock + dbsy + drdy)
    ∷ on (lock + dbsy + drdy) ∷ on (lock + drdy) ∷ on (b0 + lock) ∷ on (b0 + lock) ∷ pair (b0 + lock + ads) 0x5 0x8
    ∷ pair lock 0x2 0x0 ∷ on lock ∷ on (lock + aerr) ∷ on (b0 + lock) ∷ on (b0 + lock)
    ∷ pair (b0 + lock + ads) 0x5 0x8 ∷ pair lock 0x2 0x0 ∷ on lock ∷ on lock ∷ on lock ∷ on lock ∷ on lock
    ∷ on (lock + trdy) ∷ on lock ∷ chunk (lock + rs 5 + dbsy + drdy) 0x1 ∷ on (lock + dbsy + drdy)
    ∷ on (lock + dbsy + drdy) ∷ on (lock + drdy) ∷ on (b0 + lock) ∷ on (b0 + lock) ∷ pair (b0 + lock + ads) 0x2 0x10
    ∷ pair lock 0x2 0x0 ∷ on lock ∷ on lock ∷ on lock ∷ on lock ∷ on lock ∷ on lock ∷ on (lock + rs 7 + dbsy + drdy)
    ∷ on (lock + dbsy + drdy) ∷ on (lock + dbsy + drdy) ∷ on (lock + drdy) ∷ idles 3)
    (entry 11 0 0 0 (Store 1 0x40 (Literal 0x1)) 0x1 ∷ entry 66 0 1 0 (Load 1 0x60) 0x0
    ∷ entry 66 0 1 1 (Store 1 0x80 (LastPlus 0x2)) 0x2 ∷ [])
