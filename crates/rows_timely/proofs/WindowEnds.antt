-- Made by lab/worked_runs.py of the stored run window_ends; not to be edited.
use Rattle.rows_timely.proofs.Words.{Run, scripted, plain, ◌+◌, [], ◌∷◌, ◌++◌, One, Locked, Idle, Load, Store, LastPlus}
use Rattle.rows_timely.proofs.Words.{on, pair, idles, b0, lock, ads, rs, dbsy, drdy, entry}

abbrev pub run : Run
run = scripted (record plain { clocks = 64; ahead = 3 })
    ((Idle 2 ∷ Idle 3 ∷ One (Load 1 0x40) ∷ One (Load 1 0x48) ∷ Idle 4 ∷ One (Load 2 0x60) ∷ Locked (Load 1 0x98
    ∷ Store 1 0xa8 (LastPlus 0x1) ∷ Load 1 0x90 ∷ []) ∷ One (Load 1 0xc0) ∷ []) ∷ [])
    (idles 5 ++ on b0 ∷ on b0 ∷ pair (b0 + ads) 0x6 0x8 ∷ pair 0 0x2 0x2 ∷ idles 4 ++ on (rs 7 + dbsy + drdy)
    ∷ on (dbsy + drdy) ∷ on (dbsy + drdy) ∷ on drdy ∷ idles 5 ++ on b0 ∷ on b0 ∷ pair (b0 + ads) 0x6 0xc
    ∷ pair 0 0x2 0x2 ∷ idles 4 ++ on (rs 7 + dbsy + drdy) ∷ on (dbsy + drdy) ∷ on (dbsy + drdy) ∷ on drdy ∷ on b0
    ∷ on b0 ∷ pair (b0 + lock + ads) 0x2 0x13 ∷ pair lock 0x2 0x0 ∷ on (b0 + lock) ∷ on (b0 + lock)
    ∷ pair (b0 + lock + ads) 0x2 0x15 ∷ pair lock 0x2 0x2000 ∷ on (lock + rs 7 + dbsy + drdy)
    ∷ on (lock + dbsy + drdy) ∷ on (lock + dbsy + drdy) ∷ on (lock + drdy) ∷ on (lock + rs 7 + dbsy + drdy)
    ∷ on (lock + dbsy + drdy) ∷ on (lock + dbsy + drdy) ∷ on (lock + drdy) ∷ on b0 ∷ on b0 ∷ pair (b0 + ads) 0x6 0x18
    ∷ pair 0 0x2 0x2 ∷ idles 4 ++ on (rs 7 + dbsy + drdy) ∷ on (dbsy + drdy) ∷ on (dbsy + drdy) ∷ on drdy ∷ idles 2)
    (entry 16 0 2 0 (Load 1 0x40) 0x0 ∷ entry 17 0 3 0 (Load 1 0x48) 0x0 ∷ entry 33 0 5 0 (Load 2 0x60) 0x0
    ∷ entry 49 0 6 0 (Load 1 0x98) 0x0 ∷ entry 49 0 6 1 (Store 1 0xa8 (LastPlus 0x1)) 0x1
    ∷ entry 49 0 6 2 (Load 1 0x90) 0x0 ∷ entry 61 0 7 0 (Load 1 0xc0) 0x0 ∷ [])
